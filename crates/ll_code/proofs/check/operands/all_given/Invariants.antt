use Rattle.std.proofs.Common.{◌≡◌, drop}
use Rattle.ll_code.specs.Typed.{all_given}
use Rattle.ll_code.proofs.check.operands.all_given.Given as goal

abbrev pub invariant-loop-i : goal.invariant-loop-i
invariant-loop-i l = all_given l.program l.graph.types l.other.types (drop l.i l.variables) (drop l.i l.xs) ≡ all_given l.program l.graph.types l.other.types l.variables l.xs
