use Rattle.std.proofs.Common.{◌≡◌, drop}
use Rattle.ll_code.specs.Typed.{all_taken}
use Rattle.ll_code.proofs.check.operands.all_taken.Given as goal

abbrev pub invariant-loop-i : goal.invariant-loop-i
invariant-loop-i l = all_taken l.program l.graph.types (drop l.i l.kinds) (drop l.i l.xs) ≡ all_taken l.program l.graph.types l.kinds l.xs
