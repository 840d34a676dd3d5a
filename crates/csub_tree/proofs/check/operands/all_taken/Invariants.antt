use Rattle.std.proofs.Common.{◌≡◌, drop}
use Rattle.csub_tree.specs.Checked.{all_taken, variables}
use Rattle.csub_tree.proofs.check.operands.all_taken.Given as goal

abbrev pub invariant-loop-i : goal.invariant-loop-i
invariant-loop-i l = all_taken l.file (variables l.function) (drop l.i l.kinds) (drop l.i l.xs) ≡ all_taken l.file (variables l.function) l.kinds l.xs
