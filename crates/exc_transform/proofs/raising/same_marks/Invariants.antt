use Rattle.std.proofs.Common.{◌≡◌, length}
use Rattle.exc_transform.specs.Raising.{same_marks}
use Rattle.exc_transform.proofs.raising.same_marks.Given as goal

abbrev pub invariant-loop-left : goal.invariant-loop-left
invariant-loop-left l = same_marks l.left l.right ≡ same_marks l.marks l.others

abbrev pub decreases-loop-left : goal.decreases-loop-left
decreases-loop-left l = length l.left
