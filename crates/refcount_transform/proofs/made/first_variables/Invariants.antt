use Rattle.std.proofs.Common.{◌≡◌, ◌++◌}
use Rattle.refcount_transform.specs.Made.{numbers_from, first_variables}
use Rattle.refcount_transform.proofs.made.first_variables.Given as goal

abbrev pub invariant-loop-left : goal.invariant-loop-left
invariant-loop-left l = l.variables ++ numbers_from l.v l.left ≡ first_variables l.count

abbrev pub decreases-loop-left : goal.decreases-loop-left
decreases-loop-left l = l.left
