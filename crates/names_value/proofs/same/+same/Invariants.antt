use Rattle.std.proofs.Common.{◌≡◌, ◌+◌, ◌*◌, drop, map}
use Rattle.std.specs.Prelude.{sum_by}
use Rattle.rpy_tree.specs.Size.{const_size}
use Rattle.names_value.specs.Same.{are_same}
use Rattle.names_value.proofs.same.+same.Given as goal

abbrev pub invariant-are_same-loop-x : goal.invariant-are_same-loop-x
invariant-are_same-loop-x l = are_same (drop l.x-index l.xs) l.rest ≡ are_same l.xs l.ys

abbrev pub decreases-is_same : goal.decreases-is_same
decreases-is_same l = 2 * const_size l.a.now

abbrev pub decreases-are_same : goal.decreases-are_same
decreases-are_same l = 2 * sum_by const_size l.xs.now + 1
