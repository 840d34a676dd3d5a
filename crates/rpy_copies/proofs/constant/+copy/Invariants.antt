use Rattle.std.proofs.Common.{◌≡◌, ◌+◌, ◌*◌, take}
use Rattle.std.specs.Prelude.{sum_by}
use Rattle.rpy_tree.specs.Size.{const_size}
use Rattle.rpy_copies.proofs.constant.+copy.Given as goal

abbrev pub invariant-copy_all-loop-value : goal.invariant-copy_all-loop-value
invariant-copy_all-loop-value l = l.copies ≡ take l.value-index l.values

abbrev pub decreases-copy_const : goal.decreases-copy_const
decreases-copy_const l = 2 * const_size l.value.now

abbrev pub decreases-copy_all : goal.decreases-copy_all
decreases-copy_all l = 2 * sum_by const_size l.values.now + 1
