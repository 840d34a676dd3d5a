use Rattle.std.proofs.Common.{◌+◌, ◌*◌, length}
use Rattle.std.specs.Prelude.{sum_by}
use Rattle.rpy_tree.specs.Size.{const_size}
use Rattle.ann_lattice.proofs.instance.+constant.Given as goal

abbrev pub decreases-constant_element : goal.decreases-constant_element
decreases-constant_element l = 2 * const_size l.value.now

abbrev pub decreases-constant_parts : goal.decreases-constant_parts
decreases-constant_parts l = 2 * sum_by const_size l.parts.now + 1
