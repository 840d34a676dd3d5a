use Rattle.std.proofs.Common.{◌+◌, ◌*◌, length}
use Rattle.ann_element.specs.Size.{size, sizes}
use Rattle.ann_lattice.proofs.order.+within.Given as goal

abbrev pub decreases-is_within : goal.decreases-is_within
decreases-is_within l = 2 * size l.e.now

abbrev pub decreases-all_within : goal.decreases-all_within
decreases-all_within l = 2 * sizes l.parts.now + 1
