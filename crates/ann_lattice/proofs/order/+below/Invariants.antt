use Rattle.std.proofs.Common.{◌+◌, ◌*◌, length}
use Rattle.ann_element.specs.Size.{size, sizes}
use Rattle.ann_lattice.proofs.order.+below.Given as goal

abbrev pub decreases-below : goal.decreases-below
decreases-below l = 2 * size l.a.now

abbrev pub decreases-parts_below : goal.decreases-parts_below
decreases-parts_below l = 2 * sizes l.parts.now + 1
