use Rattle.std.proofs.Common.{◌+◌, ◌*◌, length}
use Rattle.ann_element.specs.Size.{size, sizes}
use Rattle.ann_lattice.proofs.compare.+equal.Given as goal

abbrev pub decreases-has_equality : goal.decreases-has_equality
decreases-has_equality l = 2 * size l.a.now

abbrev pub decreases-have_equality : goal.decreases-have_equality
decreases-have_equality l = 2 * sizes l.parts.now + 1
