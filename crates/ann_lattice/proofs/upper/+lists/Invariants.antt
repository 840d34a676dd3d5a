use Rattle.std.proofs.Common.{◌+◌, ◌*◌, length}
use Rattle.ann_element.specs.Size.{size, sizes}
use Rattle.ann_lattice.proofs.upper.+lists.Given as goal

abbrev pub decreases-list_sites : goal.decreases-list_sites
decreases-list_sites l = 2 * size l.e.now

abbrev pub decreases-all_list_sites : goal.decreases-all_list_sites
decreases-all_list_sites l = 2 * sizes l.parts.now + 1
