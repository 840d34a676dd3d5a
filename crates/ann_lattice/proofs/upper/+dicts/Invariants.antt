use Rattle.std.proofs.Common.{◌+◌, ◌*◌, length}
use Rattle.ann_element.specs.Size.{size, sizes}
use Rattle.ann_lattice.proofs.upper.+dicts.Given as goal

abbrev pub decreases-dict_sites : goal.decreases-dict_sites
decreases-dict_sites l = 2 * size l.e.now

abbrev pub decreases-all_dict_sites : goal.decreases-all_dict_sites
decreases-all_dict_sites l = 2 * sizes l.parts.now + 1
