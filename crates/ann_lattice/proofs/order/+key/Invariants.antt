use Rattle.std.proofs.Common.{◌+◌, ◌*◌, length}
use Rattle.ann_element.specs.Size.{size, sizes}
use Rattle.ann_lattice.proofs.order.+key.Given as goal

abbrev pub decreases-is_key : goal.decreases-is_key
decreases-is_key l = 2 * size l.e.now

abbrev pub decreases-all_keys : goal.decreases-all_keys
decreases-all_keys l = 2 * sizes l.parts.now + 1
