use Rattle.std.proofs.Common.{◌+◌, ◌*◌, length}
use Rattle.ann_element.specs.Size.{size, sizes}
use Rattle.ann_needs.proofs.method.+shallow.Given as goal

abbrev pub decreases-is_shallow : goal.decreases-is_shallow
decreases-is_shallow l = 2 * size l.e.now

abbrev pub decreases-all_shallow : goal.decreases-all_shallow
decreases-all_shallow l = 2 * sizes l.parts.now + 1
