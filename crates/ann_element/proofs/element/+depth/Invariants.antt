use Rattle.std.proofs.Common.{◌+◌, ◌*◌}
use Rattle.ann_element.specs.Size.{size, sizes}
use Rattle.ann_element.proofs.element.+depth.Given as goal

abbrev pub decreases-depth_of : goal.decreases-depth_of
decreases-depth_of l = 2 * size l.e.now

abbrev pub decreases-deepest : goal.decreases-deepest
decreases-deepest l = 2 * sizes l.parts.now + 1
