use Rattle.std.proofs.Common.{◌+◌, ◌*◌, length}
use Rattle.ann_lattice.proofs.compare.+equals_each.Given as goal

abbrev pub decreases-equals_each : goal.decreases-equals_each
decreases-equals_each l = length l.parts.now
