use Rattle.std.proofs.Common.{◌+◌, ◌*◌, length}
use Rattle.ann_lattice.proofs.upper.+equal_count.Given as goal

abbrev pub decreases-equal_count : goal.decreases-equal_count
decreases-equal_count l = length l.parts.now
