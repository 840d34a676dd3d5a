use Rattle.std.proofs.Common.{◌+◌, ◌*◌, length}
use Rattle.ann_lattice.proofs.upper.+no_clash.Given as goal

abbrev pub decreases-no_clash : goal.decreases-no_clash
decreases-no_clash l = length l.parts.now
