use Rattle.std.proofs.Common.{length}
use Rattle.ann_lattice.proofs.upper.+tie_with.Given as goal

abbrev pub decreases-tie_with : goal.decreases-tie_with
decreases-tie_with l = length l.others.now
