use Rattle.std.proofs.Common.{length}
use Rattle.ann_needs.proofs.call.+tie_params.Given as goal

abbrev pub decreases-tie_params : goal.decreases-tie_params
decreases-tie_params l = length l.ds.now
