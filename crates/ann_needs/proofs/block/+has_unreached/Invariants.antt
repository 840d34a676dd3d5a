use Rattle.std.proofs.Common.{length}
use Rattle.ann_needs.proofs.block.+has_unreached.Given as goal

abbrev pub decreases-has_unreached : goal.decreases-has_unreached
decreases-has_unreached l = length l.xs.now
