use Rattle.std.proofs.Common.{length}
use Rattle.ann_needs.proofs.block.+has_conflict.Given as goal

abbrev pub decreases-has_conflict : goal.decreases-has_conflict
decreases-has_conflict l = length l.xs.now
