use Rattle.std.proofs.Common.{length}
use Rattle.ann_needs.proofs.call.+arguments.Given as goal

abbrev pub decreases-arguments : goal.decreases-arguments
decreases-arguments l = length l.defaults.now
