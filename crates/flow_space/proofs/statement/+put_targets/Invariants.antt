use Rattle.std.proofs.Common.{length}
use Rattle.flow_space.proofs.statement.+put_targets.Given as goal

abbrev pub decreases-put_targets : goal.decreases-put_targets
decreases-put_targets l = length l.targets.now
