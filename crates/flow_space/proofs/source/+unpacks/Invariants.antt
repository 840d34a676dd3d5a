use Rattle.std.proofs.Common.{length}
use Rattle.flow_space.proofs.source.+unpacks.Given as goal

abbrev pub decreases-put_unpacks : goal.decreases-put_unpacks
decreases-put_unpacks l = length l.rest.now
