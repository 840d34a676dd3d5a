use Rattle.std.proofs.Common.{◌≡◌, length}
use Rattle.exc_transform.specs.Raising.{ops_leave}
use Rattle.exc_transform.proofs.raising.ops_leave.Given as goal

abbrev pub invariant-loop-rest : goal.invariant-loop-rest
invariant-loop-rest l = ops_leave l.raising.graphs.now l.raising.any l.rest l.exit ≡ ops_leave l.raising.graphs.now l.raising.any l.ops l.exit

abbrev pub decreases-loop-rest : goal.decreases-loop-rest
decreases-loop-rest l = length l.rest
