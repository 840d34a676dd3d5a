use Rattle.std.proofs.Common.{◌≡◌, length}
use Rattle.exc_ready.specs.Raisable as spec
use Rattle.exc_checks.proofs.raisable.ops_raisable.Given as goal

abbrev pub invariant-loop-rest : goal.invariant-loop-rest
invariant-loop-rest l = spec.ops_raisable l.root l.types l.rest l.exit ≡ spec.ops_raisable l.root l.types l.ops l.exit

abbrev pub decreases-loop-rest : goal.decreases-loop-rest
decreases-loop-rest l = length l.rest
