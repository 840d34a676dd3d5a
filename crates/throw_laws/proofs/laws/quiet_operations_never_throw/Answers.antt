use Rattle.throw_laws.proofs.Calm.{quiet_operations_never_throw}
use Rattle.throw_laws.proofs.laws.quiet_operations_never_throw.Goals as goal

pub returns : goal.returns
returns c = quiet_operations_never_throw
