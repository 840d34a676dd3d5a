use Rattle.throw_laws.proofs.Readying.{operations_are_ready, returns_are_ready}
use Rattle.throw_laws.proofs.laws.operations_are_ready.Goals as goal

pub returns-clause-on : goal.returns-clause-on
returns-clause-on c = operations_are_ready

pub returns-clause-back : goal.returns-clause-back
returns-clause-back c = returns_are_ready
