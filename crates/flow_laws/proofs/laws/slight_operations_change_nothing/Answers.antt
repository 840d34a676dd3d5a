use Rattle.flow_laws.proofs.Slight.{slight, compared}
use Rattle.flow_laws.proofs.laws.slight_operations_change_nothing.Goals as goal

pub returns-clause-slight : goal.returns-clause-slight
returns-clause-slight c = slight

pub returns-clause-compared : goal.returns-clause-compared
returns-clause-compared c = compared
