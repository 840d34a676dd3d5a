use Rattle.names_whole.proofs.Bound.{scopes_are, fault_is}
use Rattle.names_whole.proofs.laws.bound_faults_follow_the_rules.Goals as goal

pub returns-clause-scopes : goal.returns-clause-scopes
returns-clause-scopes c = scopes_are

pub returns-clause-fault : goal.returns-clause-fault
returns-clause-fault c = fault_is
