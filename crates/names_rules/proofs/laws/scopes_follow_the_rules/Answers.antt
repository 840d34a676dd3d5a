use Rattle.names_rules.proofs.Scopes.{scopes_alike, members_alike}
use Rattle.names_rules.proofs.laws.scopes_follow_the_rules.Goals as goal

pub returns-clause-modules : goal.returns-clause-modules
returns-clause-modules c = scopes_alike

pub returns-clause-after_a_dot : goal.returns-clause-after_a_dot
returns-clause-after_a_dot c = members_alike
