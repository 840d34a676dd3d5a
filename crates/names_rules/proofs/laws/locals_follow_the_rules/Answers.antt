use Rattle.names_rules.proofs.Known.{members_locals}
use Rattle.names_rules.proofs.laws.locals_follow_the_rules.Goals as goal

pub returns : goal.returns
returns c = members_locals
