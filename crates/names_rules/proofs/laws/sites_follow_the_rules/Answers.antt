use Rattle.names_rules.proofs.Program.{sites_are}
use Rattle.names_rules.proofs.laws.sites_follow_the_rules.Goals as goal

pub returns : goal.returns
returns c = sites_are
