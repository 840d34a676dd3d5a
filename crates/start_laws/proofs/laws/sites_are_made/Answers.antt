use Rattle.start_laws.proofs.Making.{sites_are_made}
use Rattle.start_laws.proofs.laws.sites_are_made.Goals as goal

pub returns : goal.returns
returns c = sites_are_made
