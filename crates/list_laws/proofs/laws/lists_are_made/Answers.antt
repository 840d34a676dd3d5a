use Rattle.list_laws.proofs.Itemed.{lists_are_made}
use Rattle.list_laws.proofs.laws.lists_are_made.Goals as goal

pub returns : goal.returns
returns c = lists_are_made
