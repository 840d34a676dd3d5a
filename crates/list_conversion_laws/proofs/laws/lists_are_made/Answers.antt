use Rattle.list_conversion_laws.proofs.Displayed.{lists_are_made}
use Rattle.list_conversion_laws.proofs.laws.lists_are_made.Goals as goal

pub returns : goal.returns
returns c = lists_are_made
