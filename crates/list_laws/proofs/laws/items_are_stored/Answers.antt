use Rattle.list_laws.proofs.Stored.{items_are_stored}
use Rattle.list_laws.proofs.laws.items_are_stored.Goals as goal

pub returns : goal.returns
returns c = items_are_stored
