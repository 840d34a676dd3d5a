use Rattle.list_copy_laws.proofs.Inserts.{items_are_inserted}
use Rattle.list_copy_laws.proofs.laws.items_are_inserted.Goals as goal

pub returns : goal.returns
returns c = items_are_inserted
