use Rattle.list_laws.proofs.Deleting.{items_are_deleted}
use Rattle.list_laws.proofs.laws.items_are_deleted.Goals as goal

pub returns : goal.returns
returns c = items_are_deleted
