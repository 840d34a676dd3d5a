use Rattle.dict_change_laws.proofs.Deleting.{entries_are_deleted}
use Rattle.dict_change_laws.proofs.laws.entries_are_deleted.Goals as goal

pub returns : goal.returns
returns c = entries_are_deleted
