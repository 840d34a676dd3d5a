use Rattle.dict_conversion_laws.proofs.First.{entries_are_deleted_so}
use Rattle.dict_conversion_laws.proofs.laws.entries_are_deleted.Goals as goal

pub returns : goal.returns
returns c = entries_are_deleted_so
