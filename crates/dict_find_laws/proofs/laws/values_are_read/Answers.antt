use Rattle.dict_find_laws.proofs.Read.{values_are_read}
use Rattle.dict_find_laws.proofs.laws.values_are_read.Goals as goal

pub returns : goal.returns
returns c = values_are_read
