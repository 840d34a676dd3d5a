use Rattle.dict_conversion_laws.proofs.First.{values_are_stored_so}
use Rattle.dict_conversion_laws.proofs.laws.values_are_stored.Goals as goal

pub returns : goal.returns
returns c = values_are_stored_so
