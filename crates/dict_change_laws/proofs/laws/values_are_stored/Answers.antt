use Rattle.dict_change_laws.proofs.Setting.{values_are_stored}
use Rattle.dict_change_laws.proofs.laws.values_are_stored.Goals as goal

pub returns : goal.returns
returns c = values_are_stored
