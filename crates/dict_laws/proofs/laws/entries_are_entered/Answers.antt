use Rattle.dict_laws.proofs.Entering.{enters_keys}
use Rattle.dict_laws.proofs.laws.entries_are_entered.Goals as goal

pub returns : goal.returns
returns c = enters_keys
