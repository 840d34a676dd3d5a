use Rattle.dict_laws.proofs.Masked.{indices_are_longer}
use Rattle.dict_laws.proofs.laws.indices_are_longer.Goals as goal

pub returns : goal.returns
returns c = indices_are_longer
