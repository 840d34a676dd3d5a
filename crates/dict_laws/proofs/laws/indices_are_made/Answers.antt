use Rattle.dict_laws.proofs.Entering.{makes_indices}
use Rattle.dict_laws.proofs.laws.indices_are_made.Goals as goal

pub returns : goal.returns
returns c = makes_indices
