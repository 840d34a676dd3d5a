use Rattle.joined_laws.proofs.Asked.{unset}
use Rattle.joined_laws.proofs.laws.variables_have_to_be_set.Goals as goal

pub returns : goal.returns
returns c = unset
