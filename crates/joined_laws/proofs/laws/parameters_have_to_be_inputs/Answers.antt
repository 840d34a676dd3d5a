use Rattle.joined_laws.proofs.Asked.{parameter}
use Rattle.joined_laws.proofs.laws.parameters_have_to_be_inputs.Goals as goal

pub returns : goal.returns
returns c = parameter
