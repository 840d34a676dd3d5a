use Rattle.call_conversion_laws.proofs.Initialised.{instances_are_initialised}
use Rattle.call_conversion_laws.proofs.laws.instances_are_initialised.Goals as goal

pub returns : goal.returns
returns c = instances_are_initialised
