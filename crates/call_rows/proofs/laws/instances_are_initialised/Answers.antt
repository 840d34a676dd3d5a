use Rattle.call_rows.proofs.Initialising.{instances_are_initialised}
use Rattle.call_rows.proofs.laws.instances_are_initialised.Goals as goal

pub returns : goal.returns
returns c = instances_are_initialised
