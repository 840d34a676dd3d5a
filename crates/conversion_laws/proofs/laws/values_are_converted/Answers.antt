use Rattle.conversion_laws.proofs.Converting.{values_are_converted}
use Rattle.conversion_laws.proofs.laws.values_are_converted.Goals as goal

pub returns : goal.returns
returns c = values_are_converted
