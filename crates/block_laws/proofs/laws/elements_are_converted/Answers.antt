use Rattle.block_laws.proofs.Converting.{elements_are_converted}
use Rattle.block_laws.proofs.laws.elements_are_converted.Goals as goal

pub returns : goal.returns
returns c = elements_are_converted
