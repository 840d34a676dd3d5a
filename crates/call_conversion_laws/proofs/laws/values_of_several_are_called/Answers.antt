use Rattle.call_conversion_laws.proofs.Several.{values_of_several_are_called}
use Rattle.call_conversion_laws.proofs.laws.values_of_several_are_called.Goals as goal

pub returns : goal.returns
returns c = values_of_several_are_called
