use Rattle.call_conversion_laws.proofs.Methods.{values_are_called}
use Rattle.call_conversion_laws.proofs.laws.values_are_called.Goals as goal

pub returns : goal.returns
returns c = values_are_called
