use Rattle.call_conversion_laws.proofs.Methods.{methods_are_called}
use Rattle.call_conversion_laws.proofs.laws.methods_are_called.Goals as goal

pub returns : goal.returns
returns c = methods_are_called
