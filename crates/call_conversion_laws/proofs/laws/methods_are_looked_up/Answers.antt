use Rattle.call_conversion_laws.proofs.Looked.{methods_are_looked_up}
use Rattle.call_conversion_laws.proofs.laws.methods_are_looked_up.Goals as goal

pub returns : goal.returns
returns c = methods_are_looked_up
