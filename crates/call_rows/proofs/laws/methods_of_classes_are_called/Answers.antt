use Rattle.call_rows.proofs.Calling.{methods_of_classes_are_called}
use Rattle.call_rows.proofs.laws.methods_of_classes_are_called.Goals as goal

pub returns : goal.returns
returns c = methods_of_classes_are_called
