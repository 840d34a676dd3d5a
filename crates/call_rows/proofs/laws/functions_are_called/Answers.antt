use Rattle.call_rows.proofs.Calling.{functions_are_called}
use Rattle.call_rows.proofs.laws.functions_are_called.Goals as goal

pub returns : goal.returns
returns c = functions_are_called
