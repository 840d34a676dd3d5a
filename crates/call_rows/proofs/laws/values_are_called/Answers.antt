use Rattle.call_rows.proofs.Values.{values_are_called}
use Rattle.call_rows.proofs.laws.values_are_called.Goals as goal

pub returns : goal.returns
returns c = values_are_called
