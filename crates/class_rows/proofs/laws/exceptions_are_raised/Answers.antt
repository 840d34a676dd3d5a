use Rattle.class_rows.proofs.Raising.{exceptions_are_raised}
use Rattle.class_rows.proofs.laws.exceptions_are_raised.Goals as goal

pub returns : goal.returns
returns c = exceptions_are_raised
