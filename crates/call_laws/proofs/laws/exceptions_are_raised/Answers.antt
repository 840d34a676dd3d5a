use Rattle.call_laws.proofs.Raising.{exceptions_are_raised}
use Rattle.call_laws.proofs.laws.exceptions_are_raised.Goals as goal

pub returns : goal.returns
returns c = exceptions_are_raised
