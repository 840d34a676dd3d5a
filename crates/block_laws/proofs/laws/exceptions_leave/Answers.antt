use Rattle.block_laws.proofs.Exiting.{exceptions_leave}
use Rattle.block_laws.proofs.laws.exceptions_leave.Goals as goal

pub returns : goal.returns
returns c = exceptions_leave
