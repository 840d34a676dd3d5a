use Rattle.block_laws.proofs.Operating.{operations_are_followed}
use Rattle.block_laws.proofs.laws.operations_are_followed.Goals as goal

pub returns : goal.returns
returns c = operations_are_followed
