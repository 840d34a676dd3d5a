use Rattle.growth_laws.proofs.Operating.{lower_op_grows}
use Rattle.growth_laws.proofs.laws.operations_only_ask.Goals as goal

pub returns : goal.returns
returns c = lower_op_grows
