use Rattle.growth_laws.proofs.Lists.{lower_list_op_grows}
use Rattle.growth_laws.proofs.laws.lists_only_ask.Goals as goal

pub returns : goal.returns
returns c = lower_list_op_grows
