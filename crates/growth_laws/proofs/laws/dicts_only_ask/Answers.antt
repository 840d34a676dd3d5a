use Rattle.growth_laws.proofs.Dicts.{lower_dict_op_grows}
use Rattle.growth_laws.proofs.laws.dicts_only_ask.Goals as goal

pub returns : goal.returns
returns c = lower_dict_op_grows
