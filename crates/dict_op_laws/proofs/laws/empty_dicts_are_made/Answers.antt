use Rattle.dict_op_laws.proofs.Displayed.{empty_dicts_are_made}
use Rattle.dict_op_laws.proofs.laws.empty_dicts_are_made.Goals as goal

pub returns : goal.returns
returns c = empty_dicts_are_made
