use Rattle.dict_op_laws.proofs.Lengths.{dicts_have_lengths}
use Rattle.dict_op_laws.proofs.laws.dicts_have_lengths.Goals as goal

pub returns : goal.returns
returns c = dicts_have_lengths
