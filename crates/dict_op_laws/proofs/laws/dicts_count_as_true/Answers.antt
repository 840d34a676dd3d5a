use Rattle.dict_op_laws.proofs.Truths.{truth_is_done, untruth_is_done}
use Rattle.dict_op_laws.proofs.laws.dicts_count_as_true.Goals as goal

pub returns-clause-truth : goal.returns-clause-truth
returns-clause-truth c = truth_is_done

pub returns-clause-opposite : goal.returns-clause-opposite
returns-clause-opposite c = untruth_is_done
