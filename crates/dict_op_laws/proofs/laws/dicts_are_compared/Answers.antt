use Rattle.dict_op_laws.proofs.Identical.{identity_is_done, difference_is_done, beside_none_is_done, beside_none_is_not_done}
use Rattle.dict_op_laws.proofs.laws.dicts_are_compared.Goals as goal

pub returns-clause-is : goal.returns-clause-is
returns-clause-is c = identity_is_done

pub returns-clause-is_not : goal.returns-clause-is_not
returns-clause-is_not c = difference_is_done

pub returns-clause-none : goal.returns-clause-none
returns-clause-none c = beside_none_is_done

pub returns-clause-not_none : goal.returns-clause-not_none
returns-clause-not_none c = beside_none_is_not_done
