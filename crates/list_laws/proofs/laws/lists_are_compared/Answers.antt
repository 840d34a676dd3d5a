use Rattle.list_laws.proofs.Apart.{apart_is_done, apart_is_not_done}
use Rattle.list_laws.proofs.Identity.{identity_is_done, difference_is_done, beside_none_is_done, beside_none_is_not_done}
use Rattle.list_laws.proofs.laws.lists_are_compared.Goals as goal

pub returns-clause-is : goal.returns-clause-is
returns-clause-is c = identity_is_done

pub returns-clause-is_not : goal.returns-clause-is_not
returns-clause-is_not c = difference_is_done

pub returns-clause-none : goal.returns-clause-none
returns-clause-none c = beside_none_is_done

pub returns-clause-not_none : goal.returns-clause-not_none
returns-clause-not_none c = beside_none_is_not_done

pub returns-clause-apart : goal.returns-clause-apart
returns-clause-apart c = apart_is_done

pub returns-clause-not_apart : goal.returns-clause-not_apart
returns-clause-not_apart c = apart_is_not_done
