use Rattle.lower_laws.proofs.Identity.{is_done, is_not_done, tuple_is_done, tuple_is_not_done}
use Rattle.lower_laws.proofs.done.identity_is_done.Goals as goal

pub returns-clause-is : goal.returns-clause-is
returns-clause-is c = is_done

pub returns-clause-is_not : goal.returns-clause-is_not
returns-clause-is_not c = is_not_done

pub returns-clause-tuple_is : goal.returns-clause-tuple_is
returns-clause-tuple_is c = tuple_is_done

pub returns-clause-tuple_is_not : goal.returns-clause-tuple_is_not
returns-clause-tuple_is_not c = tuple_is_not_done
