use Rattle.dict_find_laws.proofs.GotElse.{values_are_got}
use Rattle.dict_find_laws.proofs.GotOrNone.{values_are_got_or_none}
use Rattle.dict_find_laws.proofs.laws.values_are_got.Goals as goal

pub returns-clause-other : goal.returns-clause-other
returns-clause-other c = values_are_got

pub returns-clause-none : goal.returns-clause-none
returns-clause-none c = values_are_got_or_none
