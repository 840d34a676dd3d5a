use Rattle.dict_conversion_laws.proofs.First.{values_are_got_as, values_are_got_or_none_so, values_are_got_so}
use Rattle.dict_conversion_laws.proofs.laws.values_are_got.Goals as goal

pub returns-clause-other : goal.returns-clause-other
returns-clause-other c = values_are_got_so

pub returns-clause-converted : goal.returns-clause-converted
returns-clause-converted c = values_are_got_as

pub returns-clause-none : goal.returns-clause-none
returns-clause-none c = values_are_got_or_none_so
