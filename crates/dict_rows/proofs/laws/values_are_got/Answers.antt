use Rattle.dict_rows.proofs.Getting.{gets_are_written, gets_or_none_are_written}
use Rattle.dict_rows.proofs.laws.values_are_got.Goals as goal

pub returns-clause-other : goal.returns-clause-other
returns-clause-other c = gets_are_written

pub returns-clause-none : goal.returns-clause-none
returns-clause-none c = gets_or_none_are_written
