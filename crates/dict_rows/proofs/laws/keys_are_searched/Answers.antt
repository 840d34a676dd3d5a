use Rattle.dict_rows.proofs.Looking.{found_are_written, missed_are_written}
use Rattle.dict_rows.proofs.laws.keys_are_searched.Goals as goal

pub returns-clause-within : goal.returns-clause-within
returns-clause-within c = found_are_written

pub returns-clause-not_within : goal.returns-clause-not_within
returns-clause-not_within c = missed_are_written
