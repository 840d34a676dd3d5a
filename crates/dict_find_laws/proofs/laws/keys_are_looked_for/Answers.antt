use Rattle.dict_find_laws.proofs.Within.{not_within_is, within_is}
use Rattle.dict_find_laws.proofs.laws.keys_are_looked_for.Goals as goal

pub returns-clause-within : goal.returns-clause-within
returns-clause-within c = within_is

pub returns-clause-not_within : goal.returns-clause-not_within
returns-clause-not_within c = not_within_is
