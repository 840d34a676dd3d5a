use Rattle.dict_conversion_laws.proofs.Within.{not_within_is_done, within_is_done}
use Rattle.dict_conversion_laws.proofs.laws.keys_are_looked_for.Goals as goal

pub returns-clause-within : goal.returns-clause-within
returns-clause-within c = within_is_done

pub returns-clause-not_within : goal.returns-clause-not_within
returns-clause-not_within c = not_within_is_done
