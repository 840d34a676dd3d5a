use Rattle.dict_find_laws.proofs.Listed.{iterated_values_are_listed, values_are_listed}
use Rattle.dict_find_laws.proofs.laws.values_are_listed.Goals as goal

pub returns-clause-values : goal.returns-clause-values
returns-clause-values c = values_are_listed

pub returns-clause-iterated : goal.returns-clause-iterated
returns-clause-iterated c = iterated_values_are_listed
