use Rattle.dict_find_laws.proofs.Listed.{iterated_keys_are_listed, keys_are_listed, walked_keys_are_listed}
use Rattle.dict_find_laws.proofs.laws.keys_are_listed.Goals as goal

pub returns-clause-keys : goal.returns-clause-keys
returns-clause-keys c = keys_are_listed

pub returns-clause-iterated : goal.returns-clause-iterated
returns-clause-iterated c = iterated_keys_are_listed

pub returns-clause-walk : goal.returns-clause-walk
returns-clause-walk c = walked_keys_are_listed
