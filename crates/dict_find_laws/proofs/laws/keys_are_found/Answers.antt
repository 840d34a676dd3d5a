use Rattle.dict_find_laws.proofs.Found.{keys_are_found}
use Rattle.dict_find_laws.proofs.Hashed.{keys_are_hashed}
use Rattle.dict_find_laws.proofs.laws.keys_are_found.Goals as goal

pub returns-clause-hash : goal.returns-clause-hash
returns-clause-hash c = keys_are_hashed

pub returns-clause-place : goal.returns-clause-place
returns-clause-place c = keys_are_found
