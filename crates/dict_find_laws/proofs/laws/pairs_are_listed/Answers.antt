use Rattle.dict_find_laws.proofs.Pairs.{iterated_pairs_are_listed, pairs_are_listed}
use Rattle.dict_find_laws.proofs.laws.pairs_are_listed.Goals as goal

pub returns-clause-items : goal.returns-clause-items
returns-clause-items c = pairs_are_listed

pub returns-clause-iterated : goal.returns-clause-iterated
returns-clause-iterated c = iterated_pairs_are_listed
