use Rattle.list_tuple_laws.proofs.Among.{not_within_is, within_is}
use Rattle.list_tuple_laws.proofs.laws.tuples_are_among.Goals as goal

pub returns-clause-within : goal.returns-clause-within
returns-clause-within c = within_is

pub returns-clause-not_within : goal.returns-clause-not_within
returns-clause-not_within c = not_within_is
