use Rattle.list_copy_laws.proofs.Among.{within_is, not_within_is}
use Rattle.list_copy_laws.proofs.laws.values_are_among.Goals as goal

pub returns-clause-within : goal.returns-clause-within
returns-clause-within c = within_is

pub returns-clause-not_within : goal.returns-clause-not_within
returns-clause-not_within c = not_within_is
