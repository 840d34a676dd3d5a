use Rattle.names_constants.proofs.Rounds.{fixed, least}
use Rattle.names_constants.proofs.laws.values_are_the_least.Goals as goal

pub returns-clause-given : goal.returns-clause-given
returns-clause-given c = fixed

pub returns-clause-least : goal.returns-clause-least
returns-clause-least c = least
