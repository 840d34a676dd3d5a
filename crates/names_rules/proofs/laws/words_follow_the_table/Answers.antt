use Rattle.names_rules.proofs.Words.{known_is, fixed_is}
use Rattle.names_rules.proofs.laws.words_follow_the_table.Goals as goal

pub returns-clause-known : goal.returns-clause-known
returns-clause-known c = known_is

pub returns-clause-fixed : goal.returns-clause-fixed
returns-clause-fixed c = fixed_is
