use Rattle.names_rules.proofs.Injective.{same_number}
use Rattle.names_rules.proofs.Known.{members_known}
use Rattle.names_rules.proofs.laws.names_have_numbers.Goals as goal

pub returns-clause-known : goal.returns-clause-known
returns-clause-known c = members_known

pub returns-clause-apart : goal.returns-clause-apart
returns-clause-apart c = same_number
