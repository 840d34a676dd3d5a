use Rattle.lower_laws.specs.Values.{Plain}
use Rattle.lower_laws.proofs.Valued.{plain_stands}
use Rattle.lower_laws.proofs.done.values_are_held.Goals as goal

pub returns-clause-held : goal.returns-clause-held
returns-clause-held c = λ layout blocks statics seen x v h st. Plain h st

pub returns-clause-stands : goal.returns-clause-stands
returns-clause-stands c = λ layout blocks statics seen x v h held. plain_stands h held
