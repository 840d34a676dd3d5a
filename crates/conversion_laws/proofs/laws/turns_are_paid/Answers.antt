use Rattle.conversion_laws.proofs.Turns.{turns_are_paid}
use Rattle.conversion_laws.proofs.laws.turns_are_paid.Goals as goal

pub returns : goal.returns
returns c = turns_are_paid
