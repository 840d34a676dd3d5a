use Rattle.names_rules.proofs.Places.{stands}
use Rattle.names_rules.proofs.laws.places_follow_the_numbering.Goals as goal

pub returns-clause-place : goal.returns-clause-place
returns-clause-place c = stands
