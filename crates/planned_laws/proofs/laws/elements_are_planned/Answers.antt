use Rattle.planned_laws.proofs.Standing.{elements_are_planned}
use Rattle.planned_laws.proofs.laws.elements_are_planned.Goals as goal

pub returns : goal.returns
returns c = elements_are_planned
