use Rattle.planned_laws.proofs.Spotted.{parts_are_planned}
use Rattle.planned_laws.proofs.laws.parts_are_planned.Goals as goal

pub returns : goal.returns
returns c = parts_are_planned
