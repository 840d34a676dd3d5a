use Rattle.planned_laws.proofs.Spotted.{parts_are_free}
use Rattle.planned_laws.proofs.laws.parts_are_free.Goals as goal

pub returns : goal.returns
returns c = parts_are_free
