use Rattle.class_laws.proofs.Telling.{instances_are_told}
use Rattle.class_laws.proofs.laws.instances_are_told.Goals as goal

pub returns : goal.returns
returns c = instances_are_told
