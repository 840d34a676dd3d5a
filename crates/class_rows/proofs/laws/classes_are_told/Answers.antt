use Rattle.class_rows.proofs.Telling.{classes_are_told}
use Rattle.class_rows.proofs.laws.classes_are_told.Goals as goal

pub returns : goal.returns
returns c = classes_are_told
