use Rattle.class_laws.proofs.Rows.{two_classes}
use Rattle.class_laws.proofs.laws.two_classes_are_laid_out.Goals as goal

pub returns : goal.returns
returns c = two_classes
