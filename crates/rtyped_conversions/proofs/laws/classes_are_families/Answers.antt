use Rattle.rtyped_conversions.proofs.Families.{classes_are_families}
use Rattle.rtyped_conversions.proofs.laws.classes_are_families.Goals as goal

pub returns : goal.returns
returns c = classes_are_families
