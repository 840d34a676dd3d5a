use Rattle.class_rows.proofs.Storing.{attributes_are_stored}
use Rattle.class_rows.proofs.laws.attributes_are_stored.Goals as goal

pub returns : goal.returns
returns c = attributes_are_stored
