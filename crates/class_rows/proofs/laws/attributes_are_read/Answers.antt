use Rattle.class_rows.proofs.Reading.{attributes_are_read}
use Rattle.class_rows.proofs.laws.attributes_are_read.Goals as goal

pub returns : goal.returns
returns c = attributes_are_read
