use Rattle.class_laws.proofs.Attributes.{attributes_are_read}
use Rattle.class_laws.proofs.laws.attributes_are_read.Goals as goal

pub returns : goal.returns
returns c = attributes_are_read
