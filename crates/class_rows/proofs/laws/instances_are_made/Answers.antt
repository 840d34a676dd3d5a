use Rattle.class_rows.proofs.Making.{instances_are_made}
use Rattle.class_rows.proofs.laws.instances_are_made.Goals as goal

pub returns : goal.returns
returns c = instances_are_made
