use Rattle.object_laws.proofs.Rows.{an_instance}
use Rattle.object_laws.proofs.laws.an_instance_is_a_block.Goals as goal

pub returns : goal.returns
returns c = an_instance
