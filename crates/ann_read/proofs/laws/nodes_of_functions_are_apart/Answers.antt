use Rattle.ann_read.proofs.Readings.{are_apart}
use Rattle.ann_read.proofs.laws.nodes_of_functions_are_apart.Goals as goal

pub returns : goal.returns
returns c = are_apart
