use Rattle.graph_counts.proofs.Counted.{blocks_are_apart}
use Rattle.graph_counts.proofs.laws.blocks_are_apart.Goals as goal

pub returns : goal.returns
returns c = blocks_are_apart
