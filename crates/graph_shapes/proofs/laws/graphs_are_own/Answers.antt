use Rattle.graph_shapes.proofs.Beginning.{graphs_are_own}
use Rattle.graph_shapes.proofs.laws.graphs_are_own.Goals as goal

pub returns : goal.returns
returns c = graphs_are_own
