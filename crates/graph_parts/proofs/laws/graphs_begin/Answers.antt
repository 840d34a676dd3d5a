use Rattle.graph_parts.proofs.Done.{graphs_begin}
use Rattle.graph_parts.proofs.laws.graphs_begin.Goals as goal

pub returns : goal.returns
returns c = graphs_begin
