use Rattle.typed_runs.proofs.Graphs.{graphs_are_done}
use Rattle.typed_runs.proofs.laws.graphs_are_done.Goals as goal

pub returns : goal.returns
returns c = graphs_are_done
