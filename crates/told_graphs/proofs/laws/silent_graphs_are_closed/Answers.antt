use Rattle.told_graphs.proofs.Closing.{silent_graphs_are_closed}
use Rattle.told_graphs.proofs.laws.silent_graphs_are_closed.Goals as goal

pub returns : goal.returns
returns c = silent_graphs_are_closed
