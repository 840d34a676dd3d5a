use Rattle.told_graphs.proofs.GivingPrograms.{graphs_always_give}
use Rattle.told_graphs.proofs.laws.graphs_always_give.Goals as goal

pub returns : goal.returns
returns c = graphs_always_give
