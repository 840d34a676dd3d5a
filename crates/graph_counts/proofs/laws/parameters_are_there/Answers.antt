use Rattle.graph_counts.proofs.Counted.{parameters_are_there}
use Rattle.graph_counts.proofs.laws.parameters_are_there.Goals as goal

pub returns : goal.returns
returns c = parameters_are_there
