use Rattle.graph_counts.proofs.Counted.{variables_are_there}
use Rattle.graph_counts.proofs.laws.variables_are_there.Goals as goal

pub returns : goal.returns
returns c = variables_are_there
