use Rattle.graph_shapes.proofs.Beginning.{parameters_are_counted}
use Rattle.graph_shapes.proofs.laws.parameters_are_counted.Goals as goal

pub returns : goal.returns
returns c = parameters_are_counted
