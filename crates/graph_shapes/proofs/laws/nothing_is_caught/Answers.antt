use Rattle.graph_shapes.proofs.Escaping.{nothing_is_caught}
use Rattle.graph_shapes.proofs.laws.nothing_is_caught.Goals as goal

pub returns : goal.returns
returns c = nothing_is_caught
