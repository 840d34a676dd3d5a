use Rattle.graph_shapes.proofs.Shaped.{blocks_have_shapes}
use Rattle.graph_shapes.proofs.laws.blocks_have_shapes.Goals as goal

pub returns : goal.returns
returns c = blocks_have_shapes
