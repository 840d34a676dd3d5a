use Rattle.graph_shapes.proofs.Escaping.{exceptions_pass}
use Rattle.graph_shapes.proofs.laws.exceptions_pass.Goals as goal

pub returns : goal.returns
returns c = exceptions_pass
