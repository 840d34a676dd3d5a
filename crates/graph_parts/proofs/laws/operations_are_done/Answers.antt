use Rattle.graph_parts.proofs.Done.{operations_are_done}
use Rattle.graph_parts.proofs.laws.operations_are_done.Goals as goal

pub returns : goal.returns
returns c = operations_are_done
