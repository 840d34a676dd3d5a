use Rattle.graph_parts.proofs.Done.{parameters_are_taken}
use Rattle.graph_parts.proofs.laws.parameters_are_taken.Goals as goal

pub returns : goal.returns
returns c = parameters_are_taken
