use Rattle.graph_parts.proofs.Done.{links_are_done}
use Rattle.graph_parts.proofs.laws.links_are_done.Goals as goal

pub returns : goal.returns
returns c = links_are_done
