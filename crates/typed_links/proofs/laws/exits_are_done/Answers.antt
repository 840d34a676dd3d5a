use Rattle.typed_links.proofs.Exiting.{exits_are_done}
use Rattle.typed_links.proofs.laws.exits_are_done.Goals as goal

pub returns : goal.returns
returns c = exits_are_done
