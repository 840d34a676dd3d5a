use Rattle.ann_tree.proofs.Examples.{guarding_is_closed}
use Rattle.ann_tree.proofs.laws.a_handler_is_closed.Goals as goal

pub returns : goal.returns
returns c = guarding_is_closed
