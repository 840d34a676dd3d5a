use Rattle.ann_tree.proofs.Examples.{counting_is_closed}
use Rattle.ann_tree.proofs.laws.a_loop_is_closed.Goals as goal

pub returns : goal.returns
returns c = counting_is_closed
