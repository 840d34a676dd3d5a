use Rattle.ann_tree.proofs.Examples.{asking_is_closed}
use Rattle.ann_tree.proofs.laws.a_test_for_none_is_closed.Goals as goal

pub returns : goal.returns
returns c = asking_is_closed
