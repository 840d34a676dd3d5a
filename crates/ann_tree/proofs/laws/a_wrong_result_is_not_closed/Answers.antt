use Rattle.ann_tree.proofs.Examples.{mistaken_is_not_closed}
use Rattle.ann_tree.proofs.laws.a_wrong_result_is_not_closed.Goals as goal

pub returns : goal.returns
returns c = mistaken_is_not_closed
