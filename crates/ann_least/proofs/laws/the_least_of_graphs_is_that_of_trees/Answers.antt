use Rattle.ann_least.proofs.Lowest.{least_of_trees}
use Rattle.ann_least.proofs.laws.the_least_of_graphs_is_that_of_trees.Goals as goal

pub returns : goal.returns
returns c = λ p gs r nodes count sound classes cells marks w fits closed free least. least_of_trees p gs r nodes count sound classes cells marks w fits closed free least
