use Rattle.ann_least.proofs.Lowest.{none_of_trees}
use Rattle.ann_least.proofs.laws.trees_have_none_where_graphs_have_none.Goals as goal

pub returns : goal.returns
returns c = λ p gs r nodes count sound classes cells marks none a is. none_of_trees p gs r nodes count sound classes cells marks none a is
