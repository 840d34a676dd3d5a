use Rattle.ann_flow.proofs.Flowing.{closed_flow}
use Rattle.ann_flow.proofs.laws.closed_flow_graphs_give_closed_trees.Goals as goal

pub returns : goal.returns
returns c = λ p gs t r nodes count sound classes w fits closed free. closed_flow p gs t r nodes count sound classes w fits closed free
