use Rattle.told_laws.proofs.Giving.{graphs_give_values}
use Rattle.told_laws.proofs.laws.graphs_give_values.Goals as goal

pub returns : goal.returns
returns c = graphs_give_values
