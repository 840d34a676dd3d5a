use Rattle.graph_plain.proofs.Meaning.{made_trees_are_plain}
use Rattle.graph_plain.proofs.laws.made_trees_are_plain.Goals as goal

pub returns : goal.returns
returns c = made_trees_are_plain
