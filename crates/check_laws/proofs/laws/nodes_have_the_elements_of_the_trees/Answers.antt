use Rattle.check_laws.proofs.Nodes.{elements_are}
use Rattle.check_laws.proofs.laws.nodes_have_the_elements_of_the_trees.Goals as goal

pub returns : goal.returns
returns c = λ p gs n types has. elements_are p gs n types has
