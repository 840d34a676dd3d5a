use Rattle.typing_laws.proofs.Whole.{least_of_trees}
use Rattle.typing_laws.proofs.laws.the_least_fault_is_that_of_trees.Goals as goal

pub returns : goal.returns
returns c = λ p gs t n s read fits cells marks. least_of_trees p gs t n s read fits cells marks
