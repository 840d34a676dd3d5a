use Rattle.check_laws.proofs.Told.{least_shown}
use Rattle.check_laws.proofs.laws.the_least_fault_of_the_trees_is_told.Goals as goal

pub returns : goal.returns
returns c = λ p file line k fault has. least_shown c.the_least_fault_is_that_of_trees.ensures p file line k fault has
