use Rattle.check_laws.proofs.Told.{none_shown}
use Rattle.check_laws.proofs.laws.types_leave_trees_without_fault.Goals as goal

pub returns : goal.returns
returns c = λ p gs n types has. none_shown c.the_least_fault_is_that_of_trees.ensures p gs n types has
