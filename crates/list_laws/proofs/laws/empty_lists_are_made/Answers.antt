use Rattle.list_laws.proofs.Displayed.{displays_are_made, comprehensions_begin}
use Rattle.list_laws.proofs.laws.empty_lists_are_made.Goals as goal

pub returns-clause-display : goal.returns-clause-display
returns-clause-display c = displays_are_made

pub returns-clause-comprehension : goal.returns-clause-comprehension
returns-clause-comprehension c = comprehensions_begin
