use Rattle.list_laws.proofs.Popping.{last_items_are_popped, items_are_popped}
use Rattle.list_laws.proofs.laws.items_are_popped.Goals as goal

pub returns-clause-last : goal.returns-clause-last
returns-clause-last c = last_items_are_popped

pub returns-clause-at : goal.returns-clause-at
returns-clause-at c = items_are_popped
