use Rattle.list_copy_laws.proofs.Shortens.{last_items_are_left_out}
use Rattle.list_copy_laws.proofs.Slices.{lists_are_sliced}
use Rattle.list_copy_laws.proofs.laws.lists_are_sliced.Goals as goal

pub returns-clause-between : goal.returns-clause-between
returns-clause-between c = lists_are_sliced

pub returns-clause-but_last : goal.returns-clause-but_last
returns-clause-but_last c = last_items_are_left_out
