use Rattle.list_copy_laws.proofs.Repeats.{lists_are_repeated}
use Rattle.list_copy_laws.proofs.laws.lists_are_repeated.Goals as goal

pub returns : goal.returns
returns c = lists_are_repeated
