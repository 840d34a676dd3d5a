use Rattle.list_copy_laws.proofs.Joins.{lists_are_joined}
use Rattle.list_copy_laws.proofs.laws.lists_are_joined.Goals as goal

pub returns : goal.returns
returns c = lists_are_joined
