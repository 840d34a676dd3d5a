use Rattle.list_laws.proofs.Reversing.{lists_are_reversed}
use Rattle.list_laws.proofs.laws.lists_are_reversed.Goals as goal

pub returns : goal.returns
returns c = lists_are_reversed
