use Rattle.list_laws.proofs.Indexed.{items_are_read}
use Rattle.list_laws.proofs.laws.items_are_read.Goals as goal

pub returns : goal.returns
returns c = items_are_read
