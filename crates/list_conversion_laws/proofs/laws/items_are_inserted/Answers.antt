use Rattle.list_conversion_laws.proofs.Added.{items_are_inserted}
use Rattle.list_conversion_laws.proofs.laws.items_are_inserted.Goals as goal

pub returns : goal.returns
returns c = items_are_inserted
