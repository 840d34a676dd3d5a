use Rattle.tuple_conversion_laws.proofs.Taken.{items_are_unpacked, items_are_read}
use Rattle.tuple_conversion_laws.proofs.laws.items_are_taken.Goals as goal

pub returns-clause-unpacked : goal.returns-clause-unpacked
returns-clause-unpacked c = items_are_unpacked

pub returns-clause-index : goal.returns-clause-index
returns-clause-index c = items_are_read
