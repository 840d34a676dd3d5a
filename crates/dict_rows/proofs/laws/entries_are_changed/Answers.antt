use Rattle.dict_rows.proofs.Storing.{deletions_are_written, stores_are_written}
use Rattle.dict_rows.proofs.laws.entries_are_changed.Goals as goal

pub returns-clause-stored : goal.returns-clause-stored
returns-clause-stored c = stores_are_written

pub returns-clause-deleted : goal.returns-clause-deleted
returns-clause-deleted c = deletions_are_written
