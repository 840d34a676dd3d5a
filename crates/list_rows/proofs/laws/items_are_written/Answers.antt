use Rattle.list_rows.proofs.Indexed.{deletions_are_written, indices_are_written, stores_are_written}
use Rattle.list_rows.proofs.laws.items_are_written.Goals as goal

pub returns-clause-read : goal.returns-clause-read
returns-clause-read c = indices_are_written

pub returns-clause-stored : goal.returns-clause-stored
returns-clause-stored c = stores_are_written

pub returns-clause-deleted : goal.returns-clause-deleted
returns-clause-deleted c = deletions_are_written
