use Rattle.item_rows.proofs.Adding.{appends_are_written, gathers_are_written, inserts_are_written}
use Rattle.item_rows.proofs.laws.items_are_added.Goals as goal

pub returns-clause-append : goal.returns-clause-append
returns-clause-append c = appends_are_written

pub returns-clause-gather : goal.returns-clause-gather
returns-clause-gather c = gathers_are_written

pub returns-clause-insert : goal.returns-clause-insert
returns-clause-insert c = inserts_are_written
