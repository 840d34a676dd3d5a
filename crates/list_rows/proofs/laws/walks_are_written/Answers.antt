use Rattle.list_rows.proofs.Walks.{items_are_written, turns_are_written, walks_are_written}
use Rattle.list_rows.proofs.laws.walks_are_written.Goals as goal

pub returns-clause-begin : goal.returns-clause-begin
returns-clause-begin c = walks_are_written

pub returns-clause-on : goal.returns-clause-on
returns-clause-on c = turns_are_written

pub returns-clause-item : goal.returns-clause-item
returns-clause-item c = items_are_written
