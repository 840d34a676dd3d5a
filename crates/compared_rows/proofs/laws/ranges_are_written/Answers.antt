use Rattle.compared_rows.proofs.Ranging.{left_written, item_written}
use Rattle.compared_rows.proofs.laws.ranges_are_written.Goals as goal

pub returns-clause-left : goal.returns-clause-left
returns-clause-left c = left_written

pub returns-clause-item : goal.returns-clause-item
returns-clause-item c = item_written
