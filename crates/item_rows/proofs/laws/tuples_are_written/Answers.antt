use Rattle.item_rows.proofs.Tuples.{targets_are_written, tuples_are_written}
use Rattle.item_rows.proofs.laws.tuples_are_written.Goals as goal

pub returns-clause-made : goal.returns-clause-made
returns-clause-made c = tuples_are_written

pub returns-clause-target : goal.returns-clause-target
returns-clause-target c = targets_are_written
