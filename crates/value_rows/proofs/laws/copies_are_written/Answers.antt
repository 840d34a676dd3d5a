use Rattle.value_rows.proofs.Copies.{copies, non_negatives}
use Rattle.value_rows.proofs.laws.copies_are_written.Goals as goal

pub returns-clause-copies : goal.returns-clause-copies
returns-clause-copies c = copies

pub returns-clause-non_negative : goal.returns-clause-non_negative
returns-clause-non_negative c = non_negatives
