use Rattle.ann_shown.proofs.Rowing.{of_row}
use Rattle.ann_shown.proofs.laws.a_conflict_of_a_row_stays_one.Goals as goal

pub returns : goal.returns
returns c = of_row
