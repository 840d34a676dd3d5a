use Rattle.ann_read.proofs.Readings.{is_reading}
use Rattle.ann_read.proofs.laws.assignments_can_be_read.Goals as goal

pub returns : goal.returns
returns c = is_reading
