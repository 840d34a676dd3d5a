use Rattle.ann_planned.proofs.Planning.{has_spots}
use Rattle.ann_planned.proofs.laws.planned_parts_may_not_conflict.Goals as goal

pub returns : goal.returns
returns c = has_spots
