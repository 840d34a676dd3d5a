use Rattle.ann_filled.proofs.Filling.{is_lift}
use Rattle.ann_filled.proofs.laws.plans_can_be_filled.Goals as goal

pub returns : goal.returns
returns c = is_lift
