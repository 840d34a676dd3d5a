use Rattle.ann_formed.proofs.Needing.{needs_well}
use Rattle.ann_formed.proofs.laws.what_is_asked_is_well_formed.Goals as goal

pub returns : goal.returns
returns c = needs_well
