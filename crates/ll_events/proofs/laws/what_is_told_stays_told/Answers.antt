-- Events are added at the end.
use Rattle.ll_events.proofs.Telling.{adds_to}
use Rattle.ll_events.proofs.laws.what_is_told_stays_told.Goals as goal

pub returns : goal.returns
returns c = λ p args steps k s t text events m e w. adds_to p args steps k s t text events m e w
