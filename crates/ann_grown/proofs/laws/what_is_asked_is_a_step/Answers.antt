use Rattle.ann_grown.proofs.Meeting.{asked_step}
use Rattle.ann_grown.proofs.laws.what_is_asked_is_a_step.Goals as goal

pub returns : goal.returns
returns c = λ p spots a n asked free. asked_step p spots a n asked free
