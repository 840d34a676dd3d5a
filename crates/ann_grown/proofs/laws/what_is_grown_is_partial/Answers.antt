use Rattle.ann_grown.proofs.Meeting.{partial_grown}
use Rattle.ann_grown.proofs.laws.what_is_grown_is_partial.Goals as goal

pub returns : goal.returns
returns c = partial_grown
