use Rattle.ann_grown.proofs.Meeting.{none_free}
use Rattle.ann_grown.proofs.laws.a_conflict_leaves_none_free.Goals as goal

pub returns : goal.returns
returns c = none_free
