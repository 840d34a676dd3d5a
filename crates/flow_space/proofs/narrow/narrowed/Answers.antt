use Rattle.flow_space.proofs.Noded.{apply_is}
use Rattle.flow_space.proofs.narrow.narrowed.Goals as goal

pub returns-in-Apply : goal.returns-in-Apply
returns-in-Apply c = λ sites. rw (c.in-Apply.is, apply_is) (rw c.as_slice.ensures at c.applied.ensures sites)
