-- Nothing is held there.
use Rattle.refcount_exact.proofs.Endings.{returns_empty}
use Rattle.refcount_exact.proofs.laws.returned_runs_leave_nothing.Goals as goal

pub returns : goal.returns
returns c = λ p can args steps small n s m w e clear. returns_empty p can args steps small n s m w e clear
