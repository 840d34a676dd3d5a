-- The variable holds no block.
use Rattle.refcount_exact.proofs.Endings.{raises_empty}
use Rattle.refcount_exact.proofs.laws.raised_runs_leave_nothing.Goals as goal

pub returns : goal.returns
returns c = λ p can args steps small a g core m w e f clear. raises_empty p can args steps small a g core m w e f clear
