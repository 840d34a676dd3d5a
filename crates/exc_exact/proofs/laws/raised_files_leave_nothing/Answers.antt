-- The variable holds no block.
use Rattle.exc_exact.proofs.Composed.{raised_empty}
use Rattle.exc_exact.proofs.laws.raised_files_leave_nothing.Goals as goal

pub returns : goal.returns
returns c = λ p has args steps well a g core m w e f apart. raised_empty p has args steps well a g core m w e f apart
