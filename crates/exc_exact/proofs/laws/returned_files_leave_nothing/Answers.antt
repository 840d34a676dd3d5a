-- The slots of a program with exceptions are clear.
use Rattle.exc_exact.proofs.Composed.{returned_empty}
use Rattle.exc_exact.proofs.laws.returned_files_leave_nothing.Goals as goal

pub returns : goal.returns
returns c = λ p has args steps well n s m w e apart. returned_empty p has args steps well n s m w e apart
