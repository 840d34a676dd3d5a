-- All three steps in a row.
use Rattle.exc_exact.proofs.Composed.{file_holds}
use Rattle.exc_exact.proofs.laws.what_files_leave_is_held.Goals as goal

pub returns : goal.returns
returns c = λ p has args steps well s m w e. file_holds p has args steps well s m w e
