-- What the first graph gives is a word.
use Rattle.refcount_exact.proofs.Endings.{returns_exact}
use Rattle.refcount_exact.proofs.laws.returned_runs_count_exactly.Goals as goal

pub returns : goal.returns
returns c = λ p can args steps small n s m w e. returns_exact p can args steps small n s m w e
