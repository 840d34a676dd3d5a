-- As in the explicit program.
use Rattle.exc_exact.proofs.Composed.{counts_exactly}
use Rattle.exc_exact.proofs.laws.counts_are_exact.Goals as goal

pub returns : goal.returns
returns c = λ p has args steps well k s text events e. counts_exactly p has args steps well k s text events e
