-- What is counted are the cells and the slots, and what is owned stands in variables.
use Rattle.refcount_exact.proofs.Counts.{comes_exact}
use Rattle.refcount_exact.proofs.laws.counts_are_exact.Goals as goal

pub returns : goal.returns
returns c = λ p can args steps small k s text events e. comes_exact p can args steps small k s text events e
