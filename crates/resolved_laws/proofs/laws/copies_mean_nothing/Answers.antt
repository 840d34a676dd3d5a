use Rattle.resolved_laws.proofs.Same.{mean_same}
use Rattle.resolved_laws.proofs.laws.copies_mean_nothing.Goals as goal

pub returns : goal.returns
returns c = mean_same
