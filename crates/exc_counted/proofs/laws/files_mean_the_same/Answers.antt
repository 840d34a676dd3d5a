use Rattle.exc_counted.proofs.Composed.{same_runs}
use Rattle.exc_counted.proofs.laws.files_mean_the_same.Goals as goal

pub returns : goal.returns
returns c p has args steps well = same_runs p has args steps well
