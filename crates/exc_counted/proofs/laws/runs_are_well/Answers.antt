use Rattle.exc_counted.proofs.Composed.{runs_well}
use Rattle.exc_counted.proofs.laws.runs_are_well.Goals as goal

pub returns : goal.returns
returns c p has names args steps some small = runs_well p has names args steps some small
