use Rattle.run_laws.proofs.Whole.{runs_are_followed}
use Rattle.run_laws.proofs.laws.runs_are_followed.Goals as goal

pub returns : goal.returns
returns c = runs_are_followed
