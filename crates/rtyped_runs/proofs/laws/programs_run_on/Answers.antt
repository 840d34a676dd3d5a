use Rattle.rtyped_runs.proofs.Whole.{programs_run_on}
use Rattle.rtyped_runs.proofs.laws.programs_run_on.Goals as goal

pub returns : goal.returns
returns c = programs_run_on
