use Rattle.catch_runs.proofs.Whole.{catching_programs_run_on}
use Rattle.catch_runs.proofs.laws.catching_programs_run_on.Goals as goal

pub returns : goal.returns
returns c = catching_programs_run_on
