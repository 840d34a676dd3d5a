use Rattle.start_runs.proofs.Programs.{programs_run_from_the_start}
use Rattle.start_runs.proofs.laws.programs_run_from_the_start.Goals as goal

pub returns : goal.returns
returns c = programs_run_from_the_start
