use Rattle.typed_runs.proofs.Programs.{catching_programs_run}
use Rattle.typed_runs.proofs.laws.catching_programs_run.Goals as goal

pub returns : goal.returns
returns c = catching_programs_run
