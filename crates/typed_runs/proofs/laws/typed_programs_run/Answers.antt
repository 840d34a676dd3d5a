use Rattle.typed_runs.proofs.Programs.{typed_programs_run}
use Rattle.typed_runs.proofs.laws.typed_programs_run.Goals as goal

pub returns : goal.returns
returns c = typed_programs_run
