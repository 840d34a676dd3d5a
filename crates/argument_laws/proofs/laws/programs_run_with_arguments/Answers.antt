use Rattle.argument_laws.proofs.Programs.{programs_run_with_arguments}
use Rattle.argument_laws.proofs.laws.programs_run_with_arguments.Goals as goal

pub returns : goal.returns
returns c = programs_run_with_arguments
