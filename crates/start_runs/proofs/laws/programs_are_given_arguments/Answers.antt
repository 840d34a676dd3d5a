use Rattle.start_runs.proofs.Programs.{programs_are_given_arguments}
use Rattle.start_runs.proofs.laws.programs_are_given_arguments.Goals as goal

pub returns : goal.returns
returns c = programs_are_given_arguments
