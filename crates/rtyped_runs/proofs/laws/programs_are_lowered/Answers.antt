use Rattle.rtyped_runs.proofs.Whole.{programs_are_lowered}
use Rattle.rtyped_runs.proofs.laws.programs_are_lowered.Goals as goal

pub returns : goal.returns
returns c = programs_are_lowered
