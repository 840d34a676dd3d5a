use Rattle.catch_runs.proofs.Whole.{catching_programs_are_lowered}
use Rattle.catch_runs.proofs.laws.catching_programs_are_lowered.Goals as goal

pub returns : goal.returns
returns c = catching_programs_are_lowered
