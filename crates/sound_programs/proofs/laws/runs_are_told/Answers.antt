use Rattle.sound_programs.proofs.Telling.{runs_are_told}
use Rattle.sound_programs.proofs.laws.runs_are_told.Goals as goal

pub returns : goal.returns
returns c = runs_are_told c.programs_tell_the_truth.ensures
