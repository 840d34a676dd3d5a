use Rattle.sound_programs.proofs.Telling.{runs_are_sound}
use Rattle.sound_programs.proofs.laws.runs_are_sound.Goals as goal

pub returns : goal.returns
returns c = runs_are_sound c.programs_tell_the_truth.ensures c.types_are_settled.ensures c.steps_are_right.ensures c.starts_are_sound.ensures
