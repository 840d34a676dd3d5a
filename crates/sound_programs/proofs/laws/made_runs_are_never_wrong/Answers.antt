use Rattle.sound_programs.proofs.Telling.{made_runs_are_never_wrong}
use Rattle.sound_programs.proofs.laws.made_runs_are_never_wrong.Goals as goal

pub returns : goal.returns
returns c = made_runs_are_never_wrong c.programs_tell_the_truth.ensures c.types_are_settled.ensures c.steps_are_right.ensures c.starts_are_sound.ensures
