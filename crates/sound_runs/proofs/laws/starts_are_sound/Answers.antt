use Rattle.sound_runs.proofs.Starting.{starts_are_sound}
use Rattle.sound_runs.proofs.laws.starts_are_sound.Goals as goal

pub returns : goal.returns
returns c = starts_are_sound
