use Rattle.sound_runs.proofs.Starting.{programs_are_never_wrong}
use Rattle.sound_runs.proofs.laws.programs_are_never_wrong.Goals as goal

pub returns : goal.returns
returns c = programs_are_never_wrong
