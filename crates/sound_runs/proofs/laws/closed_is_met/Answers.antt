use Rattle.sound_runs.proofs.Meeting.{closed_is_met}
use Rattle.sound_runs.proofs.laws.closed_is_met.Goals as goal

pub returns : goal.returns
returns c = closed_is_met
