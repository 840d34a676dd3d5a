use Rattle.good_runs.proofs.Running.{runs_are_good}
use Rattle.good_runs.proofs.laws.runs_are_good.Goals as goal

pub returns : goal.returns
returns c = runs_are_good c.programs_have_keys.ensures c.room_is_kept.ensures c.programs_tell_the_truth.ensures c.types_are_settled.ensures c.runs_are_sound.ensures
