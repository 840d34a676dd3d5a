use Rattle.flow_runs.proofs.Rooms.{room_is_kept}
use Rattle.flow_runs.proofs.laws.room_is_kept.Goals as goal

pub returns : goal.returns
returns c = room_is_kept c.growth_is_paid.ensures
