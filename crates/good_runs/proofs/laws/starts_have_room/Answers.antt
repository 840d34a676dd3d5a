use Rattle.good_runs.proofs.Beginning.{starts_have_room}
use Rattle.good_runs.proofs.laws.starts_have_room.Goals as goal

pub returns : goal.returns
returns c = starts_have_room
