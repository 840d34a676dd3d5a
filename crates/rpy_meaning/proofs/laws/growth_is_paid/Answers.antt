use Rattle.rpy_meaning.proofs.Room.{keeps_room}
use Rattle.rpy_meaning.proofs.laws.growth_is_paid.Goals as goal

pub returns : goal.returns
returns c = keeps_room
