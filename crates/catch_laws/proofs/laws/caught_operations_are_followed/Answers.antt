use Rattle.catch_laws.proofs.Following.{caught_operations_are_followed}
use Rattle.catch_laws.proofs.laws.caught_operations_are_followed.Goals as goal

pub returns : goal.returns
returns c = caught_operations_are_followed
