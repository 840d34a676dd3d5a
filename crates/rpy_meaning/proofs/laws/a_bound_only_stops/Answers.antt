use Rattle.rpy_meaning.proofs.Bound.{bound_stops}
use Rattle.rpy_meaning.proofs.laws.a_bound_only_stops.Goals as goal

pub returns : goal.returns
returns c = bound_stops
