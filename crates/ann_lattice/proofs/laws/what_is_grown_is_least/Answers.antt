use Rattle.ann_lattice.proofs.Grows.{grown_is_least}
use Rattle.ann_lattice.proofs.laws.what_is_grown_is_least.Goals as goal

pub returns : goal.returns
returns c = grown_is_least
