use Rattle.straight_laws.specs.Passes.{ways_graph}
use Rattle.straight_laws.proofs.Numbers.{ways_turned}
use Rattle.turned_laws.proofs.Turning.{turned_same}
use Rattle.std.proofs.Common.{map}
use Rattle.straight_laws.proofs.laws.joined_ways_mean_the_same.Goals as goal

pub returns : goal.returns
returns c = λ p ok ordered few. turned_same p (map ways_graph p.graphs) ok ordered (ways_turned p ok ordered few)
