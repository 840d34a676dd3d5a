use Rattle.graph_told.proofs.Whole.{narrowings_tell_the_truth}
use Rattle.graph_told.proofs.laws.narrowings_tell_the_truth.Goals as goal

pub returns : goal.returns
returns c = narrowings_tell_the_truth
