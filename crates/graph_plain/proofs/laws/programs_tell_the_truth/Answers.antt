use Rattle.graph_plain.proofs.Meaning.{programs_tell_the_truth}
use Rattle.graph_plain.proofs.laws.programs_tell_the_truth.Goals as goal

pub returns : goal.returns
returns c = programs_tell_the_truth
