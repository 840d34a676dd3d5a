use Rattle.flow_stands.proofs.Top.{has_ending}
use Rattle.flow_stands.proofs.laws.graphs_have_an_ending.Goals as goal

pub returns : goal.returns
returns c = λ p gs builtins stand. has_ending p gs builtins stand
