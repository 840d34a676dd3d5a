use Rattle.flow_stands.proofs.Top.{has_moment}
use Rattle.flow_stands.proofs.laws.graphs_have_moments.Goals as goal

pub returns : goal.returns
returns c = λ p gs builtins stand. has_moment p gs builtins stand
