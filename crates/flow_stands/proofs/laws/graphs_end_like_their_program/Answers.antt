use Rattle.flow_stands.proofs.Top.{only_ending}
use Rattle.flow_stands.proofs.laws.graphs_end_like_their_program.Goals as goal

pub returns : goal.returns
returns c = λ p gs builtins stand. only_ending p gs builtins stand
