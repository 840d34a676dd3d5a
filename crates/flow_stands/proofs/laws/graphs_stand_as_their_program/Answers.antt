use Rattle.flow_stands.proofs.Top.{only_moment}
use Rattle.flow_stands.proofs.laws.graphs_stand_as_their_program.Goals as goal

pub returns : goal.returns
returns c = λ p gs builtins stand. only_moment p gs builtins stand
