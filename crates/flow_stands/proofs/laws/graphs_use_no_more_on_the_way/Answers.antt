use Rattle.flow_stands.proofs.Top.{uses_there}
use Rattle.flow_stands.proofs.laws.graphs_use_no_more_on_the_way.Goals as goal

pub returns : goal.returns
returns c = λ p gs builtins stand. uses_there p gs builtins stand
