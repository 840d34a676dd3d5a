use Rattle.flow_stands.proofs.Top.{uses}
use Rattle.flow_stands.proofs.laws.graphs_use_no_more.Goals as goal

pub returns : goal.returns
returns c = λ p gs builtins stand. uses p gs builtins stand
