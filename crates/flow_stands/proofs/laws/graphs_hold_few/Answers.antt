use Rattle.flow_stands.proofs.Top.{holds_few}
use Rattle.flow_stands.proofs.laws.graphs_hold_few.Goals as goal

pub returns : goal.returns
returns c = λ p gs builtins stand. holds_few p gs builtins stand
