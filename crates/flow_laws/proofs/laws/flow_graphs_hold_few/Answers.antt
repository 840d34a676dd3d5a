use Rattle.flow_laws.proofs.Copies.{hold_few}
use Rattle.flow_laws.proofs.laws.flow_graphs_hold_few.Goals as goal

pub returns : goal.returns
returns c = λ p gs for flat many builtins. hold_few p gs for flat many builtins
