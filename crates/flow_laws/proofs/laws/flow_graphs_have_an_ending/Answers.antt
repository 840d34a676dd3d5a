use Rattle.flow_laws.proofs.Copies.{ends}
use Rattle.flow_laws.proofs.laws.flow_graphs_have_an_ending.Goals as goal

pub returns : goal.returns
returns c = λ p gs for flat many builtins. ends p gs for flat many builtins
