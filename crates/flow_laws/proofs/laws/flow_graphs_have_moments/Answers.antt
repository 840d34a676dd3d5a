use Rattle.flow_laws.proofs.Copies.{have_moments}
use Rattle.flow_laws.proofs.laws.flow_graphs_have_moments.Goals as goal

pub returns : goal.returns
returns c = λ p gs for flat many builtins. have_moments p gs for flat many builtins
