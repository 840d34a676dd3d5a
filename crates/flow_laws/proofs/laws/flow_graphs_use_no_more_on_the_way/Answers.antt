use Rattle.flow_laws.proofs.Copies.{use_no_more_there}
use Rattle.flow_laws.proofs.laws.flow_graphs_use_no_more_on_the_way.Goals as goal

pub returns : goal.returns
returns c = λ p gs for flat many builtins. use_no_more_there p gs for flat many builtins
