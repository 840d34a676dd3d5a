use Rattle.flow_laws.proofs.Copies.{stand_so}
use Rattle.flow_laws.proofs.laws.flow_graphs_stand_as_their_program.Goals as goal

pub returns : goal.returns
returns c = λ p gs for flat many builtins. stand_so p gs for flat many builtins
