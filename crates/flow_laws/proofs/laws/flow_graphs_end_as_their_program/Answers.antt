use Rattle.flow_laws.proofs.Copies.{ends_so}
use Rattle.flow_laws.proofs.laws.flow_graphs_end_as_their_program.Goals as goal

pub returns : goal.returns
returns c = λ p gs for flat many builtins. ends_so p gs for flat many builtins
