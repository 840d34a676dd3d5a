use Rattle.flow_laws.proofs.Given.{given}
use Rattle.flow_laws.proofs.laws.variables_are_those_of_their_nodes.Goals as goal

pub returns : goal.returns
returns c = λ p gs for node i v e. given p gs for node i v e
