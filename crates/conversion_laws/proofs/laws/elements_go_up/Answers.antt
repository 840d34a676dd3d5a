use Rattle.conversion_laws.proofs.Ordered.{elements_go_up}
use Rattle.conversion_laws.proofs.laws.elements_go_up.Goals as goal

pub returns : goal.returns
returns c = elements_go_up
