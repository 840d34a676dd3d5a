use Rattle.typed_rows.proofs.Going.{elements_pass}
use Rattle.typed_rows.proofs.laws.elements_pass.Goals as goal

pub returns : goal.returns
returns c = elements_pass
