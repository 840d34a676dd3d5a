use Rattle.rtyped_laws.proofs.Values.{values_have_theirs}
use Rattle.rtyped_laws.proofs.laws.values_have_theirs.Goals as goal

pub returns : goal.returns
returns c = values_have_theirs
