use Rattle.rtyped_laws.proofs.Helping.{helpers_have_theirs}
use Rattle.rtyped_laws.proofs.laws.helpers_have_theirs.Goals as goal

pub returns : goal.returns
returns c = helpers_have_theirs
