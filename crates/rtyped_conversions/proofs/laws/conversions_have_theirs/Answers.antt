use Rattle.rtyped_conversions.proofs.Having.{conversions_have_theirs}
use Rattle.rtyped_conversions.proofs.laws.conversions_have_theirs.Goals as goal

pub returns : goal.returns
returns c = conversions_have_theirs
