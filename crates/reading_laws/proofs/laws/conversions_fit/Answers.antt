use Rattle.reading_laws.proofs.Passing.{conversions_fit}
use Rattle.reading_laws.proofs.laws.conversions_fit.Goals as goal

pub returns : goal.returns
returns c = conversions_fit
