use Rattle.reading_laws.proofs.Standing.{calls_give}
use Rattle.reading_laws.proofs.laws.calls_give.Goals as goal

pub returns : goal.returns
returns c = calls_give
