use Rattle.resolved_laws.proofs.Same.{moment_same}
use Rattle.resolved_laws.proofs.laws.copies_are_no_moments.Goals as goal

pub returns : goal.returns
returns c = moment_same
