use Rattle.exc_ready.proofs.Whole.{allowed}
use Rattle.exc_ready.proofs.laws.runs_are_allowed.Goals as goal

pub returns : goal.returns
returns c p ok raw passes args steps classed = allowed p ok raw passes args steps classed
