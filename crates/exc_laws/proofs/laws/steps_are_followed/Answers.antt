use Rattle.exc_laws.proofs.Steps.{step_follows}
use Rattle.exc_laws.proofs.laws.steps_are_followed.Goals as goal

pub returns : goal.returns
returns c p ok raw raises closed args s x stands fit ready = step_follows p ok raw raises closed args s x stands fit ready
