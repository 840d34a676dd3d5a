-- The law is that of the proofs.
use Rattle.refcount_laws.proofs.Stepping.{step_stands}
use Rattle.refcount_laws.proofs.laws.steps_are_followed.Goals as goal

pub returns : goal.returns
returns c = λ p ok leads closed args calls others s t g h stands ready. step_stands p ok leads closed args calls others s t g h stands ready
