-- The law is that of the proofs.
use Rattle.refcount_laws.proofs.Running.{run_stands}
use Rattle.refcount_laws.proofs.laws.runs_are_followed.Goals as goal

pub returns : goal.returns
returns c = λ p ok leads closed args k calls others s t g h text events told stands ready made. run_stands p ok leads closed args k calls others s t g h text events told stands ready made
