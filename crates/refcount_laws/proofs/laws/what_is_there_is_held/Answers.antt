-- The law is that of proofs/Leftover.antt.
use Rattle.refcount_laws.proofs.Leftover.{there_is_held}
use Rattle.refcount_laws.proofs.laws.what_is_there_is_held.Goals as goal

pub returns : goal.returns
returns c = λ p calls others s t g h stands b there. there_is_held p calls others s t g h stands b there
