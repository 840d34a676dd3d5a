-- Blocks go, and none is made, up to the end.
use Rattle.refcount_exact.proofs.Endings.{ends_holding}
use Rattle.refcount_exact.proofs.laws.what_is_left_is_held.Goals as goal

pub returns : goal.returns
returns c = λ p can args steps small s m w e. ends_holding p can args steps small s m w e
