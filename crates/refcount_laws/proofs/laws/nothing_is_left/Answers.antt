-- The law is that of proofs/Leftover.antt.
use Rattle.refcount_laws.proofs.Leftover.{nothing_left}
use Rattle.refcount_laws.proofs.laws.nothing_is_left.Goals as goal

pub returns : goal.returns
returns c = λ p value core s g h both z word kind exception apart b. nothing_left p value core s g h both z word kind exception apart b
