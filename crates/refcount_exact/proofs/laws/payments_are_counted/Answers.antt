-- Between two such states no step is paid.
use Rattle.refcount_exact.proofs.Payments.{payments_counted}
use Rattle.refcount_exact.proofs.laws.payments_are_counted.Goals as goal

pub returns : goal.returns
returns c = λ p can args steps small free j t text events e pays. payments_counted p can args steps small free j t text events e pays
