-- As in the explicit program, which is no more stuck.
use Rattle.exc_exact.proofs.Composed.{payments_exact}
use Rattle.exc_exact.proofs.laws.payments_are_counted.Goals as goal

pub returns : goal.returns
returns c = λ p has args steps well free j t text events e pays. payments_exact p has args steps well free j t text events e pays
