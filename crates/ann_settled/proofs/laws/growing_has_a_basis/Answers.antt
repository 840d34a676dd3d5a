use Rattle.ann_settled.proofs.Ending.{basis}
use Rattle.ann_settled.proofs.laws.growing_has_a_basis.Goals as goal

pub returns : goal.returns
returns c = λ p gs t classes lt. basis p gs t classes lt
