use Rattle.ann_places.proofs.Spotting.{is_placed}
use Rattle.ann_places.proofs.laws.spots_have_places.Goals as goal

pub returns : goal.returns
returns c = λ p gs t. is_placed p gs t
