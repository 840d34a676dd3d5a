use Rattle.ann_sound.proofs.Callees.{callee_of_function}
use Rattle.ann_sound.proofs.laws.callees_have_their_parameters.Goals as goal

pub returns : goal.returns
returns c = λ p gs t r made f function is. callee_of_function p r made gs t f function is
