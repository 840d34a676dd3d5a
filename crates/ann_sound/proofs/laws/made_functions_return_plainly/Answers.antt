use Rattle.ann_sound.proofs.Returns.{returns_plainly}
use Rattle.ann_sound.proofs.laws.made_functions_return_plainly.Goals as goal

pub returns : goal.returns
returns c = λ p r made f function is. returns_plainly p r made f function is
