use Rattle.ann_sound.proofs.Callees.{callee_of_function}
use Rattle.ann_sound.proofs.Nodes.{own_nodes}
use Rattle.ann_sound.proofs.Returns.{returns_plainly}
use Rattle.ann_sound.proofs.laws.made_trees_are_sound.Goals as goal

pub returns : goal.returns
returns c = λ p gs t r made apart. record { callees = callee_of_function p r made gs t; plain = returns_plainly p r made; own = own_nodes p r made apart }
