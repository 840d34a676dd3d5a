use Rattle.std.proofs.Common.{refl}
use Rattle.flow_trees.proofs.laws.the_larger_side_is_told_of.Goals as goal

pub returns-clause-so : goal.returns-clause-so
returns-clause-so c = λ at left right a b. refl

pub returns-clause-otherwise : goal.returns-clause-otherwise
returns-clause-otherwise c = λ at left right a b. refl
