use Rattle.class_desc.specs.Tables.{tables}
use Rattle.ann_sound.proofs.Callees.{callee_of_function}
use Rattle.ann_sound.proofs.Nodes.{own_nodes}
use Rattle.ann_sound.proofs.Returns.{returns_plainly}
use Rattle.ann_least.proofs.Lowest.{none_of_trees}
use Rattle.check_laws.proofs.laws.conflicts_leave_trees_without_annotation.Goals as goal

pub returns : goal.returns
returns c = λ p e conflict has a is.
    none_of_trees p conflict.graphs conflict.stand.resolved conflict.stand.nodes conflict.covers.0 (record { callees = callee_of_function p conflict.stand.resolved conflict.stand.made conflict.graphs (tables p); plain = returns_plainly p conflict.stand.resolved conflict.stand.made; own = own_nodes p conflict.stand.resolved conflict.stand.made has.nodes }) has.classes has.cells has.marks
    (conflict.none has.classes has.sites) a is
