use Rattle.class_desc.specs.Tables.{tables}
use Rattle.ann_needs.specs.View.{assignment}
use Rattle.ann_sound.proofs.Callees.{callee_of_function}
use Rattle.ann_sound.proofs.Nodes.{own_nodes}
use Rattle.ann_sound.proofs.Returns.{returns_plainly}
use Rattle.ann_least.proofs.Lowest.{least_of_trees}
use Rattle.check_laws.proofs.laws.types_are_of_the_least_annotation_of_the_trees.Goals as goal

pub returns : goal.returns
returns c = λ p gs n types has.
    least_of_trees p gs types.stand.resolved types.stand.nodes types.covers.0 (record { callees = callee_of_function p types.stand.resolved types.stand.made gs (tables p); plain = returns_plainly p types.stand.resolved types.stand.made; own = own_nodes p types.stand.resolved types.stand.made has.nodes }) has.classes has.cells has.marks
    (assignment types.state) (types.settled.fits has.classes has.sites) types.settled.closed.closed types.settled.closed.free (types.settled.least has.classes has.sites)
