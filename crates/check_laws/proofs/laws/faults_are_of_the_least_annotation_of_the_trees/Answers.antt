use Rattle.class_desc.specs.Tables.{tables}
use Rattle.ann_needs.specs.View.{assignment}
use Rattle.ann_sound.proofs.Callees.{callee_of_function}
use Rattle.ann_sound.proofs.Nodes.{own_nodes}
use Rattle.ann_sound.proofs.Returns.{returns_plainly}
use Rattle.ann_least.proofs.Lowest.{least_of_trees}
use Rattle.check_laws.proofs.laws.faults_are_of_the_least_annotation_of_the_trees.Goals as goal

pub returns : goal.returns
returns c = λ p e fault has.
    least_of_trees p fault.graphs fault.stand.resolved fault.stand.nodes fault.covers.0 (record { callees = callee_of_function p fault.stand.resolved fault.stand.made fault.graphs (tables p); plain = returns_plainly p fault.stand.resolved fault.stand.made; own = own_nodes p fault.stand.resolved fault.stand.made has.nodes }) has.classes has.cells has.marks
    (assignment fault.state) (fault.settled.fits has.classes has.sites) fault.settled.closed.closed fault.settled.closed.free (fault.settled.least has.classes has.sites)
