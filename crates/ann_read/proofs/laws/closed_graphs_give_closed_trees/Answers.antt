use Rattle.ann_read.proofs.Whole.{closed_trees}
use Rattle.ann_read.proofs.laws.closed_graphs_give_closed_trees.Goals as goal

pub returns : goal.returns
returns c =
    λ program gs p functions graphs classes spots start placed spotted a cells places fits closed free reading.
    closed_trees program gs p functions spots start a
    (record { graphs = graphs; classes = classes; placed = placed; fits = fits; cells = cells; spotted = spotted; closed = closed; free = free; reading = reading }) places
