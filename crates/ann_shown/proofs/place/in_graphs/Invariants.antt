use Rattle.std.proofs.Common.{◌≡◌, drop}
use Rattle.ann_places.specs.Spots.{among, graph_cells}
use Rattle.ann_needs.specs.View.{whole}
use Rattle.ann_shown.proofs.place.in_graphs.Given as goal

abbrev pub invariant-loop-g : goal.invariant-loop-g
invariant-loop-g l = among l.cell (graph_cells (whole l.p) l.g (drop l.g l.graphs)) ≡ among l.cell (graph_cells (whole l.p) 0 l.graphs)
