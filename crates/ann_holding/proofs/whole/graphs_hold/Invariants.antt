use Rattle.std.proofs.Common.{◌≡◌, drop}
use Rattle.ann_needs.specs.View.{assignment, whole}
use Rattle.ann_holding.specs.Holds as spec
use Rattle.ann_holding.proofs.whole.graphs_hold.Given as goal

abbrev pub invariant-loop-g : goal.invariant-loop-g
invariant-loop-g l = spec.graphs_hold (whole l.p) (assignment l.s) l.g (drop l.g l.graphs) ≡ spec.graphs_hold (whole l.p) (assignment l.s) 0 l.graphs
