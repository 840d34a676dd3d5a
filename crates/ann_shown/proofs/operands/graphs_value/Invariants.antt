use Rattle.std.proofs.Common.{◌≡◌, drop}
use Rattle.ann_needs.specs.View.{assignment, whole}
use Rattle.ann_shown.specs.Operands as spec
use Rattle.ann_shown.proofs.operands.graphs_value.Given as goal

abbrev pub invariant-loop-g : goal.invariant-loop-g
invariant-loop-g l = spec.graphs_value (whole l.p) (assignment l.s) l.node l.g (drop l.g l.graphs) ≡ spec.graphs_value (whole l.p) (assignment l.s) l.node 0 l.graphs
