use Rattle.std.proofs.Common.{◌≡◌, drop}
use Rattle.ann_needs.specs.View.{whole}
use Rattle.ann_settled.specs.Nodes as spec
use Rattle.ann_settled.proofs.node.put_graphs.Given as goal

abbrev pub invariant-loop-g : goal.invariant-loop-g
invariant-loop-g l = spec.put_graphs (whole l.p) l.s l.g (drop l.g l.graphs) l.nodes ≡ spec.put_graphs (whole l.p) l.s 0 l.graphs l.fn.nodes
