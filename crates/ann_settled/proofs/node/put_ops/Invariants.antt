use Rattle.std.proofs.Common.{◌≡◌, drop}
use Rattle.ann_needs.specs.View.{whole}
use Rattle.ann_settled.specs.Nodes as spec
use Rattle.ann_settled.proofs.node.put_ops.Given as goal

abbrev pub invariant-loop-op : goal.invariant-loop-op
invariant-loop-op l = spec.put_ops (whole l.p) l.s l.g (drop l.op-index l.ops) l.nodes ≡ spec.put_ops (whole l.p) l.s l.g l.ops l.fn.nodes
