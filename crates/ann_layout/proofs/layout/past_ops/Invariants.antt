use Rattle.std.proofs.Common.{◌≡◌, drop}
use Rattle.ann_layout.specs.Layout as spec
use Rattle.ann_layout.proofs.layout.past_ops.Given as goal

abbrev pub invariant-loop-op : goal.invariant-loop-op
invariant-loop-op l = spec.past_ops (drop l.op-index l.ops) l.most ≡ spec.past_ops l.ops l.fn.most
