use Rattle.std.proofs.Common.{◌≡◌, drop}
use Rattle.ann_needs.specs.View.{whole}
use Rattle.ann_states.specs.Marked as spec
use Rattle.ann_states.proofs.marking.mark_ops.Given as goal

abbrev pub invariant-loop-op : goal.invariant-loop-op
invariant-loop-op l = spec.ops (whole l.p) l.g (drop l.op-index l.ops) l.marks ≡ spec.ops (whole l.p) l.g l.ops l.fn.marks
