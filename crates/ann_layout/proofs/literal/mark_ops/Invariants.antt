use Rattle.std.proofs.Common.{◌≡◌, drop}
use Rattle.ann_layout.specs.Literals as spec
use Rattle.ann_layout.proofs.literal.mark_ops.Given as goal

abbrev pub invariant-loop-op : goal.invariant-loop-op
invariant-loop-op l = spec.with_ops l.ops l.passed l.inputs (drop l.op-index l.to) l.marks ≡ spec.with_ops l.ops l.passed l.inputs l.to l.fn.marks
