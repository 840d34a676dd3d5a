use Rattle.std.proofs.Common.{◌≡◌, drop}
use Rattle.ann_needs.specs.View.{assignment, whole}
use Rattle.ann_shown.specs.Operands as spec
use Rattle.ann_shown.proofs.operands.ops_value.Given as goal

abbrev pub invariant-loop-op : goal.invariant-loop-op
invariant-loop-op l = spec.ops_value (whole l.p) (assignment l.s) l.node l.g (drop l.op-index l.ops) ≡ spec.ops_value (whole l.p) (assignment l.s) l.node l.g l.ops
