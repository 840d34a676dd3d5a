use Rattle.std.proofs.Common.{◌≡◌, drop}
use Rattle.refcount_transform.specs.Marks as m
use Rattle.refcount_transform.proofs.plan.mark_ops.Given as goal

abbrev pub invariant-loop-op : goal.invariant-loop-op
invariant-loop-op l = m.mark_ops l.structs (drop l.op-index l.ops) l.marks ≡ m.mark_ops l.structs l.ops l.initial.marks
