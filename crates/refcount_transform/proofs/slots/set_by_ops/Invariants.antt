use Rattle.std.proofs.Common.{◌≡◌, drop}
use Rattle.refcount_transform.specs.Plan as p
use Rattle.refcount_transform.proofs.slots.set_by_ops.Given as goal

abbrev pub invariant-loop-op : goal.invariant-loop-op
invariant-loop-op l = p.set_by_ops (drop l.op-index l.ops) ≡ p.set_by_ops l.ops
