use Rattle.std.proofs.Common.{◌≡◌, drop}
use Rattle.ll_points.specs.Agrees as spec
use Rattle.refcount_checks.proofs.slots.slots_in.Given as goal

abbrev pub invariant-loop-op : goal.invariant-loop-op
invariant-loop-op l = spec.slots_in l.kinds (drop l.op-index l.ops) ≡ spec.slots_in l.kinds l.ops
