use Rattle.std.proofs.Common.{◌≡◌, drop}
use Rattle.ll_points.specs.Agrees as spec
use Rattle.refcount_checks.proofs.slots.ops_agree.Given as goal

abbrev pub invariant-loop-op : goal.invariant-loop-op
invariant-loop-op l = spec.ops_agree l.slots l.kinds (drop l.op-index l.ops) ≡ spec.ops_agree l.slots l.kinds l.ops
