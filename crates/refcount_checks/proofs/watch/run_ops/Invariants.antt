use Rattle.std.proofs.Common.{◌≡◌, drop}
use Rattle.refcount_checks.specs.Watch as spec
use Rattle.refcount_checks.proofs.watch.run_ops.Given as goal

abbrev pub invariant-loop-op : goal.invariant-loop-op
invariant-loop-op l = spec.run_ops (drop l.op-index l.ops) l.w ≡ spec.run_ops l.ops l.initial.w
