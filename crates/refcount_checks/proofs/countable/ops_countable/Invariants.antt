use Rattle.std.proofs.Common.{◌≡◌, drop}
use Rattle.refcount_transform.specs.Seen.{the_plan}
use Rattle.refcount_checks.specs.Countable as spec
use Rattle.refcount_checks.proofs.countable.ops_countable.Given as goal

abbrev pub invariant-loop-op : goal.invariant-loop-op
invariant-loop-op l = spec.ops_countable (the_plan l.plan) l.graphs l.kinds (drop l.op-index l.ops) ≡ spec.ops_countable (the_plan l.plan) l.graphs l.kinds l.ops
