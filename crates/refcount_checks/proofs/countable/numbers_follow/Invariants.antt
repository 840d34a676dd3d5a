use Rattle.std.proofs.Common.{◌≡◌, drop, Some}
use Rattle.refcount_transform.specs.Seen.{the_plan}
use Rattle.refcount_checks.specs.Countable as spec
use Rattle.refcount_checks.proofs.countable.numbers_follow.Given as goal

abbrev pub invariant-loop-op : goal.invariant-loop-op
invariant-loop-op l = spec.numbers_follow (the_plan l.plan) (Some l.before) (drop l.op-index l.rest) ≡ spec.numbers_follow (the_plan l.plan) (Some l.first) l.rest
