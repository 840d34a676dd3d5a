use Rattle.std.proofs.Common.{◌≡◌, ◌++◌, drop, map}
use Rattle.refcount_transform.specs.Counted as spec
use Rattle.refcount_transform.specs.Seen.{the_plan}
use Rattle.refcount_transform.proofs.counted.statics_of.Given as goal

abbrev pub invariant-loop-item : goal.invariant-loop-item
invariant-loop-item l = l.made ++ map (spec.static_of (the_plan l.plan)) (drop l.item-index l.statics) ≡ map (spec.static_of (the_plan l.plan)) l.statics
