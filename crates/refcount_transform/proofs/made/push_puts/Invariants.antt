use Rattle.std.proofs.Common.{◌≡◌, ◌++◌, drop, map}
use Rattle.refcount_transform.specs.Made as m
use Rattle.refcount_transform.specs.Plan as p
use Rattle.refcount_transform.specs.Seen.{the_plan}
use Rattle.refcount_transform.proofs.made.push_puts.Given as goal

abbrev pub invariant-loop-field : goal.invariant-loop-field
invariant-loop-field l = l.into ++ map (m.put_graph (the_plan l.plan)) (drop l.field-index l.field-items) ≡ l.initial.into ++ map (m.put_graph (the_plan l.plan)) (p.own_held (the_plan l.plan) l.n)
