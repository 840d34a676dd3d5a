use Rattle.std.proofs.Common.{◌≡◌, ◌++◌, drop}
use Rattle.refcount_transform.specs.Plan as p
use Rattle.refcount_transform.specs.Seen.{the_plan}
use Rattle.refcount_transform.proofs.plan.held_of.Given as goal

abbrev pub invariant-loop : goal.invariant-loop
invariant-loop l = l.held ++ p.held_within (the_plan l.plan) (drop l.index l.plan.structs.now) l.at ≡ p.held_of (the_plan l.plan) l.n
