use Rattle.std.proofs.Common.{◌≡◌, ◌++◌, length}
use Rattle.refcount_transform.specs.Plan as p
use Rattle.refcount_transform.specs.Seen.{the_plan}
use Rattle.refcount_transform.proofs.plan.push_held.Given as goal

abbrev pub invariant-loop-rest : goal.invariant-loop-rest
invariant-loop-rest l = l.into ++ p.held_from (the_plan l.plan) l.n l.place l.rest ≡ l.initial.into ++ p.own_held (the_plan l.plan) l.n

abbrev pub decreases-loop-rest : goal.decreases-loop-rest
decreases-loop-rest l = length l.rest
