use Rattle.std.proofs.Common.{◌≡◌, ◌++◌, length}
use Rattle.refcount_transform.specs.Made as m
use Rattle.refcount_transform.specs.Seen.{the_plan}
use Rattle.refcount_transform.proofs.made.push_structs.Given as goal

abbrev pub invariant-loop-rest : goal.invariant-loop-rest
invariant-loop-rest l = l.into ++ m.made_from (the_plan l.plan) l.n l.rest ≡ l.initial.into ++ m.made_from (the_plan l.plan) 0 l.plan.structs.now

abbrev pub decreases-loop-rest : goal.decreases-loop-rest
decreases-loop-rest l = length l.rest
