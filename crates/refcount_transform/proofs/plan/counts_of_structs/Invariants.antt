use Rattle.std.proofs.Common.{◌≡◌, ◌++◌, length}
use Rattle.refcount_transform.specs.Plan as p
use Rattle.refcount_transform.proofs.plan.counts_of_structs.Given as goal

abbrev pub invariant-loop-rest : goal.invariant-loop-rest
invariant-loop-rest l = l.made ++ p.counts_behind l.counted l.n l.next l.rest ≡ p.counts_behind l.counted 0 l.first l.structs

abbrev pub decreases-loop-rest : goal.decreases-loop-rest
decreases-loop-rest l = length l.rest
