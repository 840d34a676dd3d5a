use Rattle.std.proofs.Common.{◌≡◌, ◌+◌, drop}
use Rattle.refcount_transform.specs.Plan as p
use Rattle.refcount_transform.proofs.plan.references_in.Given as goal

abbrev pub invariant-loop-kind : goal.invariant-loop-kind
invariant-loop-kind l = l.count + p.references_in l.counted (drop l.kind-index l.kinds) ≡ p.references_in l.counted l.kinds
