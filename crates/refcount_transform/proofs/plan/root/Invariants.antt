use Rattle.std.proofs.Common.{◌≡◌, drop}
use Rattle.refcount_transform.specs.Plan as p
use Rattle.refcount_transform.proofs.plan.root.Given as goal

abbrev pub invariant-loop : goal.invariant-loop
invariant-loop l = p.root_within l.structs (drop l.index l.structs) l.at ≡ p.root l.structs l.n
