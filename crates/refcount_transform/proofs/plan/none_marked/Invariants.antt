use Rattle.std.proofs.Common.{◌≡◌, ◌++◌, drop, map}
use Rattle.refcount_transform.specs.Marks as m
use Rattle.std.specs.Prelude.{false}
use Rattle.refcount_transform.proofs.plan.none_marked.Given as goal

abbrev pub invariant-loop : goal.invariant-loop
invariant-loop l = l.marks ++ map (λ s. false) (drop l.index l.structs) ≡ m.none_marked l.structs
