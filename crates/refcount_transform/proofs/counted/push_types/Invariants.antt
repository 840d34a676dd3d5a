use Rattle.std.proofs.Common.{◌≡◌, ◌++◌, drop}
use Rattle.refcount_transform.proofs.counted.push_types.Given as goal

abbrev pub invariant-loop-kind : goal.invariant-loop-kind
invariant-loop-kind l = l.into ++ drop l.kind-index l.kinds ≡ l.initial.into ++ l.kinds
