use Rattle.std.proofs.Common.{◌≡◌, ◌++◌, drop, map}
use Rattle.ll_code.specs.Machine.{c_type}
use Rattle.genc_lower.proofs.types.push_types.Given as goal

abbrev pub invariant-loop-kind : goal.invariant-loop-kind
invariant-loop-kind l = l.into ++ map (c_type) (drop l.kind-index l.kinds) ≡ l.initial.into ++ map (c_type) l.kinds
