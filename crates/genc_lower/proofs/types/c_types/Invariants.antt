use Rattle.std.proofs.Common.{◌≡◌, ◌++◌, drop, map}
use Rattle.ll_code.specs.Machine.{c_type}
use Rattle.genc_lower.proofs.types.c_types.Given as goal

abbrev pub invariant-loop-kind : goal.invariant-loop-kind
invariant-loop-kind l = l.types ++ map (c_type) (drop l.kind-index l.kinds) ≡ map (c_type) l.kinds
