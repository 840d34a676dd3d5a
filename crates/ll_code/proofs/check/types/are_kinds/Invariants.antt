use Rattle.std.proofs.Common.{◌≡◌, drop}
use Rattle.ll_code.specs.Typed.{are_kinds}
use Rattle.ll_code.proofs.check.types.are_kinds.Given as goal

abbrev pub invariant-loop-kind : goal.invariant-loop-kind
invariant-loop-kind l = are_kinds l.structs (drop l.kind-index l.kinds) ≡ are_kinds l.structs l.kinds
