use Rattle.std.proofs.Common.{◌≡◌, drop}
use Rattle.ll_code.specs.Typed.{are_types}
use Rattle.ll_code.proofs.check.types.are_types.Given as goal

abbrev pub invariant-loop-kind : goal.invariant-loop-kind
invariant-loop-kind l = are_types l.structs (drop l.kind-index l.kinds) ≡ are_types l.structs l.kinds
