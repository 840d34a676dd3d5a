use Rattle.std.proofs.Common.{◌≡◌, drop}
use Rattle.ll_code.specs.Typed.{structs_ok}
use Rattle.ll_code.proofs.check.types.structs_ok.Given as goal

abbrev pub invariant-loop-i : goal.invariant-loop-i
invariant-loop-i l = structs_ok l.structs l.i (drop l.i l.structs) ≡ structs_ok l.structs 0 l.structs
