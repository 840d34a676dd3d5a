use Rattle.std.proofs.Common.{◌≡◌, drop}
use Rattle.ll_code.specs.Typed.{statics_ok}
use Rattle.ll_code.proofs.check.statics.statics_ok.Given as goal

abbrev pub invariant-loop-i : goal.invariant-loop-i
invariant-loop-i l = statics_ok l.program l.i (drop l.i l.statics) ≡ statics_ok l.program 0 l.statics
