use Rattle.std.proofs.Common.{◌≡◌, drop}
use Rattle.rtyper_core.specs.Call.{take_alike}
use Rattle.rtyper_core.proofs.call.take_alike.Given as goal

abbrev pub invariant-loop-function : goal.invariant-loop-function
invariant-loop-function l = take_alike l.arities (drop l.function-index l.functions) l.given ≡ take_alike l.arities l.functions l.given
