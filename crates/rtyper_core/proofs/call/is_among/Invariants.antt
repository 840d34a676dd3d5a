use Rattle.std.proofs.Common.{◌≡◌, drop}
use Rattle.rtyper_core.specs.Call.{is_among}
use Rattle.rtyper_core.proofs.call.is_among.Given as goal

abbrev pub invariant-loop-other : goal.invariant-loop-other
invariant-loop-other l = is_among (drop l.other-index l.functions) l.function ≡ is_among l.functions l.function
