use Rattle.std.proofs.Common.{◌≡◌, take}
use Rattle.rtyper_core.proofs.call.copied.Given as goal

abbrev pub invariant-loop-function : goal.invariant-loop-function
invariant-loop-function l = l.copies ≡ take l.function-index l.functions
