use Rattle.std.proofs.Common.{◌≡◌, take}
use Rattle.rtyper_layout.proofs.layout.copy_types.Given as goal

abbrev pub invariant-loop-each : goal.invariant-loop-each
invariant-loop-each l = l.types ≡ take l.each-index l.shape
