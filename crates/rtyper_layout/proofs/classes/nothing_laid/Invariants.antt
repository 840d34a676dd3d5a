use Rattle.std.proofs.Common.{◌≡◌, replicate, None}
use Rattle.rtyper_layout.proofs.classes.nothing_laid.Given as goal

abbrev pub invariant-loop-filled : goal.invariant-loop-filled
invariant-loop-filled l = l.laid ≡ replicate l.filled None
