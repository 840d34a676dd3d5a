use Rattle.std.proofs.Common.{◌≡◌, ◌+◌, replicate, None}
use Rattle.rtyper_layout.proofs.classes.no_classes.Given as goal

abbrev pub invariant-loop-filled : goal.invariant-loop-filled
invariant-loop-filled l = l.order ≡ replicate (l.filled + 1) None
