use Rattle.std.proofs.Common.{◌≡◌, replicate, false}
use Rattle.rtyper_layout.proofs.classes.falses.Given as goal

abbrev pub invariant-loop-filled : goal.invariant-loop-filled
invariant-loop-filled l = l.marks ≡ replicate l.filled false
