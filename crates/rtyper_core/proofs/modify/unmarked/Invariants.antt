use Rattle.std.proofs.Common.{◌≡◌, replicate, false}
use Rattle.rtyper_core.proofs.modify.unmarked.Given as goal

abbrev pub invariant-loop-place : goal.invariant-loop-place
invariant-loop-place l = l.marks ≡ replicate l._place false
