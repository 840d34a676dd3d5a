use Rattle.std.proofs.Common.{◌≡◌, replicate}
use Rattle.class_desc.proofs.range.zeros.Given as goal

abbrev pub invariant-loop-place : goal.invariant-loop-place
invariant-loop-place l = l.counts ≡ replicate l._place 0
