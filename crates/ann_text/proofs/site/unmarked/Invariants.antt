use Rattle.std.proofs.Common.{◌≡◌, replicate, false}
use Rattle.ann_text.proofs.site.unmarked.Given as goal

abbrev pub invariant-loop-place : goal.invariant-loop-place
invariant-loop-place l = l.marks ≡ replicate l._place false
