use Rattle.std.proofs.Common.{◌≡◌, take}
use Rattle.ann_settled.specs.Read as spec
use Rattle.ann_settled.proofs.read.read_marks.Given as goal

abbrev pub invariant-loop-place : goal.invariant-loop-place
invariant-loop-place l = l.marks ≡ spec.marks l.s (take l.place-index l.row)
