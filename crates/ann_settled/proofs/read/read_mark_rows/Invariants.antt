use Rattle.std.proofs.Common.{◌≡◌, map, take}
use Rattle.ann_settled.specs.Read as spec
use Rattle.ann_settled.proofs.read.read_mark_rows.Given as goal

abbrev pub invariant-loop-row : goal.invariant-loop-row
invariant-loop-row l = l.lists ≡ map (spec.marks l.s) (take l.row-index l.rows)
