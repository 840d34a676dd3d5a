use Rattle.std.proofs.Common.{◌≡◌, drop}
use Rattle.ann_states.specs.Marked as spec
use Rattle.ann_states.proofs.marking.mark_row.Given as goal

abbrev pub invariant-loop-cell : goal.invariant-loop-cell
invariant-loop-cell l = spec.row (drop l.cell-index l.row) l.marks ≡ spec.row l.row l.fn.marks
