use Rattle.std.proofs.Common.{◌≡◌, drop}
use Rattle.ann_states.specs.Marked as spec
use Rattle.ann_states.proofs.marking.mark_rows.Given as goal

abbrev pub invariant-loop-row : goal.invariant-loop-row
invariant-loop-row l = spec.rows (drop l.row-index l.rows) l.marks ≡ spec.rows l.rows l.fn.marks
