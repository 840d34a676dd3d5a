use Rattle.std.proofs.Common.{◌≡◌, drop}
use Rattle.ann_states.specs.Marked as spec
use Rattle.ann_states.proofs.marking.mark_all_named.Given as goal

abbrev pub invariant-loop-row : goal.invariant-loop-row
invariant-loop-row l = spec.all_named (drop l.row-index l.rows) l.marks ≡ spec.all_named l.rows l.fn.marks
