use Rattle.std.proofs.Common.{◌≡◌, drop}
use Rattle.ann_states.specs.Marked as spec
use Rattle.ann_states.proofs.marking.mark_named.Given as goal

abbrev pub invariant-loop-entry : goal.invariant-loop-entry
invariant-loop-entry l = spec.named (drop l.entry-index l.row) l.marks ≡ spec.named l.row l.fn.marks
