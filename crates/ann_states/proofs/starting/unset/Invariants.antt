use Rattle.std.proofs.Common.{◌≡◌, replicate, false}
use Rattle.ann_states.proofs.starting.unset.Given as goal

abbrev pub invariant-loop-mark : goal.invariant-loop-mark
invariant-loop-mark l = l.marks ≡ replicate l._mark false
