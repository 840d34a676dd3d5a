use Rattle.std.proofs.Common.{◌≡◌, ◌+◌, ◌++◌, drop}
use Rattle.class_desc.specs.Tables.{declared}
use Rattle.ann_layout.specs.Layout as spec
use Rattle.ann_layout.proofs.layout.named_row.Given as goal

abbrev pub invariant-loop-place : goal.invariant-loop-place
invariant-loop-place l = (l.next ≡ l.fn.next + l.place) × (l.row ++ spec.named_row l.next (drop l.place (declared l.classes l.class)) ≡ spec.named_row l.fn.next (declared l.classes l.class))
