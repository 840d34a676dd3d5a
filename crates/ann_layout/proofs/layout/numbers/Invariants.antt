use Rattle.std.proofs.Common.{◌≡◌, ◌+◌, ◌-◌, ◌++◌}
use Rattle.ann_layout.specs.Layout as spec
use Rattle.ann_layout.proofs.layout.numbers.Given as goal

abbrev pub invariant-loop-place : goal.invariant-loop-place
invariant-loop-place l = (l.next ≡ l.fn.next + l._place) × (l.row ++ spec.numbers l.next (l.count - l._place) ≡ spec.numbers l.fn.next l.count)
