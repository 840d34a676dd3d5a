use Rattle.std.proofs.Common.{◌≡◌, ◌+◌, ◌++◌, drop, sum}
use Rattle.ann_layout.specs.Layout as spec
use Rattle.ann_layout.proofs.layout.rows.Given as goal

abbrev pub invariant-loop-count : goal.invariant-loop-count
invariant-loop-count l = (l.next + sum (drop l.count-index l.counts) ≡ l.fn.next + sum l.counts) × (l.all ++ spec.rows l.next (drop l.count-index l.counts) ≡ spec.rows l.fn.next l.counts)
