use Rattle.std.proofs.Common.{◌≡◌, ◌++◌, drop}
use Rattle.ann_needs.specs.View as spec
use Rattle.ann_needs.proofs.function.tie_each.Given as goal

abbrev pub invariant-loop-one : goal.invariant-loop-one
invariant-loop-one l = spec.seen l.asks ++ spec.tie_each (spec.whole l.p) (spec.assignment l.s) l.g (drop l.one-index l.ones) l.others ≡ spec.seen l.fn.asks ++ spec.tie_each (spec.whole l.p) (spec.assignment l.s) l.g l.ones l.others
