use Rattle.std.proofs.Common.{◌≡◌, ◌++◌, drop}
use Rattle.ann_needs.specs.View as spec
use Rattle.ann_needs.proofs.function.tie_with.Given as goal

abbrev pub invariant-loop-other : goal.invariant-loop-other
invariant-loop-other l = spec.seen l.asks ++ spec.tie_with (spec.whole l.p) (spec.assignment l.s) l.g l.one (drop l.other-index l.others) ≡ spec.seen l.fn.asks ++ spec.tie_with (spec.whole l.p) (spec.assignment l.s) l.g l.one l.others
