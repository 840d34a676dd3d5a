use Rattle.std.proofs.Common.{◌≡◌, ◌++◌, drop}
use Rattle.ann_rules.specs.Asks as rule
use Rattle.ann_needs.specs.View as spec
use Rattle.ann_needs.proofs.call.tie_each.Given as goal

abbrev pub invariant-loop-f : goal.invariant-loop-f
invariant-loop-f l = spec.seen l.asks ++ rule.tie_each (spec.whole l.p) (spec.assignment l.s) l.received (drop l.f-index l.fs) l.gs ≡ spec.seen l.fn.asks ++ rule.tie_each (spec.whole l.p) (spec.assignment l.s) l.received l.fs l.gs
