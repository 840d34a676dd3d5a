use Rattle.std.proofs.Common.{◌≡◌, ◌++◌, drop}
use Rattle.ann_rules.specs.Asks as rule
use Rattle.ann_needs.specs.View as spec
use Rattle.ann_needs.proofs.call.tie_with.Given as goal

abbrev pub invariant-loop-g : goal.invariant-loop-g
invariant-loop-g l = spec.seen l.asks ++ rule.from_each (rule.tie_two (spec.whole l.p) (spec.assignment l.s) l.received l.f) (drop l.g-index l.gs) ≡ spec.seen l.fn.asks ++ rule.from_each (rule.tie_two (spec.whole l.p) (spec.assignment l.s) l.received l.f) l.gs
