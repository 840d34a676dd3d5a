use Rattle.std.proofs.Common.{◌≡◌, ◌++◌, drop}
use Rattle.ann_rules.specs.Asks as rule
use Rattle.ann_needs.specs.View as spec
use Rattle.ann_needs.proofs.call.put_initials.Given as goal

abbrev pub invariant-loop-initial : goal.invariant-loop-initial
invariant-loop-initial l = spec.seen l.asks ++ rule.from_each (rule.initial_needs (spec.whole l.p)) (drop l.initial-index l.initials) ≡ spec.seen l.fn.asks ++ rule.from_each (rule.initial_needs (spec.whole l.p)) l.initials
