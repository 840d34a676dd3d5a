use Rattle.std.proofs.Common.{◌≡◌, ◌++◌, drop, map}
use Rattle.ann_rules.specs.Asks as rule
use Rattle.ann_needs.specs.View as spec
use Rattle.ann_needs.proofs.constant.+load.Given as goal

abbrev pub invariant-load_all-loop-part : goal.invariant-load_all-loop-part
invariant-load_all-loop-part l = spec.seen l.asks ++ rule.from_each (λ needs. needs) (map (rule.loads (spec.whole l.p)) (drop l.part-index l.parts)) ≡ spec.seen l.fn.asks ++ rule.from_each (λ needs. needs) (map (rule.loads (spec.whole l.p)) l.parts)
