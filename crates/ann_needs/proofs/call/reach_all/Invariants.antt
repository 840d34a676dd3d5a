use Rattle.std.proofs.Common.{◌≡◌, ◌++◌, drop, map}
use Rattle.ann_lattice.specs.Shape.{shape}
use Rattle.ann_rules.specs.Asks as rule
use Rattle.ann_needs.specs.View as spec
use Rattle.ann_needs.proofs.call.reach_all.Given as goal

abbrev pub invariant-loop-f : goal.invariant-loop-f
invariant-loop-f l = spec.seen l.asks ++ rule.from_each (λ f. rule.reach (spec.whole l.p) f (map shape l.xs)) (drop l.f-index l.fs) ≡ spec.seen l.fn.asks ++ rule.from_each (λ f. rule.reach (spec.whole l.p) f (map shape l.xs)) l.fs
