use Rattle.std.proofs.Common.{◌≡◌, ◌++◌, ◌∷◌, drop, map, false}
use Rattle.ann_lattice.specs.Shape.{Inst, shape}
use Rattle.ann_rules.specs.Asks as rule
use Rattle.ann_needs.specs.View as spec
use Rattle.ann_needs.proofs.call.reach_methods.Given as goal

abbrev pub invariant-loop-method : goal.invariant-loop-method
invariant-loop-method l = spec.seen l.asks ++ rule.from_each (λ f. rule.reach (spec.whole l.p) f.1 (Inst f.0 false ∷ map shape l.xs)) (drop l.method-index l.methods) ≡ spec.seen l.fn.asks ++ rule.from_each (λ f. rule.reach (spec.whole l.p) f.1 (Inst f.0 false ∷ map shape l.xs)) l.methods
