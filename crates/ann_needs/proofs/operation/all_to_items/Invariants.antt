use Rattle.std.proofs.Common.{◌≡◌, ◌++◌, drop, map}
use Rattle.ann_lattice.specs.Shape.{shape}
use Rattle.ann_rules.specs.Asks as rule
use Rattle.ann_needs.specs.View as spec
use Rattle.ann_needs.proofs.operation.all_to_items.Given as goal

abbrev pub invariant-loop-x : goal.invariant-loop-x
invariant-loop-x l = spec.seen l.asks ++ rule.from_each (rule.to_items (spec.whole l.p) (spec.assignment l.s) l.site) (map shape (drop l.x-index l.xs)) ≡ spec.seen l.fn.asks ++ rule.from_each (rule.to_items (spec.whole l.p) (spec.assignment l.s) l.site) (map shape l.xs)
