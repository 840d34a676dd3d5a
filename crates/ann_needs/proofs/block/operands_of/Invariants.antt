use Rattle.std.proofs.Common.{◌≡◌, map, take}
use Rattle.ann_lattice.specs.Shape.{shape}
use Rattle.ann_rules.specs.Rules as rule
use Rattle.ann_needs.specs.View as spec
use Rattle.ann_needs.proofs.block.operands_of.Given as goal

abbrev pub invariant-loop-v : goal.invariant-loop-v
invariant-loop-v l = map shape l.xs ≡ map (rule.value (spec.whole l.p) (spec.assignment l.s) l.g) (take l.v-index l.args)
