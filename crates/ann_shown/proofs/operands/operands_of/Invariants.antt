use Rattle.std.proofs.Common.{◌≡◌, take, map}
use Rattle.ann_lattice.specs.Shape.{shape}
use Rattle.ann_rules.specs.Rules.{value}
use Rattle.ann_needs.specs.View.{assignment, whole}
use Rattle.ann_shown.proofs.operands.operands_of.Given as goal

abbrev pub invariant-loop-v : goal.invariant-loop-v
invariant-loop-v l = map shape l.xs ≡ map (value (whole l.p) (assignment l.s) l.g) (take l.v-index l.op.args)
