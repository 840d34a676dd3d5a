use Rattle.std.proofs.Common.{◌≡◌, ◌++◌, map, drop}
use Rattle.ann_lattice.specs.Shape.{shape}
use Rattle.ann_rules.specs.Rules as rule
use Rattle.ann_needs.specs.View as spec
use Rattle.ann_needs.proofs.block.add_pieces.Given as goal

abbrev pub invariant-loop-part : goal.invariant-loop-part
invariant-loop-part l = map shape l.list ++ rule.pieces_for (spec.whole l.p) (spec.assignment l.s) l.g l.op (map shape l.xs) (map shape (drop l.part-index l.parts)) ≡ map shape l.fn.list ++ rule.pieces_for (spec.whole l.p) (spec.assignment l.s) l.g l.op (map shape l.xs) (map shape l.parts)
