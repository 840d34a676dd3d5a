use Rattle.std.proofs.Common.{◌≡◌, ◌++◌, map, drop}
use Rattle.ann_lattice.specs.Shape.{shape}
use Rattle.ann_needs.proofs.block.add_all.Given as goal

abbrev pub invariant-loop-e : goal.invariant-loop-e
invariant-loop-e l = map shape l.list ++ map shape (drop l.e-index l.more) ≡ map shape l.fn.list ++ map shape l.more
