use Rattle.std.proofs.Common.{◌≡◌, map, drop}
use Rattle.ann_lattice.specs.Shape.{shape}
use Rattle.ann_closed.specs.Met as spec
use Rattle.ann_closed.proofs.met.all_below.Given as goal

abbrev pub invariant-loop-x : goal.invariant-loop-x
invariant-loop-x l = spec.all_below l.classes.classes l.same (map shape (drop l.x-index l.xs)) (shape l.z) ≡ spec.all_below l.classes.classes l.same (map shape l.xs) (shape l.z)
