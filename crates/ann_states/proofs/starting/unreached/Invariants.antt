use Rattle.std.proofs.Common.{◌≡◌, map, replicate}
use Rattle.ann_lattice.specs.Shape.{shape, Nothing}
use Rattle.ann_states.proofs.starting.unreached.Given as goal

abbrev pub invariant-loop-cell : goal.invariant-loop-cell
invariant-loop-cell l = map shape l.cells ≡ replicate l._cell Nothing
