use Rattle.std.proofs.Common.{◌≡◌, map, drop}
use Rattle.ann_lattice.specs.Shape.{shape}
use Rattle.ann_lattice.specs.Assign.{meet, Up}
use Rattle.ann_needs.specs.View.{assignment}
use Rattle.ann_meets.proofs.meet.raise_all.Given as goal

abbrev pub invariant-loop-e : goal.invariant-loop-e
invariant-loop-e l =
    meet l.classes.classes (Up l.cell (map shape (drop l.e-index l.es))) (assignment l.s) ≡ meet l.classes.classes (Up l.cell (map shape l.es)) (assignment l.fn.s)
