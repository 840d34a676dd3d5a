use Rattle.std.proofs.Common.{◌≡◌, drop}
use Rattle.ann_places.specs.Spots.{among, op_cells}
use Rattle.ann_needs.specs.View.{whole}
use Rattle.ann_shown.proofs.place.in_ops.Given as goal

abbrev pub invariant-loop-at : goal.invariant-loop-at
invariant-loop-at l = among l.cell (op_cells (whole l.p) l.g (drop l.at l.ops)) ≡ among l.cell (op_cells (whole l.p) l.g l.ops)
