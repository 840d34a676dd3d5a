use Rattle.std.proofs.Common.{◌≡◌, drop}
use Rattle.ann_places.specs.Spots.{among, row_cells}
use Rattle.ann_shown.proofs.place.in_rows.Given as goal

abbrev pub invariant-loop-number : goal.invariant-loop-number
invariant-loop-number l = among l.cell (row_cells (drop l.number l.rows)) ≡ among l.cell (row_cells l.rows)
