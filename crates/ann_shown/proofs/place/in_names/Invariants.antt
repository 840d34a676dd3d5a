use Rattle.std.proofs.Common.{◌≡◌, drop}
use Rattle.ann_places.specs.Spots.{among, named_cells}
use Rattle.ann_shown.proofs.place.in_names.Given as goal

abbrev pub invariant-loop-at : goal.invariant-loop-at
invariant-loop-at l = among l.cell (named_cells (drop l.at l.row)) ≡ among l.cell (named_cells l.row)
