use Rattle.std.proofs.Common.{◌≡◌, drop}
use Rattle.ann_places.specs.Spots.{among}
use Rattle.ann_shown.proofs.place.in_row.Given as goal

abbrev pub invariant-loop-at : goal.invariant-loop-at
invariant-loop-at l = among l.cell (drop l.at l.row) ≡ among l.cell l.row
