use Rattle.std.proofs.Common.{◌≡◌, drop}
use Rattle.ann_places.specs.Spots.{among, block_cells}
use Rattle.ann_needs.specs.View.{whole}
use Rattle.ann_shown.proofs.place.in_blocks.Given as goal

abbrev pub invariant-loop-number : goal.invariant-loop-number
invariant-loop-number l = among l.cell (block_cells (whole l.p) l.g (drop l.number l.blocks)) ≡ among l.cell (block_cells (whole l.p) l.g l.blocks)
