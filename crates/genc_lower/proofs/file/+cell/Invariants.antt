use Rattle.std.proofs.Common.{◌≡◌, ◌++◌, drop, map}
use Rattle.genc_lower.specs.Lower.{cell_code}
use Rattle.genc_lower.proofs.file.+cell.Given as goal

abbrev pub invariant-cells_of-loop-what : goal.invariant-cells_of-loop-what
invariant-cells_of-loop-what l = l.made ++ map (cell_code l.order) (drop l.what-index l.cells) ≡ map (cell_code l.order) l.cells
