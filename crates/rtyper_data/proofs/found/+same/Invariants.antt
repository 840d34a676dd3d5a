use Rattle.std.proofs.Common.{◌≡◌, drop}
use Rattle.rtyper_data.specs.Finding.{same_cells}
use Rattle.rtyper_data.proofs.found.+same.Given as goal

abbrev pub invariant-are_same_cells-loop-x : goal.invariant-are_same_cells-loop-x
invariant-are_same_cells-loop-x l = same_cells (drop l.x-index l.xs) l.rest ≡ same_cells l.xs l.initial.rest
