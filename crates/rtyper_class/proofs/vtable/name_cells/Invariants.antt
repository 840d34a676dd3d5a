use Rattle.std.proofs.Common.{◌≡◌, ◌++◌, drop, map}
use Rattle.rtyper_op.specs.Constants.{char_cell}
use Rattle.rtyper_class.specs.Vtables.{name_cells}
use Rattle.rtyper_class.proofs.vtable.name_cells.Given as goal

abbrev pub invariant-loop-byte : goal.invariant-loop-byte
invariant-loop-byte l = l.cells ++ map char_cell (drop l.byte-index l.byte-items) ≡ name_cells l.program l.class
