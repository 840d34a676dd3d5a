use Rattle.std.proofs.Common.{◌≡◌, ◌++◌, drop, map}
use Rattle.rtyper_op.specs.Constants.{char_cell}
use Rattle.rtyper_op.proofs.constant.text_cells.Given as goal

abbrev pub invariant-loop-byte : goal.invariant-loop-byte
invariant-loop-byte l = l.items ++ map char_cell (drop l.byte-index l.bytes) ≡ map char_cell l.bytes
