use Rattle.std.proofs.Common.{◌≡◌, ◌++◌, drop, map}
use Rattle.ll_helpers.specs.Statics.{byte_cell}
use Rattle.ll_helpers.proofs.statics.bytes_of.Given as goal

abbrev pub invariant-loop-byte : goal.invariant-loop-byte
invariant-loop-byte l = l.made ++ map byte_cell (drop l.byte-index l.text) ≡ map byte_cell l.text
