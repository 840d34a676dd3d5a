use Rattle.std.proofs.Common.{◌≡◌, ◌++◌, drop}
use Rattle.ll_helpers.specs.Print.{puts}
use Rattle.ll_helpers.proofs.print.puts.Given as goal

abbrev pub invariant-loop-byte : goal.invariant-loop-byte
invariant-loop-byte l = l.ops ++ puts (drop l.byte-index l.text) ≡ puts l.text
