use Rattle.std.proofs.Common.{◌≡◌, drop}
use Rattle.csub_tree.specs.Checked.{is_name}
use Rattle.ll_code.proofs.check.graphs.is_name.Given as goal

abbrev pub invariant-loop-byte : goal.invariant-loop-byte
invariant-loop-byte l = is_name (drop l.byte-index l.bytes) ≡ is_name l.bytes
