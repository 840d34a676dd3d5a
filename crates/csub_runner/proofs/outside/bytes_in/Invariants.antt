use Rattle.std.proofs.Common.{◌≡◌, drop}
use Rattle.csub_tree.specs.Statement.{bytes_of}
use Rattle.csub_runner.specs.Erased.{erase_all}
use Rattle.csub_runner.proofs.Bytes.{behind}
use Rattle.csub_runner.proofs.outside.bytes_in.Given as goal

abbrev pub invariant-loop-item : goal.invariant-loop-item
invariant-loop-item l = bytes_of (erase_all l.items.items) ≡ behind l.bytes (bytes_of (erase_all (drop l.item-index l.items.items)))
