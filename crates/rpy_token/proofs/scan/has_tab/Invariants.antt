use Rattle.std.proofs.Common.{◌≡◌, drop}
use Rattle.rpy_token.specs.Indents.{has_tab}
use Rattle.rpy_token.proofs.scan.has_tab.Given as goal

abbrev pub invariant-loop-b : goal.invariant-loop-b
invariant-loop-b l = has_tab l.bytes ≡ has_tab (drop l.b-index l.bytes)
