use Rattle.std.proofs.Common.{◌≡◌, drop}
use Rattle.rpy_nodes.specs.Walk.{further}
use Rattle.rpy_nodes.proofs.statement.walk_further.Given as goal

abbrev pub invariant-loop-name : goal.invariant-loop-name
invariant-loop-name l = further (drop l.name-index l.names) l.walk ≡ further l.names l.fn.walk
