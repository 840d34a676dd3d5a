use Rattle.std.proofs.Common.{◌≡◌, ◌<◌, take}
use Rattle.rpy_tree.specs.Places.{node_count}
use Rattle.rpy_checked.proofs.program.has_few_nodes.Given as goal

abbrev pub invariant-loop-module : goal.invariant-loop-module
invariant-loop-module l = (l.count ≡ node_count (take l.module-index l.modules)) × (l.count < 4294967296)
