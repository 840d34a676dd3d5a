use Rattle.std.proofs.Common.{◌≡◌, map, take}
use Rattle.ann_layout.specs.Layout as spec
use Rattle.ann_layout.proofs.layout.block_counts.Given as goal

abbrev pub invariant-loop-graph : goal.invariant-loop-graph
invariant-loop-graph l = l.counts ≡ map spec.block_count (take l.graph-index l.graphs)
