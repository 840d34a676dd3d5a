use Rattle.std.proofs.Common.{◌≡◌, ◌++◌, drop, map}
use Rattle.refcount_transform.specs.Blocks as b
use Rattle.refcount_transform.specs.Seen.{the_plan}
use Rattle.refcount_transform.proofs.counted.graphs_of.Given as goal

abbrev pub invariant-loop-graph : goal.invariant-loop-graph
invariant-loop-graph l = l.made ++ map (b.graph_of (the_plan l.plan)) (drop l.graph-index l.graphs) ≡ map (b.graph_of (the_plan l.plan)) l.graphs
