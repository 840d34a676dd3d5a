use Rattle.std.proofs.Common.{◌≡◌, ◌++◌, drop, map}
use Rattle.ll_joined.specs.Joined.{joined_graph}
use Rattle.ll_joined.proofs.join.joined_graphs.Given as goal

abbrev pub invariant-loop-graph : goal.invariant-loop-graph
invariant-loop-graph l = l.all ++ map joined_graph (drop l.graph-index l.graphs) ≡ map joined_graph l.graphs
