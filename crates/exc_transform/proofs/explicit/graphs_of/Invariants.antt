use Rattle.std.proofs.Common.{◌≡◌, ◌++◌, drop, map}
use Rattle.exc_transform.specs.Pieces.{graph_with}
use Rattle.exc_transform.proofs.explicit.graphs_of.Given as goal

abbrev pub invariant-loop-graph : goal.invariant-loop-graph
invariant-loop-graph l = l.made ++ map (graph_with l.family l.raising.graphs.now l.raising.any) (drop l.graph-index l.graphs) ≡ map (graph_with l.family l.raising.graphs.now l.raising.any) l.graphs
