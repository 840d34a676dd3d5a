use Rattle.std.proofs.Common.{◌≡◌, drop}
use Rattle.exc_transform.specs.Explicit.{graphs_calm}
use Rattle.exc_transform.proofs.calm.graphs_calm.Given as goal

abbrev pub invariant-loop-graph : goal.invariant-loop-graph
invariant-loop-graph l = graphs_calm (drop l.graph-index l.graphs) ≡ graphs_calm l.graphs
