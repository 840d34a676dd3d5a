use Rattle.std.proofs.Common.{◌≡◌, drop}
use Rattle.exc_transform.specs.Families.{in_graphs}
use Rattle.exc_transform.proofs.family.in_graphs.Given as goal

abbrev pub invariant-loop-graph : goal.invariant-loop-graph
invariant-loop-graph l = in_graphs (drop l.graph-index l.graphs) ≡ in_graphs l.graphs
