use Rattle.std.proofs.Common.{◌≡◌, take}
use Rattle.std.specs.List.{flat_map}
use Rattle.flow_graph.specs.declared.variable.Search.TheVariants.{Left}
use Rattle.flow_graph.specs.Values as spec
use Rattle.flow_graph.proofs.graph.Graphs.variable_of.Given as goal

abbrev pub invariant-loop-graph : goal.invariant-loop-graph
invariant-loop-graph l = l.search ≡ spec.sought (Left l.i) (flat_map (spec.values_in l.node) (take l.graph-index l.self.graphs))
