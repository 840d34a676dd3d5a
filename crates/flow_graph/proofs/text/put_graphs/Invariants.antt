use Rattle.std.proofs.Common.{◌≡◌, ◌++◌, take}
use Rattle.std.specs.List.{flat_map}
use Rattle.flow_graph.specs.GraphText.{graph_text}
use Rattle.flow_graph.proofs.text.put_graphs.Given as goal

abbrev pub invariant-loop-graph : goal.invariant-loop-graph
invariant-loop-graph l = l.text ≡ l.initial.text ++ flat_map (graph_text l.functions l.classes) (take l.graph-index l.graphs)
