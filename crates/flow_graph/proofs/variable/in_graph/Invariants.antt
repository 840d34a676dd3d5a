use Rattle.std.proofs.Common.{◌≡◌, take}
use Rattle.std.specs.List.{flat_map}
use Rattle.flow_graph.specs.Values as spec
use Rattle.flow_graph.proofs.variable.in_graph.Given as goal

abbrev pub invariant-loop-block : goal.invariant-loop-block
invariant-loop-block l = l.search ≡ spec.sought l.initial.search (flat_map (spec.values_of l.node) (take l.block-index l.graph.blocks))
