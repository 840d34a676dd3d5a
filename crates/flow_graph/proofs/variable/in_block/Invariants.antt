use Rattle.std.proofs.Common.{◌≡◌, take}
use Rattle.std.specs.List.{flat_map}
use Rattle.flow_graph.specs.Values as spec
use Rattle.flow_graph.proofs.variable.in_block.Given as goal

abbrev pub invariant-loop-op : goal.invariant-loop-op
invariant-loop-op l = l.search ≡ spec.sought l.initial.search (flat_map (spec.value_of l.node) (take l.op-index l.block.ops))
