use Rattle.std.proofs.Common.{◌≡◌, ◌++◌, take}
use Rattle.std.specs.List.{flat_map}
use Rattle.flow_graph.specs.GraphText.{operation}
use Rattle.flow_graph.proofs.text.put_ops.Given as goal

abbrev pub invariant-loop-op : goal.invariant-loop-op
invariant-loop-op l = l.text ≡ l.initial.text ++ flat_map operation (take l.op-index l.ops)
