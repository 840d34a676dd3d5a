use Rattle.std.proofs.Common.{◌≡◌, ◌++◌, take}
use Rattle.std.specs.List.{flat_map}
use Rattle.flow_graph.specs.GraphText.{further}
use Rattle.flow_graph.proofs.text.put_all_further.Given as goal

abbrev pub invariant-loop-variable : goal.invariant-loop-variable
invariant-loop-variable l = l.text ≡ l.initial.text ++ flat_map further (take l.variable-index l.variables)
