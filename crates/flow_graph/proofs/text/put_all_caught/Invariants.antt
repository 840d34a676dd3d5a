use Rattle.std.proofs.Common.{◌≡◌, ◌++◌, take}
use Rattle.std.specs.List.{flat_map}
use Rattle.flow_graph.specs.GraphText.{caught}
use Rattle.flow_graph.proofs.text.put_all_caught.Given as goal

abbrev pub invariant-loop-caught : goal.invariant-loop-caught
invariant-loop-caught l = l.text ≡ l.initial.text ++ flat_map (caught l.classes) (take l.caught-index l.all)
