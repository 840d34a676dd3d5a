use Rattle.std.proofs.Common.{◌≡◌, length}
use Rattle.flow_graph.specs.Whole.{CountFrom}
use Rattle.flow_space.specs.Placed.{GraphsAt}
use Rattle.flow_space.proofs.whole.graphs_of.Given as goal

abbrev pub invariant-loop-function : goal.invariant-loop-function
invariant-loop-function l = CountFrom 0 l.graphs × (length l.graphs ≡ l.function-index) × GraphsAt l.resolved l.resolved.functions l.graphs
