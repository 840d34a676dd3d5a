use Rattle.std.proofs.Common.{◌≡◌, ◌++◌, drop}
use Rattle.ll_helpers.specs.Helpers.{shared_graphs}
use Rattle.ll_helpers.proofs.whole.push_shared.Given as goal

abbrev pub invariant-loop-graph : goal.invariant-loop-graph
invariant-loop-graph l = l.into ++ shared_graphs l.numbers l.needs (drop l.graph-index l.order) ≡ l.initial.into ++ shared_graphs l.numbers l.needs l.order
