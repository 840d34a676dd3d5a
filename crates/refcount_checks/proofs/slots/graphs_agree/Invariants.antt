use Rattle.std.proofs.Common.{◌≡◌, drop}
use Rattle.ll_points.specs.Agrees as spec
use Rattle.refcount_checks.proofs.slots.graphs_agree.Given as goal

abbrev pub invariant-loop-graph : goal.invariant-loop-graph
invariant-loop-graph l = spec.graphs_agree l.slots (drop l.graph-index l.graphs) ≡ spec.graphs_agree l.slots l.graphs
