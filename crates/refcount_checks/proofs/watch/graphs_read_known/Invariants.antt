use Rattle.std.proofs.Common.{◌≡◌, drop}
use Rattle.refcount_checks.specs.Watch as spec
use Rattle.refcount_checks.proofs.watch.graphs_read_known.Given as goal

abbrev pub invariant-loop-graph : goal.invariant-loop-graph
invariant-loop-graph l = spec.graphs_read_known (drop l.graph-index l.graphs) ≡ spec.graphs_read_known l.graphs
