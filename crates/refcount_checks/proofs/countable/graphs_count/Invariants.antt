use Rattle.std.proofs.Common.{◌≡◌, drop}
use Rattle.refcount_transform.specs.Seen.{the_plan}
use Rattle.refcount_checks.specs.Countable as spec
use Rattle.refcount_checks.proofs.countable.graphs_count.Given as goal

abbrev pub invariant-loop-graph : goal.invariant-loop-graph
invariant-loop-graph l = spec.graphs_count (the_plan l.plan) l.all (drop l.graph-index l.graphs) ≡ spec.graphs_count (the_plan l.plan) l.all l.graphs
