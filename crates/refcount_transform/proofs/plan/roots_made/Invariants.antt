use Rattle.std.proofs.Common.{◌≡◌, drop}
use Rattle.refcount_transform.specs.Marks as m
use Rattle.refcount_transform.proofs.plan.roots_made.Given as goal

abbrev pub invariant-loop-graph : goal.invariant-loop-graph
invariant-loop-graph l = m.mark_graphs l.structs (drop l.graph-index l.graphs) l.marks ≡ m.roots_made l.structs l.graphs
