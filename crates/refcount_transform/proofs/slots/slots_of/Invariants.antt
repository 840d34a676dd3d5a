use Rattle.std.proofs.Common.{◌≡◌, drop}
use Rattle.refcount_transform.specs.Plan as p
use Rattle.refcount_transform.proofs.slots.slots_of.Given as goal

abbrev pub invariant-loop-graph : goal.invariant-loop-graph
invariant-loop-graph l = p.slots_of l.counted (drop l.graph-index l.graphs) l.clear ≡ p.slots_of l.counted l.graphs l.clear
