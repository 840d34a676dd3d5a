use Rattle.std.proofs.Common.{◌≡◌, drop}
use Rattle.refcount_transform.specs.Seen.{the_plan}
use Rattle.refcount_typed.specs.Leads as spec
use Rattle.refcount_checks.proofs.leads.graphs_lead.Given as goal

abbrev pub invariant-loop-graph : goal.invariant-loop-graph
invariant-loop-graph l = spec.graphs_lead (the_plan l.plan) (drop l.graph-index l.graphs) ≡ spec.graphs_lead (the_plan l.plan) l.graphs
