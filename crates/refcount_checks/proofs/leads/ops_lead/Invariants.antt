use Rattle.std.proofs.Common.{◌≡◌, drop}
use Rattle.refcount_transform.specs.Seen.{the_plan}
use Rattle.refcount_typed.specs.Leads as spec
use Rattle.refcount_checks.proofs.leads.ops_lead.Given as goal

abbrev pub invariant-loop-op : goal.invariant-loop-op
invariant-loop-op l = spec.ops_lead (the_plan l.plan) l.kinds (drop l.op-index l.ops) ≡ spec.ops_lead (the_plan l.plan) l.kinds l.ops
