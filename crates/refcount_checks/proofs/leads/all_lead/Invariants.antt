use Rattle.std.proofs.Common.{◌≡◌, drop}
use Rattle.refcount_transform.specs.Seen.{the_plan}
use Rattle.refcount_laws.specs.Made as made
use Rattle.refcount_checks.proofs.leads.all_lead.Given as goal

abbrev pub invariant-loop-kind : goal.invariant-loop-kind
invariant-loop-kind l = made.all_lead (the_plan l.plan) (drop l.kind-index l.kinds) ≡ made.all_lead (the_plan l.plan) l.kinds
