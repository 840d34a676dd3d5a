use Rattle.std.proofs.Common.{◌≡◌, drop}
use Rattle.refcount_transform.specs.Seen.{the_plan}
use Rattle.refcount_laws.specs.Made as made
use Rattle.refcount_checks.proofs.leads.structs_lead.Given as goal

abbrev pub invariant-loop-s : goal.invariant-loop-s
invariant-loop-s l = made.structs_lead (the_plan l.plan) (drop l.s-index l.structs) ≡ made.structs_lead (the_plan l.plan) l.structs
