use Rattle.std.proofs.Common.{◌≡◌, drop}
use Rattle.refcount_transform.specs.Seen.{the_plan}
use Rattle.refcount_typed.specs.Leads as spec
use Rattle.refcount_checks.proofs.leads.blocks_lead.Given as goal

abbrev pub invariant-loop-block : goal.invariant-loop-block
invariant-loop-block l = spec.blocks_lead (the_plan l.plan) l.kinds (drop l.block-index l.blocks) ≡ spec.blocks_lead (the_plan l.plan) l.kinds l.blocks
