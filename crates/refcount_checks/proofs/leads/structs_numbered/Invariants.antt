use Rattle.std.proofs.Common.{◌≡◌, drop}
use Rattle.refcount_transform.specs.Seen.{the_plan}
use Rattle.refcount_typed.specs.Numbered as spec
use Rattle.refcount_checks.proofs.leads.structs_numbered.Given as goal

abbrev pub invariant-loop-s : goal.invariant-loop-s
invariant-loop-s l = spec.structs_numbered (the_plan l.plan) (drop l.s-index l.structs) ≡ spec.structs_numbered (the_plan l.plan) l.structs
