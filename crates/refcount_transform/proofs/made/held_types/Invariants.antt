use Rattle.ll_code.specs.declared.program.LlType.TheVariants as type
use Rattle.std.proofs.Common.{◌≡◌, ◌++◌, ◌∷◌, drop}
use Rattle.refcount_transform.specs.Made as m
use Rattle.refcount_transform.specs.Plan as p
use Rattle.refcount_transform.specs.Seen.{the_plan}
use Rattle.refcount_transform.proofs.made.held_types.Given as goal

abbrev pub invariant-loop-field : goal.invariant-loop-field
invariant-loop-field l = l.types ++ m.held_types (drop l.field-index l.held) ≡ type.Ptr (p.root_of (the_plan l.plan) l.n) ∷ m.held_types l.held
