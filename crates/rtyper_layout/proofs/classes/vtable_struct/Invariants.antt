use Rattle.std.proofs.Common.{◌≡◌, ◌∷◌, replicate}
use Rattle.ll_code.specs.declared.program.LlType.TheVariants as type
use Rattle.rtyper_layout.proofs.classes.vtable_struct.Given as goal

abbrev pub invariant-loop-filled : goal.invariant-loop-filled
invariant-loop-filled l = l.fields ≡ type.Signed ∷ replicate l.filled type.Fn
