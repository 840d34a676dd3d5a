-- A result that fits is not wrapped.
use Rattle.std.proofs.Common.{◌≡◌, ℕ, ℤ, pos, negsuc, Bool, true, false, cond, Option, Some, None, refl, sym, ap, ◌∙◌, arith}
use Rattle.std.specs.Prelude.{FitsSigned, ◌^◌, ◌<◌, nat_lt}
use Rattle.std.specs.Bool.{FalseIff}
use Rattle.std.specs.Int.{w64}
use Rattle.std.proofs.lemmas.Int.{int_wrap_fits}
use Rattle.std.proofs.lemmas.Grind.{common_steps}
use Rattle.rpy_base.specs.Word.{Fits, wrap}
use Rattle.names_value.specs.Arithmetic.{fits, fitting}

pub fits_true : (z : ℤ) → Fits z → fits z ≡ true
fits_true (pos n) h = grind (arith, common_steps)
fits_true (negsuc n) h = grind (arith, common_steps)

pub true_fits : (z : ℤ) → fits z ≡ true → Fits z
true_fits (pos n) h = grind (arith, common_steps)
true_fits (negsuc n) h = grind (arith, common_steps)

fits_false : (z : ℤ) (b : Bool) → fits z ≡ b → (Fits z → ⊥) → b ≡ false
fits_false z true e h = absurd (h (true_fits z e))
fits_false z false e h = refl

pub unless_is : (b : Bool) (z : ℤ) → FalseIff b (Fits z) → cond b None (Some (wrap z)) ≡ fitting z
unless_is true z h = ap (λ (t : Bool). cond t (Some z) None) (sym (fits_false z (fits z) refl h))
unless_is false z h = ap Some (int_wrap_fits w64 z h) ∙ ap (λ (t : Bool). cond t (Some z) None) (sym (fits_true z h))
