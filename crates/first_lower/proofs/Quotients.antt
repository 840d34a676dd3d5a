-- Words as the machine computes with them.
use Rattle.std.proofs.Common.{◌≡◌, ℕ, zero, suc, ◌+◌, ◌-◌, ◌*◌, ◌/◌, ◌%◌, ◌^◌, ◌<◌, ◌≤◌, refl, sym, ap, ◌∙◌, arith}
use Rattle.std.specs.Prelude.{ℤ, pos, negsuc, neg_ℤ, ◌+ℤ◌, ◌-ℤ◌, ◌*ℤ◌, FitsSigned, unsigned_abs}
use Rattle.std.specs.Int.{w64}
use Rattle.std.proofs.lemmas.Int.{int_wrap_fits, ints}
use Rattle.rpy_base.specs.Word.{Fits, wrap, floor_quotient, floor_rest}

fits_pos : (n : ℕ) → n < 2 ^ 63 → Fits (pos n)
fits_pos n small = record { sfits = small }

pub wrap_pos : (n : ℕ) → n < 2 ^ 63 → wrap (pos n) ≡ pos n
wrap_pos n small = int_wrap_fits w64 (pos n) (fits_pos n small)

pub rest_pos : (n : ℕ) → floor_rest (pos n) (pos 10) ≡ pos (n % 10)
rest_pos n = omega (arith, ints)

pub rest_neg : (m : ℕ) → floor_rest (negsuc m) (negsuc 9) ≡ neg_ℤ (pos (suc m % 10))
rest_neg m = omega (arith, ints)

pub minus_neg : (r : ℕ) → pos 48 -ℤ neg_ℤ (pos r) ≡ pos (48 + r)
minus_neg r = omega (arith, ints)

pub quotient_neg : (m : ℕ) → floor_quotient (negsuc m) (negsuc 9) ≡ pos (suc m / 10)
quotient_neg m = refl
