-- What shifts and quotients of bits are as numbers.
use Rattle.std.proofs.Common.{◌≡◌, ℕ, ◌*◌, ◌/◌, ◌%◌, ◌^◌, ◌<◌, true, refl, sym, ap, ◌∙◌, arith}
use Rattle.std.proofs.Math.IntN.{ℤ, pos, negsuc, ◌*ℤ◌}
use Rattle.std.proofs.Math.Nat.{mod-eq_of_lt, div-le_self}
use Rattle.std.specs.Int.{w64, cast_signed, cast_unsigned, int_wrap}
use Rattle.std.specs.Prelude.{FitsSigned, int_lt, unsigned_abs}
use Rattle.std.proofs.lemmas.Int.{to_z_pos, to_z-of_z, wrapping_mul-bits, int_wrap-mul_right, ints}
use Rattle.std.proofs.Math.Bool.{beq}
use Rattle.std.specs.Prelude.{◌≤ℤ◌, ◌<ℤ◌}
use Rattle.std.proofs.lemmas.Nat.{pow_below}
use Rattle.std.proofs.lemmas.Bool.Decides.{nat_tests}
use Rattle.rpy_base.specs.Word.{floor_quotient, wrap}

-- bits that are read as a word are their number, wrapped
pub word_of_bits : (n : ℕ) → n < 2 ^ 64 → cast_signed w64 n ≡ int_wrap w64 (pos n)
unfolding int_wrap
word_of_bits n small = ap (cast_signed w64) (sym (mod-eq_of_lt small))

pub bits_small : (a : ℤ) → FitsSigned w64 a → cast_unsigned w64 a < 2 ^ 64
bits_small (pos a) fits = omega (arith, fits.sfits)
bits_small (negsuc a) fits = omega (arith, fits.sfits)

-- the bits of a word, times n
pub product_of_bits : (a : ℤ) (n : ℕ) → FitsSigned w64 a → n < 2 ^ 64 → cast_signed w64 ((cast_unsigned w64 a * n) % 2 ^ 64) ≡ int_wrap w64 (a *ℤ pos n)
product_of_bits a n fits small =
    wrapping_mul-bits w64 (cast_unsigned w64 a) n (bits_small a fits) small
    ∙ ap (λ x. int_wrap w64 (x *ℤ cast_signed w64 n)) (to_z-of_z w64 a fits)
    ∙ ap (λ y. int_wrap w64 (a *ℤ y)) (word_of_bits n small)
    ∙ int_wrap-mul_right w64 a (pos n)

-- where the signs agree, the floor is the quotient of the sizes
pub floor_same_signs : (a b : ℤ) → beq (int_lt a (pos 0)) (int_lt b (pos 0)) ≡ true → floor_quotient a b ≡ pos (unsigned_abs a / unsigned_abs b)
floor_same_signs (pos a) (pos b) e = refl
floor_same_signs (pos a) (negsuc b) e = absurd (grind (arith, nat_tests))
floor_same_signs (negsuc a) (pos b) e = absurd (grind (arith, nat_tests))
floor_same_signs (negsuc a) (negsuc b) e = refl

-- a count of places is the size of the number that says it
pub places : (k : ℤ) → pos 0 ≤ℤ k → k <ℤ pos 64 → unsigned_abs k < 64
places k low high = omega (arith, ints)

pub power_of_bits : (a k : ℤ) → FitsSigned w64 a → FitsSigned w64 k → pos 0 ≤ℤ k → k <ℤ pos 64
    → cast_signed w64 ((cast_unsigned w64 a * 2 ^ unsigned_abs (cast_signed w64 (cast_unsigned w64 k))) % 2 ^ 64) ≡ int_wrap w64 (a *ℤ pos (2 ^ unsigned_abs k))
power_of_bits a k fits fits_k low high =
    ap (λ j. cast_signed w64 ((cast_unsigned w64 a * 2 ^ unsigned_abs j) % 2 ^ 64)) (to_z-of_z w64 k fits_k)
    ∙ product_of_bits a (2 ^ unsigned_abs k) fits (pow_below (unsigned_abs k) 64 (places k low high))

-- 2 to a power that is a word
pub power_is : (k : ℤ) → FitsSigned w64 k → pos 0 ≤ℤ k → k <ℤ pos 63
    → cast_signed w64 ((1 * 2 ^ unsigned_abs (cast_signed w64 (cast_unsigned w64 k))) % 2 ^ 64) ≡ pos (2 ^ unsigned_abs k)
power_is k fits low high =
    let small : unsigned_abs k < 63 = omega (arith, ints) in
    let fits_word : 2 ^ unsigned_abs k < 2 ^ 63 = pow_below (unsigned_abs k) 63 small in
    let same : (1 * 2 ^ unsigned_abs k) % 2 ^ 64 ≡ 2 ^ unsigned_abs k = ap (λ n. n % 2 ^ 64) (omega arith) ∙ mod-eq_of_lt (omega arith) in
    ap (λ j. cast_signed w64 ((1 * 2 ^ unsigned_abs j) % 2 ^ 64)) (to_z-of_z w64 k fits)
    ∙ ap (cast_signed w64) same
    ∙ to_z_pos w64 (2 ^ unsigned_abs k) fits_word

-- the quotient of two sizes with one sign, as the word that its bits are
pub floor_of_sizes : (a b r : ℤ) (size by : ℕ) → FitsSigned w64 a → FitsSigned w64 b → FitsSigned w64 r
    → beq (int_lt (cast_signed w64 (cast_unsigned w64 a)) (pos 0)) (int_lt (cast_signed w64 (cast_unsigned w64 b)) (pos 0)) ≡ true
    → size ≡ unsigned_abs (cast_signed w64 (cast_unsigned w64 a)) → by ≡ unsigned_abs (cast_signed w64 (cast_unsigned w64 b))
    → size < 2 ^ 64 → r ≡ cast_signed w64 (size / by)
    → cast_signed w64 (cast_unsigned w64 r) ≡ wrap (floor_quotient a b)
floor_of_sizes a b r size by fits_a fits_b fits_r signs is_size is_by small is =
    let same_a = to_z-of_z w64 a fits_a in
    let same_b = to_z-of_z w64 b fits_b in
    let signs2 : beq (int_lt a (pos 0)) (int_lt b (pos 0)) ≡ true = rw (same_a, same_b) at signs in
    let size2 : size ≡ unsigned_abs a = is_size ∙ ap unsigned_abs same_a in
    let by2 : by ≡ unsigned_abs b = is_by ∙ ap unsigned_abs same_b in
    let below : size / by < 2 ^ 64 = omega (arith, div-le_self size by) in
    let floor : pos (size / by) ≡ floor_quotient a b = ap (λ n. pos (n / by)) size2 ∙ ap (λ n. pos (unsigned_abs a / n)) by2 ∙ sym (floor_same_signs a b signs2) in
    to_z-of_z w64 r fits_r ∙ is ∙ word_of_bits (size / by) below ∙ ap (int_wrap w64) floor
