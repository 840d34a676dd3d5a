-- A result fits where wrapping leaves it as it is.
use Rattle.std.proofs.Common.{◌≡◌, ◌<◌, ◌≤◌, ℕ, zero, suc, ◌+◌, ◌-◌, ◌*◌, ◌/◌, ◌%◌, ◌^◌, Bool, true, false, ℤ, pos, negsuc, ◌-ℤ◌, refl, sym, ap, ◌∙◌, subst, arith}
use Rattle.std.specs.Prelude.{neg_ℤ, if◌then◌else◌}
use Rattle.std.specs.Int.{w64}
use Rattle.std.specs.Ordering.{int_eq}
use Rattle.std.proofs.Math.Nat.{div-le_self}
use Rattle.std.proofs.lemmas.Bool.Decides.{nat_tests, Decides-int_eq}
use Rattle.std.proofs.lemmas.Int.{int_wrap_fits, SFits-int_wrap, ints}
use Rattle.rpy_base.specs.Word.{Fits, wrap, floor_quotient, floor_rest}
use Rattle.csub_tree.specs.Operation.{Answer, nonzero, fits as low_fits}
use Rattle.rpy_tree.specs.Value.{Word as MeantWord}
use Rattle.rpy_meaning.specs.Arithmetic.{word_that_fits}
use Rattle.rpy_meaning.specs.World.{World, Op, Gives, Throws, give, overflow}

pub fits_so : (z : ℤ) → low_fits z ≡ true → Fits z
fits_so (pos n) h = (let s : n < 2 ^ 63 = grind (arith, nat_tests, h) in count n s)
  where
    count : (n : ℕ) → n < 2 ^ 63 → Fits (pos n)
    count n s = omega (arith, ints)
fits_so (negsuc n) h = (let s : n < 2 ^ 63 = grind (arith, nat_tests, h) in count n s)
  where
    count : (n : ℕ) → n < 2 ^ 63 → Fits (negsuc n)
    count n s = omega (arith, ints)

pub so_fits : (z : ℤ) → Fits z → low_fits z ≡ true
so_fits (pos n) f = (let s : n < 2 ^ 63 = omega (arith, f.sfits) in grind (arith, nat_tests, s))
so_fits (negsuc n) f = (let s : n < 2 ^ 63 = omega (arith, f.sfits) in grind (arith, nat_tests, s))

pub wraps_so : (z : ℤ) (b : Bool) → low_fits z ≡ b → int_eq (wrap z) z ≡ b
wraps_so z true h = (Decides-int_eq (wrap z) z).1 (int_wrap_fits w64 z (fits_so z h))
wraps_so z false h = by (int_eq (wrap z) z) refl
  where
    by : (c : Bool) → int_eq (wrap z) z ≡ c → c ≡ false
    by false e = refl
    by true e = (let same : wrap z ≡ z = (Decides-int_eq (wrap z) z).0 e in let f : low_fits z ≡ true = so_fits z (subst Fits same (SFits-int_wrap w64 z)) in let q : false ≡ true = sym h ∙ f in absurd (cc))

abbrev chosen : ℤ → Bool → Op
chosen z c = if c then give (MeantWord z) else overflow

pub that_fits : (z : ℤ) (w : World) (b : Bool) → low_fits z ≡ b → word_that_fits z w ≡ (if b then Gives (MeantWord z) w else Throws 3 w)
that_fits z w b h = either (int_eq (wrap z) z) ∙ ap (λ c. if c then Gives (MeantWord z) w else Throws 3 w) (wraps_so z b h)
  where
    either : (c : Bool) → chosen z c w ≡ (if c then Gives (MeantWord z) w else Throws 3 w)
    either true = refl
    either false = refl

-- ---- quotients and rests

-- the smallest word
abbrev pub least : ℤ
least = negsuc 9223372036854775807

fits_count : (n : ℕ) → n < 2 ^ 63 → Fits (pos n)
fits_count n h = omega (arith, ints)

fits_below : (n : ℕ) → n < 2 ^ 63 → Fits (negsuc n)
fits_below n h = omega (arith, ints)

pub quotient_fits : (a b : ℤ) → Fits a → Fits b → int_eq b (pos 0) ≡ false → (int_eq b (negsuc 0) ≡ true → int_eq a least ≡ false) → Fits (floor_quotient a b)
quotient_fits (pos a) (pos b) fa fb z m = fits_count (a / b) (let d : a / b ≤ a = div-le_self a b in omega (arith, d, fa.sfits))
quotient_fits (negsuc a) (pos b) fa fb z m = fits_below (a / b) (let d : a / b ≤ a = div-le_self a b in omega (arith, d, fa.sfits))
quotient_fits (pos zero) (negsuc b) fa fb z m = fits_count 0 (omega arith)
quotient_fits (pos (suc a)) (negsuc b) fa fb z m = fits_below (a / suc b) (let d : a / suc b ≤ a = div-le_self a (suc b) in omega (arith, d, fa.sfits))
quotient_fits (negsuc a) (negsuc zero) fa fb z m = fits_count (suc a / 1) (let q : suc a / 1 ≡ suc a = omega arith in let other = m refl in let apart : (a ≡ 9223372036854775807) → ⊥ = (λ e. (let q : false ≡ true = sym other ∙ ap (λ n. int_eq (negsuc n) least) e in absurd (cc))) in small q apart)
  where
    small : suc a / 1 ≡ suc a → ((a ≡ 9223372036854775807) → ⊥) → suc a / 1 < 2 ^ 63
    small q apart = omega (arith, q, apart, fa.sfits)
quotient_fits (negsuc a) (negsuc (suc b)) fa fb z m = fits_count (suc a / suc (suc b)) (half a b (omega (arith, fa.sfits)))
  where
    half : (a b : ℕ) → a < 2 ^ 63 → suc a / suc (suc b) < 2 ^ 63
    half a b h = omega (arith, smaller a b)
      where
        smaller : (a b : ℕ) → suc a / suc (suc b) ≤ a
        smaller a b = omega arith

rest_is : (a P r : ℕ) → P + r ≡ a → pos a -ℤ pos P ≡ pos r
rest_is a P r e = omega (arith, ints, e)

rest_above : (a P s : ℕ) → P ≡ suc a + s → negsuc a -ℤ neg_ℤ (pos P) ≡ pos s
rest_above a P s e = omega (arith, ints, e)

rest_below : (a P s : ℕ) → P ≡ suc a + s → pos (suc a) -ℤ pos P ≡ neg_ℤ (pos s)
rest_below a P s e = omega (arith, ints, e)

rest_both : (a P s : ℕ) → P + s ≡ suc a → negsuc a -ℤ neg_ℤ (pos P) ≡ neg_ℤ (pos s)
rest_both a P s e = omega (arith, ints, e)

rest_none : (P : ℕ) → P ≡ 0 → pos 0 -ℤ neg_ℤ (pos P) ≡ pos 0
rest_none P e = omega (arith, ints, e)

fits_opposite : (k : ℕ) → k < 2 ^ 63 → Fits (neg_ℤ (pos k))
fits_opposite k h = omega (arith, ints)

product_more : (m n : ℕ) → m * suc n ≡ m + m * n
product_more m n = grind arith

product_none : (m : ℕ) → m * 0 ≡ 0
product_none m = grind arith

pub rest_fits : (a b : ℤ) → Fits b → int_eq b (pos 0) ≡ false → Fits (floor_rest a b)
rest_fits (pos a) (pos zero) f e = absurd (cc)
rest_fits (negsuc a) (pos zero) f e = absurd (cc)
rest_fits (pos a) (pos (suc b)) f e =
    let q : suc b * (a / suc b) + a % suc b ≡ a = omega arith in
    let r : a % suc b < suc b = omega arith in
    let s : suc b < 2 ^ 63 = omega (arith, f.sfits) in
    subst Fits (sym (rest_is a (suc b * (a / suc b)) (a % suc b) q)) (fits_count (a % suc b) (omega (arith, r, s)))
rest_fits (negsuc a) (pos (suc b)) f e =
    let q : suc b * (a / suc b) + a % suc b ≡ a = omega arith in
    let r : a % suc b < suc b = omega arith in
    let s : suc b < 2 ^ 63 = omega (arith, f.sfits) in
    let m : suc b * suc (a / suc b) ≡ suc b + suc b * (a / suc b) = product_more (suc b) (a / suc b) in
    subst Fits (sym (rest_above a (suc b * suc (a / suc b)) (b - a % suc b) (omega (arith, q, r, m)))) (fits_count (b - a % suc b) (omega (arith, s)))
rest_fits (pos zero) (negsuc b) f e = subst Fits (sym (rest_none (suc b * 0) (product_none (suc b)))) (fits_count 0 (omega arith))
rest_fits (pos (suc a)) (negsuc b) f e =
    let q : suc b * (a / suc b) + a % suc b ≡ a = omega arith in
    let r : a % suc b < suc b = omega arith in
    let s : b < 2 ^ 63 = omega (arith, f.sfits) in
    let m : suc b * suc (a / suc b) ≡ suc b + suc b * (a / suc b) = product_more (suc b) (a / suc b) in
    subst Fits (sym (rest_below a (suc b * suc (a / suc b)) (b - a % suc b) (omega (arith, q, r, m)))) (fits_opposite (b - a % suc b) (omega (arith, s)))
rest_fits (negsuc a) (negsuc b) f e =
    let q : suc b * (suc a / suc b) + suc a % suc b ≡ suc a = omega arith in
    let r : suc a % suc b < suc b = omega arith in
    let s : b < 2 ^ 63 = omega (arith, f.sfits) in
    subst Fits (sym (rest_both a (suc b * (suc a / suc b)) (suc a % suc b) q)) (fits_opposite (suc a % suc b) (omega (arith, r, s)))

pub not_zero : (b : ℤ) (answer : Answer) → int_eq b (pos 0) ≡ false → nonzero answer b ≡ answer
not_zero (pos zero) answer e = absurd (cc)
not_zero (pos (suc n)) answer e = refl
not_zero (negsuc n) answer e = refl

-- ---- opposites

pub opposite_fits : (a : ℤ) → Fits a → int_eq a least ≡ false → Fits (neg_ℤ a)
opposite_fits (pos n) f e = fits_opposite n (omega (arith, f.sfits))
opposite_fits (negsuc n) f e = above (suc n) (small (λ same. (let q : false ≡ true = sym e ∙ ap (λ n. int_eq (negsuc n) least) same in absurd (cc))))
  where
    small : ((n ≡ 9223372036854775807) → ⊥) → suc n < 2 ^ 63
    small apart = omega (arith, apart, f.sfits)

    above : (n : ℕ) → n < 2 ^ 63 → Fits (pos n)
    above n h = fits_count n h
