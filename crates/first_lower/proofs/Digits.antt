-- Decimal digits, the last one after those before it.
use Rattle.std.proofs.Common.{◌≡◌, ℕ, zero, suc, ◌+◌, ◌-◌, ◌*◌, ◌/◌, ◌%◌, ◌^◌, ◌<◌, ◌≤◌, Bool, true, false, List, [], ◌∷◌, ◌++◌, refl, sym, ap, ◌∙◌, arith, append_assoc, cond}
use Rattle.std.specs.Prelude.{◌==◌, nat_lt}
use Rattle.std.specs.Fmt.{decimal, digits, digits_onto, digit_glyph}
use Rattle.std.proofs.lemmas.Bool.Decides.{nat_tests}

-- the digits of n, of which there are at most m
abbrev pub digits_of : ℕ → ℕ → List ℕ
digits_of m n = digits_onto m 10 false n []

onto_cond : (b : Bool) (x y u v : List ℕ) (acc : List ℕ) → x ≡ u ++ acc → y ≡ v ++ acc → cond b x y ≡ cond b u v ++ acc
onto_cond true x y u v acc p q = p
onto_cond false x y u v acc p q = q

onto : (m n : ℕ) (acc : List ℕ) → digits_onto m 10 false n acc ≡ digits_of m n ++ acc
onto zero n acc = refl
onto (suc m) n acc = onto_cond (n / 10 == 0) _ _ _ _ acc refl
    (onto m (n / 10) (digit_glyph false (n % 10) ∷ acc)
    ∙ sym (append_assoc (digits_of m (n / 10)) (digit_glyph false (n % 10) ∷ []) acc)
    ∙ ap (λ l. l ++ acc) (sym (onto m (n / 10) (digit_glyph false (n % 10) ∷ []))))

along : (b c : Bool) (x y : List ℕ) → b ≡ c → cond b x y ≡ cond c x y
along b c x y e = ap (λ t. cond t x y) e

glyph : (d : ℕ) → d < 10 → digit_glyph false d ≡ 48 + d
glyph d small = let e : nat_lt d 10 ≡ true = grind (arith, nat_tests) in ap (λ t. cond t (48 + d) (87 + d)) e

last_digit : (n : ℕ) → n % 10 < 10
last_digit n = omega arith

pub one_digit : (m n : ℕ) → n < 10 → digits_of (suc m) n ≡ (48 + n % 10) ∷ []
one_digit m n small =
    let z : n / 10 ≡ 0 = omega arith in
    let e : (n / 10 == 0) ≡ true = ap (λ q. q == 0) z in
    along _ true _ _ e ∙ ap (λ g. g ∷ []) (glyph (n % 10) (last_digit n))

pub more_digits : (m n : ℕ) → 10 ≤ n → digits_of (suc m) n ≡ digits_of m (n / 10) ++ (48 + n % 10) ∷ []
more_digits m n large =
    let some : 0 < n / 10 = omega arith in
    let e : (n / 10 == 0) ≡ false = grind (arith, nat_tests) in
    along _ false _ _ e ∙ onto m (n / 10) (digit_glyph false (n % 10) ∷ []) ∙ ap (λ g. digits_of m (n / 10) ++ g ∷ []) (glyph (n % 10) (last_digit n))

pub all_digits : (n : ℕ) → decimal n ≡ digits_of 64 n
unfolding digits
all_digits n = refl
