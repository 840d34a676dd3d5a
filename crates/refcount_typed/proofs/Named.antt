-- The names of the graphs that are made keep the rules.
use Rattle.std.proofs.Common.{◌≡◌, ◌<◌, ◌≤◌, ℕ, zero, suc, ◌+◌, ◌/◌, ◌%◌, Bool, true, false, cond, ◌&&◌, ◌||◌, ◌==◌, List, [], ◌∷◌, ◌++◌, refl, arith}
use Rattle.std.specs.Prelude.{nat_lt, nat_le}
use Rattle.std.specs.Fmt.{decimal, digits, digits_onto, digit_glyph}
use Rattle.csub_tree.specs.Checked.{is_name_byte, is_name}
use Rattle.refcount_typed.proofs.Tests.{and_both, is_below}

third : (a b c d e : Bool) → c ≡ true → ((((a || b) || c) || d) || e) ≡ true
third true b c d e h = refl
third false true c d e h = refl
third false false true d e h = refl
third false false false d e h = absurd (cc)

name_digit : (b : ℕ) → 48 ≤ b → b ≤ 57 → is_name_byte b ≡ true
name_digit b l h =
    third (nat_le 97 b && nat_le b 122) (nat_le 65 b && nat_le b 90) (nat_le 48 b && nat_le b 57) (b == 95) (b == 46)
    (and_both (nat_le 48 b) (nat_le b 57) (let f : nat_le 48 b ≡ true = grind (arith, l) in f) (let f : nat_le b 57 ≡ true = grind (arith, h) in f))

glyph_named : (b : Bool) (d : ℕ) → b ≡ true → d < 10 → is_name_byte (cond b (48 + d) (87 + d)) ≡ true
glyph_named true d e h = name_digit (48 + d) (omega arith) (omega (arith, h))
glyph_named false d e h = absurd (cc)

choice : (d : Bool) (a b : List ℕ) → is_name a ≡ true → is_name b ≡ true → is_name (cond d a b) ≡ true
choice true a b p q = p
choice false a b p q = q

onto : (k n : ℕ) (acc : List ℕ) → is_name acc ≡ true → is_name (digits_onto k 10 false n acc) ≡ true
onto zero n acc p = p
onto (suc k) n acc p =
    let lt : n % 10 < 10 = omega arith in
    let g : List ℕ = digit_glyph false (n % 10) ∷ acc in
    let more : is_name g ≡ true = and_both (is_name_byte (digit_glyph false (n % 10))) (is_name acc) (glyph_named (nat_lt (n % 10) 10) (n % 10) (is_below (n % 10) 10 lt) lt) p in
    choice (n / 10 == 0) g (digits_onto k 10 false (n / 10) g) more (onto k (n / 10) g more)

pub decimal_named : (n : ℕ) → is_name (decimal n) ≡ true
unfolding digits
decimal_named n = onto 64 n [] refl

pub both_named : (a b : List ℕ) → is_name a ≡ true → is_name b ≡ true → is_name (a ++ b) ≡ true
both_named [] b h k = k
both_named (c ∷ a) b h k = by (λ h. both_named a b h k) (is_name_byte c) h
  where
    by : (is_name a ≡ true → is_name (a ++ b) ≡ true) → (d : Bool) → (d && is_name a) ≡ true → (d && is_name (a ++ b)) ≡ true
    by go true h = go h
    by go false h = absurd (cc)
