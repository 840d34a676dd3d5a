-- Numbers are read as they are spelled.
use Rattle.std.proofs.Common.{◌≡◌, ℕ, ◌+◌, ◌*◌, ◌-◌, ◌/◌, ◌%◌, ◌^◌, ◌<◌, ◌≤◌, nat_lt, ◌==◌, Bool, true, false, cond, List, [], ◌∷◌, ◌++◌, Some, None, refl, ap, ◌∙◌, arith, append_assoc}
use Rattle.std.specs.Fmt.{decimal}
use Rattle.std.proofs.lemmas.Fmt.{decimal_by_steps}
use Rattle.std.proofs.lemmas.Grind.{common_steps}
use Rattle.csub_text.specs.Read.{stripped, is_digit, lead, number_below, expect_number, name}

-- no digit stands at the front
abbrev pub ends : List ℕ → Bool
ends [] = true
ends (b ∷ bs) = cond (is_digit b) false true

pub stripped_own : (s r : List ℕ) → stripped s (s ++ r) ≡ Some r
stripped_own [] r = refl
stripped_own (c ∷ s) r = grind (arith, common_steps, stripped_own s r)

lead_end_at : (d : Bool) (n m : ℕ) → cond d false true ≡ true → cond d m n ≡ n
lead_end_at true n m e = grind arith
lead_end_at false n m e = refl

pub lead_end : (n : ℕ) (r : List ℕ) → ends r ≡ true → lead n r ≡ n
unfolding lead
lead_end n [] e = refl
lead_end n (b ∷ bs) e = lead_end_at (is_digit b) n (lead (n * 10 + (b - 48)) bs) e

-- digits whose number is n
record Leads (n : ℕ) (ds : List ℕ) : Type 0 where
  is : (r : List ℕ) → lead 0 (ds ++ r) ≡ lead n r

lead_one : (m n : ℕ) (r : List ℕ) → n < 10 → lead m ((48 + n) ∷ r) ≡ lead (m * 10 + n) r
unfolding lead
lead_one m n r small = grind (arith, common_steps)

leads_more : (n : ℕ) (ds : List ℕ) → 10 ≤ n → Leads (n / 10) ds → Leads n (ds ++ ((48 + n % 10) ∷ []))
leads_more n ds big h = record {
  is = λ r. rw (append_assoc, h.is, lead_one (n / 10) (n % 10) r (omega arith)) (ap (λ k. lead k r) (omega arith));
}

zero_plus : (m : ℕ) → 0 * 10 + m ≡ m
zero_plus m = omega arith

lead_decimal : (n : ℕ) → n < 2 ^ 64 → Leads n (decimal n)
lead_decimal n small = decimal_by_steps Leads (λ m few. record { is = λ r. lead_one 0 m r few ∙ ap (λ k. lead k r) (zero_plus m) }) leads_more n small

pub lead_of : (n : ℕ) (r : List ℕ) → n < 2 ^ 64 → ends r ≡ true → lead 0 (decimal n ++ r) ≡ n
lead_of n r small e = (lead_decimal n small).is r ∙ lead_end n r e

pub below_is : {A : Type 0} (n limit : ℕ) (x y : A) → n < limit → cond (nat_lt n limit) x y ≡ x
below_is n limit x y h = grind (arith, common_steps)

pub number_own : (limit n : ℕ) (r : List ℕ) → n < 2 ^ 64 → n < limit → ends r ≡ true → number_below limit (decimal n ++ r) ≡ Some (n, r)
unfolding number_below expect_number
number_own limit n r small below e = rw (lead_of n r small e, stripped_own (decimal n) r) (below_is n limit (Some (n, r)) None below)

pub name_own : (letter : List ℕ) (n : ℕ) (r : List ℕ) → n < 2 ^ 64 → ends r ≡ true → name letter (letter ++ (decimal n ++ r)) ≡ Some (n, r)
name_own letter n r small e = rw (stripped_own letter (decimal n ++ r)) (number_own (2 ^ 64) n r small small e)

-- a digit, and what stands after it
pub record Digit (ds : List ℕ) : Type 0 where
  pub first : ℕ
  pub rest : List ℕ
  pub is : ds ≡ first ∷ rest
  pub low : 48 ≤ first
  pub high : first ≤ 57

one_digit : (n : ℕ) → n < 10 → Digit ((48 + n) ∷ [])
one_digit n few = record { first = 48 + n; rest = []; is = refl; low = omega arith; high = omega arith }

more_digits : (n : ℕ) (ds : List ℕ) → 10 ≤ n → Digit ds → Digit (ds ++ ((48 + n % 10) ∷ []))
more_digits n ds big h = record { first = h.first; rest = h.rest ++ ((48 + n % 10) ∷ []); is = ap (λ t. t ++ ((48 + n % 10) ∷ [])) h.is; low = h.low; high = h.high }

pub digit_first : (n : ℕ) → n < 2 ^ 64 → Digit (decimal n)
digit_first n small = decimal_by_steps (λ m ds. Digit ds) one_digit more_digits n small

-- a byte that is no digit is not the first
pub is_other : (d b : ℕ) → 48 ≤ d → d ≤ 57 → is_digit b ≡ false → (d == b) ≡ false
is_other d b low high other = grind (arith, common_steps)
