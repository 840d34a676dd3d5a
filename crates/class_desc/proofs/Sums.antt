-- Sums over the numbers below a bound.
use Rattle.std.proofs.Common.{◌≡◌, ◌≢◌, ℕ, zero, suc, ◌+◌, ◌<◌, ◌≤◌, Bool, true, false, refl, sym, ap, ◌∙◌, arith, ◌⊎◌, inl, inr}
use Rattle.std.specs.Prelude.{◌==◌}
use Rattle.std.proofs.lemmas.Bool.Decides.{eqb_tells}

abbrev pub when : Bool → ℕ → ℕ
when true k = k
when false k = 0

abbrev pub sum_to : (ℕ → ℕ) → ℕ → ℕ
sum_to f zero = 0
sum_to f (suc n) = sum_to f n + f n

pub when_zero : (b : Bool) → when b 0 ≡ 0
when_zero true = refl
when_zero false = refl

pub when_add : (b : Bool) (k m : ℕ) → when b (k + m) ≡ when b k + when b m
when_add true k m = refl
when_add false k m = refl

-- a number is itself, and no other one
pub same_is : (a b : ℕ) → a ≡ b → (a == b) ≡ true
same_is a b e = elim (eqb_tells a b) [ inl t ↦ t.0 | inr t ↦ absurd (t.1 e) ]

pub other_is : (a b : ℕ) → a ≢ b → (a == b) ≡ false
other_is a b ne = elim (eqb_tells a b) [ inl t ↦ absurd (ne t.1) | inr t ↦ t.0 ]

pub next_same : (a b : ℕ) → (suc a == suc b) ≡ (a == b)
next_same a b = elim (eqb_tells a b) [
  | inl t ↦ same_is (suc a) (suc b) (ap suc t.1) ∙ sym t.0
  | inr t ↦ other_is (suc a) (suc b) (λ e. t.1 (omega (arith, e))) ∙ sym t.0
]

pub turned : (a b : ℕ) → (a == b) ≡ (b == a)
turned a b = elim (eqb_tells a b) [
  | inl t ↦ t.0 ∙ sym (same_is b a (sym t.1))
  | inr t ↦ t.0 ∙ sym (other_is b a (λ e. t.1 (sym e)))
]

pub sum_add : (f g : ℕ → ℕ) (n : ℕ) → sum_to (λ i. f i + g i) n ≡ sum_to f n + sum_to g n
sum_add f g zero = refl
sum_add f g (suc n) = omega (arith, sum_add f g n)

pub sum_same : (f g : ℕ → ℕ) (n : ℕ) → ((i : ℕ) → i < n → f i ≡ g i) → sum_to f n ≡ sum_to g n
sum_same f g zero h = refl
sum_same f g (suc n) h = omega (arith, sum_same f g n (λ i lt. h i (omega arith)), h n (omega arith))

pub sum_zero : (n : ℕ) → sum_to (λ i. 0) n ≡ 0
sum_zero zero = refl
sum_zero (suc n) = omega (arith, sum_zero n)

pub sum_when : (b : Bool) (f : ℕ → ℕ) (n : ℕ) → sum_to (λ i. when b (f i)) n ≡ when b (sum_to f n)
sum_when true f n = refl
sum_when false f n = sum_zero n

pub sum_swap : (f : ℕ → ℕ → ℕ) (n m : ℕ) → sum_to (λ x. sum_to (f x) m) n ≡ sum_to (λ s. sum_to (λ x. f x s) n) m
sum_swap f zero m = sym (sum_zero m)
sum_swap f (suc n) m = ap (λ k. k + sum_to (f n) m) (sum_swap f n m) ∙ sym (sum_add (λ s. sum_to (λ x. f x s) n) (f n) m)

pub sum_le : (f : ℕ → ℕ) (m n : ℕ) → m ≤ n → sum_to f m ≤ sum_to f n
sum_le f zero n le = omega arith
sum_le f (suc m) zero le = absurd (omega (arith, le))
sum_le f (suc m) (suc n) le = elim (eqb_tells m n) [
  | inl t ↦ rw t.1 (omega arith)
  | inr t ↦ omega (arith, sum_le f (suc m) n (omega (arith, le, t.1)))
]

-- of the numbers below a bound one is e
pub sum_one : (t : ℕ → Bool) (e n : ℕ) → e < n → sum_to (λ s. when (t s) (when (e == s) 1)) n ≡ when (t e) 1
sum_one t e zero lt = absurd (omega (arith, lt))
sum_one t e (suc n) lt = elim (eqb_tells e n) [
  | inl same ↦
      let none : sum_to (λ s. when (t s) (when (e == s) 1)) n ≡ 0 =
      sum_same (λ s. when (t s) (when (e == s) 1)) (λ s. 0) n
      (λ i below. ap (λ b. when (t i) (when b 1)) (other_is e i (λ is. omega (arith, is, below, same.1))) ∙ when_zero (t i))
      ∙ sum_zero n in
      let here : when (t n) (when (e == n) 1) ≡ when (t e) 1 =
      ap (λ b. when (t n) (when b 1)) same.0 ∙ ap (λ i. when (t i) 1) (sym same.1) in
      omega (arith, none, here)
  | inr other ↦
      let rest : sum_to (λ s. when (t s) (when (e == s) 1)) n ≡ when (t e) 1 = sum_one t e n (omega (arith, lt, other.1)) in
      let here : when (t n) (when (e == n) 1) ≡ 0 = ap (λ b. when (t n) (when b 1)) other.0 ∙ when_zero (t n) in
      omega (arith, rest, here)
]
