-- The least of some faults.
use Rattle.std.proofs.Common.{◌≡◌, ◌<◌, ◌≤◌, ◌⊎◌, inl, inr, ℕ, Bool, true, false, Option, Some, None, refl, sym, ap, ◌∙◌, subst, arith}
use Rattle.std.specs.Prelude.{◌==◌, ◌&&◌, ◌||◌, nat_lt, nat_le, if◌then◌else◌}
use Rattle.std.proofs.lemmas.Bool.{false≢true, eqb-true, eq-eqb, ltb-true, lt-ltb, leb-true, le-leb, eqb-false, ltb-false, leb-false}
use Rattle.rtyper_core.specs.Fault.{number, comes_first, lesser, fault_if}
use Rattle.rtyper_core.specs.declared.fault.Fault.{Fault}
use Rattle.rtyper_core.specs.declared.fault.FaultKind.{FaultKind}

abbrev pub Some_ : Type 1
Some_ = Fault → Type 0

-- it is one of them, and comes before each; or there is none
abbrev pub IsLeast : Option Fault → Some_ → Type 0
IsLeast None S = (x : Fault) → S x → ⊥
IsLeast (Some y) S = S y × ((x : Fault) → S x → comes_first y x ≡ true)

-- ---- the order

pub data First (a b : Fault) : Type 0 where
  smaller : a.node < b.node → First a b
  same : a.node ≡ b.node → number a.kind ≤ number b.kind → First a b

first_of : (a b : Fault) → comes_first a b ≡ true → First a b
first_of a b h = by (nat_lt a.node b.node) refl h
  where
    with_node : (c : Bool) → (a.node == b.node) ≡ c → (c && nat_le (number a.kind) (number b.kind)) ≡ true → First a b
    with_node true e i = same (eqb-true a.node b.node e) (leb-true (number a.kind) (number b.kind) i)
    with_node false e i = absurd (false≢true i)

    by : (c : Bool) → nat_lt a.node b.node ≡ c → (c || ((a.node == b.node) && nat_le (number a.kind) (number b.kind))) ≡ true → First a b
    by true e i = smaller (ltb-true a.node b.node e)
    by false e i = with_node (a.node == b.node) refl i

of_first : (a b : Fault) → First a b → comes_first a b ≡ true
of_first a b (smaller lt) = ap (λ c. c || ((a.node == b.node) && nat_le (number a.kind) (number b.kind))) (lt-ltb a.node b.node lt)
of_first a b (same e le) =
    or_right (nat_lt a.node b.node) ((a.node == b.node) && nat_le (number a.kind) (number b.kind))
    (ap (λ c. c && nat_le (number a.kind) (number b.kind)) (eq-eqb a.node b.node e) ∙ le-leb (number a.kind) (number b.kind) le)
  where
    or_right : (c d : Bool) → d ≡ true → (c || d) ≡ true
    or_right true d h = refl
    or_right false d h = h

pub first_self : (a : Fault) → comes_first a a ≡ true
first_self a = of_first a a (same refl (omega arith))

pub at_one_node : (a b : Fault) → a.node ≡ b.node → number a.kind ≤ number b.kind → comes_first a b ≡ true
at_one_node a b e le = of_first a b (same e le)

on : (a b c : Fault) → First a b → First b c → First a c
on a b c (smaller l) (smaller m) = smaller (omega (arith, l, m))
on a b c (smaller l) (same e m) = smaller (omega (arith, l, e))
on a b c (same e l) (smaller m) = smaller (omega (arith, e, m))
on a b c (same e l) (same d m) = same (e ∙ d) (omega (arith, l, m))

first_on : (a b c : Fault) → comes_first a b ≡ true → comes_first b c ≡ true → comes_first a c ≡ true
first_on a b c h i = of_first a c (on a b c (first_of a b h) (first_of b c i))

-- the other one comes first where this one does not
first_other : (a b : Fault) → comes_first a b ≡ false → comes_first b a ≡ true
first_other a b h = by (nat_lt a.node b.node) refl h
  where
    with_number : (c : Bool) → nat_le (number a.kind) (number b.kind) ≡ c → c ≡ false → a.node ≡ b.node → comes_first b a ≡ true
    with_number true e i same_node = absurd (false≢true (sym i))
    with_number false e i same_node = let lt = leb-false (number a.kind) (number b.kind) e in of_first b a (same (sym same_node) (omega (arith, lt)))

    with_node : (c : Bool) → (a.node == b.node) ≡ c → nat_lt a.node b.node ≡ false → (c && nat_le (number a.kind) (number b.kind)) ≡ false → comes_first b a ≡ true
    with_node true e l i = with_number (nat_le (number a.kind) (number b.kind)) refl i (eqb-true a.node b.node e)
    with_node false e l i = let ne = eqb-false a.node b.node e in let le = ltb-false a.node b.node l in of_first b a (smaller (omega (arith, ne, le)))

    by : (c : Bool) → nat_lt a.node b.node ≡ c → (c || ((a.node == b.node) && nat_le (number a.kind) (number b.kind))) ≡ false → comes_first b a ≡ true
    by true e i = absurd (false≢true (sym i))
    by false e i = with_node (a.node == b.node) refl e i

-- ---- of two collections

-- the same faults
pub alike : (o : Option Fault) (S T : Some_) → ((x : Fault) → S x → T x) → ((x : Fault) → T x → S x) → IsLeast o S → IsLeast o T
alike None S T there back h = λ x t. h x (back x t)
alike (Some y) S T there back h = (there y h.0, λ x t. h.1 x (back x t))

pub either : (o q : Option Fault) (S T : Some_) → IsLeast o S → IsLeast q T → IsLeast (lesser o q) (λ x. S x ⊎ T x)
either None None S T h i = λ x e. elim e [ inl s ↦ h x s | inr t ↦ i x t ]
either None (Some b) S T h i = (inr i.0, λ x e. elim e [ inl s ↦ absurd (h x s) | inr t ↦ i.1 x t ])
either (Some a) None S T h i = (inl h.0, λ x e. elim e [ inl s ↦ h.1 x s | inr t ↦ absurd (i x t) ])
either (Some a) (Some b) S T h i = by (comes_first a b) refl
  where
    by : (c : Bool) → comes_first a b ≡ c → IsLeast (if c then Some a else Some b) (λ x. S x ⊎ T x)
    by true e = (inl h.0, λ x j. elim j [ inl s ↦ h.1 x s | inr t ↦ first_on a b x e (i.1 x t) ])
    by false e = (inr i.0, λ x j. elim j [ inl s ↦ first_on b a x (first_other a b e) (h.1 x s) | inr t ↦ i.1 x t ])

-- of one at most
pub of_one : (holds : Bool) (node : ℕ) (k : FaultKind) → IsLeast (fault_if holds node k) (λ x. (holds ≡ true) × (x ≡ record { node = node; kind = k }))
of_one true node k = ((refl, refl), λ x h. subst (λ y. comes_first (record { node = node; kind = k }) y ≡ true) (sym h.1) (first_self (record { node = node; kind = k })))
of_one false node k = λ x h. false≢true h.0
