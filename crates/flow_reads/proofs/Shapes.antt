-- A block of a shape whose places are below the number of its variables reads its own variables alone.
use Rattle.std.proofs.Common.{◌≡◌, ℕ, zero, suc, ◌+◌, ◌<◌, ◌≤◌, inl, inr, Bool, List, [], ◌∷◌, ◌++◌, refl, ap, subst, arith}
use Rattle.std.proofs.lemmas.Bool.{cases_lt}
use Rattle.flow_stands.specs.Places.{range, Jump, Shape, Go, Fork, Does, Plain, GiveBack, GiveUp, shift, links, numbered}
use Rattle.flow_reads.specs.Reads.{In, AreOf, LinksRead, ReadsOwn}
use Rattle.flow_reads.proofs.Below.{Below, JumpsBelow}

-- with m inputs; the result of an operation, or the exception, is one variable more
abbrev pub Fits : ℕ → Shape → Type 0
Fits m (Go jump) = Below m jump.places
Fits m (Fork test so other_way) = (test < m) × Below m so.places × Below m other_way.places
Fits m (Does o args covers hands default norm) = Below (m + 1) args × JumpsBelow (m + 1) hands × Below (m + 1) default.places × Below (m + 1) norm.places
Fits m (Plain o jump) = Below (m + 1) jump.places
Fits m GiveBack = 0 < m
Fits m GiveUp = 0 < m

in_range : (base a k place : ℕ) (vs : List ℕ) → a ≤ place → place < a + k → In (shift base (range a k) ++ vs) (base + place)
in_range base a zero place vs ge lt = absurd (omega (arith, ge, lt))
in_range base a (suc k) place vs ge lt = elim (cases_lt a place) [
  | inl less ↦ inr (in_range base (a + 1) k place vs (omega (arith, less)) (omega (arith, lt)))
  | inr le ↦ let same : a ≡ place = omega (arith, ge, le) in inl (ap (λ (i : ℕ). base + i) same)
]

in_last : (base a k v : ℕ) → In (shift base (range a k) ++ v ∷ []) v
in_last base a zero v = inl refl
in_last base a (suc k) v = inr (in_last base (a + 1) k v)

-- the inputs, and those with the result
abbrev plain_ones : ℕ → ℕ → List ℕ
plain_ones base m = shift base (range 0 m) ++ []

abbrev with_result : ℕ → ℕ → List ℕ
with_result base m = shift base (range 0 m) ++ (base + m) ∷ []

in_plain : (base m place : ℕ) → place < m → In (plain_ones base m) (base + place)
in_plain base m place lt = in_range base 0 m place [] (omega arith) (omega (arith, lt))

in_with : (base m place : ℕ) → place < m + 1 → In (with_result base m) (base + place)
in_with base m place lt = elim (cases_lt place m) [
  | inl less ↦ in_range base 0 m place ((base + m) ∷ []) (omega arith) (omega (arith, less))
  | inr le ↦ let same : m ≡ place = omega (arith, lt, le) in subst (λ (i : ℕ). In (with_result base m) (base + i)) same (in_last base 0 m (base + m))
]

module _ (base : ℕ) (vs : List ℕ) (u : ℕ) (there : (place : ℕ) → place < u → In vs (base + place)) where
  are_of : (places : List ℕ) → Below u places → AreOf vs (shift base places)
  are_of [] below = tt
  are_of (place ∷ places) below = (there place below.0, are_of places below.1)

  links_read : (jumps : List (ℕ × Jump)) → JumpsBelow u jumps → LinksRead vs (links base jumps)
  links_read [] below = tt
  links_read (jump ∷ jumps) below = (are_of jump.1.places below.0, links_read jumps below.1)

pub reads_own : (base m node : ℕ) (value : Bool) (shape : Shape) → Fits m shape → ReadsOwn (numbered base m node value shape)
reads_own base m node value (Go jump) fits = (tt, are_of base (plain_ones base m) m (in_plain base m) jump.places fits)
reads_own base m node value (Fork test so other_way) fits =
    (tt, (in_plain base m test fits.0, are_of base (plain_ones base m) m (in_plain base m) so.places fits.1, are_of base (plain_ones base m) m (in_plain base m) other_way.places fits.2))
reads_own base m node value (Does o args covers hands default norm) fits =
    let own = λ (places : List ℕ) (below : Below (m + 1) places). are_of base (with_result base m) (m + 1) (in_with base m) places below in
    ((own args fits.0, tt), (links_read base (with_result base m) (m + 1) (in_with base m) hands fits.1, own default.places fits.2, own norm.places fits.3))
reads_own base m node value (Plain o jump) fits = ((tt, tt), are_of base (with_result base m) (m + 1) (in_with base m) jump.places fits)
reads_own base m node value GiveBack fits = (tt, in_plain base m 0 fits)
reads_own base m node value GiveUp fits = (tt, in_plain base m 0 fits)
