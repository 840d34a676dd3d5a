-- Lists of places, by their numbers.
use Rattle.std.proofs.Common.{◌≡◌, ◌+◌, ◌<◌, ℕ, zero, suc, Bool, true, false, List, [], ◌∷◌, ◌++◌, length, get_or, refl, sym, ap, ◌∙◌, arith, subst}
use Rattle.std.specs.Prelude.{◌==◌, if◌then◌else◌, slice_set}
use Rattle.std.proofs.lemmas.Bool.{eqb-true, eqb-false, eq-eqb, ne_eqb}
use Rattle.std.proofs.lemmas.List.{get_or-set_same, get_or-set_other, length-set}
use Rattle.ann_lattice.specs.Shape.{Shape}
use Rattle.ann_tree.specs.Annotation.{elements_with}
use Rattle.flow_stands.specs.Places.{range, shift}

pub range_length : (a m : ℕ) → length (range a m) ≡ m
range_length a zero = refl
range_length a (suc m) = let e = range_length (a + 1) m in omega (arith, e)

pub range_at : (a m j : ℕ) → j < m → get_or (range a m) j 0 ≡ a + j
range_at a zero j lt = absurd (omega (arith, lt))
range_at a (suc m) zero lt = omega arith
range_at a (suc m) (suc j) lt = let e = range_at (a + 1) m j (omega (arith, lt)) in omega (arith, e)

pub shift_length : (base : ℕ) (ps : List ℕ) → length (shift base ps) ≡ length ps
shift_length base [] = refl
shift_length base (x ∷ ps) = ap suc (shift_length base ps)

pub shift_at : (base : ℕ) (ps : List ℕ) (j : ℕ) → j < length ps → get_or (shift base ps) j 0 ≡ base + get_or ps j 0
shift_at base [] j lt = absurd (omega (arith, lt))
shift_at base (x ∷ ps) zero lt = refl
shift_at base (x ∷ ps) (suc j) lt = shift_at base ps j (omega (arith, lt))

pub before_last : (ps : List ℕ) (pl j : ℕ) → j < length ps → get_or (ps ++ pl ∷ []) j 0 ≡ get_or ps j 0
before_last [] pl j lt = absurd (omega (arith, lt))
before_last (x ∷ ps) pl zero lt = refl
before_last (x ∷ ps) pl (suc j) lt = before_last ps pl j (omega (arith, lt))

pub at_last : (ps : List ℕ) (pl j : ℕ) → j ≡ length ps → get_or (ps ++ pl ∷ []) j 0 ≡ pl
at_last [] pl zero e = refl
at_last [] pl (suc j) e = absurd (omega (arith, e))
at_last (x ∷ ps) pl zero e = absurd (omega (arith, e))
at_last (x ∷ ps) pl (suc j) e = at_last ps pl j (omega (arith, e))

pub last_length : (ps : List ℕ) (pl : ℕ) → length (ps ++ pl ∷ []) ≡ length ps + 1
last_length [] pl = refl
last_length (x ∷ ps) pl = let e = last_length ps pl in omega (arith, e)

-- ---- the first places, those with one more, and those of which one is another

pub first_at : (m j : ℕ) → j < m → get_or (range 0 m) j 0 ≡ j
first_at m j lt = let e = range_at 0 m j lt in omega (arith, e)

pub and_at : (m pl j : ℕ) → j < m → get_or (range 0 m ++ pl ∷ []) j 0 ≡ j
and_at m pl j lt = let l = range_length 0 m in before_last (range 0 m) pl j (omega (arith, l, lt)) ∙ first_at m j lt

pub and_last : (m pl : ℕ) → get_or (range 0 m ++ pl ∷ []) m 0 ≡ pl
and_last m pl = let l = range_length 0 m in at_last (range 0 m) pl m (omega (arith, l))

pub and_length : (m pl : ℕ) → length (range 0 m ++ pl ∷ []) ≡ m + 1
and_length m pl = let l = range_length 0 m in let e = last_length (range 0 m) pl in omega (arith, l, e)

pub set_length : (m i pl : ℕ) → length (slice_set (range 0 m) i pl) ≡ m
set_length m i pl = length-set (range 0 m) i pl ∙ range_length 0 m

pub set_here : (m i pl : ℕ) → i < m → get_or (slice_set (range 0 m) i pl) i 0 ≡ pl
set_here m i pl lt = let l = range_length 0 m in get_or-set_same (range 0 m) i pl 0 (omega (arith, l, lt))

pub set_there : (m i pl j : ℕ) → j < m → (j ≡ i → ⊥) → get_or (slice_set (range 0 m) i pl) j 0 ≡ j
set_there m i pl j lt ne = get_or-set_other (range 0 m) i j pl 0 ne ∙ first_at m j lt

-- ---- what is at one place, and elsewhere

pub with_cases : (P : Shape → Type 0) (h : ℕ → Shape) (m : ℕ) (y : Shape) (j : ℕ) → (j ≡ m → P y) → ((j ≡ m → ⊥) → P (h j)) → P (elements_with h m y j)
with_cases P h m y j here there = by_test (j == m) refl
  where
    by_test : (b : Bool) → (j == m) ≡ b → P (elements_with h m y j)
    by_test true e = subst (λ t. P (if t then y else h j)) (sym e) (here (eqb-true j m e))
    by_test false e = subst (λ t. P (if t then y else h j)) (sym e) (there (eqb-false j m e))

pub with_at : (h : ℕ → Shape) (m : ℕ) (y : Shape) → elements_with h m y m ≡ y
with_at h m y = ap (λ t. if t then y else h m) (eq-eqb m m refl)

pub with_before : (h : ℕ → Shape) (m : ℕ) (y : Shape) (j : ℕ) → j < m → elements_with h m y j ≡ h j
with_before h m y j lt = ap (λ t. if t then y else h j) (ne_eqb j m (λ e. omega (arith, e, lt)))
