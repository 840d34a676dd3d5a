-- What stands where, behind an operation and a jump.
use Rattle.std.proofs.Common.{◌≡◌, ◌≢◌, ℕ, zero, suc, ◌+◌, ◌<◌, List, [], ◌∷◌, ◌++◌, length, Option, Some, None, refl, sym, ap, ◌∙◌, arith}
use Rattle.std.specs.Prelude.{slice_set, if◌then◌else◌}
use Rattle.std.proofs.lemmas.Bool.{eq-eqb, ne_eqb}
use Rattle.rpy_tree.specs.Value.{Value}
use Rattle.flow_meaning.specs.Machine.{and_value}
use Rattle.flow_stands.specs.Places.{range}
use Rattle.flow_reads.proofs.Below.{Below}
use Rattle.graph_shapes.proofs.Parts.{range_count}
use Rattle.graph_told.proofs.Facts.{At, pick, with_value, values_at}

-- ---- what is passed on

pick_range : (at : At) (a k j : ℕ) → j < k → pick at (range a k) j ≡ at (a + j)
pick_range at a zero j lt = absurd (omega (arith, lt))
pick_range at a (suc k) zero lt = let e : a ≡ a + 0 = omega arith in ap at e
pick_range at a (suc k) (suc j) lt = let e : (a + 1) + j ≡ a + suc j = omega arith in pick_range at (a + 1) k j (omega (arith, lt)) ∙ ap at e

pub pick_first : (at : At) (k j : ℕ) → j < k → pick at (range 0 k) j ≡ at j
pick_first at k j lt = let e : 0 + j ≡ j = omega arith in pick_range at 0 k j lt ∙ ap at e

pick_left : (at : At) (xs ys : List ℕ) (j : ℕ) → j < length xs → pick at (xs ++ ys) j ≡ pick at xs j
pick_left at [] ys j lt = absurd (omega (arith, lt))
pick_left at (x ∷ xs) ys zero lt = refl
pick_left at (x ∷ xs) ys (suc j) lt = pick_left at xs ys j (omega (arith, lt))

pick_here : (at : At) (xs : List ℕ) (y : ℕ) (ys : List ℕ) (j : ℕ) → j ≡ length xs → pick at (xs ++ y ∷ ys) j ≡ at y
pick_here at [] y ys zero e = refl
pick_here at [] y ys (suc j) e = absurd (omega (arith, e))
pick_here at (x ∷ xs) y ys zero e = absurd (omega (arith, e))
pick_here at (x ∷ xs) y ys (suc j) e = pick_here at xs y ys j (omega (arith, e))

pub pick_and : (at : At) (k last j : ℕ) → j < k → pick at (range 0 k ++ last ∷ []) j ≡ at j
pick_and at k last j lt = pick_left at (range 0 k) (last ∷ []) j (omega (arith, lt, range_count 0 k)) ∙ pick_first at k j lt

pub pick_last : (at : At) (k last : ℕ) → pick at (range 0 k ++ last ∷ []) k ≡ at last
pick_last at k last = pick_here at (range 0 k) last [] k (sym (range_count 0 k))

pub pick_two : (at : At) (k last other j : ℕ) → j < k → pick at ((range 0 k ++ last ∷ []) ++ other ∷ []) j ≡ at j
pick_two at k last other j lt = pick_left at (range 0 k ++ last ∷ []) (other ∷ []) j (longer (range 0 k) (last ∷ []) j (omega (arith, lt, range_count 0 k))) ∙ pick_and at k last j lt
  where
    longer : (xs ys : List ℕ) (j : ℕ) → j < length xs → j < length (xs ++ ys)
    longer [] ys j lt = absurd (omega (arith, lt))
    longer (x ∷ xs) ys zero lt = omega arith
    longer (x ∷ xs) ys (suc j) lt = let rest = longer xs ys j (omega (arith, lt)) in omega (arith, rest)

pick_set_other : (at : At) (xs : List ℕ) (i x j : ℕ) → j ≢ i → pick at (slice_set xs i x) j ≡ pick at xs j
pick_set_other at [] i x j ne = refl
pick_set_other at (y ∷ xs) zero x zero ne = absurd (ne refl)
pick_set_other at (y ∷ xs) zero x (suc j) ne = refl
pick_set_other at (y ∷ xs) (suc i) x zero ne = refl
pick_set_other at (y ∷ xs) (suc i) x (suc j) ne = pick_set_other at xs i x j (λ e. ne (ap suc e))

pick_set_here : (at : At) (xs : List ℕ) (i x : ℕ) → i < length xs → pick at (slice_set xs i x) i ≡ at x
pick_set_here at [] i x lt = absurd (omega (arith, lt))
pick_set_here at (y ∷ xs) zero x lt = refl
pick_set_here at (y ∷ xs) (suc i) x lt = pick_set_here at xs i x (omega (arith, lt))

pub stored_other : (at : At) (k i x j : ℕ) → j < k → j ≢ i → pick at (slice_set (range 0 k) i x) j ≡ at j
stored_other at k i x j lt ne = pick_set_other at (range 0 k) i x j ne ∙ pick_first at k j lt

pub stored_here : (at : At) (k i x : ℕ) → i < k → pick at (slice_set (range 0 k) i x) i ≡ at x
stored_here at k i x lt = pick_set_here at (range 0 k) i x (omega (arith, lt, range_count 0 k))

-- ---- behind an operation

pub with_other : (at : At) (m : ℕ) (v : Value) (j : ℕ) → j < m → with_value at m v j ≡ at j
with_other at m v j lt = ap (λ b. if b then Some v else at j) (ne_eqb j m (λ e. omega (arith, lt, e)))

pub with_here : (at : At) (m : ℕ) (v : Value) → with_value at m v m ≡ Some v
with_here at m v = ap (λ b. if b then Some v else at m) (eq-eqb m m refl)

-- ---- operands

pub values_below : (at at' : At) (u : ℕ) → ((j : ℕ) → j < u → at' j ≡ at j) → (places : List ℕ) → Below u places → values_at at' places ≡ values_at at places
values_below at at' u same [] below = refl
values_below at at' u same (i ∷ places) below = ap (λ o. and_value o (values_at at' places)) (same i below.0) ∙ ap (and_value (at i)) (values_below at at' u same places below.1)

-- the values of operands, one by one
pub one_value : (o : Option Value) (vs : List Value) → and_value o (Some []) ≡ Some vs → (x : Value) × (o ≡ Some x) × (vs ≡ x ∷ [])
one_value None vs e = cc
one_value (Some x) vs e = let same : x ∷ [] ≡ vs = cc in (x, refl, sym same)

pub first_value : (o : Option Value) (rest : Option (List Value)) (vs : List Value) → and_value o rest ≡ Some vs → (x : Value) × (xs : List Value) × (o ≡ Some x) × (rest ≡ Some xs) × (vs ≡ x ∷ xs)
first_value None rest vs e = cc
first_value (Some x) None vs e = cc
first_value (Some x) (Some xs) vs e = let same : x ∷ xs ≡ vs = cc in (x, xs, refl, refl, sym same)

pub two_values : (o q : Option Value) (vs : List Value) → and_value o (and_value q (Some [])) ≡ Some vs → (x y : Value) × (o ≡ Some x) × (q ≡ Some y) × (vs ≡ x ∷ y ∷ [])
two_values o q vs e =
    let a = first_value o (and_value q (Some [])) vs e in
    let b = one_value q a.1 a.3 in
    (a.0, b.0, a.2, b.1, a.4 ∙ ap (λ l. a.0 ∷ l) b.2)
