-- The tables of a forest of classes hold the sizes and numbers of its intervals.
use Rattle.std.proofs.Common.{◌≡◌, ◌≢◌, ℕ, zero, suc, ◌+◌, ◌<◌, ◌≤◌, List, [], ◌∷◌, ◌++◌, Bool, true, false, Option, Some, None, length, get_or, refl, sym, ap, ◌∙◌, arith, subst, ◌⊎◌, inl, inr}
use Rattle.std.specs.Prelude.{◌==◌, ◌||◌, nat_lt, slice_set, replicate, if◌then◌else◌}
use Rattle.std.specs.List.{list_any}
use Rattle.std.proofs.lemmas.Bool.{ltb-true, ltb-false}
use Rattle.std.proofs.lemmas.Bool.Decides.{eqb_tells}
use Rattle.std.proofs.lemmas.List.{get_or-set_same, get_or-set_other, length-set, get_or-replicate, length-replicate, length-append, get_or_append_left}
use Rattle.std.proofs.Math.Seq.{get_or-append_seam}
use Rattle.rpy_tree.specs.declared.program.ClassInfo.{ClassInfo}
use Rattle.class_desc.specs.declared.range.Laid.{Laid}
use Rattle.class_desc.specs.Line.{base, onward, line, above, is_below}
use Rattle.class_desc.specs.Range.{ends, IsForest, bump, bumps, sizes_to, sizes, slot, parent, lay, laid_to, offsets, summed, range_by, ranges_to, ranges, range, IsExact}
use Rattle.class_desc.proofs.Sums.{when, sum_to, same_is, other_is}
use Rattle.class_desc.proofs.Intervals.{count, Among, IsLine, size, kids, number, falls_in, only_below}

no : false ≡ true → ⊥
no e = cc

-- ---- counts

bumped : (b : Bool) (p k : ℕ) (xs : List ℕ) (d : ℕ) → nat_lt p (length xs) ≡ b → d < length xs
    → get_or (if b then slice_set xs p (get_or xs p 0 + k) else xs) d 0 ≡ get_or xs d 0 + when (p == d) k
bumped true p k xs d e lt = elim (eqb_tells p d) [
  | inl t ↦
      let here : get_or (slice_set xs p (get_or xs p 0 + k)) p 0 ≡ get_or xs p 0 + k = get_or-set_same xs p (get_or xs p 0 + k) 0 (ltb-true p (length xs) e) in
      ap (λ i. get_or (slice_set xs p (get_or xs p 0 + k)) i 0) (sym t.1) ∙ here ∙ ap (λ i. get_or xs i 0 + k) t.1
      ∙ ap (λ b. get_or xs d 0 + when b k) (sym t.0)
  | inr t ↦
      let here : get_or (slice_set xs p (get_or xs p 0 + k)) d 0 ≡ get_or xs d 0 = get_or-set_other xs p d (get_or xs p 0 + k) 0 (λ is. t.1 (sym is)) in
      let none : when (p == d) k ≡ 0 = ap (λ b. when b k) t.0 in
      omega (arith, here, none)
]
bumped false p k xs d e lt =
    let none : when (p == d) k ≡ 0 = ap (λ b. when b k) (other_is p d (λ is. omega (arith, is, lt, ltb-false p (length xs) e))) in
    omega (arith, none)

bump_at : (p k : ℕ) (xs : List ℕ) (d : ℕ) → d < length xs → get_or (bump p k xs) d 0 ≡ get_or xs d 0 + when (p == d) k
bump_at p k xs d lt = bumped (nat_lt p (length xs)) p k xs d refl lt

length_bumped : (b : Bool) (p k : ℕ) (xs : List ℕ) → length (if b then slice_set xs p (get_or xs p 0 + k) else xs) ≡ length xs
length_bumped true p k xs = length-set xs p (get_or xs p 0 + k)
length_bumped false p k xs = refl

length_bump : (p k : ℕ) (xs : List ℕ) → length (bump p k xs) ≡ length xs
length_bump p k xs = length_bumped (nat_lt p (length xs)) p k xs

length_bumps : (cs xs : List ℕ) → length (bumps cs xs) ≡ length xs
length_bumps [] xs = refl
length_bumps (c ∷ cs) xs = length_bumps cs (bump c 1 xs) ∙ length_bump c 1 xs

bumps_at : (cs xs : List ℕ) (d : ℕ) → d < length xs → get_or (bumps cs xs) d 0 ≡ get_or xs d 0 + count d cs
bumps_at [] xs d lt = omega arith
bumps_at (c ∷ cs) xs d lt =
    let rest : get_or (bumps cs (bump c 1 xs)) d 0 ≡ get_or (bump c 1 xs) d 0 + count d cs = bumps_at cs (bump c 1 xs) d (omega (arith, lt, length_bump c 1 xs)) in
    omega (arith, rest, bump_at c 1 xs d lt)

length_sizes : (classes : List ClassInfo) (k : ℕ) → length (sizes_to classes k) ≡ length classes
length_sizes classes zero = length-replicate (length classes) 0
length_sizes classes (suc k) = length_bumps (above classes k) (sizes_to classes k) ∙ length_sizes classes k

sizes_at : (classes : List ClassInfo) (k d : ℕ) → d < length classes → get_or (sizes_to classes k) d 0 ≡ sum_to (λ x. count d (above classes x)) k
sizes_at classes zero d lt = get_or-replicate (length classes) d 0 0 lt
sizes_at classes (suc k) d lt =
    omega (arith, bumps_at (above classes k) (sizes_to classes k) d (omega (arith, lt, length_sizes classes k)), sizes_at classes k d lt)

-- ---- lines

record Lined (isline : List ℕ → Type 0) (c : ℕ) (xs : List ℕ) : Type 0 where
  rest : List ℕ
  is : xs ≡ c ∷ rest
  line_is : isline (c ∷ rest)

lined : (up : ℕ → ℕ) (n c : ℕ) (xs : List ℕ) → IsLine up n (suc c) xs → Lined (IsLine up n (suc c)) c xs
lined up n c [] l = absurd (omega (arith, l))
lined up n c (x ∷ xs) l =
    let same : x ≡ c = omega (arith, l.0) in
    record { rest = xs; is = ap (λ y. y ∷ xs) same; line_is = subst (λ y. IsLine up n (suc c) (y ∷ xs)) same l }

module _ (classes : List ClassInfo) (tree : IsForest classes) where
  abbrev n : ℕ
  n = length classes

  abbrev up : ℕ → ℕ
  up = parent classes

  onward_of : (k c : ℕ) (b : Option ℕ) → base classes c ≡ b → ends classes k b ≡ true
      → ((a : ℕ) → a < n → ends classes k (Some a) ≡ true → IsLine up n (suc a) (line classes k a)) → IsLine up n (slot b) (onward (line classes k) b)
  onward_of k c None is e all = refl
  onward_of k c (Some b) is e all = all b (tree.bases c b is) e

  line_of : (k c : ℕ) → c < n → ends classes k (Some c) ≡ true → IsLine up n (suc c) (line classes k c)
  line_of zero c lt e = absurd (no e)
  line_of (suc k) c lt e = (refl, lt, onward_of k c (base classes c) refl e (λ a below stop. line_of k a below stop))

  lines_are : (c : ℕ) → c < n → IsLine up n (suc c) (above classes c)
  lines_are c lt = line_of n c lt (tree.ending c lt)

  abbrev size_of : ℕ → ℕ
  size_of = size up n (above classes) lines_are

  abbrev kids_of : ℕ → ℕ → ℕ
  kids_of = kids up n (above classes) lines_are

  abbrev number_of : List ℕ → ℕ
  number_of = number up n (above classes) lines_are

  slot_within : (c : ℕ) (b : Option ℕ) → base classes c ≡ b → slot b < suc n
  slot_within c None is = omega arith
  slot_within c (Some b) is = omega (arith, tree.bases c b is)

  parent_within : (c : ℕ) → up c < suc n
  parent_within c = slot_within c (base classes c) refl

  -- ---- offsets

  abbrev laid : ℕ → Laid
  laid k = laid_to classes (sizes classes) k

  length_taken : (k : ℕ) → length (laid k).taken ≡ suc n
  length_taken zero = length-replicate (suc n) 0
  length_taken (suc k) = length_bump (up k) (get_or (sizes classes) k 0) (laid k).taken ∙ length_taken k

  length_offsets : (k : ℕ) → length (laid k).offsets ≡ k
  length_offsets zero = refl
  length_offsets (suc k) = length-append (laid k).offsets ((get_or (laid k).taken (up k) 0 + 1) ∷ []) ∙ omega (arith, length_offsets k)

  taken_at : (k p : ℕ) → k ≤ n → p < suc n → get_or (laid k).taken p 0 ≡ kids_of p k
  taken_at zero p le lt = get_or-replicate (suc n) p 0 0 lt
  taken_at (suc k) p le lt =
      let step : get_or (laid (suc k)).taken p 0 ≡ get_or (laid k).taken p 0 + when (up k == p) (get_or (sizes classes) k 0) =
      bump_at (up k) (get_or (sizes classes) k 0) (laid k).taken p (omega (arith, lt, length_taken k)) in
      let same : when (up k == p) (get_or (sizes classes) k 0) ≡ when (up k == p) (size_of k) = ap (when (up k == p)) (sizes_at classes n k (omega (arith, le))) in
      omega (arith, step, same, taken_at k p (omega (arith, le)) lt)

  offset_at : (k c : ℕ) → k ≤ n → c < k → get_or (laid k).offsets c 0 ≡ kids_of (up c) c + 1
  offset_at zero c le lt = absurd (omega (arith, lt))
  offset_at (suc k) c le lt = elim (eqb_tells c k) [
    | inl t ↦
        let seam : get_or ((laid k).offsets ++ (get_or (laid k).taken (up k) 0 + 1) ∷ []) (length (laid k).offsets) 0 ≡ get_or (laid k).taken (up k) 0 + 1 =
        get_or-append_seam (laid k).offsets (get_or (laid k).taken (up k) 0 + 1) [] 0 in
        let at : c ≡ length (laid k).offsets = t.1 ∙ sym (length_offsets k) in
        ap (λ i. get_or (laid (suc k)).offsets i 0) at ∙ seam ∙ ap (λ m. m + 1) (taken_at k (up k) (omega (arith, le)) (parent_within k))
        ∙ ap (λ i. kids_of (up i) i + 1) (sym t.1)
    | inr t ↦
        get_or_append_left (laid k).offsets ((get_or (laid k).taken (up k) 0 + 1) ∷ []) 0 c (omega (arith, lt, t.1, length_offsets k))
        ∙ offset_at k c (omega (arith, le)) (omega (arith, lt, t.1))
  ]

  summed_is : (p : ℕ) (xs : List ℕ) (sum : ℕ) → IsLine up n p xs → summed (offsets classes) xs sum ≡ sum + number_of xs
  summed_is p [] sum l = omega arith
  summed_is p (x ∷ xs) sum l =
      let rest : summed (offsets classes) xs (sum + get_or (offsets classes) x 0) ≡ (sum + get_or (offsets classes) x 0) + number_of xs =
      summed_is (up x) xs (sum + get_or (offsets classes) x 0) l.2 in
      omega (arith, rest, offset_at n x (omega arith) l.1)

  -- ---- ranges

  length_ranges : (k : ℕ) → length (ranges_to classes (sizes classes) (offsets classes) k) ≡ k
  length_ranges zero = refl
  length_ranges (suc k) =
      length-append (ranges_to classes (sizes classes) (offsets classes) k) (range_by classes (sizes classes) (offsets classes) k ∷ []) ∙ omega (arith, length_ranges k)

  range_in : (k c : ℕ) → c < k → get_or (ranges_to classes (sizes classes) (offsets classes) k) c (0, 0) ≡ range_by classes (sizes classes) (offsets classes) c
  range_in zero c lt = absurd (omega (arith, lt))
  range_in (suc k) c lt = elim (eqb_tells c k) [
    | inl t ↦
        ap (λ i. get_or (ranges_to classes (sizes classes) (offsets classes) (suc k)) i (0, 0)) (t.1 ∙ sym (length_ranges k))
        ∙ get_or-append_seam (ranges_to classes (sizes classes) (offsets classes) k) (range_by classes (sizes classes) (offsets classes) k) [] (0, 0)
        ∙ ap (range_by classes (sizes classes) (offsets classes)) (sym t.1)
    | inr t ↦
        get_or_append_left (ranges_to classes (sizes classes) (offsets classes) k) (range_by classes (sizes classes) (offsets classes) k ∷ []) (0, 0) c
        (omega (arith, lt, t.1, length_ranges k))
        ∙ range_in k c (omega (arith, lt, t.1))
  ]

  low_is : (c : ℕ) → c < n → (range classes c).0 ≡ number_of (above classes c)
  low_is c lt = ap (λ r. r.0) (range_in n c lt) ∙ summed_is (suc c) (above classes c) 0 (lines_are c lt) ∙ omega arith

  high_is : (c : ℕ) → c < n → (range classes c).1 ≡ number_of (above classes c) + size_of c
  high_is c lt =
      ap (λ r. r.1) (range_in n c lt)
      ∙ omega (arith, summed_is (suc c) (above classes c) 0 (lines_are c lt), sizes_at classes n c lt)

  -- ---- what is among a line

  any_at : (s t : Bool) → t ≡ true → (s || t) ≡ true
  any_at true t e = refl
  any_at false t e = e

  any_of : (d : ℕ) (xs : List ℕ) → Among d xs → list_any (λ b. b == d) xs ≡ true
  any_of d [] there = absurd there
  any_of d (x ∷ xs) (inl e) = ap (λ t. t || list_any (λ b. b == d) xs) (same_is x d e)
  any_of d (x ∷ xs) (inr there) = any_at (x == d) (list_any (λ b. b == d) xs) (any_of d xs there)

  of_any : (d : ℕ) (xs : List ℕ) → list_any (λ b. b == d) xs ≡ true → Among d xs
  of_any d [] e = absurd (no e)
  of_any d (x ∷ xs) e = elim (eqb_tells x d) [
    | inl t ↦ inl t.1
    | inr t ↦ inr (of_any d xs (sym (ap (λ s. s || list_any (λ b. b == d) xs) t.0) ∙ e))
  ]

  lined_at : (c : ℕ) → c < n → Lined (IsLine up n (suc c)) c (above classes c)
  lined_at c lt = lined up n c (above classes c) (lines_are c lt)

  falls : (c d : ℕ) → c < n → d < n → is_below classes c d ≡ true → ((range classes d).0 ≤ (range classes c).0) × ((range classes c).0 < (range classes d).1)
  falls c d lc ld below =
      let lower : Lined (IsLine up n (suc c)) c (above classes c) = lined_at c lc in
      let higher : Lined (IsLine up n (suc d)) d (above classes d) = lined_at d ld in
      let there : Among d (c ∷ lower.rest) = subst (Among d) lower.is (of_any d (above classes c) below) in
      let u : (number_of (d ∷ higher.rest) ≤ number_of (c ∷ lower.rest)) × (number_of (c ∷ lower.rest) < number_of (d ∷ higher.rest) + size_of d) =
      falls_in up n (above classes) lines_are c lower.rest d higher.rest lower.line_is higher.line_is there in
      let a : (range classes c).0 ≡ number_of (c ∷ lower.rest) = low_is c lc ∙ ap number_of lower.is in
      let b : (range classes d).0 ≡ number_of (d ∷ higher.rest) = low_is d ld ∙ ap number_of higher.is in
      let e : (range classes d).1 ≡ number_of (d ∷ higher.rest) + size_of d = high_is d ld ∙ ap (λ xs. number_of xs + size_of d) higher.is in
      (omega (arith, u.0, a, b), omega (arith, u.1, a, e))

  stands : (c d : ℕ) → c < n → d < n → ((range classes d).0 ≤ (range classes c).0) × ((range classes c).0 < (range classes d).1) → is_below classes c d ≡ true
  stands c d lc ld within =
      let lower : Lined (IsLine up n (suc c)) c (above classes c) = lined_at c lc in
      let higher : Lined (IsLine up n (suc d)) d (above classes d) = lined_at d ld in
      let a : (range classes c).0 ≡ number_of (c ∷ lower.rest) = low_is c lc ∙ ap number_of lower.is in
      let b : (range classes d).0 ≡ number_of (d ∷ higher.rest) = low_is d ld ∙ ap number_of higher.is in
      let e : (range classes d).1 ≡ number_of (d ∷ higher.rest) + size_of d = high_is d ld ∙ ap (λ xs. number_of xs + size_of d) higher.is in
      let there : Among d (c ∷ lower.rest) =
      only_below up n (above classes) lines_are c lower.rest d higher.rest lower.line_is higher.line_is
      (omega (arith, within.0, a, b)) (omega (arith, within.1, a, e)) in
      any_of d (above classes c) (subst (Among d) (sym lower.is) there)

  pub exact : IsExact classes
  exact c d lc ld = (falls c d lc ld, stands c d lc ld)
