-- The classes that have structs, in their order: each once, and behind its base.
use Rattle.std.proofs.Common.{◌≡◌, ◌⊎◌, inl, inr, ◌<◌, ◌≤◌, ℕ, zero, suc, ◌+◌, Bool, true, false, List, [], ◌∷◌, ◌++◌, length, Option, Some, None, refl, sym, ap, ◌∙◌, subst, arith, length-append}
use Rattle.std.specs.Prelude.{◌^◌, slice_get, slice_set, replicate, nat_lt, nat_le, if◌then◌else◌}
use Rattle.std.proofs.lemmas.Bool.{ltb-true, ltb-false, leb-false, cases_eq}
use Rattle.std.proofs.lemmas.List.{length-set, length-replicate}
use Rattle.rpy_tree.specs.declared.program.ClassInfo.{ClassInfo}
use Rattle.class_desc.specs.Line.{base, is_below}
use Rattle.class_desc.specs.Range.{range, IsForest, IsExact}
use Rattle.class_desc.proofs.Exact.{exact}
use Rattle.class_desc.proofs.Intervals.{Among}
use Rattle.rtyper_layout.specs.Families.{class_at, top_of, is_marked, place_class, placed, in_family, in_families}
use Rattle.layout_laws.proofs.Lines.{Under, Here, Up, below_of, no_cycle, one_of_both, same_top, based_within, is_under}
use Rattle.layout_laws.proofs.Places.{same_some, no_some, not_true, get_within, get_replicate, set_here, set_there, among_left, among_last, among_either}

pub class_at_is : (n : ℕ) → n < 2 ^ 32 → class_at n ≡ n
class_at_is n lt = by (nat_le n 4294967295) refl
  where
    by : (b : Bool) → nat_le n 4294967295 ≡ b → (if b then n else 4294967295) ≡ n
    by true e = refl
    by false e = absurd (omega (arith, lt, leb-false n 4294967295 e))

-- a class of the list is one of the classes, does not stand before it, and its base does
abbrev pub Based : List ℕ → Option ℕ → Type 0
Based done None = Unit {0}
Based done (Some b) = Among b done

abbrev pub Ordered : List ClassInfo → List ℕ → List ℕ → Type 0
Ordered classes done [] = Unit {0}
Ordered classes done (c ∷ cs) = (c < length classes) × (Among c done → ⊥) × Based done (base classes c) × Ordered classes (done ++ c ∷ []) cs

-- the places of the first so many classes
record Slots (classes : List ClassInfo) (k : ℕ) (xs : List (Option ℕ)) : Type 0 where
  long : length xs ≡ length classes + 1
  is : (i c : ℕ) → slice_get xs i ≡ Some (Some c) → (c < k) × ((range classes c).0 ≡ i)
  at : (c : ℕ) → c < k → (range classes c).0 < length classes + 1 → slice_get xs (range classes c).0 ≡ Some (Some c)

module _ (classes : List ClassInfo) (tree : IsForest classes) where
  abbrev n : ℕ
  n = length classes

  abbrev low : ℕ → ℕ
  low c = (range classes c).0

  exactly : IsExact classes
  exactly = exact classes tree

  in_itself : (c : ℕ) → c < n → (range classes c).0 < (range classes c).1
  in_itself c lt = ((exactly c c lt lt).0 (below_of classes tree c c lt (Here c refl))).1

  low_one : (c d : ℕ) → c < n → d < n → low c ≡ low d → c ≡ d
  low_one c d lc ld e =
      let down : is_below classes c d ≡ true = (let z = in_itself d ld in (exactly c d lc ld).1 (omega (arith, e), omega (arith, e, z))) in
      let up : is_below classes d c ≡ true = (let z = in_itself c lc in (exactly d c ld lc).1 (omega (arith, e), omega (arith, e, z))) in
      one_of_both classes tree d c (is_under classes c d down) (is_under classes d c up)

  low_less : (c b : ℕ) → base classes c ≡ Some b → low b < low c
  low_less c b h =
      let lc : c < n = based_within classes c b h in
      let lb : b < n = tree.bases c b h in
      let within = (exactly c b lc lb).0 (below_of classes tree b c lc (Up c b h (Here b refl))) in
      elim (cases_eq (low b) (low c)) [
        | inl e ↦ absurd (no_cycle classes tree c b h (subst (Under classes c) (sym (low_one b c lb lc e)) (Here c refl)))
        | inr ne ↦ omega (arith, within.0, ne)
      ]

  -- ---- places

  no_slots : Slots classes 0 (replicate (n + 1) None)
  no_slots = record {
    long = length-replicate (n + 1) None;
    is = λ i c h. absurd (no_some (get_replicate (n + 1) i None (Some c) h));
    at = λ c lt inside. absurd (omega (arith, lt));
  }

  more_slots : (k : ℕ) (xs : List (Option ℕ)) → k < n → Slots classes k xs → (b : Bool) → nat_lt (low k) (length xs) ≡ b → Slots classes (suc k) (if b then slice_set xs (low k) (Some k) else xs)
  more_slots k xs lt old true e = record {
    long = length-set xs (low k) (Some k) ∙ old.long;
    is = λ i c h. is_it i c h (cases_eq (low k) i);
    at = λ c l inside. at_it c l inside (cases_eq k c);
  }
    where
      is_it : (i c : ℕ) → slice_get (slice_set xs (low k) (Some k)) i ≡ Some (Some c) → (low k ≡ i) ⊎ (low k ≡ i → ⊥) → (c < suc k) × (low c ≡ i)
      is_it i c h (inl q) =
          let same : k ≡ c = same_some (same_some (sym (set_here xs (low k) (Some k) (ltb-true (low k) (length xs) e)) ∙ ap (slice_get (slice_set xs (low k) (Some k))) q ∙ h)) in
          (omega (arith, same), ap low (sym same) ∙ q)
      is_it i c h (inr q) = (let was = old.is i c (sym (set_there xs (low k) i (Some k) q) ∙ h) in (omega (arith, was.0), was.1))

      at_it : (c : ℕ) → c < suc k → low c < n + 1 → (k ≡ c) ⊎ (k ≡ c → ⊥) → slice_get (slice_set xs (low k) (Some k)) (low c) ≡ Some (Some c)
      at_it c l inside (inl q) =
          ap (λ x. slice_get (slice_set xs (low k) (Some k)) (low x)) (sym q) ∙ set_here xs (low k) (Some k) (ltb-true (low k) (length xs) e) ∙ ap (λ x. Some (Some x)) q
      at_it c l inside (inr q) =
          set_there xs (low k) (low c) (Some k) (λ f. q (low_one k c lt (omega (arith, l, lt)) f)) ∙ old.at c (omega (arith, l, q)) inside
  more_slots k xs lt old false e = record {
    long = old.long;
    is = λ i c h. (let was = old.is i c h in (omega (arith, was.0), was.1));
    at = λ c l inside. at_it c l inside (cases_eq k c);
  }
    where
      at_it : (c : ℕ) → c < suc k → low c < n + 1 → (k ≡ c) ⊎ (k ≡ c → ⊥) → slice_get xs (low c) ≡ Some (Some c)
      at_it c l inside (inl q) = absurd (let same : low k ≡ low c = ap low q in omega (arith, same, inside, old.long, ltb-false (low k) (length xs) e))
      at_it c l inside (inr q) = old.at c (omega (arith, l, q)) inside

  slots : n ≤ 2 ^ 32 → (k : ℕ) → k ≤ n → Slots classes k (placed classes k)
  slots small zero le = no_slots
  slots small (suc k) le =
      subst (Slots classes (suc k)) (ap (λ c. place_class (low c) c (placed classes k)) (sym (class_at_is k (omega (arith, small, le)))))
      (more_slots k (placed classes k) (omega (arith, le)) (slots small k (omega (arith, le))) (nat_lt (low k) (length (placed classes k))) refl)

  -- ---- the classes of some families

  module _ (small : n ≤ 2 ^ 32) (marks : List Bool) where
    abbrev marked : ℕ → Bool
    marked c = is_marked marks (top_of classes c)

    whole : Slots classes n (placed classes n)
    whole = slots small n (omega arith)

    -- before this place stand just these
    record Seen (i : ℕ) (done : List ℕ) : Type 0 where
      before : (d : ℕ) → Among d done → (d < n) × (low d < i)
      all : (d : ℕ) → d < n → low d < i → low d < n + 1 → marked d ≡ true → Among d done

    Rest : List (Option ℕ) → ℕ → Type 0
    Rest xs i = (j : ℕ) → slice_get xs j ≡ slice_get (placed classes n) (i + j)

    next_rest : (x : Option ℕ) (xs : List (Option ℕ)) (i : ℕ) → Rest (x ∷ xs) i → Rest xs (i + 1)
    unfolding Rest
    next_rest x xs i same j = same (suc j) ∙ ap (slice_get (placed classes n)) (let e : i + suc j ≡ i + 1 + j = omega arith in e)

    at_first : (x : Option ℕ) (xs : List (Option ℕ)) (i : ℕ) → Rest (x ∷ xs) i → slice_get (placed classes n) i ≡ Some x
    unfolding Rest
    at_first x xs i same = ap (slice_get (placed classes n)) (let e : i ≡ i + 0 = omega arith in e) ∙ sym (same 0)

    -- what stands at a place
    at_place : (i d : ℕ) (x : Option ℕ) → slice_get (placed classes n) i ≡ Some x → d < n → low d ≡ i → low d < n + 1 → x ≡ Some d
    at_place i d x h lt e inside = same_some (sym h ∙ ap (slice_get (placed classes n)) (sym e) ∙ whole.at d lt inside)

    passed_none : (i : ℕ) (done : List ℕ) → slice_get (placed classes n) i ≡ Some None → Seen i done → Seen (i + 1) done
    passed_none i done h seen = record {
      before = λ d there. (let was = seen.before d there in (was.0, omega (arith, was.1)));
      all = λ d lt l inside m. by d lt l inside m (cases_eq (low d) i);
    }
      where
        by : (d : ℕ) → d < n → low d < i + 1 → low d < n + 1 → marked d ≡ true → (low d ≡ i) ⊎ (low d ≡ i → ⊥) → Among d done
        by d lt l inside m (inl e) = absurd (no_some (at_place i d None h lt e inside))
        by d lt l inside m (inr ne) = seen.all d lt (omega (arith, l, ne)) inside m

    passed_other : (i c : ℕ) (done : List ℕ) → slice_get (placed classes n) i ≡ Some (Some c) → marked c ≡ false → Seen i done → Seen (i + 1) done
    passed_other i c done h other seen = record {
      before = λ d there. (let was = seen.before d there in (was.0, omega (arith, was.1)));
      all = λ d lt l inside m. by d lt l inside m (cases_eq (low d) i);
    }
      where
        by : (d : ℕ) → d < n → low d < i + 1 → low d < n + 1 → marked d ≡ true → (low d ≡ i) ⊎ (low d ≡ i → ⊥) → Among d done
        by d lt l inside m (inl e) = absurd (not_true (sym other ∙ ap marked (same_some (at_place i d (Some c) h lt e inside)) ∙ m))
        by d lt l inside m (inr ne) = seen.all d lt (omega (arith, l, ne)) inside m

    passed_one : (i c : ℕ) (done : List ℕ) → slice_get (placed classes n) i ≡ Some (Some c) → Seen i done → Seen (i + 1) (done ++ c ∷ [])
    passed_one i c done h seen = record {
      before = λ d there. low_of d (among_either d done c there);
      all = λ d lt l inside m. by d lt l inside m (cases_eq (low d) i);
    }
      where
        low_of : (d : ℕ) → Among d done ⊎ (c ≡ d) → (d < n) × (low d < i + 1)
        low_of d (inl there) = (let was = seen.before d there in (was.0, omega (arith, was.1)))
        low_of d (inr e) = (let was = whole.is i c h in let same : low c ≡ low d = ap low e in (subst (λ x. x < n) e was.0, omega (arith, was.1, same)))

        by : (d : ℕ) → d < n → low d < i + 1 → low d < n + 1 → marked d ≡ true → (low d ≡ i) ⊎ (low d ≡ i → ⊥) → Among d (done ++ c ∷ [])
        by d lt l inside m (inl e) = among_last d done c (same_some (at_place i d (Some c) h lt e inside))
        by d lt l inside m (inr ne) = among_left d done (c ∷ []) (seen.all d lt (omega (arith, l, ne)) inside m)

    based_on : (i c : ℕ) (done : List ℕ) → slice_get (placed classes n) i ≡ Some (Some c) → marked c ≡ true → Seen i done → (o : Option ℕ) → base classes c ≡ o → Based done o
    based_on i c done h m seen None e = tt
    based_on i c done h m seen (Some b) e =
        let was = whole.is i c h in
        let less : low b < low c = low_less c b e in
        let within : i < n + 1 = (let z = get_within (placed classes n) i (Some c) h in omega (arith, z, whole.long)) in
        seen.all b (tree.bases c b e) (omega (arith, less, was.1)) (omega (arith, less, was.1, within)) (sym (ap (is_marked marks) (same_top classes tree c b e)) ∙ m)

    ordered_from : (xs : List (Option ℕ)) (i : ℕ) (done : List ℕ) → Rest xs i → Seen i done → Ordered classes done (in_families classes marks xs)
    ordered_from [] i done same seen = tt
    ordered_from (None ∷ xs) i done same seen = ordered_from xs (i + 1) done (next_rest None xs i same) (passed_none i done (at_first None xs i same) seen)
    ordered_from (Some c ∷ xs) i done same seen = by (λ d s. ordered_from xs (i + 1) d (next_rest (Some c) xs i same) s) (marked c) refl
      where
        here : slice_get (placed classes n) i ≡ Some (Some c)
        here = at_first (Some c) xs i same

        by : ((d : List ℕ) → Seen (i + 1) d → Ordered classes d (in_families classes marks xs)) → (b : Bool) → marked c ≡ b → Ordered classes done ((if b then c ∷ [] else []) ++ in_families classes marks xs)
        by go true m = (
          (whole.is i c here).0,
          λ there. omega (arith, (seen.before c there).1, (whole.is i c here).1),
          based_on i c done here m seen (base classes c) refl,
          go (done ++ c ∷ []) (passed_one i c done here seen),
        )
        by go false m = go done (passed_other i c done here m seen)

    pub ordered : Ordered classes [] (in_families classes marks (placed classes n))
    unfolding Rest
    ordered =
        ordered_from (placed classes n) 0 [] (λ j. ap (slice_get (placed classes n)) (let e : j ≡ 0 + j = omega arith in e))
        (record { before = λ d there. absurd there; all = λ d lt l inside m. absurd (omega (arith, l)) })

    in_one : (c : ℕ) (b : Bool) → length (if b then c ∷ [] else []) ≤ 1
    in_one c true = omega arith
    in_one c false = omega arith

    in_few : (xs : List (Option ℕ)) → length (in_families classes marks xs) ≤ length xs
    in_few [] = omega arith
    in_few (None ∷ xs) = omega (arith, in_few xs)
    in_few (Some c ∷ xs) =
        let one : length (in_family classes marks (Some c)) ≤ 1 = in_one c (marked c) in
        let both : length (in_families classes marks (Some c ∷ xs)) ≡ length (in_family classes marks (Some c)) + length (in_families classes marks xs) = length-append (in_family classes marks (Some c)) (in_families classes marks xs) in
        omega (arith, one, both, in_few xs)

    pub few_ordered : length (in_families classes marks (placed classes n)) ≤ n + 1
    few_ordered = omega (arith, in_few (placed classes n), whole.long)
