-- Bases from which those that lead back are gone come to an end.
use Rattle.std.proofs.Common.{◌≡◌, ℕ, ◌+◌, ◌≤◌, ◌<◌, zero, suc, List, [], ◌∷◌, ◌++◌, length, length-append, Bool, true, false, cond, Option, Some, None, sym, ap, ◌∙◌, refl, arith, subst, ◌⊎◌, inl, inr}
use Rattle.std.specs.Prelude.{nat_eq, ◌||◌, slice_get}
use Rattle.std.specs.List.{AllByRecursion, list_any}
use Rattle.std.proofs.lemmas.Grind.{common_steps}
use Rattle.names_bound.specs.Scopes.{base_of, base_in}
use Rattle.names_rules.specs.Bases.{above, above_at, leads_back, kept_to, without_rings}

abbrev Bases : Type 0
Bases = List (Option ℕ)

-- ---- different numbers below n are no more than n

abbrev has : List ℕ → ℕ → Bool
has xs n = list_any (λ x. nat_eq x n) xs

abbrev Distinct : List ℕ → Type 0
Distinct [] = Unit {0}
Distinct (x ∷ xs) = (has xs x ≡ false) × Distinct xs

abbrev without : ℕ → List ℕ → List ℕ
without n [] = []
without n (x ∷ xs) = cond (nat_eq x n) (without n xs) (x ∷ without n xs)

abbrev AllUnder : ℕ → List ℕ → Type 0
AllUnder n xs = AllByRecursion (λ x. x < n) xs

neither : (a b : Bool) → (a || b) ≡ false → (a ≡ false) × (b ≡ false)
neither true b h = absurd cc
neither false b h = (refl, h)

same_number : (a b : ℕ) → nat_eq a b ≡ true → a ≡ b
same_number a b h = grind (arith, common_steps)

other_number : (x n : ℕ) → x < suc n → nat_eq x n ≡ false → x < n
other_number x n h e = grind (arith, common_steps)

none_gone : (n : ℕ) (xs : List ℕ) → has xs n ≡ false → without n xs ≡ xs
none_gone n [] h = refl
none_gone n (x ∷ xs) h = let both : (nat_eq x n ≡ false) × (has xs n ≡ false) = neither (nat_eq x n) (has xs n) h in
    ap (λ b. cond b (without n xs) (x ∷ without n xs)) both.0 ∙ ap (λ ys. x ∷ ys) (none_gone n xs both.1)

still_none : (n x : ℕ) (xs : List ℕ) → has xs x ≡ false → has (without n xs) x ≡ false
still_none n x [] h = refl
still_none n x (y ∷ xs) h = by_test (nat_eq y n) (still_none n x xs both.1) where
  both : (nat_eq y x ≡ false) × (has xs x ≡ false)
  both = neither (nat_eq y x) (has xs x) h

  by_test : (b : Bool) → has (without n xs) x ≡ false → has (cond b (without n xs) (y ∷ without n xs)) x ≡ false
  by_test true k = k
  by_test false k = (λ j. both.0 j || k j)

still_distinct : (n : ℕ) (xs : List ℕ) → Distinct xs → Distinct (without n xs)
still_distinct n [] h = tt
still_distinct n (x ∷ xs) h = by_test (nat_eq x n) (still_distinct n xs h.1) where
  by_test : (b : Bool) → Distinct (without n xs) → Distinct (cond b (without n xs) (x ∷ without n xs))
  by_test true k = k
  by_test false k = (still_none n x xs h.0, k)

under_less : (n : ℕ) (xs : List ℕ) → AllUnder (suc n) xs → AllUnder n (without n xs)
under_less n [] h = tt
under_less n (x ∷ xs) h = by_test (nat_eq x n) refl (under_less n xs h.1) where
  by_test : (b : Bool) → nat_eq x n ≡ b → AllUnder n (without n xs) → AllUnder n (cond b (without n xs) (x ∷ without n xs))
  by_test true e k = k
  by_test false e k = (other_number x n h.0 e, k)

one_gone : (n : ℕ) (xs : List ℕ) → Distinct xs → length xs ≤ suc (length (without n xs))
one_gone n [] h = omega arith
one_gone n (x ∷ xs) h = by_test (nat_eq x n) refl (one_gone n xs h.1) where
  gone : nat_eq x n ≡ true → length xs ≡ length (without n xs)
  gone e = ap length (sym (none_gone n xs (ap (has xs) (sym (same_number x n e)) ∙ h.0)))

  by_test : (b : Bool) → nat_eq x n ≡ b → length xs ≤ suc (length (without n xs)) → suc (length xs) ≤ suc (length (cond b (without n xs) (x ∷ without n xs)))
  by_test true e k = omega (arith, gone e)
  by_test false e k = omega (arith, k)

no_more : (n : ℕ) (xs : List ℕ) → Distinct xs → AllUnder n xs → length xs ≤ n
no_more zero [] h k = omega arith
no_more zero (x ∷ xs) h k = absurd (omega (arith, k.0))
no_more (suc n) xs h k = omega (arith, one_gone n xs h, no_more n (without n xs) (still_distinct n xs h) (under_less n xs k))

-- ---- bases that are kept

at_end : {A : Type 0} (xs : List A) (x y : A) (c : ℕ) → slice_get (xs ++ x ∷ []) c ≡ Some y → (slice_get xs c ≡ Some y) ⊎ ((c ≡ length xs) × (Some x ≡ Some y))
at_end [] x y zero h = inr (refl, h)
at_end [] x y (suc c) h = absurd cc
at_end (z ∷ xs) x y zero h = inl h
at_end (z ∷ xs) x y (suc c) h = by_rest (at_end xs x y c h) where
  by_rest : ((slice_get xs c ≡ Some y) ⊎ ((c ≡ length xs) × (Some x ≡ Some y))) → (slice_get xs c ≡ Some y) ⊎ ((suc c ≡ suc (length xs)) × (Some x ≡ Some y))
  by_rest (inl e) = inl e
  by_rest (inr e) = inr (ap suc e.0, e.1)

module _ (bs : Bases) where
  abbrev kept_at : ℕ → Option ℕ
  kept_at n = cond (leads_back bs n) None (base_in bs n)

  kept_many : (n : ℕ) → length (kept_to bs n) ≡ n
  kept_many zero = refl
  kept_many (suc n) = length-append (kept_to bs n) (kept_at n ∷ []) ∙ ap (λ k. k + 1) (kept_many n) ∙ next n where
    next : (n : ℕ) → n + 1 ≡ suc n
    next n = omega arith

  kept_by : (t : Bool) (o : Option ℕ) (b : ℕ) → cond t None o ≡ Some b → (o ≡ Some b) × (t ≡ false)
  kept_by true o b h = absurd cc
  kept_by false o b h = (h, refl)

  some_same : (x y : Option ℕ) → Some x ≡ Some y → x ≡ y
  some_same x y e = ap base_of e

  kept_is : (n c b : ℕ) → slice_get (kept_to bs n) c ≡ Some (Some b) → (base_in bs c ≡ Some b) × (leads_back bs c ≡ false)
  kept_is zero zero b h = absurd cc
  kept_is zero (suc c) b h = absurd cc
  kept_is (suc n) c b h = by_end (at_end (kept_to bs n) (kept_at n) (Some b) c h) (λ e. kept_is n c b e) where
    by_end : ((slice_get (kept_to bs n) c ≡ Some (Some b)) ⊎ ((c ≡ length (kept_to bs n)) × (Some (kept_at n) ≡ Some (Some b)))) → (slice_get (kept_to bs n) c ≡ Some (Some b) → (base_in bs c ≡ Some b) × (leads_back bs c ≡ false)) → (base_in bs c ≡ Some b) × (leads_back bs c ≡ false)
    by_end (inl e) go = go e
    by_end (inr e) go = subst (λ (k : ℕ). (base_in bs k ≡ Some b) × (leads_back bs k ≡ false)) (sym (e.0 ∙ kept_many n)) (kept_by (leads_back bs n) (base_in bs n) b (some_same (kept_at n) (Some b) e.1))

  abbrev ks : Bases
  ks = without_rings bs

  in_some : (o : Option (Option ℕ)) (b : ℕ) → base_of o ≡ Some b → o ≡ Some (Some b)
  in_some None b h = absurd cc
  in_some (Some x) b h = ap Some h

  kept_base : (c b : ℕ) → base_in ks c ≡ Some b → (base_in bs c ≡ Some b) × (leads_back bs c ≡ false)
  kept_base c b h = kept_is (length bs) c b (in_some (slice_get ks c) b h)

  -- ---- a way up by kept bases is one by all bases, and never comes back

  on_way : (k n y x : ℕ) → k ≤ n → has (above ks k y) x ≡ true → has (above bs n y) x ≡ true
  on_way zero n y x le h = absurd cc
  on_way (suc k) zero y x le h = absurd (omega (arith, le))
  on_way (suc k) (suc n) y x le h = by_base (base_in ks y) refl h (λ b g. on_way k n b x (omega (arith, le)) g) where
    either : (a p q : Bool) → (p ≡ true → q ≡ true) → (a || p) ≡ true → (a || q) ≡ true
    either true p q f g = refl
    either false p q f g = f g

    by_base : (o : Option ℕ) → base_in ks y ≡ o → has (above_at (above ks k) o) x ≡ true → ((b : ℕ) → has (above ks k b) x ≡ true → has (above bs n b) x ≡ true) → has (above_at (above bs n) (base_in bs y)) x ≡ true
    by_base None e g go = absurd cc
    by_base (Some b) e g go = ap (λ o. has (above_at (above bs n) o) x) (kept_base y b e).0 ∙ either (nat_eq b x) (has (above ks k b) x) (has (above bs n b) x) (go b) g

  false_if : (b : Bool) → (b ≡ true → false ≡ true) → b ≡ false
  false_if true f = sym (f refl)
  false_if false f = refl

  not_back : (k y : ℕ) → k ≤ length bs → has (above ks k y) y ≡ false
  not_back zero y le = refl
  not_back (suc k) y le = by_base (base_in ks y) refl where
    by_base : (o : Option ℕ) → base_in ks y ≡ o → has (above_at (above ks k) (base_in ks y)) y ≡ false
    by_base None e = ap (λ o. has (above_at (above ks k) o) y) e
    by_base (Some b) e = false_if (has (above ks (suc k) y) y) (λ h. sym (kept_base y b e).1 ∙ on_way (suc k) (length bs) y y le h)

  distinct : (k y : ℕ) → k ≤ length bs → Distinct (y ∷ above ks k y)
  distinct zero y le = (refl, tt)
  distinct (suc k) y le = (not_back (suc k) y le, by_base (base_in ks y) (λ b. distinct k b (omega (arith, le)))) where
    by_base : (o : Option ℕ) → ((b : ℕ) → Distinct (b ∷ above ks k b)) → Distinct (above_at (above ks k) o)
    by_base None go = tt
    by_base (Some b) go = go b

  pub bases_many : length ks ≡ length bs
  bases_many = kept_many (length bs)

  -- where all bases are classes
  module _ (are : (c b : ℕ) → base_in bs c ≡ Some b → b < length bs) where
    pub kept_are : (c b : ℕ) → base_in ks c ≡ Some b → b < length bs
    kept_are c b e = are c b (kept_base c b e).0

    under : (k y : ℕ) → AllUnder (length bs) (above ks k y)
    under zero y = tt
    under (suc k) y = by_base (base_in ks y) refl (λ b. under k b) where
      by_base : (o : Option ℕ) → base_in ks y ≡ o → ((b : ℕ) → AllUnder (length bs) (above ks k b)) → AllUnder (length bs) (above_at (above ks k) o)
      by_base None e go = tt
      by_base (Some b) e go = (kept_are y b e, go b)

    -- the bases from here on come to an end within so many
    abbrev pub ends_in : ℕ → Option ℕ → Bool
    ends_in k None = true
    ends_in zero (Some c) = false
    ends_in (suc k) (Some c) = ends_in k (base_in ks c)

    long : (k y : ℕ) → ends_in k (Some y) ≡ false → length (above ks k y) ≡ k
    long zero y h = refl
    long (suc k) y h = by_base (base_in ks y) h (λ b g. long k b g) where
      by_base : (o : Option ℕ) → ends_in k o ≡ false → ((b : ℕ) → ends_in k (Some b) ≡ false → length (above ks k b) ≡ k) → length (above_at (above ks k) o) ≡ suc k
      by_base None g go = absurd (clash g) where
        clash : true ≡ false → ⊥
        clash e = absurd cc
      by_base (Some b) g go = ap suc (go b g)

    true_if : (b : Bool) → (b ≡ false → ⊥) → b ≡ true
    true_if true f = refl
    true_if false f = absurd (f refl)

    itself : (n : ℕ) → n ≤ n
    itself n = omega arith

    pub ending : (c : ℕ) → c < length bs → ends_in (length bs) (Some c) ≡ true
    ending c lt = true_if (ends_in (length bs) (Some c)) too_long where
      few : length (c ∷ above ks (length bs) c) ≤ length bs
      few = no_more (length bs) (c ∷ above ks (length bs) c) (distinct (length bs) c (itself (length bs))) (lt, under (length bs) c)

      one_more : (n m : ℕ) → m ≡ n → suc m ≤ n → ⊥
      one_more n m e h = absurd (omega (arith, e, h))

      too_long : ends_in (length bs) (Some c) ≡ false → ⊥
      too_long h = one_more (length bs) (length (above ks (length bs) c)) (long (length bs) c h) few
