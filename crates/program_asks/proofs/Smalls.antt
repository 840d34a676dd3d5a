-- Small graphs, one after the other.
use Rattle.std.proofs.Common.{◌≡◌, ◌<◌, ◌≤◌, ℕ, zero, suc, ◌+◌, List, [], ◌∷◌, ◌++◌, length, slice_get, Option, Some, None, ◌⊎◌, inl, inr, refl, sym, ap, subst, ◌∙◌, arith}
use Rattle.ll_code.specs.declared.program.LlGraph.{LlGraph}
use Rattle.rtyper_data.specs.declared.found.Found.{Found}
use Rattle.rtyper_data.specs.declared.small.Small.{Small}
use Rattle.rtyper_class.specs.Seen.{World}
use Rattle.rtyper_program.specs.Program.{small_of, smalls_to, with_small}
use Rattle.growth_laws.specs.Growing.{Grows}
use Rattle.program_asks.specs.Standing.{SmallsOnlyAsk, Stands}
use Rattle.growth_laws.proofs.Fronts.{in_front, last_one, longer, stays}
use Rattle.growth_laws.proofs.Growing.{growth_is_one, same_found}

-- where there is no item none is behind it
none_behind : {A : Type 0} (xs : List A) (n m : ℕ) (x : A) → slice_get xs n ≡ None → n ≤ m → slice_get xs m ≡ Some x → ⊥
none_behind [] n m x e h f = absurd (let k : None ≡ Some x = f in cc)
none_behind (y ∷ xs) zero m x e h f = absurd (let k : Some y ≡ None = e in cc)
none_behind (y ∷ xs) (suc n) zero x e h f = absurd (omega (arith, h))
none_behind (y ∷ xs) (suc n) (suc m) x e h f = let k : n ≤ m = omega (arith, h) in none_behind xs n m x e k f

-- and where there is one there is one before it
one_before : {A : Type 0} (xs : List A) (n m : ℕ) (x : A) → slice_get xs m ≡ Some x → n ≤ m → (y : A) × (slice_get xs n ≡ Some y)
one_before [] n m x e h = absurd (let k : None ≡ Some x = e in cc)
one_before (y ∷ xs) zero m x e h = (y, refl)
one_before (y ∷ xs) (suc n) zero x e h = absurd (omega (arith, h))
one_before (y ∷ xs) (suc n) (suc m) x e h = let k : n ≤ m = omega (arith, h) in one_before xs n m x e k

same_one : {A : Type 0} (o : Option A) (x y : A) → o ≡ Some x → o ≡ Some y → x ≡ y
same_one o x y e f = let g : Some x ≡ Some y = sym e ∙ f in cc

last_or_before : (n k : ℕ) → n < suc k → (n < k) ⊎ (n ≡ k)
last_or_before zero zero h = inr refl
last_or_before zero (suc k) h = inl (omega arith)
last_or_before (suc n) zero h = absurd (omega (arith, h))
last_or_before (suc n) (suc k) h = one_up (last_or_before n k (omega (arith, h)))
  where
    one_up : (n < k) ⊎ (n ≡ k) → (suc n < suc k) ⊎ (suc n ≡ suc k)
    one_up (inl d) = inl (omega (arith, d))
    one_up (inr d) = inr (ap suc d)

below : (n k : ℕ) → (n < k) ⊎ (k ≤ n)
below n zero = inr (omega arith)
below zero (suc k) = inl (omega arith)
below (suc n) (suc k) = one_up (below n k)
  where
    one_up : (n < k) ⊎ (k ≤ n) → (suc n < suc k) ⊎ (suc k ≤ suc n)
    one_up (inl d) = inl (omega (arith, d))
    one_up (inr d) = inr (omega (arith, d))

module _ (world : World) where
  -- as long as there are further ones, each that is written is one more graph
  grown : (n : ℕ) (made : List LlGraph × Found) (o : Option Small) (t : Small) (k : ℕ) → slice_get made.1.smalls n ≡ o → slice_get (with_small world o made).1.smalls (suc n) ≡ Some t
      → length made.0 ≡ k → length (with_small world o made).0 ≡ k + 1
  grown n made None t k e f h = absurd (none_behind made.1.smalls n (suc n) t e (omega arith) f)
  grown n made (Some u) t k e f h = let g : length (made.0 ++ (small_of world u made.1).0 ∷ []) ≡ length made.0 + 1 = longer made.0 (small_of world u made.1).0 in omega (arith, g, h)

  counted : (n : ℕ) (made : List LlGraph × Found) (t : Small) → slice_get (smalls_to world n made).1.smalls n ≡ Some t → length (smalls_to world n made).0 ≡ length made.0 + n
  counted zero made t e = omega arith
  counted (suc n) made t e =
      let b = before (slice_get (smalls_to world n made).1.smalls n) refl in
      let g : length (with_small world (slice_get (smalls_to world n made).1.smalls n) (smalls_to world n made)).0 ≡ length made.0 + n + 1
      = grown n (smalls_to world n made) (slice_get (smalls_to world n made).1.smalls n) t (length made.0 + n) refl e (counted n made b.0 b.1) in
      omega (arith, g)
    where
      before : (o : Option Small) → slice_get (smalls_to world n made).1.smalls n ≡ o → (u : Small) × (slice_get (smalls_to world n made).1.smalls n ≡ Some u)
      before (Some u) f = (u, f)
      before None f = absurd (none_behind (smalls_to world n made).1.smalls n (suc n) t f (omega arith) (subst (λ o. slice_get (with_small world o (smalls_to world n made)).1.smalls (suc n) ≡ Some t) f e))

  module _ (keeps : SmallsOnlyAsk world) where
    -- one more graph behind those that are there
    still : (graphs : List LlGraph) (g : LlGraph) (last after : Found) (n : ℕ) (s : Small) → Grows last after → Stands graphs world last n s → Stands (graphs ++ g ∷ []) world after n s
    still graphs g last after n s grows h = record {
      made = h.made;
      graph = in_front graphs (g ∷ []) n (small_of world s h.made).0 h.graph;
      grows = growth_is_one (small_of world s h.made).1 last after h.grows grows;
    }

    -- the last one that was written
    newest : (m : List LlGraph × Found) (k n : ℕ) (s t : Small) → length m.0 ≡ k → slice_get m.1.smalls n ≡ Some t → slice_get (small_of world t m.1).1.smalls n ≡ Some s
        → Stands (m.0 ++ (small_of world t m.1).0 ∷ []) world (small_of world t m.1).1 k s
    newest m k n s t c e f =
        let q : t ≡ s = same_one (slice_get (small_of world t m.1).1.smalls n) t s (stays m.1.smalls (small_of world t m.1).1.smalls n t (keeps t m.1).smalls e) f in
        subst (λ u. Stands (m.0 ++ (small_of world t m.1).0 ∷ []) world (small_of world t m.1).1 k u) q (record {
          made = m.1;
          graph = subst (λ i. slice_get (m.0 ++ (small_of world t m.1).0 ∷ []) i ≡ Some (small_of world t m.1).0) c (last_one m.0 (small_of world t m.1).0);
          grows = same_found (small_of world t m.1).1;
        })

    -- an earlier one
    earlier : (m : List LlGraph × Found) (first k n : ℕ) (s t : Small) → n < k → slice_get m.1.smalls k ≡ Some t → slice_get (small_of world t m.1).1.smalls n ≡ Some s
        → ((u : Small) → slice_get m.1.smalls n ≡ Some u → Stands m.0 world m.1 (first + n) u)
        → Stands (m.0 ++ (small_of world t m.1).0 ∷ []) world (small_of world t m.1).1 (first + n) s
    earlier m first k n s t h e f all =
        let b = one_before m.1.smalls n k t e (omega (arith, h)) in
        let q : b.0 ≡ s = same_one (slice_get (small_of world t m.1).1.smalls n) b.0 s (stays m.1.smalls (small_of world t m.1).1.smalls n b.0 (keeps t m.1).smalls b.1) f in
        still m.0 (small_of world t m.1).0 m.1 (small_of world t m.1).1 (first + n) s (keeps t m.1) (subst (λ u. Stands m.0 world m.1 (first + n) u) q (all b.0 b.1))

    -- one more turn, where those before it stand
    turn : (k : ℕ) (made : List LlGraph × Found) (n : ℕ) (s : Small) (o : Option Small) → (n < k) ⊎ (n ≡ k)
        → ((u : Small) → n < k → slice_get (smalls_to world k made).1.smalls n ≡ Some u → Stands (smalls_to world k made).0 world (smalls_to world k made).1 (length made.0 + n) u)
        → slice_get (smalls_to world k made).1.smalls k ≡ o → slice_get (with_small world o (smalls_to world k made)).1.smalls n ≡ Some s
        → Stands (with_small world o (smalls_to world k made)).0 world (with_small world o (smalls_to world k made)).1 (length made.0 + n) s
    turn k made n s None (inl d) all f g = all s d g
    turn k made n s None (inr d) all f g = absurd (let q : Some s ≡ None = sym g ∙ (ap (λ i. slice_get (smalls_to world k made).1.smalls i) d ∙ f) in cc)
    turn k made n s (Some t) (inl d) all f g = earlier (smalls_to world k made) (length made.0) k n s t d f g (λ u b. all u d b)
    turn k made n s (Some t) (inr d) all f g =
        newest (smalls_to world k made) (length made.0 + n) n s t (counted k made t f ∙ ap (λ i. length made.0 + i) (sym d)) (ap (λ i. slice_get (smalls_to world k made).1.smalls i) d ∙ f) g

    stood : (count : ℕ) (made : List LlGraph × Found) (n : ℕ) (s : Small) → n < count → slice_get (smalls_to world count made).1.smalls n ≡ Some s
        → Stands (smalls_to world count made).0 world (smalls_to world count made).1 (length made.0 + n) s
    stood zero made n s h e = absurd (omega (arith, h))
    stood (suc k) made n s h e = turn k made n s (slice_get (smalls_to world k made).1.smalls k) (last_or_before n k h) (λ u d b. stood k made n u d b) refl e

    -- all of them are written where there is no further one
    pub smalls_stand : (count : ℕ) (made : List LlGraph × Found) (n : ℕ) (s : Small) → slice_get (smalls_to world count made).1.smalls count ≡ None → slice_get (smalls_to world count made).1.smalls n ≡ Some s
        → Stands (smalls_to world count made).0 world (smalls_to world count made).1 (length made.0 + n) s
    smalls_stand count made n s e f = within (below n count)
      where
        within : (n < count) ⊎ (count ≤ n) → Stands (smalls_to world count made).0 world (smalls_to world count made).1 (length made.0 + n) s
        within (inl h) = stood count made n s h f
        within (inr h) = absurd (none_behind (smalls_to world count made).1.smalls count n s e h f)
