-- The objects that are held, as they are computed, are those that roots or cycles reach.
use Rattle.std.proofs.Common.{◌≡◌, ◌<◌, ◌≤◌, ◌⊎◌, inl, inr, ℕ, zero, suc, ◌+◌, ◌-◌, ◌*◌, Bool, true, false, List, [], ◌∷◌, ◌++◌, length, Option, refl, sym, ap, ◌∙◌, arith}
use Rattle.std.specs.Prelude.{if◌then◌else◌, filter, sum_by}
use Rattle.std.specs.List.{flat_map, range_with_len}
use Rattle.csub_tree.specs.State.{Value, Block}
use Rattle.rpy_tree.specs.Value.{Value as Meant, Heap}
use Rattle.rpy_tree.specs.Held.{refs, texts, values_at, is_among, with_next, reached, is_on_cycle, on_cycles, held_objects}
use Rattle.rpy_meaning.specs.Moments.{counted}
use Rattle.ll_held.specs.Held.{are_distinct}
use Rattle.ll_bounded.specs.Represents.{IsIn, Represents, RootsStand, kept_refs, HeapReaches, Next, Then, HeapHeld, Root, Cycle, From, IsWhole, AtMostThree}
use Rattle.ll_bounded.proofs.Charged.{in_left, in_right, in_either}
use Rattle.ll_bounded.proofs.Counted.{few_blocks}
use Rattle.ll_bounded.proofs.Reached.{among_in, next_new, next_within, next_distinct, reached_old, closed}

module _ (heap : Heap) (holds : List Meant) (whole : IsWhole heap holds) where
  from_nothing : (ns : List ℕ) → are_distinct (with_next heap [] ns) ≡ true
  from_nothing ns = next_distinct heap [] ns refl

  within : (ns : List ℕ) → ((n : ℕ) → IsIn n ns → n < length heap) → (n : ℕ) → IsIn n (with_next heap [] ns) → n < length heap
  within ns f n i = next_within heap (length heap) [] ns (λ k j. absurd j) f n i

  -- an object on a cycle is found
  cycle_found : (i : ℕ) → HeapReaches heap i i → is_on_cycle heap i ≡ true
  cycle_found i w = among_in i (reached heap (length heap) (with_next heap [] (kept_refs heap i))) (found i w)
    where
      found : (j : ℕ) → HeapReaches heap i j → IsIn j (reached heap (length heap) (with_next heap [] (kept_refs heap i)))
      found j (Next h) = reached_old heap (length heap) j (with_next heap [] (kept_refs heap i)) (next_new heap j [] (kept_refs heap i) h)
      found k (Then {j = j} w h) = closed heap whole.kept (with_next heap [] (kept_refs heap i)) (from_nothing (kept_refs heap i)) (within (kept_refs heap i) (λ n q. whole.kept i n q)) j k (found j w) h

  listed : (n i : ℕ) → i < n → is_on_cycle heap i ≡ true → IsIn i (on_cycles heap n)
  listed zero i l e = absurd (omega (arith, l))
  listed (suc n) i l e = one (choose i n l) (listed n i)
    where
      choose : (a n : ℕ) → a < suc n → (a ≡ n) ⊎ (a < n)
      choose a n l = grind arith

      here : (b : Bool) → b ≡ true → i ≡ n → IsIn i (if b then n ∷ on_cycles heap n else on_cycles heap n)
      here true h q = inl q
      here false h q = absurd (cc)

      there : (b : Bool) → IsIn i (on_cycles heap n) → IsIn i (if b then n ∷ on_cycles heap n else on_cycles heap n)
      there true q = inr q
      there false q = q

      one : (i ≡ n) ⊎ (i < n) → (i < n → is_on_cycle heap i ≡ true → IsIn i (on_cycles heap n)) → IsIn i (if is_on_cycle heap n then n ∷ on_cycles heap n else on_cycles heap n)
      one (inl q) go = here (is_on_cycle heap n) (ap (is_on_cycle heap) (sym q) ∙ e) q
      one (inr m) go = there (is_on_cycle heap n) (go m e)

  cycles_below : (n m : ℕ) → IsIn m (on_cycles heap n) → m < n
  cycles_below zero m i = absurd i
  cycles_below (suc n) m i = one (is_on_cycle heap n) i (cycles_below n m)
    where
      one : (b : Bool) → IsIn m (if b then n ∷ on_cycles heap n else on_cycles heap n) → (IsIn m (on_cycles heap n) → m < n) → m < suc n
      one true (inl e) go = omega (arith, e)
      one true (inr q) go = let a : m < n = go q in omega (arith, a)
      one false q go = let a : m < n = go q in omega (arith, a)

  abbrev begin : List ℕ
  begin = flat_map refs holds ++ on_cycles heap (length heap)

  begin_within : (n : ℕ) → IsIn n begin → n < length heap
  begin_within n i = one (in_either n (flat_map refs holds) (on_cycles heap (length heap)) i)
    where
      one : IsIn n (flat_map refs holds) ⊎ IsIn n (on_cycles heap (length heap)) → n < length heap
      one (inl h) = whole.held n h
      one (inr h) = cycles_below (length heap) n h

  began : (n : ℕ) → IsIn n begin → IsIn n (held_objects holds heap)
  began n i = reached_old heap (length heap) n (with_next heap [] begin) (next_new heap n [] begin i)

  reaches_within : (i j : ℕ) → HeapReaches heap i j → j < length heap
  reaches_within i j (Next h) = whole.kept i j h
  reaches_within i k (Then {j = j} w h) = whole.kept j k h

  -- what is held is among the objects that are computed
  pub held_found : (i : ℕ) → HeapHeld heap holds i → IsIn i (held_objects holds heap)
  held_found i (Root h) = began i (in_left i (flat_map refs holds) (on_cycles heap (length heap)) h)
  held_found i (Cycle w) = began i (in_right i (flat_map refs holds) (on_cycles heap (length heap)) (listed (length heap) i (reaches_within i i w) (cycle_found i w)))
  held_found j (From {i = i} h r) = closed heap whole.kept (with_next heap [] begin) (from_nothing begin) (within begin begin_within) i j (held_found i h) r

-- ---- the objects that count

in_filter : (p : ℕ → Bool) (xs : List ℕ) (n : ℕ) → IsIn n xs → p n ≡ true → IsIn n (filter p xs)
in_filter p [] n i h = absurd i
in_filter p (x ∷ xs) n i h = one (p x) refl i (in_filter p xs n)
  where
    one : (b : Bool) → p x ≡ b → (n ≡ x) ⊎ IsIn n xs → (IsIn n xs → p n ≡ true → IsIn n (filter p xs)) → IsIn n (if b then x ∷ filter p xs else filter p xs)
    one true e (inl q) go = inl q
    one true e (inr q) go = inr (go q h)
    one false e (inl q) go = absurd (let f : p n ≡ false = ap p q ∙ e in cc)
    one false e (inr q) go = go q h

in_range : (k a n : ℕ) → a ≤ n → n < a + k → IsIn n (range_with_len a k)
in_range zero a n l m = absurd (omega (arith, l, m))
in_range (suc k) a n l m = one (choose a n l) (in_range k (a + 1) n)
  where
    choose : (a n : ℕ) → a ≤ n → (n ≡ a) ⊎ (a + 1 ≤ n)
    choose a n l = grind arith

    one : (n ≡ a) ⊎ (a + 1 ≤ n) → (a + 1 ≤ n → n < a + 1 + k → IsIn n (range_with_len (a + 1) k)) → (n ≡ a) ⊎ IsIn n (range_with_len (a + 1) k)
    one (inl q) go = inl q
    one (inr q) go = inr (go q (omega (arith, m)))

pub at_most_three : (prebuilt : ℕ) (heap : Heap) (blocks : List (Option Block)) (own : ℕ → List ℕ) (kept : ℕ → List Value) (rank : ℕ → ℕ) → Represents prebuilt heap blocks own kept rank → (roots : List Value) (holds : List Meant) → RootsStand blocks own roots holds → IsWhole heap holds → AtMostThree prebuilt heap blocks roots holds
at_most_three prebuilt heap blocks own kept rank r roots holds s whole bs d k =
    let a : length bs ≤ 3 * length (counted prebuilt holds heap) + (sum_by texts holds + sum_by (λ i. sum_by texts (values_at heap i)) (counted prebuilt holds heap)) =
    few_blocks prebuilt heap blocks own kept rank r roots holds s.values s.stand s.among (counted prebuilt holds heap)
    (λ i h le lt. in_filter (λ n. is_among n (held_objects holds heap)) (range_with_len prebuilt (length heap - prebuilt)) i (in_range (length heap - prebuilt) prebuilt i le (omega (arith, le, lt))) (among_in i (held_objects holds heap) (held_found heap holds whole i h))) bs d k in
    omega (arith, a)
