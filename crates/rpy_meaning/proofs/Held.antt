-- Roots that hold no more reach no more.
use Rattle.std.proofs.Common.{◌≡◌, ℕ, zero, suc, ◌+◌, ◌-◌, ◌≤◌, List, [], ◌∷◌, ◌++◌, Bool, true, false, refl, sym, ap, subst, arith, length, ◌⊎◌, inl, inr}
use Rattle.std.proofs.lemmas.Bool.{eqb-true, eq-eqb}
use Rattle.std.proofs.lemmas.List.Sums.{sum_by-cons}
use Rattle.std.specs.Prelude.{◌==◌, ◌||◌, sum_by, filter, if◌then◌else◌}
use Rattle.std.specs.List.{flat_map, range_with_len}
use Rattle.rpy_tree.specs.Value.{Value, Heap}
use Rattle.rpy_tree.specs.Held.{refs, texts, values_at, is_among, with_next, spread, reached, on_cycles, held_objects}
use Rattle.rpy_meaning.specs.Moments.{weight, held, references, NoMore}

abbrev In : ℕ → List ℕ → Type 0
In n xs = is_among n xs ≡ true

either_left : (a b : Bool) → a ≡ true → (a || b) ≡ true
either_left true b h = refl
either_left false b h = absurd (cc h)

either_right : (a b : Bool) → b ≡ true → (a || b) ≡ true
either_right true b h = refl
either_right false b h = h

either_of : (a b : Bool) → (a || b) ≡ true → (a ≡ true) ⊎ (b ≡ true)
either_of true b h = inl refl
either_of false b h = inr h

in_append_left : (n : ℕ) (xs ys : List ℕ) → In n xs → In n (xs ++ ys)
in_append_left n [] ys h = absurd (cc h)
in_append_left n (x ∷ xs) ys h = step (either_of (x == n) (is_among n xs) h) (in_append_left n xs ys)
  where
    step : (((x == n) ≡ true) ⊎ In n xs) → (In n xs → In n (xs ++ ys)) → In n (x ∷ xs ++ ys)
    step (inl e) go = either_left (x == n) (is_among n (xs ++ ys)) e
    step (inr e) go = either_right (x == n) (is_among n (xs ++ ys)) (go e)

in_append_right : (n : ℕ) (xs ys : List ℕ) → In n ys → In n (xs ++ ys)
in_append_right n [] ys h = h
in_append_right n (x ∷ xs) ys h = either_right (x == n) (is_among n (xs ++ ys)) (in_append_right n xs ys h)

in_append_of : (n : ℕ) (xs ys : List ℕ) → In n (xs ++ ys) → In n xs ⊎ In n ys
in_append_of n [] ys h = inr h
in_append_of n (x ∷ xs) ys h = step (either_of (x == n) (is_among n (xs ++ ys)) h) (in_append_of n xs ys)
  where
    further : In n xs ⊎ In n ys → In n (x ∷ xs) ⊎ In n ys
    further (inl e) = inl (either_right (x == n) (is_among n xs) e)
    further (inr e) = inr e

    step : (((x == n) ≡ true) ⊎ In n (xs ++ ys)) → (In n (xs ++ ys) → In n xs ⊎ In n ys) → In n (x ∷ xs) ⊎ In n ys
    step (inl e) go = inl (either_left (x == n) (is_among n xs) e)
    step (inr e) go = further (go e)

append_more : (n : ℕ) (xs xs' ys : List ℕ) → ((m : ℕ) → In m xs → In m xs') → In n (xs ++ ys) → In n (xs' ++ ys)
append_more n xs xs' ys f h = step (in_append_of n xs ys h)
  where
    step : In n xs ⊎ In n ys → In n (xs' ++ ys)
    step (inl e) = in_append_left n xs' ys (f n e)
    step (inr e) = in_append_right n xs' ys e

-- ---- what the items of a list refer to

in_flat_at : (f : ℕ → List ℕ) (m n : ℕ) (ys : List ℕ) → In m ys → In n (f m) → In n (flat_map f ys)
in_flat_at f m n [] h e = absurd (cc h)
in_flat_at f m n (y ∷ ys) h e = step (either_of (y == m) (is_among m ys) h) (in_flat_at f m n ys)
  where
    step : (((y == m) ≡ true) ⊎ In m ys) → (In m ys → In n (f m) → In n (flat_map f ys)) → In n (f y ++ flat_map f ys)
    step (inl z) go = in_append_left n (f y) (flat_map f ys) (subst (λ x. In n (f x)) (sym (eqb-true y m z)) e)
    step (inr z) go = in_append_right n (f y) (flat_map f ys) (go z e)

flat_more : (f : ℕ → List ℕ) (xs ys : List ℕ) → ((m : ℕ) → In m xs → In m ys) → (n : ℕ) → In n (flat_map f xs) → In n (flat_map f ys)
flat_more f [] ys sub n h = absurd (cc h)
flat_more f (x ∷ xs) ys sub n h = step (in_append_of n (f x) (flat_map f xs) h) (flat_more f xs ys (λ m e. sub m (either_right (x == m) (is_among m xs) e)) n)
  where
    step : In n (f x) ⊎ In n (flat_map f xs) → (In n (flat_map f xs) → In n (flat_map f ys)) → In n (flat_map f ys)
    step (inl e) go = in_flat_at f x n ys (sub x (either_left (x == x) (is_among x xs) (eq-eqb x x refl))) e
    step (inr e) go = go e

-- ---- what is reached

grown_old : (b : Bool) (n m : ℕ) (seen : List ℕ) → In n seen → In n (if b then seen else m ∷ seen)
grown_old true n m seen h = h
grown_old false n m seen h = either_right (m == n) (is_among n seen) h

grown_new : (m : ℕ) (seen : List ℕ) → In m (if is_among m seen then seen else m ∷ seen)
grown_new m seen = step (is_among m seen) refl
  where
    step : (b : Bool) → is_among m seen ≡ b → In m (if b then seen else m ∷ seen)
    step true e = e
    step false e = either_left (m == m) (is_among m seen) (eq-eqb m m refl)

grown_of : (b : Bool) (n m : ℕ) (seen : List ℕ) → In n (if b then seen else m ∷ seen) → (m ≡ n) ⊎ In n seen
grown_of true n m seen h = inr h
grown_of false n m seen h = step (either_of (m == n) (is_among n seen) h)
  where
    step : (((m == n) ≡ true) ⊎ In n seen) → (m ≡ n) ⊎ In n seen
    step (inl e) = inl (eqb-true m n e)
    step (inr e) = inr e

module _ (heap : Heap) where
  next_old : (n : ℕ) (seen ns : List ℕ) → In n seen → In n (with_next heap seen ns)
  next_old n seen [] h = h
  next_old n seen (m ∷ ns) h = next_old n (if is_among m seen then seen else m ∷ seen) ns (grown_old (is_among m seen) n m seen h)

  next_new : (n : ℕ) (seen ns : List ℕ) → In n ns → In n (with_next heap seen ns)
  next_new n seen [] h = absurd (cc h)
  next_new n seen (m ∷ ns) h = step (either_of (m == n) (is_among n ns) h) (next_new n (if is_among m seen then seen else m ∷ seen) ns)
    where
      step : (((m == n) ≡ true) ⊎ In n ns) → (In n ns → In n (with_next heap (if is_among m seen then seen else m ∷ seen) ns)) → In n (with_next heap seen (m ∷ ns))
      step (inl e) go = next_old n (if is_among m seen then seen else m ∷ seen) ns (subst (λ x. In x (if is_among m seen then seen else m ∷ seen)) (eqb-true m n e) (grown_new m seen))
      step (inr e) go = go e

  next_of : (n : ℕ) (seen ns : List ℕ) → In n (with_next heap seen ns) → In n seen ⊎ In n ns
  next_of n seen [] h = inl h
  next_of n seen (m ∷ ns) h = step (next_of n (if is_among m seen then seen else m ∷ seen) ns h)
    where
      old : (m ≡ n) ⊎ In n seen → In n seen ⊎ In n (m ∷ ns)
      old (inl e) = inr (either_left (m == n) (is_among n ns) (eq-eqb m n e))
      old (inr e) = inl e

      step : In n (if is_among m seen then seen else m ∷ seen) ⊎ In n ns → In n seen ⊎ In n (m ∷ ns)
      step (inl e) = old (grown_of (is_among m seen) n m seen e)
      step (inr e) = inr (either_right (m == n) (is_among n ns) e)

  next_more : (s t ns us : List ℕ) → ((m : ℕ) → In m s → In m t) → ((m : ℕ) → In m ns → In m us) → (n : ℕ) → In n (with_next heap s ns) → In n (with_next heap t us)
  next_more s t ns us f g n h = step (next_of n s ns h)
    where
      step : In n s ⊎ In n ns → In n (with_next heap t us)
      step (inl e) = next_old n t us (f n e)
      step (inr e) = next_new n t us (g n e)

  spread_more : (s t : List ℕ) → ((m : ℕ) → In m s → In m t) → (n : ℕ) → In n (spread heap s) → In n (spread heap t)
  spread_more s t f = next_more s t _ _ f (flat_more (λ n. flat_map refs (values_at heap n)) s t f)

  reached_more : (k : ℕ) (s t : List ℕ) → ((m : ℕ) → In m s → In m t) → (n : ℕ) → In n (reached heap k s) → In n (reached heap k t)
  reached_more zero s t f = f
  reached_more (suc k) s t f = reached_more k (spread heap s) (spread heap t) (spread_more s t f)

-- ---- roots

abbrev weigh : ℕ → Value → ℕ
weigh n v = if is_among n (refs v) then 1 else 0

weighs : (n : ℕ) (vs : List Value) → In n (flat_map refs vs) → 1 ≤ sum_by (weigh n) vs
weighs n [] h = absurd (cc h)
weighs n (v ∷ vs) h = subst (λ x. 1 ≤ x) (sym (sum_by-cons (weigh n) v vs)) (step (in_append_of n (refs v) (flat_map refs vs) h) (weighs n vs))
  where
    one : (b : Bool) → b ≡ true → 1 ≤ (if b then 1 else 0)
    one true e = omega arith
    one false e = absurd (cc e)

    step : In n (refs v) ⊎ In n (flat_map refs vs) → (In n (flat_map refs vs) → 1 ≤ sum_by (weigh n) vs) → 1 ≤ weigh n v + sum_by (weigh n) vs
    step (inl e) go = let x = one (is_among n (refs v)) e in omega (arith, x)
    step (inr e) go = let x = go e in omega (arith, x)

weighed : (n : ℕ) (vs : List Value) → 1 ≤ sum_by (weigh n) vs → In n (flat_map refs vs)
weighed n [] h = absurd (omega arith)
weighed n (v ∷ vs) h = step (is_among n (refs v)) refl (weighed n vs)
  where
    step : (b : Bool) → is_among n (refs v) ≡ b → (1 ≤ sum_by (weigh n) vs → In n (flat_map refs vs)) → In n (refs v ++ flat_map refs vs)
    step true e go = in_append_left n (refs v) (flat_map refs vs) e
    step false e go =
        let x : weigh n v ≡ 0 = ap {B = ℕ} (λ b. if b then 1 else 0) e in
        let y : sum_by (weigh n) (v ∷ vs) ≡ weigh n v + sum_by (weigh n) vs = sum_by-cons (weigh n) v vs in
        in_append_right n (refs v) (flat_map refs vs) (go (omega (arith, x, y, h)))

-- ---- sums over what is reached

sum_more : (f : ℕ → ℕ) (p q : ℕ → Bool) → ((n : ℕ) → p n ≡ true → q n ≡ true) → (xs : List ℕ) → sum_by f (filter p xs) ≤ sum_by f (filter q xs)
sum_more f p q g [] = omega arith
sum_more f p q g (x ∷ xs) = step (p x) (q x) (g x) (sum_more f p q g xs)
  where
    step : (a b : Bool) → (a ≡ true → b ≡ true) → sum_by f (filter p xs) ≤ sum_by f (filter q xs)
        → sum_by f (if a then x ∷ filter p xs else filter p xs) ≤ sum_by f (if b then x ∷ filter q xs else filter q xs)
    step true true h le = rw (sum_by-cons f x (filter p xs), sum_by-cons f x (filter q xs)) (omega (arith, le))
    step true false h le = absurd (cc (h refl))
    step false true h le = rw (sum_by-cons f x (filter q xs)) (omega (arith, le))
    step false false h le = le

length_more : (p q : ℕ → Bool) → ((n : ℕ) → p n ≡ true → q n ≡ true) → (xs : List ℕ) → length (filter p xs) ≤ length (filter q xs)
length_more p q g [] = omega arith
length_more p q g (x ∷ xs) = step (p x) (q x) (g x) (length_more p q g xs)
  where
    step : (a b : Bool) → (a ≡ true → b ≡ true) → length (filter p xs) ≤ length (filter q xs)
        → length (if a then x ∷ filter p xs else filter p xs) ≤ length (if b then x ∷ filter q xs else filter q xs)
    step true true h le = omega (arith, le)
    step true false h le = absurd (cc (h refl))
    step false true h le = omega (arith, le)
    step false false h le = le

module _ (vs us : List Value) (less : NoMore vs us) (heap : Heap) where
  roots_more : (n : ℕ) → In n (flat_map refs vs) → In n (flat_map refs us)
  roots_more n h = let x = weighs n vs h in let y = less (weigh n) in weighed n us (omega (arith, x, y))

  objects_more : (n : ℕ) → In n (held_objects vs heap) → In n (held_objects us heap)
  objects_more n h =
      reached_more heap (length heap) _ _
      (next_more heap [] [] (flat_map refs vs ++ on_cycles heap (length heap)) (flat_map refs us ++ on_cycles heap (length heap)) (λ m e. e)
      (λ m e. append_more m (flat_map refs vs) (flat_map refs us) (on_cycles heap (length heap)) roots_more e)) n h

  weight_more : (f : Value → ℕ) (prebuilt : ℕ) → weight f prebuilt vs heap ≤ weight f prebuilt us heap
  weight_more f prebuilt =
      let x = less f in
      let y = sum_more (λ n. sum_by f (values_at heap n)) (λ n. is_among n (held_objects vs heap)) (λ n. is_among n (held_objects us heap)) objects_more (range_with_len prebuilt (length heap - prebuilt)) in
      omega (arith, x, y)

  pub held_no_more : (prebuilt : ℕ) → held prebuilt vs heap ≤ held prebuilt us heap
  held_no_more prebuilt =
      let x = length_more (λ n. is_among n (held_objects vs heap)) (λ n. is_among n (held_objects us heap)) objects_more (range_with_len prebuilt (length heap - prebuilt)) in
      let y = weight_more texts prebuilt in
      omega (arith, x, y)

  pub references_no_more : (prebuilt : ℕ) → references prebuilt vs heap ≤ references prebuilt us heap
  references_no_more prebuilt = weight_more _ prebuilt
