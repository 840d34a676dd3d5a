-- What references lead to from some objects is found in as many steps as there are objects.
use Rattle.std.proofs.Common.{◌≡◌, ◌<◌, ◌≤◌, ◌⊎◌, inl, inr, ℕ, zero, suc, ◌+◌, Bool, true, false, ◌==◌, ◌&&◌, ◌||◌, List, [], ◌∷◌, length, refl, sym, ap, ◌∙◌, subst, arith}
use Rattle.std.specs.Prelude.{not, if◌then◌else◌}
use Rattle.std.specs.List.{flat_map}
use Rattle.rpy_tree.specs.Value.{Heap}
use Rattle.rpy_tree.specs.Held.{refs, values_at, is_among, with_next, spread, reached}
use Rattle.ll_laws.proofs.Values.{is_same, and_left, and_right}
use Rattle.ll_held.specs.Held.{is_new, are_distinct}
use Rattle.ll_held.proofs.Keeping.{same_number, or_left, or_right, or_one}
use Rattle.ll_bounded.specs.Represents.{IsIn, kept_refs}
use Rattle.ll_bounded.proofs.Charged.{in_left, in_right, in_either}
use Rattle.ll_bounded.proofs.Counted.{pigeons, both}

-- ---- lists

pub is_in : (n : ℕ) (xs : List ℕ) → is_among n xs ≡ true → IsIn n xs
is_in n [] h = absurd (cc)
is_in n (x ∷ xs) h = one (or_one (x == n) (is_among n xs) h) (is_in n xs)
  where
    one : ((x == n) ≡ true) ⊎ (is_among n xs ≡ true) → (is_among n xs ≡ true → IsIn n xs) → IsIn n (x ∷ xs)
    one (inl e) go = inl (sym (is_same x n e))
    one (inr h) go = inr (go h)

pub among_in : (n : ℕ) (xs : List ℕ) → IsIn n xs → is_among n xs ≡ true
among_in n [] h = absurd h
among_in n (x ∷ xs) (inl e) = or_left (x == n) (is_among n xs) (ap (λ k. x == k) e ∙ same_number x)
among_in n (x ∷ xs) (inr h) = or_right (x == n) (is_among n xs) (among_in n xs h)

new_of : (n : ℕ) (xs : List ℕ) → is_among n xs ≡ false → is_new n xs ≡ true
new_of n [] h = refl
new_of n (x ∷ xs) h = both (not (n == x)) (is_new n xs) (apart (n == x) refl) (new_of n xs (second (x == n) refl))
  where
    second : (b : Bool) → (x == n) ≡ b → is_among n xs ≡ false
    second true e = absurd (let f : is_among n (x ∷ xs) ≡ true = or_left (x == n) (is_among n xs) e in cc)
    second false e = ap (λ b. b || is_among n xs) (sym e) ∙ h

    apart : (b : Bool) → (n == x) ≡ b → not (n == x) ≡ true
    apart true e = absurd (let i : n ≡ x = is_same n x e in let f : is_among n (x ∷ xs) ≡ true = among_in n (x ∷ xs) (inl i) in cc)
    apart false e = ap not e

-- the numbers below another
below : ℕ → List ℕ
below zero = []
below (suc n) = n ∷ below n

in_below : (n a : ℕ) → a < n → IsIn a (below n)
unfolding below
in_below zero a l = absurd (omega (arith, l))
in_below (suc n) a l = one (in_below n a) (choose a n l)
  where
    choose : (a n : ℕ) → a < suc n → (a ≡ n) ⊎ (a < n)
    choose a n l = grind arith

    one : (a < n → IsIn a (below n)) → (a ≡ n) ⊎ (a < n) → IsIn a (n ∷ below n)
    one go (inl e) = inl e
    one go (inr m) = inr (go m)

length_below : (n : ℕ) → length (below n) ≡ n
unfolding below
length_below zero = refl
length_below (suc n) = ap suc (length_below n)

-- all of these are among those
is_all : List ℕ → List ℕ → Bool
is_all [] seen = true
is_all (n ∷ ns) seen = is_among n seen && is_all ns seen

all_in : (ns seen : List ℕ) → is_all ns seen ≡ true → (n : ℕ) → IsIn n ns → IsIn n seen
unfolding is_all
all_in [] seen h n i = absurd i
all_in (m ∷ ns) seen h n (inl e) = subst (λ k. IsIn k seen) (sym e) (is_in m seen (and_left _ _ h))
all_in (m ∷ ns) seen h n (inr i) = all_in ns seen (and_right _ _ h) n i

module _ (heap : Heap) where
  next_of : (m : ℕ) (seen : List ℕ) → List ℕ
  next_of m seen = if is_among m seen then seen else m ∷ seen

  seen_kept : (b : Bool) (n m : ℕ) (seen : List ℕ) → IsIn n seen → IsIn n (if b then seen else m ∷ seen)
  seen_kept true n m seen i = i
  seen_kept false n m seen i = inr i

  seen_new : (b : Bool) (m : ℕ) (seen : List ℕ) → is_among m seen ≡ b → IsIn m (if b then seen else m ∷ seen)
  seen_new true m seen e = is_in m seen e
  seen_new false m seen e = inl refl

  pub next_old : (n : ℕ) (seen ns : List ℕ) → IsIn n seen → IsIn n (with_next heap seen ns)
  next_old n seen [] i = i
  next_old n seen (m ∷ ns) i = next_old n (if is_among m seen then seen else m ∷ seen) ns (seen_kept (is_among m seen) n m seen i)

  pub next_new : (n : ℕ) (seen ns : List ℕ) → IsIn n ns → IsIn n (with_next heap seen ns)
  next_new n seen [] i = absurd i
  next_new n seen (m ∷ ns) (inl e) = next_old n (if is_among m seen then seen else m ∷ seen) ns (subst (λ k. IsIn k (if is_among m seen then seen else m ∷ seen)) (sym e) (seen_new (is_among m seen) m seen refl))
  next_new n seen (m ∷ ns) (inr i) = next_new n (if is_among m seen then seen else m ∷ seen) ns i

  pub next_within : (most : ℕ) (seen ns : List ℕ) → ((n : ℕ) → IsIn n seen → n < most) → ((n : ℕ) → IsIn n ns → n < most) → (n : ℕ) → IsIn n (with_next heap seen ns) → n < most
  next_within most seen [] f g n i = f n i
  next_within most seen (m ∷ ns) f g n i = next_within most (if is_among m seen then seen else m ∷ seen) ns (one (is_among m seen)) (λ k j. g k (inr j)) n i
    where
      one : (b : Bool) (k : ℕ) → IsIn k (if b then seen else m ∷ seen) → k < most
      one true k j = f k j
      one false k (inl e) = g k (inl e)
      one false k (inr j) = f k j

  pub next_distinct : (seen ns : List ℕ) → are_distinct seen ≡ true → are_distinct (with_next heap seen ns) ≡ true
  next_distinct seen [] d = d
  next_distinct seen (m ∷ ns) d = next_distinct (if is_among m seen then seen else m ∷ seen) ns (one (is_among m seen) refl)
    where
      one : (b : Bool) → is_among m seen ≡ b → are_distinct (if b then seen else m ∷ seen) ≡ true
      one true e = d
      one false e = both (is_new m seen) (are_distinct seen) (new_of m seen e) d

  next_longer : (seen ns : List ℕ) → length seen ≤ length (with_next heap seen ns)
  next_longer seen [] = omega arith
  next_longer seen (m ∷ ns) = let a : length (if is_among m seen then seen else m ∷ seen) ≤ length (with_next heap (if is_among m seen then seen else m ∷ seen) ns) = next_longer (if is_among m seen then seen else m ∷ seen) ns in let b : length seen ≤ length (if is_among m seen then seen else m ∷ seen) = one (is_among m seen) in omega (arith, a, b)
    where
      one : (b : Bool) → length seen ≤ length (if b then seen else m ∷ seen)
      one true = omega arith
      one false = omega arith

  next_same : (seen ns : List ℕ) → is_all ns seen ≡ true → with_next heap seen ns ≡ seen
  unfolding is_all
  next_same seen [] h = refl
  next_same seen (m ∷ ns) h = ap (λ b. with_next heap (if b then seen else m ∷ seen) ns) (and_left _ _ h) ∙ next_same seen ns (and_right _ _ h)

  next_more : (seen ns : List ℕ) → is_all ns seen ≡ false → suc (length seen) ≤ length (with_next heap seen ns)
  unfolding is_all
  next_more seen [] h = absurd (cc)
  next_more seen (m ∷ ns) h = one (is_among m seen) refl (next_more seen ns)
    where
      one : (b : Bool) → is_among m seen ≡ b → (is_all ns seen ≡ false → suc (length seen) ≤ length (with_next heap seen ns)) → suc (length seen) ≤ length (with_next heap (if b then seen else m ∷ seen) ns)
      one true e go = go (ap (λ b. b && is_all ns seen) (sym e) ∙ h)
      one false e go = next_longer (m ∷ seen) ns

  -- ---- what is reached

  nexts : List ℕ → List ℕ
  nexts seen = flat_map (λ n. flat_map refs (values_at heap n)) seen

  IsClosed : List ℕ → Type 0
  IsClosed seen = (n : ℕ) → IsIn n (nexts seen) → IsIn n seen

  in_nexts : (i j : ℕ) (seen : List ℕ) → IsIn i seen → IsIn j (kept_refs heap i) → IsIn j (nexts seen)
  unfolding nexts
  in_nexts i j [] q h = absurd q
  in_nexts i j (k ∷ seen) (inl e) h = in_left j (kept_refs heap k) (nexts seen) (subst (λ m. IsIn j (kept_refs heap m)) e h)
  in_nexts i j (k ∷ seen) (inr q) h = in_right j (kept_refs heap k) (nexts seen) (in_nexts i j seen q h)

  pub reached_old : (k n : ℕ) (seen : List ℕ) → IsIn n seen → IsIn n (reached heap k seen)
  reached_old zero n seen i = i
  reached_old (suc k) n seen i = reached_old k n (spread heap seen) (next_old n seen (flat_map (λ n. flat_map refs (values_at heap n)) seen) i)

  -- no reference leads out of the heap
  module _ (whole : (i j : ℕ) → IsIn j (kept_refs heap i) → j < length heap) where
    from_nexts : (seen : List ℕ) (n : ℕ) → IsIn n (nexts seen) → n < length heap
    unfolding nexts
    from_nexts [] n i = absurd i
    from_nexts (k ∷ seen) n i = one (in_either n (kept_refs heap k) (nexts seen) i) (from_nexts seen n)
      where
        one : IsIn n (kept_refs heap k) ⊎ IsIn n (nexts seen) → (IsIn n (nexts seen) → n < length heap) → n < length heap
        one (inl h) go = whole k n h
        one (inr h) go = go h

    short : (seen : List ℕ) → are_distinct seen ≡ true → ((n : ℕ) → IsIn n seen → n < length heap) → length seen ≤ length heap
    short seen d f = let a : length seen ≤ length (below (length heap)) = pigeons seen (below (length heap)) d (λ n i. in_below (length heap) n (f n i)) in let b : length (below (length heap)) ≡ length heap = length_below (length heap) in omega (arith, a, b)

    same_on : (k : ℕ) (seen : List ℕ) → is_all (nexts seen) seen ≡ true → reached heap k seen ≡ seen
    unfolding nexts
    same_on zero seen h = refl
    same_on (suc k) seen h = ap (reached heap k) (next_same seen (nexts seen) h) ∙ same_on k seen h

    reached_closed : (k : ℕ) (seen : List ℕ) → are_distinct seen ≡ true → ((n : ℕ) → IsIn n seen → n < length heap) → length heap < length seen + k → IsClosed (reached heap k seen)
    unfolding nexts IsClosed
    reached_closed zero seen d f l = absurd (let a : length seen ≤ length heap = short seen d f in omega (arith, a, l))
    reached_closed (suc k) seen d f l = one (is_all (nexts seen) seen) refl
        (λ h. reached_closed k (spread heap seen) (next_distinct seen (nexts seen) d) (next_within (length heap) seen (nexts seen) f (from_nexts seen)) (let a : suc (length seen) ≤ length (with_next heap seen (nexts seen)) = next_more seen (nexts seen) h in omega (arith, a, l)))
      where
        one : (b : Bool) → is_all (nexts seen) seen ≡ b → (is_all (nexts seen) seen ≡ false → IsClosed (reached heap (suc k) seen)) → IsClosed (reached heap (suc k) seen)
        one true e go = subst IsClosed (sym (same_on (suc k) seen e)) (all_in (nexts seen) seen e)
        one false e go = go e

    -- in as many steps as there are objects all is found
    pub closed : (seen : List ℕ) → are_distinct seen ≡ true → ((n : ℕ) → IsIn n seen → n < length heap) → (i j : ℕ) → IsIn i (reached heap (length heap) seen) → IsIn j (kept_refs heap i) → IsIn j (reached heap (length heap) seen)
    unfolding IsClosed
    closed [] d f i j h r = absurd (nothing (length heap) i h)
      where
        nothing : (k i : ℕ) → IsIn i (reached heap k []) → ⊥
        nothing zero i h = h
        nothing (suc k) i h = nothing k i h
    closed (m ∷ seen) d f i j h r = reached_closed (length heap) (m ∷ seen) d f (omega arith) j (in_nexts i j (reached heap (length heap) (m ∷ seen)) h r)
