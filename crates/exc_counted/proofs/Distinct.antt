-- Variables that differ are no more than there are.
use Rattle.std.proofs.Common.{◌≡◌, ◌<◌, ◌≤◌, ℕ, zero, suc, Bool, true, false, ◌||◌, ◌==◌, List, [], ◌∷◌, ◌++◌, length, Option, Some, None, refl, sym, ap, ◌∙◌, subst, arith}
use Rattle.std.specs.Prelude.{cond, not, slice_get}
use Rattle.std.proofs.lemmas.Option.{slice_get_within}
use Rattle.ll_code.specs.declared.program.LlType.{LlType}
use Rattle.ll_laws.proofs.Values.{and_left, and_right, is_same}
use Rattle.ll_live.specs.Live.{among}
use Rattle.exc_transform.specs.Live.{new_ones}
use Rattle.exc_laws.proofs.Tests.{and_both, or_second}
use Rattle.exc_laws.proofs.Jumps.{not_same}
use Rattle.exc_laws.proofs.Lives.{among_either}
use Rattle.exc_laws.proofs.Typed.{is_there, all_there}
use Rattle.exc_ready.proofs.Filled.{none_first, none_second}
use Rattle.exc_ready.proofs.Passes.{is_not}
use Rattle.refcount_laws.specs.Leaves.{are_apart}

not_false : (b : Bool) → b ≡ false → not b ≡ true
not_false true e = absurd (cc)
not_false false e = refl

-- ---- without one of them

without : ℕ → List ℕ → List ℕ
without k [] = []
without k (v ∷ vs) = cond (v == k) (without k vs) (v ∷ without k vs)

without_none : (k : ℕ) (vs : List ℕ) → among k vs ≡ false → length (without k vs) ≡ length vs
unfolding without
without_none k [] h = refl
without_none k (v ∷ vs) h =
    ap (λ b. length (cond b (without k vs) (v ∷ without k vs))) (none_first (v == k) _ h) ∙ ap suc (without_none k vs (none_second (v == k) _ h))

without_less : (k : ℕ) (vs : List ℕ) → are_apart vs ≡ true → length vs ≤ suc (length (without k vs))
unfolding without
without_less k [] h = omega arith
without_less k (v ∷ vs) h = one (without_less k vs (and_right _ _ h)) (v == k) refl
  where
    one : length vs ≤ suc (length (without k vs)) → (b : Bool) → (v == k) ≡ b → suc (length vs) ≤ suc (length (cond b (without k vs) (v ∷ without k vs)))
    one go true e =
        let same : v ≡ k = is_same v k e in
        let none : among k vs ≡ false = ap (λ k. among k vs) (sym same) ∙ is_not (among v vs) (and_left _ _ h) in
        let less : length (without k vs) ≡ length vs = without_none k vs none in omega (arith, less)
    one go false e = omega (arith, go)

without_keeps : (k w : ℕ) (vs : List ℕ) → among w vs ≡ false → among w (without k vs) ≡ false
unfolding without
without_keeps k w [] h = refl
without_keeps k w (v ∷ vs) h = one (without_keeps k w vs (none_second (v == w) _ h)) (v == k)
  where
    one : among w (without k vs) ≡ false → (b : Bool) → among w (cond b (without k vs) (v ∷ without k vs)) ≡ false
    one go true = go
    one go false = ap (λ b. b || among w (without k vs)) (none_first (v == w) _ h) ∙ go

without_apart : (k : ℕ) (vs : List ℕ) → are_apart vs ≡ true → are_apart (without k vs) ≡ true
unfolding without
without_apart k [] h = refl
without_apart k (v ∷ vs) h = one (without_apart k vs (and_right _ _ h)) (v == k)
  where
    one : are_apart (without k vs) ≡ true → (b : Bool) → are_apart (cond b (without k vs) (v ∷ without k vs)) ≡ true
    one go true = go
    one go false = and_both (not (among v (without k vs))) (are_apart (without k vs)) (not_false (among v (without k vs)) (without_keeps k v vs (is_not (among v vs) (and_left _ _ h)))) go

without_among : (k w : ℕ) (vs : List ℕ) → among w (without k vs) ≡ true → (among w vs ≡ true) × (w ≡ k → ⊥)
unfolding without
without_among k w [] h = absurd (cc)
without_among k w (v ∷ vs) h = one (without_among k w vs) (v == k) refl h
  where
    further : (among w vs ≡ true) × (w ≡ k → ⊥) → (among w (v ∷ vs) ≡ true) × (w ≡ k → ⊥)
    further (a, b) = (or_second (v == w) (among w vs) a, b)

    here : (among w (without k vs) ≡ true → (among w vs ≡ true) × (w ≡ k → ⊥)) → (v == k) ≡ false → (b : Bool) → (v == w) ≡ b → (b || among w (without k vs)) ≡ true → ((b || among w vs) ≡ true) × (w ≡ k → ⊥)
    here go e true f h = (refl, λ same. not_same v k e (is_same v w f ∙ same))
    here go e false f h = go h

    one : (among w (without k vs) ≡ true → (among w vs ≡ true) × (w ≡ k → ⊥)) → (b : Bool) → (v == k) ≡ b → among w (cond b (without k vs) (v ∷ without k vs)) ≡ true → (among w (v ∷ vs) ≡ true) × (w ≡ k → ⊥)
    one go true e h = further (go h)
    one go false e h = here go e (v == w) refl h

nothing_among : (vs : List ℕ) → ((v : ℕ) → among v vs ≡ true → ⊥) → length vs ≡ 0
nothing_among [] h = refl
nothing_among (v ∷ vs) h = absurd (h v (let e : (v == v) ≡ true = grind arith in ap (λ b. b || among v vs) e))

few_apart : (n : ℕ) (vs : List ℕ) → are_apart vs ≡ true → ((v : ℕ) → among v vs ≡ true → v < n) → length vs ≤ n
few_apart zero vs h below = let e : length vs ≡ 0 = nothing_among vs (λ v k. let lt : v < 0 = below v k in omega (arith, lt)) in omega (arith, e)
few_apart (suc n) vs h below =
    let less : length vs ≤ suc (length (without n vs)) = without_less n vs h in
    let rest : length (without n vs) ≤ n = few_apart n (without n vs) (without_apart n vs h)
    (λ v k. let both = without_among n v vs k in let lt : v < suc n = below v both.0 in let other : v ≡ n → ⊥ = both.1 in grind (arith, lt, other)) in
    omega (arith, less, rest)

-- ---- variables that have a type

there_below : (types : List LlType) (v : ℕ) → is_there (slice_get types v) ≡ true → v < length types
there_below types v h = one (slice_get types v) refl h
  where
    one : (o : Option LlType) → slice_get types v ≡ o → is_there o ≡ true → v < length types
    one None e h = absurd (cc)
    one (Some t) e h = slice_get_within types v t e

among_below : (types : List LlType) (vs : List ℕ) → all_there types vs ≡ true → (v : ℕ) → among v vs ≡ true → v < length types
among_below types [] h v k = absurd (cc)
among_below types (w ∷ vs) h v k = one (among_below types vs (and_right (is_there (slice_get types w)) _ h) v) (w == v) refl k
  where
    one : (among v vs ≡ true → v < length types) → (b : Bool) → (w == v) ≡ b → (b || among v vs) ≡ true → v < length types
    one go true e k = subst (λ v. v < length types) (is_same w v e) (there_below types w (and_left _ _ h))
    one go false e k = go k

pub few_there : (types : List LlType) (vs : List ℕ) → are_apart vs ≡ true → all_there types vs ≡ true → length vs ≤ length types
few_there types vs apart h = few_apart (length types) vs apart (among_below types vs h)

-- ---- new ones

behind_apart : (vs : List ℕ) (w : ℕ) → are_apart vs ≡ true → among w vs ≡ false → are_apart (vs ++ w ∷ []) ≡ true
behind_apart [] w h k = refl
behind_apart (v ∷ vs) w h k =
    and_both (not (among v (vs ++ w ∷ []))) (are_apart (vs ++ w ∷ []))
    (not_false (among v (vs ++ w ∷ [])) (among_either v vs (w ∷ []) (is_not (among v vs) (and_left _ _ h)) (ap (λ b. b || false) (turned (v == w) (w == v) (none_first (v == w) _ k) (λ e. let same : w ≡ v = is_same w v e in grind (arith, same))))))
    (behind_apart vs w (and_right (not (among v vs)) _ h) (none_second (v == w) _ k))
  where
    turned : (a b : Bool) → a ≡ false → (b ≡ true → a ≡ true) → b ≡ false
    turned a true e f = absurd (let g : true ≡ false = sym (f refl) ∙ e in cc)
    turned a false e f = refl

pub new_apart : (vs set into : List ℕ) → are_apart into ≡ true → are_apart (new_ones vs set into) ≡ true
new_apart [] set into h = h
new_apart (v ∷ vs) set into h = new_apart vs set (cond (among v set || among v into) into (into ++ v ∷ [])) (one (among v set || among v into) refl)
  where
    one : (b : Bool) → (among v set || among v into) ≡ b → are_apart (cond b into (into ++ v ∷ [])) ≡ true
    one true e = h
    one false e = behind_apart into v h (none_second (among v set) _ e)
