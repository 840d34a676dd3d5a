-- A search over values that stand one after the other, and what it comes to.
use Rattle.std.proofs.Common.{◌≡◌, refl, ap, sym, subst, ◌∙◌, ◌+◌, ◌<◌, ◌≤◌, length, take, get_or, arith, ℕ, zero, suc, List, [], ◌∷◌, ◌++◌, Some, None}
use Rattle.std.specs.List.{flat_map}
use Rattle.std.proofs.lemmas.Grind.{common_steps}
use Rattle.flow_graph.specs.declared.variable.Search.{Search}
use Rattle.flow_graph.specs.declared.variable.Search.TheVariants.{Left, Found}
use Rattle.flow_graph.specs.Values.{item, sought}

pub sought_append : (s : Search) (vs ws : List ℕ) → sought s (vs ++ ws) ≡ sought (sought s vs) ws
sought_append (Found v) vs ws = refl
sought_append (Left i) [] ws = refl
sought_append (Left zero) (v ∷ vs) ws = refl
sought_append (Left (suc i)) (v ∷ vs) ws = sought_append (Left i) vs ws

pub found : (i : ℕ) (vs : List ℕ) (v : ℕ) → sought (Left i) vs ≡ Found v → item vs i ≡ Some v
found i [] v e = absurd (cc)
found zero (w ∷ vs) v e = cc
found (suc i) (w ∷ vs) v e = found i vs v e

pub left : (i : ℕ) (vs : List ℕ) (j : ℕ) → sought (Left i) vs ≡ Left j → item vs i ≡ None
left i [] j e = refl
left zero (w ∷ vs) j e = absurd (cc)
left (suc i) (w ∷ vs) j e = left i vs j e

snoc : {A : Type 0} (f : A → List ℕ) (xs : List A) (i : ℕ) (x : A) → i < length xs → x ≡ get_or xs i x → flat_map f (take (i + 1) xs) ≡ flat_map f (take i xs) ++ f x
snoc f xs i x l e = grind (arith, common_steps)

pub one_on : {A : Type 0} (f : A → List ℕ) (xs items : List A) (i : ℕ) (x : A) (first search : Search) (same : items ≡ xs) → i < length items → x ≡ get_or items i x → search ≡ sought first (flat_map f (take i xs)) → sought search (f x) ≡ sought first (flat_map f (take (i + 1) xs))
one_on f xs items i x first search same l e h =
    ap (λ s. sought s (f x)) h ∙ (sym (sought_append first (flat_map f (take i xs)) (f x)) ∙ ap (sought first) (sym (snoc f xs i x (subst (λ ys. i < length ys) same l) (subst (λ ys. x ≡ get_or ys i x) same e))))

whole : {A : Type 0} (xs : List A) (i : ℕ) → length xs ≤ i → take i xs ≡ xs
whole xs i l = grind (arith, common_steps)

pub at_end : {A : Type 0} (f : A → List ℕ) (xs items : List A) (i : ℕ) (first search : Search) (same : items ≡ xs) → length items ≤ i → search ≡ sought first (flat_map f (take i xs)) → sought first (flat_map f xs) ≡ search
at_end f xs items i first search same l h = ap (λ ys. sought first (flat_map f ys)) (sym (whole xs i (subst (λ ys. length ys ≤ i) same l))) ∙ sym h
