-- What holds of each item of a list holds of the items of others, and what holds of the pairs of a dict.
use Rattle.std.proofs.Common.{◌≡◌, ◌<◌, ℕ, zero, suc, ◌-◌, Bool, true, false, List, [], ◌∷◌, ◌++◌, length, Option, Some, None, refl, sym, subst, arith}
use Rattle.std.specs.Prelude.{ℤ, pos, negsuc, nat_lt, take, drop, slice_get, slice_set, remove, insert, reverse, map, option_and_then, if◌then◌else◌}
use Rattle.std.specs.List.{repeat}
use mathlib.Core.List.{reverse-cons}
use Rattle.std.proofs.lemmas.Bool.{lt-ltb, ltb-true}
use Rattle.std.proofs.lemmas.Option.{slice_get_within}
use Rattle.rpy_tree.specs.Value.{Value, Values}
use Rattle.rpy_meaning.specs.Compare.{is_equal}
use Rattle.rpy_meaning.specs.Sequences.{place, item_at, items_of, value_at, with_key, without_key}
use Rattle.rpy_meaning.specs.Walks.{keys_of}
use Rattle.ann_lattice.specs.Shape.{Shape, Shapes}
use Rattle.ann_lattice.specs.Assign.{Assignment}
use Rattle.ann_lattice.specs.Row as row
use Rattle.ann_lattice.specs.Join.{is_clash}
use Rattle.ann_rules.specs.Program.{Whole}
use Rattle.sound_values.specs.Values.{Sort, Each, no_more, and_more}
use Rattle.sound_values.specs.Heaps.{IsOf, AllOf, PairsOf}
use Rattle.sound_rows.proofs.Tools.{no, yes}

-- ---- places

there_by : {A : Type 0} → (b : Bool) (i : ℕ) (xs : List A) (x : A) → b ≡ true → slice_get xs i ≡ Some x → option_and_then (slice_get xs) (if b then Some i else None) ≡ Some x
there_by true i xs x e h = h
there_by false i xs x e h = absurd (no e)

pub there_at : {A : Type 0} → (xs : List A) (i : ℕ) (x : A) → slice_get xs i ≡ Some x → item_at (pos i) xs ≡ Some x
there_at xs i x h = there_by (nat_lt i (length xs)) i xs x (lt-ltb i (length xs) (slice_get_within xs i x h)) h

within_by : (b : Bool) (i k : ℕ) → (if b then Some i else None) ≡ Some k → (b ≡ true) × (i ≡ k)
within_by true i k e = (refl, cc)
within_by false i k e = cc

pub place_within : (z : ℤ) (n i : ℕ) → place z n ≡ Some i → i < n
place_within (pos j) n i e = let h = within_by (nat_lt j n) j i e in let l = ltb-true j n h.0 in let same = h.1 in omega (arith, l, same)
place_within (negsuc j) n i e = let h = within_by (nat_lt j n) (n - suc j) i e in let l = ltb-true j n h.0 in let same = h.1 in omega (arith, l, same)

pub record Found {A : Type 0} (xs : List A) (i : ℕ) : Type 0 where
  pub item : A
  pub there : slice_get xs i ≡ Some item

pub found : {A : Type 0} → (xs : List A) (i : ℕ) → i < length xs → Found xs i
found [] i h = absurd (omega (arith, h))
found (x ∷ xs) zero h = record { item = x; there = refl }
found (x ∷ xs) (suc i) h = let f = found xs i (omega (arith, h)) in record { item = f.item; there = f.there }

module _ (p : Whole) (a : Assignment) (sorts : List Sort) where
  module _ (x : Shape) where
    pub all_append : (vs us : List Value) → AllOf p a sorts x vs → AllOf p a sorts x us → AllOf p a sorts x (vs ++ us)
    all_append [] us h j = j
    all_append (v ∷ vs) us h j = (h.0, all_append vs us h.1 j)

    pub all_take : (n : ℕ) (vs : List Value) → AllOf p a sorts x vs → AllOf p a sorts x (take n vs)
    all_take zero vs h = tt
    all_take (suc n) [] h = tt
    all_take (suc n) (v ∷ vs) h = (h.0, all_take n vs h.1)

    pub all_drop : (n : ℕ) (vs : List Value) → AllOf p a sorts x vs → AllOf p a sorts x (drop n vs)
    all_drop zero vs h = h
    all_drop (suc n) [] h = tt
    all_drop (suc n) (v ∷ vs) h = all_drop n vs h.1

    pub all_repeat : (n : ℕ) (vs : List Value) → AllOf p a sorts x vs → AllOf p a sorts x (repeat n vs)
    all_repeat zero vs h = tt
    all_repeat (suc n) vs h = all_append vs (repeat n vs) h (all_repeat n vs h)

    pub all_at : (vs : List Value) (i : ℕ) (v : Value) → slice_get vs i ≡ Some v → AllOf p a sorts x vs → IsOf p a sorts x v
    all_at [] i v e h = cc
    all_at (u ∷ vs) zero v e h = subst (λ w. IsOf p a sorts x w) (same u v e) h.0
      where
        same : (u v : Value) → Some u ≡ Some v → u ≡ v
        same u v e = cc
    all_at (u ∷ vs) (suc i) v e h = all_at vs i v e h.1

    pub all_set : (vs : List Value) (i : ℕ) (v : Value) → AllOf p a sorts x vs → IsOf p a sorts x v → AllOf p a sorts x (slice_set vs i v)
    all_set [] i v h j = tt
    all_set (u ∷ vs) zero v h j = (j, h.1)
    all_set (u ∷ vs) (suc i) v h j = (h.0, all_set vs i v h.1 j)

    pub all_remove : (vs : List Value) (i : ℕ) → AllOf p a sorts x vs → AllOf p a sorts x (remove vs i)
    all_remove vs i h = all_append (take i vs) (drop (suc i) vs) (all_take i vs h) (all_drop (suc i) vs h)

    pub all_insert : (vs : List Value) (i : ℕ) (v : Value) → AllOf p a sorts x vs → IsOf p a sorts x v → AllOf p a sorts x (insert vs i v)
    all_insert vs i v h j = all_append (take i vs) (v ∷ drop i vs) (all_take i vs h) (j, all_drop i vs h)

    pub all_reverse : (vs : List Value) → AllOf p a sorts x vs → AllOf p a sorts x (reverse vs)
    all_reverse [] h = tt
    all_reverse (v ∷ vs) h = subst (λ us. AllOf p a sorts x us) (sym (reverse-cons v vs)) (all_append (reverse vs) (v ∷ []) (all_reverse vs h.1) (h.0, tt))

    item_by : (vs : List Value) (o : Option ℕ) (v : Value) → option_and_then (slice_get vs) o ≡ Some v → AllOf p a sorts x vs → IsOf p a sorts x v
    item_by vs None v e h = cc
    item_by vs (Some i) v e h = all_at vs i v e h

    pub all_item : (vs : List Value) (z : ℤ) (v : Value) → item_at z vs ≡ Some v → AllOf p a sorts x vs → IsOf p a sorts x v
    all_item vs z v e h = item_by vs (place z (length vs)) v e h

  pub all_by : (x y : Shape) → ((v : Value) → IsOf p a sorts x v → IsOf p a sorts y v) → (vs : List Value) → AllOf p a sorts x vs → AllOf p a sorts y vs
  all_by x y f [] h = tt
  all_by x y f (v ∷ vs) h = (f v h.0, all_by x y f vs h.1)

  -- ---- pairs

  module _ (x y : Shape) where
    value_by : (b : Bool) (u v : Value) (o : Option Value) → (if b then Some u else o) ≡ Some v → IsOf p a sorts y u → (o ≡ Some v → IsOf p a sorts y v) → IsOf p a sorts y v
    value_by true u v o e h f = subst (λ w. IsOf p a sorts y w) (same u v e) h
      where
        same : (u v : Value) → Some u ≡ Some v → u ≡ v
        same u v e = cc
    value_by false u v o e h f = f e

    pub value_of : (key : Value) (pairs : List (Value × Value)) (v : Value) → value_at key pairs ≡ Some v → PairsOf p a sorts x y pairs → IsOf p a sorts y v
    value_of key [] v e h = cc
    value_of key (q ∷ pairs) v e h = value_by (is_equal q.0 key) q.1 v (value_at key pairs) e h.0.1 (λ i. value_of key pairs v i h.1)

    pairs_if : (b : Bool) (qs rs : List (Value × Value)) → PairsOf p a sorts x y qs → PairsOf p a sorts x y rs → PairsOf p a sorts x y (if b then qs else rs)
    pairs_if true qs rs h j = h
    pairs_if false qs rs h j = j

    pub pairs_with : (key v : Value) (pairs : List (Value × Value)) → IsOf p a sorts x key → IsOf p a sorts y v → PairsOf p a sorts x y pairs → PairsOf p a sorts x y (with_key key v pairs)
    pairs_with key v [] i j h = ((i, j), tt)
    pairs_with key v (q ∷ pairs) i j h = pairs_if (is_equal q.0 key) ((q.0, v) ∷ pairs) (q ∷ with_key key v pairs) ((h.0.0, j), h.1) (h.0, pairs_with key v pairs i j h.1)

    pub pairs_without : (key : Value) (pairs : List (Value × Value)) → PairsOf p a sorts x y pairs → PairsOf p a sorts x y (without_key key pairs)
    pairs_without key [] h = tt
    pairs_without key (q ∷ pairs) h = pairs_if (is_equal q.0 key) pairs (q ∷ without_key key pairs) h.1 (h.0, pairs_without key pairs h.1)

    pub keys_are : (pairs : List (Value × Value)) → PairsOf p a sorts x y pairs → AllOf p a sorts x (keys_of pairs)
    keys_are [] h = tt
    keys_are (q ∷ pairs) h = (h.0.0, keys_are pairs h.1)

    pub values_are : (pairs : List (Value × Value)) → PairsOf p a sorts x y pairs → AllOf p a sorts y (map (λ (q : Value × Value). q.1) pairs)
    values_are [] h = tt
    values_are (q ∷ pairs) h = (h.0.1, values_are pairs h.1)

  -- ---- tuples

  -- the item at a place of a tuple
  pub record Nth (xs : Shapes) (vs : Values) (n : ℕ) : Type 0 where
    pub item : Value
    pub there : slice_get (items_of vs) n ≡ Some item
    pub is : IsOf p a sorts (row.nth xs n) item

  pub nth_of : (xs : Shapes) (vs : Values) (n : ℕ) → Each p.tables.classes a.same sorts xs vs → is_clash (row.nth xs n) ≡ false → Nth xs vs n
  nth_of _ _ n no_more e = absurd (yes e)
  nth_of _ _ zero (and_more x xs v vs h hs) e = record { item = v; there = refl; is = h }
  nth_of _ _ (suc n) (and_more x xs v vs h hs) e = let f = nth_of xs vs n hs e in record { item = f.item; there = f.there; is = f.is }
