-- What the place of a key says of the pairs of a dict.
use Rattle.std.proofs.Common.{◌≡◌, ◌<◌, ℕ, zero, suc, ◌+◌, ◌||◌, Bool, true, false, List, [], ◌∷◌, length, Option, Some, None, Ok, pos, refl, sym, ap, ◌∙◌, arith}
use Rattle.std.specs.Prelude.{slice_get, if◌then◌else◌, is_some, int_le}
use Rattle.std.proofs.lemmas.Bool.Decides.{nat_tests}
use Rattle.csub_tree.specs.State.{Word, Flag}
use Rattle.csub_tree.specs.Operation.{binary_of}
use Rattle.csub_tree.specs.declared.tree.CBinary.TheVariants as binary
use Rattle.rpy_tree.specs.Value.{Value as Meant}
use Rattle.rpy_meaning.specs.Compare.{is_equal}
use Rattle.rpy_meaning.specs.Sequences.{has_key, value_at}
use Rattle.dict_laws.specs.Keys.{position_from}
use Rattle.object_laws.specs.Dicts.{keys_of, values_of}
use Rattle.dict_find_laws.specs.Finding.{place_word}

pub is_at_least : (o : Option ℕ) → binary_of binary.Ge (place_word o) (Word (pos 0)) ≡ Ok (Flag (is_some o))
is_at_least None = refl
is_at_least (Some i) = ap (λ b. Ok (Flag b)) (let e : int_le (pos 0) (pos i) ≡ true = grind (arith, nat_tests) in e)

module _ (v : Meant) where
  pub has_is : (pairs : List (Meant × Meant)) (k : ℕ) → has_key v pairs ≡ is_some (position_from is_equal k (keys_of pairs) v)
  has_is [] k = refl
  has_is (q ∷ pairs) k = by (is_equal q.0 v) (has_is pairs (suc k))
    where
      by : (b : Bool) → has_key v pairs ≡ is_some (position_from is_equal (suc k) (keys_of pairs) v) → (b || has_key v pairs) ≡ is_some (if b then Some k else position_from is_equal (suc k) (keys_of pairs) v)
      by true h = refl
      by false h = h

  -- the value of the key at a place
  pub record Sought (pairs : List (Meant × Meant)) (i : ℕ) : Type 0 where
    pub value : Meant
    pub inside : i < length pairs
    pub is : slice_get (values_of pairs) i ≡ Some value
    pub high : value_at v pairs ≡ Some value

  some_same : (k i : ℕ) → Some k ≡ Some i → k ≡ i
  some_same k i e = cc

  sought_from : (pairs : List (Meant × Meant)) (k i : ℕ) → position_from is_equal k (keys_of pairs) v ≡ Some (k + i) → Sought pairs i
  sought_from [] k i h = absurd (cc)
  sought_from (q ∷ pairs) k i h = by (is_equal q.0 v) refl i h (λ i. sought_from pairs (suc k) i)
    where
      here : (i : ℕ) → is_equal q.0 v ≡ true → k ≡ k + i → Sought (q ∷ pairs) i
      here zero e s = record { value = q.1; inside = omega arith; is = refl; high = ap (λ b. if b then Some q.1 else value_at v pairs) e }
      here (suc i) e s = absurd (omega (arith, s))

      after : (i : ℕ) → is_equal q.0 v ≡ false → position_from is_equal (suc k) (keys_of pairs) v ≡ Some (k + i) → ((i : ℕ) → position_from is_equal (suc k) (keys_of pairs) v ≡ Some (suc k + i) → Sought pairs i) → Sought (q ∷ pairs) i
      after zero e s more = absurd (too_low pairs (suc k) (k + 0) s (omega arith))
        where
          too_low : (pairs : List (Meant × Meant)) (n i : ℕ) → position_from is_equal n (keys_of pairs) v ≡ Some i → i < n → ⊥
          too_low [] n i h lt = cc
          too_low (r ∷ pairs) n i h lt = step (is_equal r.0 v) (too_low pairs (suc n) i) h
            where
              step : (b : Bool) → (position_from is_equal (suc n) (keys_of pairs) v ≡ Some i → i < suc n → ⊥) → (if b then Some n else position_from is_equal (suc n) (keys_of pairs) v) ≡ Some i → ⊥
              step true more h = (let e : n ≡ i = some_same n i h in omega (arith, e, lt))
              step false more h = more h (omega (arith, lt))
      after (suc i) e s more =
          let it = more i (s ∙ ap Some (let q : k + suc i ≡ suc k + i = omega arith in q)) in
          record { value = it.value; inside = (let l = it.inside in omega (arith, l)); is = it.is; high = ap (λ b. if b then Some q.1 else value_at v pairs) e ∙ it.high }

      by : (b : Bool) → is_equal q.0 v ≡ b → (i : ℕ) → (if is_equal q.0 v then Some k else position_from is_equal (suc k) (keys_of pairs) v) ≡ Some (k + i) → ((i : ℕ) → position_from is_equal (suc k) (keys_of pairs) v ≡ Some (suc k + i) → Sought pairs i) → Sought (q ∷ pairs) i
      by true e i h more = here i e (some_same k (k + i) (sym (ap (λ b. if b then Some k else position_from is_equal (suc k) (keys_of pairs) v) e) ∙ h))
      by false e i h more = after i e (sym (ap (λ b. if b then Some k else position_from is_equal (suc k) (keys_of pairs) v) e) ∙ h) more

  pub sought : (pairs : List (Meant × Meant)) (i : ℕ) → position_from is_equal 0 (keys_of pairs) v ≡ Some i → Sought pairs i
  sought pairs i h = sought_from pairs 0 i (h ∙ ap Some (let q : i ≡ 0 + i = omega arith in q))

  pub unsought : (pairs : List (Meant × Meant)) (k : ℕ) → position_from is_equal k (keys_of pairs) v ≡ None → value_at v pairs ≡ None
  unsought [] k h = refl
  unsought (q ∷ pairs) k h = by (is_equal q.0 v) (unsought pairs (suc k)) h
    where
      by : (b : Bool) → (position_from is_equal (suc k) (keys_of pairs) v ≡ None → value_at v pairs ≡ None) → (if b then Some k else position_from is_equal (suc k) (keys_of pairs) v) ≡ None → (if b then Some q.1 else value_at v pairs) ≡ None
      by true more h = absurd (cc)
      by false more h = more h
