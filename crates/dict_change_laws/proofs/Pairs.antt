-- The pairs of a dict by the place of a key.
use Rattle.std.proofs.Common.{◌≡◌, ◌⊎◌, inl, inr, ℕ, zero, suc, ◌+◌, ◌<◌, ◌≤◌, ◌||◌, Bool, true, false, List, [], ◌∷◌, ◌++◌, length, Some, None, refl, sym, ap, ◌∙◌, subst, arith}
use Rattle.std.specs.Prelude.{slice_get, if◌then◌else◌, nat_lt}
use Rattle.std.proofs.lemmas.Bool.Decides.{nat_tests}
use Rattle.rpy_tree.specs.Value.{Value as Meant}
use Rattle.rpy_meaning.specs.Compare.{is_equal}
use Rattle.rpy_meaning.specs.Sequences.{has_key, with_key, without_key}
use Rattle.dict_laws.specs.Keys.{position_from, AreApart}
use Rattle.object_laws.specs.Dicts.{keys_of}
use Rattle.object_laws.proofs.Made.{last_one}
use Rattle.dict_change_laws.proofs.Keyed.{map_both}
use Rattle.dict_change_laws.proofs.Standing.{is_equal_symmetric}

abbrev pub Pair : Type 0
Pair = Meant × Meant

-- ---- a key that is there

pub record Split (k : Meant) (pairs : List Pair) (at : ℕ) : Type 0 where
  pub pre : List Pair
  pub pair : Pair
  pub post : List Pair
  pub are : pairs ≡ pre ++ pair ∷ post
  pub long : length pre ≡ at
  pub stored : (v : Meant) → with_key k v pairs ≡ pre ++ (pair.0, v) ∷ post
  pub removed : without_key k pairs ≡ pre ++ post
  pub has : has_key k pairs ≡ true

same_place : {m n : ℕ} → Some m ≡ Some n → m ≡ n
same_place h = cc

-- counted from a number
record SplitFrom (n : ℕ) (k : Meant) (pairs : List Pair) (at : ℕ) : Type 0 where
  pre : List Pair
  pair : Pair
  post : List Pair
  are : pairs ≡ pre ++ pair ∷ post
  long : n + length pre ≡ at
  stored : (v : Meant) → with_key k v pairs ≡ pre ++ (pair.0, v) ∷ post
  removed : without_key k pairs ≡ pre ++ post
  has : has_key k pairs ≡ true

split_from : (n : ℕ) (k : Meant) (pairs : List Pair) (at : ℕ) → position_from is_equal n (keys_of pairs) k ≡ Some at → SplitFrom n k pairs at
split_from n k [] at h = absurd (cc)
split_from n k (p ∷ pairs) at h = by (λ q. split_from (suc n) k pairs at q) (is_equal p.0 k) refl
  where
    by : (position_from is_equal (suc n) (keys_of pairs) k ≡ Some at → SplitFrom (suc n) k pairs at) → (c : Bool) → is_equal p.0 k ≡ c → SplitFrom n k (p ∷ pairs) at
    by next true e = record {
      pre = [];
      pair = p;
      post = pairs;
      are = refl;
      long = (let q : n + 0 ≡ n = omega arith in q ∙ same_place (sym (ap (λ c. if c then Some n else position_from is_equal (suc n) (keys_of pairs) k) e) ∙ h));
      stored = λ v. ap (λ c. if c then (p.0, v) ∷ pairs else p ∷ with_key k v pairs) e;
      removed = ap (λ c. if c then pairs else p ∷ without_key k pairs) e;
      has = ap (λ c. c || has_key k pairs) e;
    }
    by next false e = (let s = next (sym (ap (λ c. if c then Some n else position_from is_equal (suc n) (keys_of pairs) k) e) ∙ h) in record {
      pre = p ∷ s.pre;
      pair = s.pair;
      post = s.post;
      are = ap (λ l. p ∷ l) s.are;
      long = (let l = s.long in let q : n + suc (length s.pre) ≡ suc n + length s.pre = omega arith in q ∙ l);
      stored = λ v. ap (λ c. if c then (p.0, v) ∷ pairs else p ∷ with_key k v pairs) e ∙ ap (λ l. p ∷ l) (s.stored v);
      removed = ap (λ c. if c then pairs else p ∷ without_key k pairs) e ∙ ap (λ l. p ∷ l) s.removed;
      has = ap (λ c. c || has_key k pairs) e ∙ s.has;
    })

pub split : (k : Meant) (pairs : List Pair) (at : ℕ) → position_from is_equal 0 (keys_of pairs) k ≡ Some at → Split k pairs at
split k pairs at h = (let s = split_from 0 k pairs at h in record { pre = s.pre; pair = s.pair; post = s.post; are = s.are; long = (let q : length s.pre ≡ 0 + length s.pre = omega arith in q ∙ s.long); stored = s.stored; removed = s.removed; has = s.has })

-- ---- a key that is not there

pub record New (k : Meant) (pairs : List Pair) : Type 0 where
  pub stored : (v : Meant) → with_key k v pairs ≡ pairs ++ (k, v) ∷ []
  pub has : has_key k pairs ≡ false
  pub other : (i : ℕ) (x : Meant) → slice_get (keys_of pairs) i ≡ Some x → is_equal x k ≡ false

is_new_from : (n : ℕ) (k : Meant) (pairs : List Pair) → position_from is_equal n (keys_of pairs) k ≡ None → New k pairs
is_new_from n k [] h = record { stored = λ v. refl; has = refl; other = λ i x g. absurd (cc) }
is_new_from n k (p ∷ pairs) h = by (λ q. is_new_from (suc n) k pairs q) (is_equal p.0 k) refl
  where
    by : (position_from is_equal (suc n) (keys_of pairs) k ≡ None → New k pairs) → (c : Bool) → is_equal p.0 k ≡ c → New k (p ∷ pairs)
    by next true e = absurd (let q : Some n ≡ None = sym (ap (λ c. if c then Some n else position_from is_equal (suc n) (keys_of pairs) k) e) ∙ h in cc)
    by next false e = (let s = next (sym (ap (λ c. if c then Some n else position_from is_equal (suc n) (keys_of pairs) k) e) ∙ h) in record {
      stored = λ v. ap (λ c. if c then (p.0, v) ∷ pairs else p ∷ with_key k v pairs) e ∙ ap (λ l. p ∷ l) (s.stored v);
      has = ap (λ c. c || has_key k pairs) e ∙ s.has;
      other = other s;
    })
      where
        other : New k pairs → (i : ℕ) (x : Meant) → slice_get (keys_of (p ∷ pairs)) i ≡ Some x → is_equal x k ≡ false
        other s zero x g = (let q : p.0 ≡ x = cc in ap (λ x. is_equal x k) (sym q) ∙ e)
        other s (suc i) x g = s.other i x g

pub is_new : (k : Meant) (pairs : List Pair) → position_from is_equal 0 (keys_of pairs) k ≡ None → New k pairs
is_new k pairs h = is_new_from 0 k pairs h

-- ---- no two keys are equal

never : {b : Bool} → b ≡ true → b ≡ false → ⊥
never h k = (let q : true ≡ false = sym h ∙ k in cc)

pub apart_more : (k v : Meant) (pairs : List Pair) → New k pairs → AreApart is_equal (keys_of pairs) → AreApart is_equal (keys_of (pairs ++ (k, v) ∷ []))
apart_more k v pairs new apart = subst (AreApart is_equal) (sym (map_both (λ (q : Pair). q.0) pairs ((k, v) ∷ []))) more_apart
  where
    more_apart : AreApart is_equal (keys_of pairs ++ k ∷ [])
    more_apart i j x y h g e = by (last_one (keys_of pairs) k i x h) (last_one (keys_of pairs) k j y g)
      where
        by : (slice_get (keys_of pairs) i ≡ Some x) ⊎ ((i ≡ length (keys_of pairs)) × (x ≡ k)) → (slice_get (keys_of pairs) j ≡ Some y) ⊎ ((j ≡ length (keys_of pairs)) × (y ≡ k)) → i ≡ j
        by (inl a) (inl b) = apart i j x y a b e
        by (inl a) (inr b) = absurd (never e (ap (is_equal x) b.1 ∙ new.other i x a))
        by (inr a) (inl b) = absurd (never e (is_equal_symmetric x y ∙ ap (is_equal y) a.1 ∙ new.other j y b))
        by (inr a) (inr b) = a.0 ∙ sym b.0

-- where a place stood before one was taken out
abbrev shift : ℕ → ℕ → ℕ
shift n j = if nat_lt j n then j else j + 1

module _ {A : Type 0} where
  get_shifted : (pre : List A) (x : A) (post : List A) (j : ℕ) → slice_get (pre ++ x ∷ post) (shift (length pre) j) ≡ slice_get (pre ++ post) j
  get_shifted pre x post j = by (nat_lt j (length pre)) refl
    where
      before : (pre : List A) (x : A) (post : List A) (j : ℕ) → j < length pre → slice_get (pre ++ x ∷ post) j ≡ slice_get (pre ++ post) j
      before [] x post j h = absurd (omega (arith, h))
      before (y ∷ pre) x post zero h = refl
      before (y ∷ pre) x post (suc j) h = before pre x post j (omega (arith, h))

      behind : (pre : List A) (x : A) (post : List A) (j : ℕ) → length pre ≤ j → slice_get (pre ++ x ∷ post) (j + 1) ≡ slice_get (pre ++ post) j
      behind [] x post j h = ap (slice_get (x ∷ post)) (let q : j + 1 ≡ suc j = omega arith in q)
      behind (y ∷ pre) x post zero h = absurd (omega (arith, h))
      behind (y ∷ pre) x post (suc j) h = ap (slice_get (y ∷ (pre ++ x ∷ post))) (let q : suc j + 1 ≡ suc (j + 1) = omega arith in q) ∙ behind pre x post j (omega (arith, h))

      by : (c : Bool) → nat_lt j (length pre) ≡ c → slice_get (pre ++ x ∷ post) (shift (length pre) j) ≡ slice_get (pre ++ post) j
      by true e = ap (λ c. slice_get (pre ++ x ∷ post) (if c then j else j + 1)) e ∙ before pre x post j (grind (arith, nat_tests, e))
      by false e = ap (λ c. slice_get (pre ++ x ∷ post) (if c then j else j + 1)) e ∙ behind pre x post j (grind (arith, nat_tests, e))

shift_apart : (n i j : ℕ) → shift n i ≡ shift n j → i ≡ j
shift_apart n i j h = by (nat_lt i n) (nat_lt j n) refl refl
  where
    by : (c d : Bool) → nat_lt i n ≡ c → nat_lt j n ≡ d → i ≡ j
    by true true a b = sym (ap (λ c. if c then i else i + 1) a) ∙ h ∙ ap (λ c. if c then j else j + 1) b
    by false false a b = (let q : i + 1 ≡ j + 1 = sym (ap (λ c. if c then i else i + 1) a) ∙ h ∙ ap (λ c. if c then j else j + 1) b in omega (arith, q))
    by true false a b = (let q : i ≡ j + 1 = sym (ap (λ c. if c then i else i + 1) a) ∙ h ∙ ap (λ c. if c then j else j + 1) b in let x : i < n = grind (arith, nat_tests, a) in let y : n ≤ j = grind (arith, nat_tests, b) in absurd (omega (arith, q, x, y)))
    by false true a b = (let q : i + 1 ≡ j = sym (ap (λ c. if c then i else i + 1) a) ∙ h ∙ ap (λ c. if c then j else j + 1) b in let x : n ≤ i = grind (arith, nat_tests, a) in let y : j < n = grind (arith, nat_tests, b) in absurd (omega (arith, q, x, y)))

pub apart_less : (pre : List Meant) (x : Meant) (post : List Meant) → AreApart is_equal (pre ++ x ∷ post) → AreApart is_equal (pre ++ post)
apart_less pre x post apart i j a b h g e = shift_apart (length pre) i j (apart (shift (length pre) i) (shift (length pre) j) a b (get_shifted pre x post i ∙ h) (get_shifted pre x post j ∙ g) e)
