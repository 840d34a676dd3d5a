-- Lists without the places where a count is zero.
use Rattle.std.proofs.Common.{◌≡◌, ◌<◌, ◌≤◌, ℕ, zero, suc, ◌+◌, ◌-◌, ◌^◌, Bool, true, false, not, ◌==◌, cond, List, [], ◌∷◌, ◌++◌, length, replicate, Some, None, refl, sym, ap, ◌∙◌, arith, ◌⊎◌, inl, inr}
use Rattle.std.specs.Prelude.{slice_get, slice_set, slice_index_or}
use Rattle.ll_code.specs.declared.program.LlType.{LlType}
use Rattle.ll_joined.specs.Named.{or_own, name_of, ByPlaces}
use Rattle.ll_joined.specs.Counted.{has, one_more}
use Rattle.ll_joined.specs.Joined.{places_from, places_of, next_if, type_if, types_from, types_of}

-- what stands where no count is zero
abbrev pub keep : {A : Type 0} → List ℕ → List A → List A
keep [] xs = []
keep (n ∷ ns) [] = []
keep (n ∷ ns) (x ∷ xs) = cond (n == 0) (keep ns xs) (x ∷ keep ns xs)

-- how many of them stand before this place
abbrev pub rank : List ℕ → ℕ → ℕ
rank [] v = 0
rank (n ∷ ns) zero = 0
rank (n ∷ ns) (suc v) = cond (n == 0) (rank ns v) (suc (rank ns v))

pub keep_none : {A : Type 0} (ns : List ℕ) → keep {A = A} ns [] ≡ []
keep_none [] = refl
keep_none (n ∷ ns) = refl

keep_size : {A : Type 0} (ns : List ℕ) (xs : List A) → length (keep ns xs) ≤ length ns
keep_size [] xs = omega arith
keep_size (n ∷ ns) [] = omega arith
keep_size (n ∷ ns) (x ∷ xs) = one (n == 0) (keep_size ns xs)
  where
    one : (b : Bool) → length (keep ns xs) ≤ length ns → length (cond b (keep ns xs) (x ∷ keep ns xs)) ≤ suc (length ns)
    one true e = omega (arith, e)
    one false e = omega (arith, e)

-- ---- one place

pub kept_at : {A : Type 0} (ns : List ℕ) (xs : List A) (d : A) (v : ℕ) → v < length ns → has 0 v ns ≡ false → slice_index_or (keep ns xs) (rank ns v) d ≡ slice_index_or xs v d
kept_at [] xs d v lt h = absurd (omega (arith, lt))
kept_at (n ∷ ns) [] d v lt h = refl
kept_at (n ∷ ns) (x ∷ xs) d zero lt h = ap (λ b. slice_index_or (cond b (keep ns xs) (x ∷ keep ns xs)) 0 d) h
kept_at (n ∷ ns) (x ∷ xs) d (suc v) lt h = one (n == 0) (kept_at ns xs d v (omega (arith, lt)) h)
  where
    one : (b : Bool) → slice_index_or (keep ns xs) (rank ns v) d ≡ slice_index_or xs v d → slice_index_or (cond b (keep ns xs) (x ∷ keep ns xs)) (cond b (rank ns v) (suc (rank ns v))) d ≡ slice_index_or xs v d
    one true e = e
    one false e = e

pub kept_get : {A : Type 0} (ns : List ℕ) (xs : List A) (v : ℕ) → v < length ns → has 0 v ns ≡ false → slice_get (keep ns xs) (rank ns v) ≡ slice_get xs v
kept_get [] xs v lt h = absurd (omega (arith, lt))
kept_get (n ∷ ns) [] v lt h = refl
kept_get (n ∷ ns) (x ∷ xs) zero lt h = ap (λ b. slice_get (cond b (keep ns xs) (x ∷ keep ns xs)) 0) h
kept_get (n ∷ ns) (x ∷ xs) (suc v) lt h = one (n == 0) (kept_get ns xs v (omega (arith, lt)) h)
  where
    one : (b : Bool) → slice_get (keep ns xs) (rank ns v) ≡ slice_get xs v → slice_get (cond b (keep ns xs) (x ∷ keep ns xs)) (cond b (rank ns v) (suc (rank ns v))) ≡ slice_get xs v
    one true e = e
    one false e = e

pub kept_set : {A : Type 0} (ns : List ℕ) (xs : List A) (v : ℕ) (x : A) → v < length ns → has 0 v ns ≡ false → keep ns (slice_set xs v x) ≡ slice_set (keep ns xs) (rank ns v) x
kept_set [] xs v x lt h = absurd (omega (arith, lt))
kept_set (n ∷ ns) [] v x lt h = refl
kept_set (n ∷ ns) (y ∷ xs) zero x lt h = ap (λ b. cond b (keep ns xs) (x ∷ keep ns xs)) h ∙ sym (ap (λ b. slice_set (cond b (keep ns xs) (y ∷ keep ns xs)) 0 x) h)
kept_set (n ∷ ns) (y ∷ xs) (suc v) x lt h = one (n == 0) (kept_set ns xs v x (omega (arith, lt)) h)
  where
    one : (b : Bool) → keep ns (slice_set xs v x) ≡ slice_set (keep ns xs) (rank ns v) x → cond b (keep ns (slice_set xs v x)) (y ∷ keep ns (slice_set xs v x)) ≡ slice_set (cond b (keep ns xs) (y ∷ keep ns xs)) (cond b (rank ns v) (suc (rank ns v))) x
    one true e = e
    one false e = ap (λ l. y ∷ l) e

-- ---- outside

pub index_outside : {A : Type 0} (xs : List A) (d : A) (v : ℕ) → length xs ≤ v → slice_index_or xs v d ≡ d
index_outside [] d v le = refl
index_outside (x ∷ xs) d zero le = absurd (omega (arith, le))
index_outside (x ∷ xs) d (suc v) le = index_outside xs d v (omega (arith, le))

pub get_outside : {A : Type 0} (xs : List A) (v : ℕ) → length xs ≤ v → slice_get xs v ≡ None
get_outside [] v le = refl
get_outside (x ∷ xs) zero le = absurd (omega (arith, le))
get_outside (x ∷ xs) (suc v) le = get_outside xs v (omega (arith, le))

pub set_outside : {A : Type 0} (xs : List A) (v : ℕ) (x : A) → length xs ≤ v → slice_set xs v x ≡ xs
set_outside [] v x le = refl
set_outside (y ∷ xs) zero x le = absurd (omega (arith, le))
set_outside (y ∷ xs) (suc v) x le = ap (λ l. y ∷ l) (set_outside xs v x (omega (arith, le)))

-- ---- numbers of variables

more_is : (n most : ℕ) → n + 1 ≤ 2 ^ 64 - 1 → one_more n ≡ n + 1
more_is n most le = grind (arith, le)

pub place_is : (ns : List ℕ) (next v : ℕ) → v < length ns → next + length ns ≤ 2 ^ 64 - 1 → slice_get (places_from next ns) v ≡ Some (next + rank ns v)
place_is [] next v lt le = absurd (omega (arith, lt))
place_is (n ∷ ns) next zero lt le = let e : next ≡ next + 0 = omega arith in ap Some e
place_is (n ∷ ns) next (suc v) lt le = one (n == 0) (place_is ns next v (omega (arith, lt)) (omega (arith, le))) (place_is ns (next + 1) v (omega (arith, lt)) (omega (arith, le)))
  where
    one : (b : Bool) → slice_get (places_from next ns) v ≡ Some (next + rank ns v) → slice_get (places_from (next + 1) ns) v ≡ Some (next + 1 + rank ns v) → slice_get (places_from (next_if (not b) next) ns) v ≡ Some (next + cond b (rank ns v) (suc (rank ns v)))
    one true e f = e
    one false e f =
        let g : one_more next ≡ next + 1 = more_is next 0 (omega (arith, le)) in
        let k : next + 1 + rank ns v ≡ next + suc (rank ns v) = omega arith in
        ap (λ n. slice_get (places_from n ns) v) g ∙ f ∙ ap Some k

places_size : (ns : List ℕ) (next : ℕ) → length (places_from next ns) ≡ length ns
places_size [] next = refl
places_size (n ∷ ns) next = ap suc (places_size ns (next_if (not (n == 0)) next))

abbrev pub place : List ℕ → ℕ → ℕ
place ns v = name_of (ByPlaces (places_of ns)) v

pub place_within : (ns : List ℕ) (v : ℕ) → v < length ns → length ns < 2 ^ 64 → place ns v ≡ rank ns v
place_within ns v lt few = let e : 0 + rank ns v ≡ rank ns v = omega arith in ap (or_own v) (place_is ns 0 v lt (omega (arith, few))) ∙ e

pub place_outside : (ns : List ℕ) (v : ℕ) → length ns ≤ v → place ns v ≡ v
place_outside ns v le = ap (or_own v) (get_outside (places_of ns) v (let e : length (places_from 0 ns) ≡ length ns = places_size ns 0 in omega (arith, e, le)))

within : (v n : ℕ) → (v < n) ⊎ (n ≤ v)
within v zero = inr (omega arith)
within zero (suc n) = inl (omega arith)
within (suc v) (suc n) = one (within v n)
  where
    one : (v < n) ⊎ (n ≤ v) → (suc v < suc n) ⊎ (suc n ≤ suc v)
    one (inl h) = inl (omega (arith, h))
    one (inr h) = inr (omega (arith, h))

module _ (ns : List ℕ) (few : length ns < 2 ^ 64) where
  pub index_kept : {A : Type 0} (xs : List A) (d : A) (v : ℕ) → length xs ≤ length ns → has 0 v ns ≡ false → slice_index_or (keep ns xs) (place ns v) d ≡ slice_index_or xs v d
  index_kept xs d v size h = on (within v (length ns))
    where
      on : (v < length ns) ⊎ (length ns ≤ v) → slice_index_or (keep ns xs) (place ns v) d ≡ slice_index_or xs v d
      on (inl lt) = ap (λ n. slice_index_or (keep ns xs) n d) (place_within ns v lt few) ∙ kept_at ns xs d v lt h
      on (inr le) = ap (λ n. slice_index_or (keep ns xs) n d) (place_outside ns v le) ∙ index_outside (keep ns xs) d v (let e : length (keep ns xs) ≤ length ns = keep_size ns xs in omega (arith, e, le)) ∙ sym (index_outside xs d v (omega (arith, size, le)))

  pub get_kept : {A : Type 0} (xs : List A) (v : ℕ) → length xs ≤ length ns → has 0 v ns ≡ false → slice_get (keep ns xs) (place ns v) ≡ slice_get xs v
  get_kept xs v size h = on (within v (length ns))
    where
      on : (v < length ns) ⊎ (length ns ≤ v) → slice_get (keep ns xs) (place ns v) ≡ slice_get xs v
      on (inl lt) = ap (slice_get (keep ns xs)) (place_within ns v lt few) ∙ kept_get ns xs v lt h
      on (inr le) = ap (slice_get (keep ns xs)) (place_outside ns v le) ∙ get_outside (keep ns xs) v (let e : length (keep ns xs) ≤ length ns = keep_size ns xs in omega (arith, e, le)) ∙ sym (get_outside xs v (omega (arith, size, le)))

  pub set_kept : {A : Type 0} (xs : List A) (v : ℕ) (x : A) → length xs ≤ length ns → has 0 v ns ≡ false → slice_set (keep ns xs) (place ns v) x ≡ keep ns (slice_set xs v x)
  set_kept xs v x size h = on (within v (length ns))
    where
      on : (v < length ns) ⊎ (length ns ≤ v) → slice_set (keep ns xs) (place ns v) x ≡ keep ns (slice_set xs v x)
      on (inl lt) = ap (λ n. slice_set (keep ns xs) n x) (place_within ns v lt few) ∙ sym (kept_set ns xs v x lt h)
      on (inr le) = ap (λ n. slice_set (keep ns xs) n x) (place_outside ns v le) ∙ set_outside (keep ns xs) v x (let e : length (keep ns xs) ≤ length ns = keep_size ns xs in omega (arith, e, le)) ∙ sym (ap (keep ns) (set_outside xs v x (omega (arith, size, le))))

-- ---- types

append_one : {A : Type 0} (pre : List A) (n : A) (ns : List A) → (pre ++ n ∷ []) ++ ns ≡ pre ++ n ∷ ns
append_one [] n ns = refl
append_one (m ∷ pre) n ns = ap (λ l. m ∷ l) (append_one pre n ns)

size_one : {A : Type 0} (pre : List A) (n : A) → length (pre ++ n ∷ []) ≡ length pre + 1
size_one [] n = omega arith
size_one (m ∷ pre) n = let e : length (pre ++ n ∷ []) ≡ length pre + 1 = size_one pre n in omega (arith, e)

has_behind : (pre : List ℕ) (n : ℕ) (ns : List ℕ) → has 0 (length pre) (pre ++ n ∷ ns) ≡ (n == 0)
has_behind [] n ns = refl
has_behind (m ∷ pre) n ns = has_behind pre n ns

types_behind : (pre ns : List ℕ) (types : List LlType) → length types ≡ length ns → types_from (pre ++ ns) (length pre) types ≡ keep ns types
types_behind pre [] [] e = refl
types_behind pre [] (t ∷ types) e = absurd (omega (arith, e))
types_behind pre (n ∷ ns) [] e = absurd (omega (arith, e))
types_behind pre (n ∷ ns) (t ∷ types) e =
    let rest : types_from (pre ++ n ∷ ns) (length pre + 1) types ≡ keep ns types =
    ap (λ l. types_from l (length pre + 1) types) (sym (append_one pre n ns)) ∙ ap (λ k. types_from ((pre ++ n ∷ []) ++ ns) k types) (sym (size_one pre n)) ∙ types_behind (pre ++ n ∷ []) ns types (omega (arith, e)) in
    ap (λ b. type_if b t ++ types_from (pre ++ n ∷ ns) (length pre + 1) types) (has_behind pre n ns) ∙ ap (λ l. type_if (n == 0) t ++ l) rest ∙ one (n == 0)
  where
    one : (b : Bool) → type_if b t ++ keep ns types ≡ cond b (keep ns types) (t ∷ keep ns types)
    one true = refl
    one false = refl

pub types_kept : (ns : List ℕ) (types : List LlType) → length types ≡ length ns → types_of ns types ≡ keep ns types
types_kept ns types e = types_behind [] ns types e

-- ---- the first places

-- the first places are kept
pub record First (n : ℕ) (ns : List ℕ) : Type 0 where
  pub all : (v : ℕ) → v < n → has 0 v ns ≡ false
  pub size : n ≤ length ns

first_rest : (n m : ℕ) (ns : List ℕ) → First (suc n) (m ∷ ns) → First n ns
first_rest n m ns h = record { all = λ v lt. h.all (suc v) (omega (arith, lt)); size = let e : suc n ≤ suc (length ns) = h.size in omega (arith, e) }

-- what is behind the first
fill : {A : Type 0} (ns : List ℕ) (d : A) (k : ℕ) → length ns ≡ k → keep ns (replicate k d) ≡ replicate (length (keep ns (replicate k d))) d
fill [] d k e = refl
fill (n ∷ ns) d zero e = absurd (omega (arith, e))
fill (n ∷ ns) d (suc k) e = one (n == 0) (fill ns d k (omega (arith, e)))
  where
    one : (b : Bool) → keep ns (replicate k d) ≡ replicate (length (keep ns (replicate k d))) d → cond b (keep ns (replicate k d)) (d ∷ keep ns (replicate k d)) ≡ replicate (length (cond b (keep ns (replicate k d)) (d ∷ keep ns (replicate k d)))) d
    one true h = h
    one false h = ap (λ l. d ∷ l) h

same_size : {A B : Type 0} (ns : List ℕ) (xs : List A) (ys : List B) → length xs ≡ length ys → length (keep ns xs) ≡ length (keep ns ys)
same_size [] xs ys e = refl
same_size (n ∷ ns) [] [] e = refl
same_size (n ∷ ns) [] (y ∷ ys) e = absurd (omega (arith, e))
same_size (n ∷ ns) (x ∷ xs) [] e = absurd (omega (arith, e))
same_size (n ∷ ns) (x ∷ xs) (y ∷ ys) e = one (n == 0) (same_size ns xs ys (omega (arith, e)))
  where
    one : (b : Bool) → length (keep ns xs) ≡ length (keep ns ys) → length (cond b (keep ns xs) (x ∷ keep ns xs)) ≡ length (cond b (keep ns ys) (y ∷ keep ns ys))
    one true h = h
    one false h = ap suc h

replicate_size : {A : Type 0} (k : ℕ) (d : A) → length (replicate k d) ≡ k
replicate_size zero d = refl
replicate_size (suc k) d = ap suc (replicate_size k d)

-- values in the first places, and nothing behind
pub begun : {A B : Type 0} (ns : List ℕ) (values : List A) (d : A) (types : List B) → First (length values) ns → length types ≡ length ns → keep ns (values ++ replicate (length types - length values) d) ≡ values ++ replicate (length (keep ns types) - length values) d
begun ns [] d types h e =
    let s : length types - 0 ≡ length ns = omega (arith, e) in
    let u : length (keep ns types) ≡ length (keep ns types) - 0 = omega arith in
    let t : length (keep ns (replicate (length ns) d)) ≡ length (keep ns types) - 0 = same_size ns (replicate (length ns) d) types (replicate_size (length ns) d ∙ sym e) ∙ u in
    ap (λ k. keep ns (replicate k d)) s ∙ fill ns d (length ns) refl ∙ ap (λ k. replicate k d) t
begun [] (x ∷ values) d types h e = absurd (let s : suc (length values) ≤ 0 = h.size in omega (arith, s))
begun (n ∷ ns) (x ∷ values) d [] h e = absurd (omega (arith, e))
begun (n ∷ ns) (x ∷ values) d (t ∷ types) h e =
    let k : (n == 0) ≡ false = h.all 0 (omega arith) in
    let rest : keep ns (values ++ replicate (length types - length values) d) ≡ values ++ replicate (length (keep ns types) - length values) d = begun ns values d types (first_rest (length values) n ns h) (omega (arith, e)) in
    let s : suc (length types) - suc (length values) ≡ length types - length values = omega arith in
    let u : suc (length (keep ns types)) - suc (length values) ≡ length (keep ns types) - length values = omega arith in
    ap (λ m. keep (n ∷ ns) (x ∷ values ++ replicate m d)) s
    ∙ ap (λ b. cond b (keep ns (values ++ replicate (length types - length values) d)) (x ∷ keep ns (values ++ replicate (length types - length values) d))) k
    ∙ ap (λ l. x ∷ l) rest
    ∙ ap (λ m. x ∷ values ++ replicate m d) (sym u)
    ∙ ap (λ b. x ∷ values ++ replicate (length (cond b (keep ns types) (t ∷ keep ns types)) - suc (length values)) d) (sym k)
