-- The graphs that are made for a struct stand at their numbers.
use Rattle.std.proofs.Common.{◌≡◌, ◌<◌, ◌≤◌, ℕ, zero, suc, ◌+◌, Bool, true, false, List, [], ◌∷◌, ◌++◌, length, map, Option, Some, None, refl, sym, ap, ◌∙◌, subst, arith}
use Rattle.std.specs.Prelude.{slice_get, ◌==◌, is_none, is_some}
use Rattle.std.proofs.lemmas.Bool.Decides.{nat_tests}
use Rattle.ll_code.specs.declared.program.LlType.{LlType}
use Rattle.ll_code.specs.declared.program.LlStruct.{LlStruct}
use Rattle.ll_code.specs.declared.program.LlGraph.{LlGraph}
use Rattle.ll_code.specs.Typed.{structs_ok, is_base, base_of, items_of}
use Rattle.ll_laws.proofs.Values.{and_left, and_right, is_less}
use Rattle.refcount_transform.specs.declared.plan.Counts.{Counts}
use Rattle.refcount_transform.specs.Plan.{Plan, base_in, above, root_within, root, reference_given, reference_to, one_if, references_in, two_if, counts_for, next_behind, counts_behind, is_counted, counts_given, root_of, fields_given, fields_of, items_referred, field_number, held_if, held_from, own_held}
use Rattle.refcount_transform.specs.Made.{put_graph, release_graph, items_made, references_made, made_for, made_if, made_from}

pub length_two : {A : Type 0} (xs ys : List A) → length (xs ++ ys) ≡ length xs + length ys
length_two [] ys = omega arith
length_two (x ∷ xs) ys = omega (arith, length_two xs ys)

pub length_mapped : {A B : Type 0} (f : A → B) (xs : List A) → length (map f xs) ≡ length xs
length_mapped f [] = refl
length_mapped f (x ∷ xs) = ap suc (length_mapped f xs)

pub get_left : {A : Type 0} (xs ys : List A) (k : ℕ) → k < length xs → slice_get (xs ++ ys) k ≡ slice_get xs k
get_left [] ys k lt = absurd (omega (arith, lt))
get_left (x ∷ xs) ys zero lt = refl
get_left (x ∷ xs) ys (suc k) lt = get_left xs ys k (omega (arith, lt))

pub get_right : {A : Type 0} (xs ys : List A) (k : ℕ) → slice_get (xs ++ ys) (length xs + k) ≡ slice_get ys k
get_right [] ys k = ap (slice_get ys) (let e : 0 + k ≡ k = omega arith in e)
get_right (x ∷ xs) ys k = ap (slice_get (x ∷ (xs ++ ys))) (let e : suc (length xs) + k ≡ suc (length xs + k) = omega arith in e) ∙ get_right xs ys k

-- ---- bases stand before

pub record Based (structs : List LlStruct) : Type 0 where
  pub before : (n m : ℕ) (s : LlStruct) → slice_get structs n ≡ Some s → s.base ≡ Some m → m < n

base_before : (structs : List LlStruct) (n m : ℕ) (b : Option ℕ) → b ≡ Some m → is_base structs n b ≡ true → m < n
base_before structs n m None e ok = absurd (cc)
base_before structs n m (Some k) e ok = let f : k ≡ m = cc in let lt : k < n = is_less k n (and_left _ _ ok) in omega (arith, f, lt)

based_from : (structs : List LlStruct) (n : ℕ) (ss : List LlStruct) → structs_ok structs n ss ≡ true → (j m : ℕ) (s : LlStruct) → slice_get ss j ≡ Some s → s.base ≡ Some m → m < n + j
based_from structs n [] ok j m s e b = absurd (cc)
based_from structs n (t ∷ ss) ok zero m s e b =
    let f : t ≡ s = cc in
    let lt : m < n = base_before structs n m t.base (ap (λ s. s.base) f ∙ b) (and_left _ _ (and_left _ _ (and_left _ _ ok))) in omega (arith, lt)
based_from structs n (t ∷ ss) ok (suc j) m s e b = let lt : m < n + 1 + j = based_from structs (n + 1) ss (and_right _ _ ok) j m s e b in omega (arith, lt)

pub all_based : (structs : List LlStruct) → structs_ok structs 0 structs ≡ true → Based structs
all_based structs ok = record { before = λ n m s e b. let lt : m < 0 + n = based_from structs 0 structs ok n m s e b in omega (arith, lt) }

module _ (structs : List LlStruct) (based : Based structs) where
  base_less : (n m : ℕ) (o : Option LlStruct) → slice_get structs n ≡ o → base_of o ≡ Some m → m < n
  base_less n m None e b = absurd (cc)
  base_less n m (Some s) e b = based.before n m s e b

  pub root_low : (times : List LlStruct) (n : ℕ) → root_within structs times n ≤ n
  root_low [] n = omega arith
  root_low (t ∷ times) n = low (λ m. root_low times m) (base_in structs n) refl
    where
      low : ((m : ℕ) → root_within structs times m ≤ m) → (o : Option ℕ) → base_in structs n ≡ o → above (root_within structs times) n o ≤ n
      low go None e = omega arith
      low go (Some m) e = let lt : m < n = base_less n m (slice_get structs n) refl e in omega (arith, lt, go m)

  -- a struct is its own root where it has no base
  root_is : (times : List LlStruct) (n : ℕ) (o : Option ℕ) → base_in structs n ≡ o → 0 < length times → (root_within structs times n == n) ≡ is_none o
  root_is [] n o e lt = absurd (omega (arith, lt))
  root_is (t ∷ times) n None e lt = ap (λ o. above (root_within structs times) n o == n) e ∙ (let f : (n == n) ≡ true = grind (arith, nat_tests) in f)
  root_is (t ∷ times) n (Some m) e lt =
      let low : root_within structs times m ≤ m = root_low times m in
      let less : m < n = base_less n m (slice_get structs n) refl e in
      ap (λ o. above (root_within structs times) n o == n) e ∙ (let f : (root_within structs times m == n) ≡ false = grind (arith, nat_tests) in f)

  pub is_own_root : (n : ℕ) (s : LlStruct) → slice_get structs n ≡ Some s → (root structs n == n) ≡ is_none s.base
  is_own_root n s e = root_is structs n s.base (ap base_of e) (some structs n s e)
    where
      some : (l : List LlStruct) (n : ℕ) (s : LlStruct) → slice_get l n ≡ Some s → 0 < length l
      some [] n s e = absurd (cc)
      some (x ∷ l) n s e = omega arith

-- ---- how many graphs

module _ (plan : Plan) where
  held_count : (n place : ℕ) (ts : List LlType) → length (held_from plan n place ts) ≡ references_in plan.counted ts
  held_count n place [] = refl
  held_count n place (t ∷ ts) = one (reference_to plan.counted t) (held_count n (suc place) ts)
    where
      one : (o : Option ℕ) → length (held_from plan n (suc place) ts) ≡ references_in plan.counted ts → length (held_if n (field_number plan n place) o (held_from plan n (suc place) ts)) ≡ one_if o + references_in plan.counted ts
      one None e = omega (arith, e)
      one (Some m) e = omega (arith, e)

  items_count : (n : ℕ) (o : Option ℕ) → length (items_made plan n o) ≡ two_if (is_some o)
  items_count n None = refl
  items_count n (Some m) = refl

  references_count : (n : ℕ) (b : Bool) → length (references_made n b) ≡ two_if b
  references_count n false = refl
  references_count n true = refl

  -- the graphs of one struct
  module _ (n : ℕ) (s : LlStruct) (is : slice_get plan.structs n ≡ Some s) (own : (root_of plan n == n) ≡ is_none s.base) where
    abbrev pub puts : List LlGraph
    puts = map (put_graph plan) (own_held plan n)

    abbrev items : List LlGraph
    items = items_made plan n (items_referred plan n)

    abbrev refs : List LlGraph
    refs = references_made n (root_of plan n == n)

    pub puts_count : length puts ≡ references_in plan.counted s.fields
    puts_count = length_mapped (put_graph plan) (own_held plan n) ∙ held_count n 0 (fields_of plan n) ∙ ap (λ o. references_in plan.counted (fields_given o)) is

    items_are : items_referred plan n ≡ reference_given plan.counted s.items
    items_are = ap (λ o. reference_given plan.counted (items_of o)) is

    items_long : length items ≡ two_if (is_some (reference_given plan.counted s.items))
    items_long = items_count n (items_referred plan n) ∙ ap (λ o. two_if (is_some o)) items_are

    refs_long : length refs ≡ two_if (is_none s.base)
    refs_long = references_count n (root_of plan n == n) ∙ ap two_if own

    pub made_long : length (made_for plan n) ≡ 1 + references_in plan.counted s.fields + two_if (is_some (reference_given plan.counted s.items)) + two_if (is_none s.base)
    made_long = omega (arith, length_two (puts ++ items) refs, length_two puts items, puts_count, items_long, refs_long)

    pub release_first : slice_get (made_for plan n) 0 ≡ Some (release_graph plan n)
    release_first = refl

    pub ups_there : (j : ℕ) → slice_get (made_for plan n) (1 + references_in plan.counted s.fields + two_if (is_some (reference_given plan.counted s.items)) + j) ≡ slice_get refs j
    ups_there j =
        ap (slice_get (made_for plan n)) (let e : 1 + references_in plan.counted s.fields + two_if (is_some (reference_given plan.counted s.items)) + j ≡ suc (length (puts ++ items) + j) = omega (arith, length_two puts items, puts_count, items_long) in e)
        ∙ get_right (puts ++ items) refs j

  -- ---- all of them, from struct n on

  pub record Found (next : ℕ) (counts : Counts) (graphs own : List LlGraph) (s : LlStruct) : Type 0 where
    pub behind : ℕ
    pub is : counts ≡ counts_for plan.counted (next + behind) s
    pub at : (i : ℕ) → i < length own → slice_get graphs (behind + i) ≡ slice_get own i

  record Known (n : ℕ) (ss : List LlStruct) : Type 0 where
    is : (j : ℕ) (s : LlStruct) → slice_get ss j ≡ Some s → slice_get plan.structs (n + j) ≡ Some s
    own : (j : ℕ) (s : LlStruct) → slice_get ss j ≡ Some s → (root_of plan (n + j) == n + j) ≡ is_none s.base

  found : (ss : List LlStruct) (n next : ℕ) → Known n ss → (j : ℕ) (s : LlStruct) → slice_get ss j ≡ Some s → is_counted plan (n + j) ≡ true
      → Found next (counts_given (slice_get (counts_behind plan.counted n next ss) j)) (made_from plan n ss) (made_for plan (n + j)) s
  found [] n next k j s e counted = absurd (cc)
  found (t ∷ ss) n next k zero s e counted =
      let f : t ≡ s = cc in
      let z : n + 0 ≡ n = omega arith in
      let c : is_counted plan n ≡ true = ap (is_counted plan) (sym z) ∙ counted in
      record {
        behind = 0;
        is = ap (λ s. counts_for plan.counted next s) f ∙ ap (λ m. counts_for plan.counted m s) (let g : next ≡ next + 0 = omega arith in g);
        at = λ i lt.
            let lt2 : i < length (made_for plan n) = subst (λ m. i < length (made_for plan m)) z lt in
            ap (slice_get (made_from plan n (t ∷ ss))) (let g : 0 + i ≡ i = omega arith in g) ∙ ap (λ b. slice_get (made_if plan n b ++ made_from plan (suc n) ss) i) c ∙ get_left (made_for plan n) (made_from plan (suc n) ss) i lt2
            ∙ ap (λ m. slice_get (made_for plan m) i) (sym z);
      }
  found (t ∷ ss) n next k (suc j) s e counted =
      let z : suc n + j ≡ n + suc j = omega arith in
      let deeper : Known (suc n) ss = record {
        is = λ i u f. ap (slice_get plan.structs) (let g : suc n + i ≡ n + suc i = omega arith in g) ∙ k.is (suc i) u f;
        own = λ i u f. subst (λ m. (root_of plan m == m) ≡ is_none u.base) (let g : n + suc i ≡ suc n + i = omega arith in g) (k.own (suc i) u f);
      } in
      let here : slice_get plan.structs n ≡ Some t = ap (slice_get plan.structs) (let g : n ≡ n + 0 = omega arith in g) ∙ k.is 0 t refl in
      let own : (root_of plan n == n) ≡ is_none t.base = subst (λ m. (root_of plan m == m) ≡ is_none t.base) (let g : n + 0 ≡ n = omega arith in g) (k.own 0 t refl) in
      let next2 : ℕ = next_behind (is_counted plan n) next t (counts_for plan.counted next t) in
      let w : Found next2 (counts_given (slice_get (counts_behind plan.counted (suc n) next2 ss) j)) (made_from plan (suc n) ss) (made_for plan (suc n + j)) s = found ss (suc n) next2 deeper j s e (ap (is_counted plan) z ∙ counted) in
      let long : next2 ≡ next + length (made_if plan n (is_counted plan n)) = longer (is_counted plan n) refl here own in
      record {
        behind = length (made_if plan n (is_counted plan n)) + w.behind;
        is = w.is ∙ ap (λ m. counts_for plan.counted m s) (let g : next2 + w.behind ≡ next + (length (made_if plan n (is_counted plan n)) + w.behind) = omega (arith, long) in g);
        at = λ i lt.
            ap (slice_get (made_if plan n (is_counted plan n) ++ made_from plan (suc n) ss)) (let g : length (made_if plan n (is_counted plan n)) + w.behind + i ≡ length (made_if plan n (is_counted plan n)) + (w.behind + i) = omega arith in g)
            ∙ get_right (made_if plan n (is_counted plan n)) (made_from plan (suc n) ss) (w.behind + i) ∙ w.at i (subst (λ m. i < length (made_for plan m)) (sym z) lt) ∙ ap (λ m. slice_get (made_for plan m) i) z;
      }
    where
      longer : (b : Bool) → is_counted plan n ≡ b → slice_get plan.structs n ≡ Some t → (root_of plan n == n) ≡ is_none t.base
          → next_behind (is_counted plan n) next t (counts_for plan.counted next t) ≡ next + length (made_if plan n (is_counted plan n))
      longer true c here own =
          ap (λ b. next_behind b next t (counts_for plan.counted next t)) c
          ∙ (let m : length (made_for plan n) ≡ 1 + references_in plan.counted t.fields + two_if (is_some (reference_given plan.counted t.items)) + two_if (is_none t.base) = made_long n t here own in
          let g : next + 1 + references_in plan.counted t.fields + two_if (is_some (reference_given plan.counted t.items)) + two_if (is_none t.base) ≡ next + length (made_for plan n) = omega (arith, m) in g)
          ∙ ap (λ b. next + length (made_if plan n b)) (sym c)
      longer false c here own = ap (λ b. next_behind b next t (counts_for plan.counted next t)) c ∙ (let g : next ≡ next + 0 = omega arith in g) ∙ ap (λ b. next + length (made_if plan n b)) (sym c)

  pub all_found : (based : Based plan.structs) → (next n : ℕ) (s : LlStruct) → slice_get plan.structs n ≡ Some s → is_counted plan n ≡ true → Found next (counts_given (slice_get (counts_behind plan.counted 0 next plan.structs) n)) (made_from plan 0 plan.structs) (made_for plan n) s
  all_found based next n s e counted =
      let z : 0 + n ≡ n = omega arith in
      let known : Known 0 plan.structs = record {
        is = λ j u f. ap (slice_get plan.structs) (let g : 0 + j ≡ j = omega arith in g) ∙ f;
        own = λ j u f. subst (λ m. (root_of plan m == m) ≡ is_none u.base) (let g : j ≡ 0 + j = omega arith in g) (is_own_root plan.structs based j u f);
      } in
      subst (λ m. Found next (counts_given (slice_get (counts_behind plan.counted 0 next plan.structs) n)) (made_from plan 0 plan.structs) (made_for plan m) s) z (found plan.structs 0 next known n s e (ap (is_counted plan) z ∙ counted))
