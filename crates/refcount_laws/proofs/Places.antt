-- Where the fields of counted structs stand.
use Rattle.std.proofs.Common.{◌≡◌, ◌<◌, ◌≤◌, ℕ, zero, suc, ◌+◌, ◌-◌, Bool, true, false, ◌&&◌, List, [], ◌∷◌, ◌++◌, length, map, Option, Some, None, refl, sym, ap, ◌∙◌, subst, arith}
use Rattle.std.specs.Prelude.{slice_get, ◌==◌, is_none}
use Rattle.std.proofs.lemmas.Bool.Decides.{nat_tests}
use Rattle.csub_tree.specs.Layout.{shape_at, shape_over, base_of, begins_with, place}
use Rattle.ll_code.specs.declared.program.LlType.{LlType}
use Rattle.ll_code.specs.declared.program.LlType.TheVariants as type
use Rattle.ll_code.specs.declared.program.LlStruct.{LlStruct}
use Rattle.ll_code.specs.declared.program.LlGraph.{LlGraph}
use Rattle.ll_code.specs.declared.program.LlProgram.{LlProgram}
use Rattle.ll_code.specs.Machine.{shapes_of}
use Rattle.ll_code.specs.Typed.{structs_ok, IsWellTyped}
use Rattle.ll_code.specs.Typed as typed
use Rattle.ll_laws.proofs.Values.{and_left, and_right, is_same}
use Rattle.refcount_transform.specs.declared.plan.Held.{Held}
use Rattle.refcount_transform.specs.Plan.{Plan, plan_of, base_in, above, root_within, root, is_made, counted_from, is_marked, where_marked, reference_to, reference_given, is_counted, root_of, base_at, referred, fields_given, fields_of, items_referred, has_count, behind_count, number_behind, field_number, held_if, held_from, own_held, of_base, held_within}
use Rattle.refcount_transform.specs.Counted.{struct_by, structs_from, structs_of, counted}
use Rattle.refcount_laws.specs.Graphs.{Counting, AllFields}
use Rattle.refcount_laws.specs.Made.{shapes_counted, place_in, reference_of, counts_of, is_root_given, all_lead, structs_lead, leads_to_roots}
use Rattle.refcount_laws.proofs.Numbers.{Based, all_based, is_own_root}
use Rattle.refcount_laws.proofs.Shapes.{shape_is, HasBase, begins_itself, Begins, Itself, ByBase, begins_by, begins_on}
use Rattle.refcount_laws.proofs.Standing.{StructAt, marked_there, up_stands, down_stands, release_stands}

-- ---- structs with their counts

struct_from : (plan : Plan) (ss : List LlStruct) (n j : ℕ) (s : LlStruct) → slice_get ss j ≡ Some s → slice_get (structs_from plan n ss) j ≡ Some (struct_by (has_count plan (n + j)) s)
struct_from plan [] n j s e = absurd (cc)
struct_from plan (t ∷ ss) n zero s e = let f : t ≡ s = cc in ap (λ t. Some (struct_by (has_count plan n) t)) f ∙ ap (λ n. Some (struct_by (has_count plan n) s)) (let z : n ≡ n + 0 = omega arith in z)
struct_from plan (t ∷ ss) n (suc j) s e = struct_from plan ss (suc n) j s e ∙ ap (λ n. Some (struct_by (has_count plan n) s)) (let z : suc n + j ≡ n + suc j = omega arith in z)

pub base_of_struct : (b : Bool) (s : LlStruct) → (struct_by b s).base ≡ s.base
base_of_struct true s = refl
base_of_struct false s = refl

record Came (ss : List LlStruct) (j : ℕ) (t : LlStruct) : Type 0 where
  s : LlStruct
  is : slice_get ss j ≡ Some s
  base : t.base ≡ s.base

came_from : (plan : Plan) (ss : List LlStruct) (n j : ℕ) (t : LlStruct) → slice_get (structs_from plan n ss) j ≡ Some t → Came ss j t
came_from plan [] n j t e = absurd (cc)
came_from plan (s ∷ ss) n zero t e = let f : struct_by (has_count plan n) s ≡ t = cc in record { s = s; is = refl; base = ap (λ t. t.base) (sym f) ∙ base_of_struct (has_count plan n) s }
came_from plan (s ∷ ss) n (suc j) t e = let w : Came ss j t = came_from plan ss (suc n) j t e in record { s = w.s; is = w.is; base = w.base }

-- ---- roots

module _ (structs : List LlStruct) (based : Based structs) where
  base_less : (n m : ℕ) (o : Option LlStruct) → slice_get structs n ≡ o → typed.base_of o ≡ Some m → m < n
  base_less n m None e b = absurd (cc)
  base_less n m (Some s) e b = based.before n m s e b

  none_at_first : (o : Option ℕ) → base_in structs 0 ≡ o → (go : ℕ → ℕ) → above go 0 o ≡ 0
  none_at_first None e go = refl
  none_at_first (Some m) e go = let lt : m < 0 = base_less 0 m (slice_get structs 0) refl e in absurd (omega (arith, lt))

  -- the root, whatever the bound
  root_same : (xs ys : List LlStruct) (n : ℕ) → n ≤ length xs → n ≤ length ys → root_within structs xs n ≡ root_within structs ys n
  root_same [] [] n h k = refl
  root_same [] (y ∷ ys) n h k = let z : n ≡ 0 = omega (arith, h) in z ∙ sym (ap (root_within structs (y ∷ ys)) z ∙ none_at_first (base_in structs 0) refl (root_within structs ys))
  root_same (x ∷ xs) [] n h k = let z : n ≡ 0 = omega (arith, k) in ap (root_within structs (x ∷ xs)) z ∙ none_at_first (base_in structs 0) refl (root_within structs xs) ∙ sym z
  root_same (x ∷ xs) (y ∷ ys) n h k = by (λ m lt. root_same xs ys m (omega (arith, h, lt)) (omega (arith, k, lt))) (base_in structs n) refl
    where
      by : ((m : ℕ) → m < n → root_within structs xs m ≡ root_within structs ys m) → (o : Option ℕ) → base_in structs n ≡ o → above (root_within structs xs) n o ≡ above (root_within structs ys) n o
      by go None e = refl
      by go (Some m) e = go m (base_less n m (slice_get structs n) refl e)

  inside : (l : List LlStruct) (n : ℕ) (s : LlStruct) → slice_get l n ≡ Some s → n < length l
  inside [] n s e = absurd (cc)
  inside (x ∷ l) zero s e = omega arith
  inside (x ∷ l) (suc n) s e = omega (arith, inside l n s e)

  root_within_base : (times : List LlStruct) (n m : ℕ) → base_in structs n ≡ Some m → n < length times → m < n → n ≤ length structs → root_within structs times n ≡ root structs m
  root_within_base [] n m b lt less le = absurd (omega (arith, lt))
  root_within_base (t ∷ times) n m b lt less le = ap (above (root_within structs times) n) b ∙ root_same times structs m (omega (arith, lt, less)) (omega (arith, less, le))

  -- a struct has the root of its base
  pub root_of_base : (n m : ℕ) → HasBase structs based n m → root structs n ≡ root structs m
  root_of_base n m b = root_within_base structs n m (ap typed.base_of b.is ∙ b.base) (inside structs n b.s b.is) (based.before n m b.s b.is b.base) (let lt : n < length structs = inside structs n b.s b.is in omega (arith, lt))

marked_is : (structs : List LlStruct) (graphs : List LlGraph) (k : ℕ) (ss : List LlStruct) (j : ℕ) (s : LlStruct) → slice_get ss j ≡ Some s → is_marked (counted_from structs graphs k ss) j ≡ is_made structs graphs (root structs (k + j))
marked_is structs graphs k [] j s e = absurd (cc)
marked_is structs graphs k (t ∷ ss) zero s e = ap (λ n. is_made structs graphs (root structs n)) (let z : k ≡ k + 0 = omega arith in z)
marked_is structs graphs k (t ∷ ss) (suc j) s e = marked_is structs graphs (suc k) ss j s e ∙ ap (λ n. is_made structs graphs (root structs n)) (let z : suc k + j ≡ k + suc j = omega arith in z)

pub reference_marked : (marks : List Bool) (t : LlType) (m : ℕ) → reference_to marks t ≡ Some m → is_marked marks m ≡ true
reference_marked marks type.Signed m e = absurd (cc)
reference_marked marks type.Char m e = absurd (cc)
reference_marked marks type.Bool m e = absurd (cc)
reference_marked marks type.Void m e = absurd (cc)
reference_marked marks type.Fn m e = absurd (cc)
reference_marked marks (type.Ptr n) m e = by (is_marked marks n) refl e
  where
    by : (b : Bool) → is_marked marks n ≡ b → where_marked n b ≡ Some m → is_marked marks m ≡ true
    by true h e = let f : n ≡ m = cc in subst (λ n. is_marked marks n ≡ true) f h
    by false h e = absurd (cc)

pub given_marked : (marks : List Bool) (o : Option LlType) (m : ℕ) → reference_given marks o ≡ Some m → is_marked marks m ≡ true
given_marked marks None m e = absurd (cc)
given_marked marks (Some t) m e = reference_marked marks t m e

pub earlier : (l : List LlStruct) (n m : ℕ) (s : LlStruct) → slice_get l n ≡ Some s → m < n → StructAt l m
earlier [] n m s e lt = absurd (cc)
earlier (x ∷ l) zero m s e lt = absurd (omega (arith, lt))
earlier (x ∷ l) (suc n) zero s e lt = record { s = x; is = refl }
earlier (x ∷ l) (suc n) (suc m) s e lt = let w : StructAt l m = earlier l n m s e (omega (arith, lt)) in record { s = w.s; is = w.is }

module _ (p : LlProgram) (based : Based p.structs) where
  abbrev plan : Plan
  plan = plan_of p

  abbrev structs : List LlStruct
  structs = structs_of plan

  pub struct_there : (n : ℕ) (s : LlStruct) → slice_get p.structs n ≡ Some s → slice_get structs n ≡ Some (struct_by (has_count plan n) s)
  struct_there n s e = struct_from plan p.structs 0 n s e ∙ ap (λ n. Some (struct_by (has_count plan n) s)) (let z : 0 + n ≡ n = omega arith in z)

  pub counted_based : Based structs
  counted_based = record { before = λ n m t e b. let w : Came p.structs n t = came_from plan p.structs 0 n t e in based.before n m w.s w.is (sym w.base ∙ b) }

  -- the base is the same
  pub base_there : (n m : ℕ) (s : LlStruct) → slice_get p.structs n ≡ Some s → s.base ≡ Some m → HasBase structs counted_based n m
  base_there n m s e b = record { s = struct_by (has_count plan n) s; is = struct_there n s e; base = base_of_struct (has_count plan n) s ∙ b }

  pub base_back : (n m : ℕ) → HasBase structs counted_based n m → HasBase p.structs based n m
  base_back n m b = let w : Came p.structs n b.s = came_from plan p.structs 0 n b.s b.is in record { s = w.s; is = w.is; base = sym w.base ∙ b.base }

  counted_is : (n : ℕ) (s : LlStruct) → slice_get p.structs n ≡ Some s → is_counted plan n ≡ is_made p.structs p.graphs (root p.structs n)
  counted_is n s e = marked_is p.structs p.graphs 0 p.structs n s e ∙ ap (λ n. is_made p.structs p.graphs (root p.structs n)) (let z : 0 + n ≡ n = omega arith in z)

  -- a struct is counted where its base is
  pub counted_base : (n m : ℕ) → HasBase p.structs based n m → (s2 : LlStruct) → slice_get p.structs m ≡ Some s2 → is_counted plan n ≡ is_counted plan m
  counted_base n m b s2 e = counted_is n b.s b.is ∙ ap (is_made p.structs p.graphs) (root_of_base p.structs based n m b) ∙ sym (counted_is m s2 e)

  -- what a struct begins with
  pub record Rooted (k n : ℕ) : Type 0 where
    pub counted : is_counted plan k ≡ true
    pub root : root_of plan k ≡ n

  pub rooted : (f k n : ℕ) → k < f → is_counted plan n ≡ true → root_of plan n ≡ n → begins_with (shapes_counted plan) k n ≡ true → Rooted k n
  rooted zero k n lt c r h = absurd (omega (arith, lt))
  rooted (suc f) k n lt c r h = by (λ j l x. rooted f j n l c r x) (begins_by structs counted_based k n h)
    where
      by : ((j : ℕ) → j < f → begins_with (shapes_counted plan) j n ≡ true → Rooted j n) → Begins structs counted_based k n → Rooted k n
      by go (Itself s e q) = record { counted = subst (λ k. is_counted plan k ≡ true) q c; root = subst (λ k. root_of plan k ≡ n) q r }
      by go (ByBase m b l x) =
          let w : Rooted m n = go m (omega (arith, l, lt)) x in
          let back : HasBase p.structs based k m = base_back k m b in
          let there : StructAt p.structs m = marked_there p.structs p.graphs 0 p.structs m w.counted in
          record { counted = counted_base k m back there.s there.is ∙ w.counted; root = root_of_base p.structs based k m back ∙ w.root }

  -- ---- places

  pub has_count_is : (n : ℕ) (s : LlStruct) (b : Bool) → slice_get p.structs n ≡ Some s → is_counted plan n ≡ true → is_none s.base ≡ b → has_count plan n ≡ b
  has_count_is n s b e c h = ap (λ b. b && is_none (base_at plan n)) c ∙ ap (λ o. is_none (typed.base_of o)) e ∙ h

  -- there is room for the count and the release
  sizes : (f n : ℕ) → n < f → is_counted plan n ≡ true → 2 ≤ (shape_at (shapes_counted plan) n).size
  sizes zero n lt c = absurd (omega (arith, lt))
  sizes (suc f) n lt c = let w : StructAt p.structs n = marked_there p.structs p.graphs 0 p.structs n c in by (λ m l x. sizes f m l x) w.s w.is w.s.base refl
    where
      by : ((m : ℕ) → m < f → is_counted plan m ≡ true → 2 ≤ (shape_at (shapes_counted plan) m).size) → (s : LlStruct) → slice_get p.structs n ≡ Some s → (o : Option ℕ) → s.base ≡ o → 2 ≤ (shape_at (shapes_counted plan) n).size
      by go s e None b =
          let t : LlStruct = struct_by (has_count plan n) s in
          let yes : has_count plan n ≡ true = has_count_is n s true e c (ap is_none b) in
          let size : (shape_at (shapes_counted plan) n).size ≡ length t.fields =
          ap (λ x. x.size) (shape_is structs counted_based n t (struct_there n s e) ∙ ap (λ o. shape_over n (length t.fields) (base_of (shapes_of structs) o)) (base_of_struct (has_count plan n) s ∙ b)) in
          let long : length t.fields ≡ suc (suc (length s.fields)) = ap (λ b. length (struct_by b s).fields) yes in
          omega (arith, size, long)
      by go s e (Some m) b =
          let t : LlStruct = struct_by (has_count plan n) s in
          let w : HasBase p.structs based n m = record { s = s; is = e; base = b } in
          let less : m < n = based.before n m s e b in
          let size : (shape_at (shapes_counted plan) n).size ≡ (shape_at (shapes_counted plan) m).size + length t.fields =
          ap (λ x. x.size) (shape_is structs counted_based n t (struct_there n s e) ∙ ap (λ o. shape_over n (length t.fields) (base_of (shapes_of structs) o)) (base_of_struct (has_count plan n) s ∙ b)) in
          let low : 2 ≤ (shape_at (shapes_counted plan) m).size = go m (omega (arith, less, lt)) (base_counted m w) in
          omega (arith, size, low)
        where
          base_counted : (m : ℕ) → HasBase p.structs based n m → is_counted plan m ≡ true
          base_counted m w = let there : StructAt p.structs m = earlier p.structs n m w.s w.is (based.before n m w.s w.is w.base) in sym (counted_base n m w there.s there.is) ∙ c

  -- the first of the struct's own fields stand behind the count and the release
  place_low : (n k : ℕ) → is_counted plan n ≡ true → 2 ≤ place (shape_at (shapes_counted plan) n) (field_number plan n k)
  place_low n k c = let w : StructAt p.structs n = marked_there p.structs p.graphs 0 p.structs n c in by w.s w.is w.s.base refl
    where
      shape_here : (s : LlStruct) (e : slice_get p.structs n ≡ Some s) (o : Option ℕ) → s.base ≡ o → shape_at (shapes_counted plan) n ≡ shape_over n (length (struct_by (has_count plan n) s).fields) (base_of (shapes_of structs) o)
      shape_here s e o b = shape_is structs counted_based n (struct_by (has_count plan n) s) (struct_there n s e) ∙ ap (λ o. shape_over n (length (struct_by (has_count plan n) s).fields) (base_of (shapes_of structs) o)) (base_of_struct (has_count plan n) s ∙ b)

      by : (s : LlStruct) → slice_get p.structs n ≡ Some s → (o : Option ℕ) → s.base ≡ o → 2 ≤ place (shape_at (shapes_counted plan) n) (field_number plan n k)
      by s e None b =
          let yes : has_count plan n ≡ true = has_count_is n s true e c (ap is_none b) in
          let number : field_number plan n k ≡ suc (suc k) = ap (λ o. number_behind plan n o k) (ap typed.base_of e ∙ b) ∙ ap (λ b. behind_count b k) yes in
          let is : place (shape_at (shapes_counted plan) n) (field_number plan n k) ≡ 0 + (suc (suc k) - 0) =
          ap (λ x. place x (field_number plan n k)) (shape_here s e None b) ∙ ap (λ j. 0 + (j - 0)) number in
          omega (arith, is)
      by s e (Some m) b =
          let less : m < n = based.before n m s e b in
          let there : StructAt p.structs m = earlier p.structs n m s e less in
          let cm : is_counted plan m ≡ true = sym (counted_base n m (record { s = s; is = e; base = b }) there.s there.is) ∙ c in
          let low : 2 ≤ (shape_at (shapes_counted plan) m).size = sizes (suc m) m (omega arith) cm in
          let number : field_number plan n k ≡ suc k = ap (λ o. number_behind plan n o k) (ap typed.base_of e ∙ b) in
          let is : place (shape_at (shapes_counted plan) n) (field_number plan n k) ≡ (shape_at (shapes_counted plan) m).size + (suc k - 1) =
          ap (λ x. place x (field_number plan n k)) (shape_here s e (Some m) b) ∙ ap (λ j. (shape_at (shapes_counted plan) m).size + (j - 1)) number in
          omega (arith, is, low)

  pub place_behind_two : (n k : ℕ) → is_counted plan n ≡ true → place (shape_at (shapes_counted plan) n) (field_number plan n k) ≡ suc (suc (place_in plan n (field_number plan n k)))
  place_behind_two n k c = let low : 2 ≤ place (shape_at (shapes_counted plan) n) (field_number plan n k) = place_low n k c in omega (arith, low)

  -- a root has its fields at their numbers
  first_place : (n k : ℕ) → is_counted plan n ≡ true → root_of plan n ≡ n → place (shape_at (shapes_counted plan) n) k ≡ k
  first_place n k c r = let w : StructAt p.structs n = marked_there p.structs p.graphs 0 p.structs n c in by w.s w.is w.s.base refl
    where
      by : (s : LlStruct) → slice_get p.structs n ≡ Some s → (o : Option ℕ) → s.base ≡ o → place (shape_at (shapes_counted plan) n) k ≡ k
      by s e None b =
          ap (λ x. place x k) (shape_is structs counted_based n (struct_by (has_count plan n) s) (struct_there n s e) ∙ ap (λ o. shape_over n (length (struct_by (has_count plan n) s).fields) (base_of (shapes_of structs) o)) (base_of_struct (has_count plan n) s ∙ b))
          ∙ (let z : 0 + (k - 0) ≡ k = omega arith in z)
      by s e (Some m) b =
          let own : (root p.structs n == n) ≡ is_none s.base = is_own_root p.structs based n s e in
          let yes : (root p.structs n == n) ≡ true = grind (arith, nat_tests, r) in
          absurd (let f : true ≡ false = sym yes ∙ own ∙ ap is_none b in cc)

  -- ---- fields that are references

  module _ (leads : structs_lead plan p.structs ≡ true) where
    pub leads_at : (ss : List LlStruct) (n : ℕ) (s : LlStruct) → structs_lead plan ss ≡ true → slice_get ss n ≡ Some s → (all_lead plan s.fields && is_root_given plan (reference_given plan.counted s.items)) ≡ true
    leads_at [] n s h e = absurd (cc)
    leads_at (t ∷ ss) zero s h e = let f : t ≡ s = cc in subst (λ t. (all_lead plan t.fields && is_root_given plan (reference_given plan.counted t.items)) ≡ true) f (and_left _ _ h)
    leads_at (t ∷ ss) (suc n) s h e = leads_at ss n s (and_right _ _ h) e

    pub given_root : (o : Option ℕ) (m : ℕ) → o ≡ Some m → is_root_given plan o ≡ true → root_of plan m ≡ m
    given_root None m e h = absurd (cc)
    given_root (Some k) m e h = let f : k ≡ m = cc in subst (λ k. root_of plan k ≡ k) f (is_same (root_of plan k) k h)

    own_fields : (k n : ℕ) → is_counted plan n ≡ true → begins_with (shapes_counted plan) k n ≡ true → (place : ℕ) (ts : List LlType) → all_lead plan ts ≡ true → AllFields (counted p) (counts_of plan) k (map (reference_of plan) (held_from plan n place ts))
    own_fields k n c of place [] lead = tt
    own_fields k n c of place (t ∷ ts) lead = by (referred plan t) refl (own_fields k n c of (suc place) ts (and_right _ _ lead))
      where
        by : (o : Option ℕ) → referred plan t ≡ o → AllFields (counted p) (counts_of plan) k (map (reference_of plan) (held_from plan n (suc place) ts))
            → AllFields (counted p) (counts_of plan) k (map (reference_of plan) (held_if n (field_number plan n place) o (held_from plan n (suc place) ts)))
        by None e rest = rest
        by (Some m) e rest = (record { of = of; place = place_behind_two n place c; to = (reference_marked plan.counted t m e, given_root (referred plan t) m e (and_left _ _ lead)) }, rest)

    fields_both : (k : ℕ) (xs ys : List Held) → AllFields (counted p) (counts_of plan) k (map (reference_of plan) xs) → AllFields (counted p) (counts_of plan) k (map (reference_of plan) ys) → AllFields (counted p) (counts_of plan) k (map (reference_of plan) (xs ++ ys))
    fields_both k [] ys a b = b
    fields_both k (x ∷ xs) ys a b = (a.0, fields_both k xs ys a.1 b)

    own_all : (k n : ℕ) → is_counted plan n ≡ true → begins_with (shapes_counted plan) k n ≡ true → AllFields (counted p) (counts_of plan) k (map (reference_of plan) (own_held plan n))
    own_all k n c of =
        let w : StructAt p.structs n = marked_there p.structs p.graphs 0 p.structs n c in
        own_fields k n c of 0 (fields_of plan n) (ap (λ o. all_lead plan (fields_given o)) w.is ∙ and_left _ _ (leads_at p.structs n w.s leads w.is))

    held_all : (times : List LlStruct) (k n : ℕ) → is_counted plan n ≡ true → begins_with (shapes_counted plan) k n ≡ true → AllFields (counted p) (counts_of plan) k (map (reference_of plan) (held_within plan times n))
    held_all [] k n c of = tt
    held_all (t ∷ times) k n c of = fields_both k (own_held plan n) (of_base (held_within plan times) (base_at plan n)) (own_all k n c of) (by (λ m c of. held_all times k m c of) (base_at plan n) refl)
      where
        w : StructAt p.structs n
        w = marked_there p.structs p.graphs 0 p.structs n c

        by : ((m : ℕ) → is_counted plan m ≡ true → begins_with (shapes_counted plan) k m ≡ true → AllFields (counted p) (counts_of plan) k (map (reference_of plan) (held_within plan times m))) → (o : Option ℕ) → base_at plan n ≡ o
            → AllFields (counted p) (counts_of plan) k (map (reference_of plan) (of_base (held_within plan times) o))
        by go None e = tt
        by go (Some m) e =
            let b : w.s.base ≡ Some m = sym (ap typed.base_of w.is) ∙ e in
            let there : StructAt p.structs m = earlier p.structs n m w.s w.is (based.before n m w.s w.is b) in
            go m (sym (counted_base n m (record { s = w.s; is = w.is; base = b }) there.s there.is) ∙ c) (begins_on structs counted_based k n m of (base_there n m w.s w.is b))

    begins_self : (n : ℕ) → is_counted plan n ≡ true → begins_with (shapes_counted plan) n n ≡ true
    begins_self n c = let w : StructAt p.structs n = marked_there p.structs p.graphs 0 p.structs n c in begins_itself structs counted_based n (struct_by (has_count plan n) w.s) (struct_there n w.s w.is)

    pub counting : Counting (counted p) (counts_of plan)
    counting = record {
      release = λ n c. release_stands p based n c;
      up = λ n r. up_stands p based n r.0 r.1;
      down = λ n r. down_stands p based n r.0 r.1;
      root = λ kind n r h. (let w : Rooted kind n = rooted (suc kind) kind n (omega arith) r.0 r.1 h in (w.counted, w.root));
      first = λ n k r. first_place n k r.0 r.1;
      held = λ n c. held_all p.structs n n c (begins_self n c);
      items = λ n m c e. (let w : StructAt p.structs n = marked_there p.structs p.graphs 0 p.structs n c in record {
        of = begins_self n c;
        place = place_behind_two n 0 c;
        to = (given_marked plan.counted (typed.items_of (slice_get p.structs n)) m e, given_root (items_referred plan n) m e (ap (λ o. is_root_given plan (reference_given plan.counted (typed.items_of o))) w.is ∙ and_right _ _ (leads_at p.structs n w.s leads w.is)));
      });
    }

pub counted_counting : (p : LlProgram) → IsWellTyped p → leads_to_roots p ≡ true → Counting (counted p) (counts_of (plan_of p))
counted_counting p ok leads = counting p (all_based p.structs (and_left _ _ (and_left _ _ (and_left _ _ ok)))) leads
