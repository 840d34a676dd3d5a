-- The fields that are references stand at different places.
use Rattle.std.proofs.Common.{◌≡◌, inl, inr, ◌<◌, ◌≤◌, ℕ, zero, suc, ◌+◌, ◌-◌, true, false, List, [], ◌∷◌, ◌++◌, length, map, Option, Some, None, refl, sym, ap, ◌∙◌, subst, arith}
use Rattle.std.specs.Prelude.{slice_get, is_none}
use Rattle.csub_tree.specs.Layout.{shape_at, begins_with, place}
use Rattle.ll_code.specs.declared.program.LlType.{LlType}
use Rattle.ll_code.specs.declared.program.LlStruct.{LlStruct}
use Rattle.ll_code.specs.declared.program.LlProgram.{LlProgram}
use Rattle.ll_code.specs.Machine.{shapes_of}
use Rattle.ll_code.specs.Typed as typed
use Rattle.ll_code.specs.Typed.{field_of, own_field}
use Rattle.refcount_transform.specs.declared.plan.Held.{Held}
use Rattle.refcount_transform.specs.Plan.{Plan, plan_of, is_counted, base_at, has_count, shifted, behind_count, reference_to, referred, fields_of, fields_given, number_behind, field_number, held_if, held_from, own_held, of_base, held_within, held_of}
use Rattle.refcount_transform.specs.Counted.{structs_of}
use Rattle.refcount_laws.specs.Graphs.{Reference}
use Rattle.refcount_laws.specs.Made.{shapes_counted, place_in, reference_of}
use Rattle.refcount_laws.proofs.Numbers.{Based}
use Rattle.refcount_laws.proofs.Shapes.{Begins, Itself, ByBase, begins_by, HasBase}
use Rattle.refcount_laws.proofs.Standing.{StructAt, marked_there}
use Rattle.refcount_laws.proofs.Places.{counted_based, counted_base, has_count_is, base_back, earlier}
use Rattle.refcount_laws.proofs.Alike.{place_same, plain_shape}
use Rattle.refcount_laws.specs.Ghost.{Apart, OnceIn}

-- all places from this one on, and all below
abbrev pub Low : ℕ → List Reference → Type 0
Low low [] = Unit {0}
Low low (r ∷ held) = (low ≤ r.at) × Low low held

abbrev pub High : ℕ → List Reference → Type 0
High high [] = Unit {0}
High high (r ∷ held) = (r.at < high) × High high held

low_apart : (r : Reference) (low : ℕ) (held : List Reference) → r.at < low → Low low held → Apart r held
low_apart r low [] lt h = tt
low_apart r low (k ∷ held) lt h = ((λ e. absurd (let le : low ≤ k.at = h.0 in omega (arith, lt, le, e))), low_apart r low held lt h.1)

high_apart : (r : Reference) (high : ℕ) (held : List Reference) → high ≤ r.at → High high held → Apart r held
high_apart r high [] le h = tt
high_apart r high (k ∷ held) le h = ((λ e. absurd (let lt : k.at < high = h.0 in omega (arith, lt, le, e))), high_apart r high held le h.1)

apart_both : (r : Reference) (plan : Plan) (xs ys : List Held) → Apart r (map (reference_of plan) xs) → Apart r (map (reference_of plan) ys) → Apart r (map (reference_of plan) (xs ++ ys))
apart_both r plan [] ys a c = c
apart_both r plan (x ∷ xs) ys a c = (a.0, apart_both r plan xs ys a.1 c)

once_left : (r : Reference) (plan : Plan) (xs ys : List Held) → OnceIn r (map (reference_of plan) xs) → Apart r (map (reference_of plan) ys) → OnceIn r (map (reference_of plan) (xs ++ ys))
once_left r plan [] ys o a = absurd o
once_left r plan (x ∷ xs) ys (inl (e, c)) a = inl (e, apart_both r plan xs ys c a)
once_left r plan (x ∷ xs) ys (inr (ne, o)) a = inr (ne, once_left r plan xs ys o a)

once_right : (r : Reference) (plan : Plan) (xs ys : List Held) → Apart r (map (reference_of plan) xs) → OnceIn r (map (reference_of plan) ys) → OnceIn r (map (reference_of plan) (xs ++ ys))
once_right r plan [] ys a o = o
once_right r plan (x ∷ xs) ys a o = inr (a.0, once_right r plan xs ys a.1 o)

high_both : (high : ℕ) (plan : Plan) (xs ys : List Held) → High high (map (reference_of plan) xs) → High high (map (reference_of plan) ys) → High high (map (reference_of plan) (xs ++ ys))
high_both high plan [] ys a c = c
high_both high plan (x ∷ xs) ys a c = (a.0, high_both high plan xs ys a.1 c)

high_more : (high more : ℕ) (held : List Reference) → high ≤ more → High high held → High more held
high_more high more [] le h = tt
high_more high more (k ∷ held) le h = ((let lt : k.at < high = h.0 in omega (arith, lt, le)), high_more high more held le h.1)

module _ (p : LlProgram) (based : Based p.structs) (n : ℕ) (s : LlStruct) (e : slice_get p.structs n ≡ Some s) (c : is_counted (plan_of p) n ≡ true) where
  abbrev plan : Plan
  plan = plan_of p

  -- where the struct's own fields begin
  abbrev pub begin : ℕ
  begin = (shape_at (shapes_of p.structs) n).own

  pub own_at : (j : ℕ) → place_in plan n (field_number plan n j) ≡ begin + j
  own_at j = by s.base refl
    where
      two_less : (k : ℕ) → field_number plan n j ≡ shifted plan n k → place_in plan n (field_number plan n j) ≡ place (shape_at (shapes_of p.structs) n) k
      two_less k h = ap (λ i. place (shape_at (shapes_counted plan) n) i - 2) h ∙ ap (λ i. i - 2) (place_same p based n k s e c) ∙ (let z : suc (suc (place (shape_at (shapes_of p.structs) n) k)) - 2 ≡ place (shape_at (shapes_of p.structs) n) k = omega arith in z)

      by : (o : Option ℕ) → s.base ≡ o → place_in plan n (field_number plan n j) ≡ begin + j
      by None b =
          let x : place (shape_at (shapes_of p.structs) n) j ≡ 0 + (j - 0) = ap (λ x. place x j) (plain_shape p based n s None e b) in
          let y : begin ≡ 0 = ap (λ x. x.own) (plain_shape p based n s None e b) in
          two_less j (ap (λ o. number_behind plan n o j) (ap typed.base_of e ∙ b)) ∙ (let z : place (shape_at (shapes_of p.structs) n) j ≡ begin + j = omega (arith, x, y) in z)
      by (Some m) b =
          let x : place (shape_at (shapes_of p.structs) n) (suc j) ≡ (shape_at (shapes_of p.structs) m).size + (suc j - 1) = ap (λ x. place x (suc j)) (plain_shape p based n s (Some m) e b) in
          let y : begin ≡ (shape_at (shapes_of p.structs) m).size = ap (λ x. x.own) (plain_shape p based n s (Some m) e b) in
          let f : has_count plan n ≡ false = has_count_is p based n s false e c (ap is_none b) in
          two_less (suc j) (ap (λ o. number_behind plan n o j) (ap typed.base_of e ∙ b) ∙ sym (ap (λ b. behind_count b (suc j)) f)) ∙ (let z : place (shape_at (shapes_of p.structs) n) (suc j) ≡ begin + j = omega (arith, x, y) in z)

  own_low : (place : ℕ) (ts : List LlType) → Low (begin + place) (map (reference_of plan) (held_from plan n place ts))
  own_low place [] = tt
  own_low place (t ∷ ts) = by (referred plan t) (weaker (begin + place) (begin + suc place) (omega arith) (map (reference_of plan) (held_from plan n (suc place) ts)) (own_low (suc place) ts))
    where
      weaker : (a b : ℕ) → a ≤ b → (l : List Reference) → Low b l → Low a l
      weaker a b le [] h = tt
      weaker a b le (r ∷ l) h = ((let x : b ≤ r.at = h.0 in omega (arith, x, le)), weaker a b le l h.1)

      by : (o : Option ℕ) → Low (begin + place) (map (reference_of plan) (held_from plan n (suc place) ts)) → Low (begin + place) (map (reference_of plan) (held_if n (field_number plan n place) o (held_from plan n (suc place) ts)))
      by None h = h
      by (Some m) h = ((let x : place_in plan n (field_number plan n place) ≡ begin + place = own_at place in omega (arith, x)), h)

  own_high : (place : ℕ) (ts : List LlType) → High (begin + place + length ts) (map (reference_of plan) (held_from plan n place ts))
  own_high place [] = tt
  own_high place (t ∷ ts) = by (referred plan t) (subst (λ k. High k (map (reference_of plan) (held_from plan n (suc place) ts))) (let z : begin + suc place + length ts ≡ begin + place + suc (length ts) = omega arith in z) (own_high (suc place) ts))
    where
      by : (o : Option ℕ) → High (begin + place + suc (length ts)) (map (reference_of plan) (held_from plan n (suc place) ts)) → High (begin + place + suc (length ts)) (map (reference_of plan) (held_if n (field_number plan n place) o (held_from plan n (suc place) ts)))
      by None h = h
      by (Some m) h = ((let x : place_in plan n (field_number plan n place) ≡ begin + place = own_at place in omega (arith, x)), h)

  -- a field among those of the struct itself: once where it is a reference, and else not at all
  pub own_once : (place : ℕ) (ts : List LlType) (j m : ℕ) (t : LlType) → slice_get ts j ≡ Some t → reference_to plan.counted t ≡ Some m
      → OnceIn (reference_of plan (record { owner = n; number = field_number plan n (place + j); to = m })) (map (reference_of plan) (held_from plan n place ts))
  own_once place [] j m t f r = absurd (cc)
  own_once place (u ∷ ts) zero m t f r =
      let g : u ≡ t = cc in
      let z : place ≡ place + 0 = omega arith in
      let x : place_in plan n (field_number plan n (place + 0)) ≡ begin + (place + 0) = own_at (place + 0) in
      subst (λ o. OnceIn (reference_of plan (record { owner = n; number = field_number plan n (place + 0); to = m })) (map (reference_of plan) (held_if n (field_number plan n place) o (held_from plan n (suc place) ts)))) (sym (ap (reference_to plan.counted) g ∙ r))
      (inl (
        ap (λ k. reference_of plan (record { owner = n; number = field_number plan n k; to = m })) z,
        low_apart (reference_of plan (record { owner = n; number = field_number plan n (place + 0); to = m })) (begin + suc place) (map (reference_of plan) (held_from plan n (suc place) ts)) (omega (arith, x)) (own_low (suc place) ts),
      ))
  own_once place (u ∷ ts) (suc j) m t f r =
      by (referred plan u) (subst (λ k. OnceIn (reference_of plan (record { owner = n; number = field_number plan n k; to = m })) (map (reference_of plan) (held_from plan n (suc place) ts))) (let z : suc place + j ≡ place + suc j = omega arith in z) (own_once (suc place) ts j m t f r))
    where
      by : (o : Option ℕ) → OnceIn (reference_of plan (record { owner = n; number = field_number plan n (place + suc j); to = m })) (map (reference_of plan) (held_from plan n (suc place) ts))
          → OnceIn (reference_of plan (record { owner = n; number = field_number plan n (place + suc j); to = m })) (map (reference_of plan) (held_if n (field_number plan n place) o (held_from plan n (suc place) ts)))
      by None h = h
      by (Some i) h =
          let x : place_in plan n (field_number plan n (place + suc j)) ≡ begin + (place + suc j) = own_at (place + suc j) in
          let y : place_in plan n (field_number plan n place) ≡ begin + place = own_at place in
          inr ((λ q. absurd (omega (arith, x, y, q))), h)

  own_apart : (r : Reference) (place : ℕ) (ts : List LlType) (j : ℕ) (t : LlType) → r.at ≡ begin + (place + j) → slice_get ts j ≡ Some t → reference_to plan.counted t ≡ None → Apart r (map (reference_of plan) (held_from plan n place ts))
  own_apart r place [] j t x f h = absurd (cc)
  own_apart r place (u ∷ ts) zero t x f h =
      let g : u ≡ t = cc in
      subst (λ o. Apart r (map (reference_of plan) (held_if n (field_number plan n place) o (held_from plan n (suc place) ts)))) (sym (ap (reference_to plan.counted) g ∙ h))
      (low_apart r (begin + suc place) (map (reference_of plan) (held_from plan n (suc place) ts)) (omega (arith, x)) (own_low (suc place) ts))
  own_apart r place (u ∷ ts) (suc j) t x f h = by (referred plan u) (own_apart r (suc place) ts j t (omega (arith, x)) f h)
    where
      by : (o : Option ℕ) → Apart r (map (reference_of plan) (held_from plan n (suc place) ts)) → Apart r (map (reference_of plan) (held_if n (field_number plan n place) o (held_from plan n (suc place) ts)))
      by None a = a
      by (Some i) a = ((λ q. absurd (let y : place_in plan n (field_number plan n place) ≡ begin + place = own_at place in omega (arith, x, y, q))), a)

  size_is : (shape_at (shapes_of p.structs) n).size ≡ begin + length s.fields
  size_is = by s.base refl
    where
      by : (o : Option ℕ) → s.base ≡ o → (shape_at (shapes_of p.structs) n).size ≡ begin + length s.fields
      by None b = let x : (shape_at (shapes_of p.structs) n).size ≡ length s.fields = ap (λ x. x.size) (plain_shape p based n s None e b) in let y : begin ≡ 0 = ap (λ x. x.own) (plain_shape p based n s None e b) in omega (arith, x, y)
      by (Some m) b =
          let x : (shape_at (shapes_of p.structs) n).size ≡ (shape_at (shapes_of p.structs) m).size + length s.fields = ap (λ x. x.size) (plain_shape p based n s (Some m) e b) in
          let y : begin ≡ (shape_at (shapes_of p.structs) m).size = ap (λ x. x.own) (plain_shape p based n s (Some m) e b) in omega (arith, x, y)

  pub begin_is : (m : ℕ) → s.base ≡ Some m → begin ≡ (shape_at (shapes_of p.structs) m).size
  begin_is m b = ap (λ x. x.own) (plain_shape p based n s (Some m) e b)

module _ (p : LlProgram) (based : Based p.structs) where
  abbrev plan_ : Plan
  plan_ = plan_of p

  abbrev size_at : ℕ → ℕ
  size_at n = (shape_at (shapes_of p.structs) n).size

  at_struct : (n : ℕ) → is_counted plan_ n ≡ true → StructAt p.structs n
  at_struct n c = marked_there p.structs p.graphs 0 p.structs n c

  fields_are : (n : ℕ) (s : LlStruct) → slice_get p.structs n ≡ Some s → fields_of plan_ n ≡ s.fields
  fields_are n s e = ap fields_given e

  base_counted : (n m : ℕ) (s : LlStruct) → slice_get p.structs n ≡ Some s → s.base ≡ Some m → is_counted plan_ n ≡ true → is_counted plan_ m ≡ true
  base_counted n m s e b c = let t : StructAt p.structs m = earlier p.structs n m s e (based.before n m s e b) in sym (counted_base p based n m (record { s = s; is = e; base = b }) t.s t.is) ∙ c

  pub held_high : (times : List LlStruct) (n : ℕ) → is_counted plan_ n ≡ true → High (size_at n) (map (reference_of plan_) (held_within plan_ times n))
  held_high [] n c = tt
  held_high (t ∷ times) n c = high_both (size_at n) plan_ (own_held plan_ n) (of_base (held_within plan_ times) (base_at plan_ n)) own (by (λ m c. held_high times m c) w.s.base refl)
    where
      w : StructAt p.structs n
      w = at_struct n c

      own : High (size_at n) (map (reference_of plan_) (own_held plan_ n))
      own =
          subst (λ l. High (size_at n) (map (reference_of plan_) (held_from plan_ n 0 l))) (sym (fields_are n w.s w.is))
          (subst (λ k. High k (map (reference_of plan_) (held_from plan_ n 0 w.s.fields))) (let z : begin p based n w.s w.is c + 0 + length w.s.fields ≡ size_at n = omega (arith, size_is p based n w.s w.is c) in z) (own_high p based n w.s w.is c 0 w.s.fields))

      by : ((m : ℕ) → is_counted plan_ m ≡ true → High (size_at m) (map (reference_of plan_) (held_within plan_ times m))) → (o : Option ℕ) → w.s.base ≡ o → High (size_at n) (map (reference_of plan_) (of_base (held_within plan_ times) (base_at plan_ n)))
      by go None b = subst (λ o. High (size_at n) (map (reference_of plan_) (of_base (held_within plan_ times) o))) (sym (ap typed.base_of w.is ∙ b)) tt
      by go (Some m) b =
          subst (λ o. High (size_at n) (map (reference_of plan_) (of_base (held_within plan_ times) o))) (sym (ap typed.base_of w.is ∙ b))
          (high_more (size_at m) (size_at n) (map (reference_of plan_) (held_within plan_ times m)) (let z : begin p based n w.s w.is c ≡ size_at m = begin_is p based n w.s w.is c m b in omega (arith, size_is p based n w.s w.is c, z)) (go m (base_counted n m w.s w.is b c)))

  size_fuel_le : (f k n : ℕ) → k < f → is_counted plan_ k ≡ true → begins_with (shapes_counted plan_) k n ≡ true → size_at n ≤ size_at k
  size_fuel_le zero k n lt c h = absurd (omega (arith, lt))
  size_fuel_le (suc f) k n lt c h = by (λ m l d x. size_fuel_le f m n l d x) (begins_by (structs_of plan_) (counted_based p based) k n h)
    where
      by : ((m : ℕ) → m < f → is_counted plan_ m ≡ true → begins_with (shapes_counted plan_) m n ≡ true → size_at n ≤ size_at m) → Begins (structs_of plan_) (counted_based p based) k n → size_at n ≤ size_at k
      by go (Itself s e q) = subst (λ k. size_at n ≤ size_at k) q (omega arith)
      by go (ByBase m b l x) =
          let back : HasBase p.structs based k m = base_back p based k m b in
          let le : size_at n ≤ size_at m = go m (omega (arith, l, lt)) (base_counted k m back.s back.is back.base c) x in
          let z : begin p based k back.s back.is c ≡ size_at m = begin_is p based k back.s back.is c m back.base in
          omega (arith, le, z, size_is p based k back.s back.is c)

  -- a field of this struct, at place j of its own
  module _ (n : ℕ) (s : LlStruct) (e : slice_get p.structs n ≡ Some s) (c : is_counted plan_ n ≡ true) (r : Reference) (j : ℕ) (t : LlType) (is_at : r.at ≡ begin p based n s e c + j) (is_field : slice_get s.fields j ≡ Some t) where
    pub inside_n : r.at < size_at n
    inside_n = let lt : j < length s.fields = within s.fields j t is_field in omega (arith, lt, is_at, size_is p based n s e c)
      where
        within : (ts : List LlType) (j : ℕ) (t : LlType) → slice_get ts j ≡ Some t → j < length ts
        within [] j t f = absurd (cc)
        within (x ∷ ts) zero t f = omega arith
        within (x ∷ ts) (suc j) t f = omega (arith, within ts j t f)

    -- apart from those of bases
    base_apart : (times : List LlStruct) → Apart r (map (reference_of plan_) (of_base (held_within plan_ times) (base_at plan_ n)))
    base_apart times = by s.base refl
      where
        by : (o : Option ℕ) → s.base ≡ o → Apart r (map (reference_of plan_) (of_base (held_within plan_ times) (base_at plan_ n)))
        by None b = subst (λ o. Apart r (map (reference_of plan_) (of_base (held_within plan_ times) o))) (sym (ap typed.base_of e ∙ b)) tt
        by (Some m) b =
            subst (λ o. Apart r (map (reference_of plan_) (of_base (held_within plan_ times) o))) (sym (ap typed.base_of e ∙ b))
            (high_apart r (size_at m) (map (reference_of plan_) (held_within plan_ times m)) (let z : begin p based n s e c ≡ size_at m = begin_is p based n s e c m b in omega (arith, z, is_at)) (held_high times m (base_counted n m s e b c)))

    -- and from those of structs above
    above_apart : (k m : ℕ) → HasBase p.structs based k m → is_counted plan_ k ≡ true → begins_with (shapes_counted plan_) m n ≡ true → is_counted plan_ m ≡ true → Apart r (map (reference_of plan_) (own_held plan_ k))
    above_apart k m back ck x cm =
        let le : size_at n ≤ size_at m = size_fuel_le (suc m) m n (omega arith) cm x in
        let z : begin p based k back.s back.is ck ≡ size_at m = begin_is p based k back.s back.is ck m back.base in
        low_apart r (begin p based k back.s back.is ck + 0) (map (reference_of plan_) (own_held plan_ k)) (omega (arith, le, z, inside_n))
        (subst (λ l. Low (begin p based k back.s back.is ck + 0) (map (reference_of plan_) (held_from plan_ k 0 l))) (sym (fields_are k back.s back.is)) (own_low p based k back.s back.is ck 0 back.s.fields))

    pub held_once : (times : List LlStruct) (k : ℕ) → k < length times → is_counted plan_ k ≡ true → begins_with (shapes_counted plan_) k n ≡ true → OnceIn r (map (reference_of plan_) (own_held plan_ n)) → OnceIn r (map (reference_of plan_) (held_within plan_ times k))
    held_once [] k lt ck h o = absurd (omega (arith, lt))
    held_once (u ∷ times) k lt ck h o = by (λ m l d x. held_once times m l d x o) (begins_by (structs_of plan_) (counted_based p based) k n h)
      where
        by : ((m : ℕ) → m < length times → is_counted plan_ m ≡ true → begins_with (shapes_counted plan_) m n ≡ true → OnceIn r (map (reference_of plan_) (held_within plan_ times m))) → Begins (structs_of plan_) (counted_based p based) k n
            → OnceIn r (map (reference_of plan_) (own_held plan_ k ++ of_base (held_within plan_ times) (base_at plan_ k)))
        by go (Itself x y q) = subst (λ k. OnceIn r (map (reference_of plan_) (own_held plan_ k ++ of_base (held_within plan_ times) (base_at plan_ k)))) q (once_left r plan_ (own_held plan_ n) (of_base (held_within plan_ times) (base_at plan_ n)) o (base_apart times))
        by go (ByBase m b l x) =
            let back : HasBase p.structs based k m = base_back p based k m b in
            let cm : is_counted plan_ m ≡ true = base_counted k m back.s back.is back.base ck in
            once_right r plan_ (own_held plan_ k) (of_base (held_within plan_ times) (base_at plan_ k)) (above_apart k m back ck x cm)
            (subst (λ o. OnceIn r (map (reference_of plan_) (of_base (held_within plan_ times) o))) (sym (ap typed.base_of back.is ∙ back.base)) (go m (omega (arith, l, lt)) cm x))

    pub held_apart : (times : List LlStruct) (k : ℕ) → k < length times → is_counted plan_ k ≡ true → begins_with (shapes_counted plan_) k n ≡ true → Apart r (map (reference_of plan_) (own_held plan_ n)) → Apart r (map (reference_of plan_) (held_within plan_ times k))
    held_apart [] k lt ck h o = absurd (omega (arith, lt))
    held_apart (u ∷ times) k lt ck h o = by (λ m l d x. held_apart times m l d x o) (begins_by (structs_of plan_) (counted_based p based) k n h)
      where
        by : ((m : ℕ) → m < length times → is_counted plan_ m ≡ true → begins_with (shapes_counted plan_) m n ≡ true → Apart r (map (reference_of plan_) (held_within plan_ times m))) → Begins (structs_of plan_) (counted_based p based) k n
            → Apart r (map (reference_of plan_) (own_held plan_ k ++ of_base (held_within plan_ times) (base_at plan_ k)))
        by go (Itself x y q) = subst (λ k. Apart r (map (reference_of plan_) (own_held plan_ k ++ of_base (held_within plan_ times) (base_at plan_ k)))) q (apart_both r plan_ (own_held plan_ n) (of_base (held_within plan_ times) (base_at plan_ n)) o (base_apart times))
        by go (ByBase m b l x) =
            let back : HasBase p.structs based k m = base_back p based k m b in
            let cm : is_counted plan_ m ≡ true = base_counted k m back.s back.is back.base ck in
            apart_both r plan_ (own_held plan_ k) (of_base (held_within plan_ times) (base_at plan_ k)) (above_apart k m back ck x cm)
            (subst (λ o. Apart r (map (reference_of plan_) (of_base (held_within plan_ times) o))) (sym (ap typed.base_of back.is ∙ back.base)) (go m (omega (arith, l, lt)) cm x))

    pub inside_times : (k : ℕ) → is_counted plan_ k ≡ true → k < length p.structs
    inside_times k ck = let w : StructAt p.structs k = at_struct k ck in within p.structs k w.s w.is
      where
        within : (l : List LlStruct) (j : ℕ) (t : LlStruct) → slice_get l j ≡ Some t → j < length l
        within [] j t f = absurd (cc)
        within (x ∷ l) zero t f = omega arith
        within (x ∷ l) (suc j) t f = omega (arith, within l j t f)

    -- a field that is no reference stands apart from those that are
    pub field_apart : (k : ℕ) → is_counted plan_ k ≡ true → begins_with (shapes_counted plan_) k n ≡ true → reference_to plan_.counted t ≡ None → Apart r (map (reference_of plan_) (held_of plan_ k))
    field_apart k ck h none =
        held_apart p.structs k (inside_times k ck) ck h
        (subst (λ l. Apart r (map (reference_of plan_) (held_from plan_ n 0 l))) (sym (fields_are n s e)) (own_apart p based n s e c r 0 s.fields j t (let z : r.at ≡ begin p based n s e c + (0 + j) = omega (arith, is_at) in z) is_field none))
