-- The fields of a struct that are references: they stand at different places, and each field whose type is that of a reference is one.
use Rattle.std.proofs.Common.{◌≡◌, ◌⊎◌, inl, inr, ◌<◌, ◌≤◌, ℕ, zero, suc, ◌+◌, true, List, [], ◌∷◌, ◌++◌, length, map, Option, Some, None, refl, sym, ap, ◌∙◌, subst, arith}
use Rattle.std.specs.Prelude.{slice_get}
use Rattle.csub_tree.specs.Layout.{shape_at}
use Rattle.ll_code.specs.Machine.{shapes_of}
use Rattle.ll_code.specs.Typed as typed
use Rattle.ll_code.specs.Typed.{structs_ok}
use Rattle.ll_code.specs.declared.program.LlType.{LlType}
use Rattle.ll_code.specs.declared.program.LlStruct.{LlStruct}
use Rattle.ll_code.specs.declared.program.LlProgram.{LlProgram}
use Rattle.ll_laws.specs.Fields as typed_fields
use Rattle.ll_laws.specs.Fields.{fields_from, fields_at, base_fields}
use Rattle.ll_laws.proofs.Cells.{Laid, all_laid, shapes_all}
use Rattle.refcount_transform.specs.declared.plan.Held.{Held}
use Rattle.refcount_transform.specs.Plan.{Plan, plan_of, is_counted, base_at, referred, reference_to, fields_of, fields_given, field_number, held_if, held_from, own_held, of_base, held_within, held_of}
use Rattle.refcount_laws.specs.Graphs.{Reference}
use Rattle.refcount_laws.specs.Ghost.{Apart, OnceIn}
use Rattle.refcount_laws.specs.Made.{reference_of, place_in}
use Rattle.refcount_laws.proofs.Alike.{plain_shape}
use Rattle.refcount_laws.proofs.Numbers.{Based}
use Rattle.refcount_laws.proofs.Spread.{Low, High, own_at, own_once, begin, begin_is, held_high}
use Rattle.refcount_laws.proofs.Standing.{StructAt, marked_there}
use Rattle.refcount_laws.proofs.Places.{earlier, counted_base}
use Rattle.refcount_exact.proofs.Hits.{Distinct, HasPlace}

-- ---- at different places

low_apart : (r : Reference) (low : ℕ) (held : List Reference) → r.at < low → Low low held → Apart r held
low_apart r low [] lt h = tt
low_apart r low (k ∷ held) lt h = ((λ e. absurd (let le : low ≤ k.at = h.0 in omega (arith, lt, le, e))), low_apart r low held lt h.1)

high_apart : (r : Reference) (high : ℕ) (held : List Reference) → high ≤ r.at → High high held → Apart r held
high_apart r high [] le h = tt
high_apart r high (k ∷ held) le h = ((λ e. absurd (let lt : k.at < high = h.0 in omega (arith, lt, le, e))), high_apart r high held le h.1)

apart_two : (r : Reference) (plan : Plan) (xs ys : List Held) → Apart r (map (reference_of plan) xs) → Apart r (map (reference_of plan) ys) → Apart r (map (reference_of plan) (xs ++ ys))
apart_two r plan [] ys a b = b
apart_two r plan (x ∷ xs) ys a b = (a.0, apart_two r plan xs ys a.1 b)

distinct_two : (plan : Plan) (b : ℕ) (xs ys : List Held) → Distinct (map (reference_of plan) xs) → Distinct (map (reference_of plan) ys) → Low b (map (reference_of plan) xs) → High b (map (reference_of plan) ys) → Distinct (map (reference_of plan) (xs ++ ys))
distinct_two plan b [] ys x y l h = y
distinct_two plan b (u ∷ xs) ys x y l h = (apart_two (reference_of plan u) plan xs ys x.0 (high_apart (reference_of plan u) b (map (reference_of plan) ys) l.0 h), distinct_two plan b xs ys x.1 y l.1 h)

low_less : (a b : ℕ) → a ≤ b → (l : List Reference) → Low b l → Low a l
low_less a b le [] h = tt
low_less a b le (r ∷ l) h = ((let x : b ≤ r.at = h.0 in omega (arith, x, le)), low_less a b le l h.1)

-- ---- lists

once_place : (r : Reference) (held : List Reference) → OnceIn r held → HasPlace r.at held
once_place r [] o = absurd o
once_place r (k ∷ held) (inl (e, a)) = inl (ap (λ k. k.at) e)
once_place r (k ∷ held) (inr (ne, o)) = inr (once_place r held o)

has_left : (at : ℕ) (plan : Plan) (xs ys : List Held) → HasPlace at (map (reference_of plan) xs) → HasPlace at (map (reference_of plan) (xs ++ ys))
has_left at plan [] ys h = absurd h
has_left at plan (x ∷ xs) ys (inl e) = inl e
has_left at plan (x ∷ xs) ys (inr h) = inr (has_left at plan xs ys h)

has_right : (at : ℕ) (plan : Plan) (xs ys : List Held) → HasPlace at (map (reference_of plan) ys) → HasPlace at (map (reference_of plan) (xs ++ ys))
has_right at plan [] ys h = h
has_right at plan (x ∷ xs) ys h = inr (has_right at plan xs ys h)

-- in the second list
record Behind (xs ys : List LlType) (j : ℕ) (t : LlType) : Type 0 where
  later : ℕ
  place : j ≡ length xs + later
  is : slice_get ys later ≡ Some t

split_at : (xs ys : List LlType) (j : ℕ) (t : LlType) → slice_get (xs ++ ys) j ≡ Some t → (slice_get xs j ≡ Some t) ⊎ Behind xs ys j t
split_at [] ys j t e = inr (record { later = j; place = omega arith; is = e })
split_at (x ∷ xs) ys zero t e = inl e
split_at (x ∷ xs) ys (suc j) t e = by (split_at xs ys j t e)
  where
    by : (slice_get xs j ≡ Some t) ⊎ Behind xs ys j t → (slice_get xs j ≡ Some t) ⊎ Behind (x ∷ xs) ys (suc j) t
    by (inl f) = inl f
    by (inr w) = inr (record { later = w.later; place = omega (arith, w.place); is = w.is })

inside : (l : List LlStruct) (n : ℕ) (s : LlStruct) → slice_get l n ≡ Some s → n < length l
inside [] n s e = absurd (cc)
inside (x ∷ l) zero s e = omega arith
inside (x ∷ l) (suc n) s e = omega (arith, inside l n s e)

module _ (p : LlProgram) (based : Based p.structs) where
  module _ (n : ℕ) (s : LlStruct) (e : slice_get p.structs n ≡ Some s) (c : is_counted (plan_of p) n ≡ true) where
    own_low : (place : ℕ) (ts : List LlType) → Low (begin p based n s e c + place) (map (reference_of (plan_of p)) (held_from (plan_of p) n place ts))
    own_low place [] = tt
    own_low place (t ∷ ts) = by (referred (plan_of p) t) (low_less (begin p based n s e c + place) (begin p based n s e c + suc place) (omega arith) (map (reference_of (plan_of p)) (held_from (plan_of p) n (suc place) ts)) (own_low (suc place) ts))
      where
        by : (o : Option ℕ) → Low (begin p based n s e c + place) (map (reference_of (plan_of p)) (held_from (plan_of p) n (suc place) ts)) → Low (begin p based n s e c + place) (map (reference_of (plan_of p)) (held_if n (field_number (plan_of p) n place) o (held_from (plan_of p) n (suc place) ts)))
        by None h = h
        by (Some m) h = ((let x : place_in (plan_of p) n (field_number (plan_of p) n place) ≡ begin p based n s e c + place = own_at p based n s e c place in omega (arith, x)), h)

    own_distinct : (place : ℕ) (ts : List LlType) → Distinct (map (reference_of (plan_of p)) (held_from (plan_of p) n place ts))
    own_distinct place [] = tt
    own_distinct place (t ∷ ts) = by (referred (plan_of p) t) (own_distinct (suc place) ts)
      where
        by : (o : Option ℕ) → Distinct (map (reference_of (plan_of p)) (held_from (plan_of p) n (suc place) ts)) → Distinct (map (reference_of (plan_of p)) (held_if n (field_number (plan_of p) n place) o (held_from (plan_of p) n (suc place) ts)))
        by None d = d
        by (Some m) d = (
          low_apart (reference_of (plan_of p) (record { owner = n; number = field_number (plan_of p) n place; to = m })) (begin p based n s e c + suc place) (map (reference_of (plan_of p)) (held_from (plan_of p) n (suc place) ts))
              (let x : place_in (plan_of p) n (field_number (plan_of p) n place) ≡ begin p based n s e c + place = own_at p based n s e c place in omega (arith, x)) (own_low (suc place) ts),
          d,
        )

    -- a field of the struct itself
    own_place : (i m : ℕ) (t : LlType) → slice_get s.fields i ≡ Some t → reference_to (plan_of p).counted t ≡ Some m → HasPlace (begin p based n s e c + i) (map (reference_of (plan_of p)) (own_held (plan_of p) n))
    own_place i m t f r =
        let r_ : Reference = reference_of (plan_of p) (record { owner = n; number = field_number (plan_of p) n (0 + i); to = m }) in
        let x : r_.at ≡ begin p based n s e c + (0 + i) = own_at p based n s e c (0 + i) in
        let y : begin p based n s e c + (0 + i) ≡ begin p based n s e c + i = omega arith in
        subst (λ at. HasPlace at (map (reference_of (plan_of p)) (own_held (plan_of p) n))) (x ∙ y)
        (once_place r_ (map (reference_of (plan_of p)) (own_held (plan_of p) n)) (own_once p based n s e c 0 (fields_of (plan_of p) n) i m t (ap (λ o. slice_get (fields_given o) i) e ∙ f) r))

  base_counted : (n m : ℕ) (s : LlStruct) → slice_get p.structs n ≡ Some s → s.base ≡ Some m → is_counted (plan_of p) n ≡ true → is_counted (plan_of p) m ≡ true
  base_counted n m s e b c = let t : StructAt p.structs m = earlier p.structs n m s e (based.before n m s e b) in sym (counted_base p based n m (record { s = s; is = e; base = b }) t.s t.is) ∙ c

  held_distinct : (times : List LlStruct) (n : ℕ) → is_counted (plan_of p) n ≡ true → Distinct (map (reference_of (plan_of p)) (held_within (plan_of p) times n))
  held_distinct [] n c = tt
  held_distinct (t ∷ times) n c = by (λ m c. held_distinct times m c) (marked_there p.structs p.graphs 0 p.structs n c)
    where
      by : ((m : ℕ) → is_counted (plan_of p) m ≡ true → Distinct (map (reference_of (plan_of p)) (held_within (plan_of p) times m))) → StructAt p.structs n → Distinct (map (reference_of (plan_of p)) (own_held (plan_of p) n ++ of_base (held_within (plan_of p) times) (base_at (plan_of p) n)))
      by go w = with_base w.s.base refl
        where
          fields_are : fields_of (plan_of p) n ≡ w.s.fields
          fields_are = ap fields_given w.is

          own : Distinct (map (reference_of (plan_of p)) (own_held (plan_of p) n))
          own = subst (λ l. Distinct (map (reference_of (plan_of p)) (held_from (plan_of p) n 0 l))) (sym fields_are) (own_distinct n w.s w.is c 0 w.s.fields)

          low : Low (begin p based n w.s w.is c + 0) (map (reference_of (plan_of p)) (own_held (plan_of p) n))
          low = subst (λ l. Low (begin p based n w.s w.is c + 0) (map (reference_of (plan_of p)) (held_from (plan_of p) n 0 l))) (sym fields_are) (own_low n w.s w.is c 0 w.s.fields)

          with_base : (o : Option ℕ) → w.s.base ≡ o → Distinct (map (reference_of (plan_of p)) (own_held (plan_of p) n ++ of_base (held_within (plan_of p) times) (base_at (plan_of p) n)))
          with_base None b = subst (λ o. Distinct (map (reference_of (plan_of p)) (own_held (plan_of p) n ++ of_base (held_within (plan_of p) times) o))) (sym (ap typed.base_of w.is ∙ b)) (distinct_two (plan_of p) (begin p based n w.s w.is c + 0) (own_held (plan_of p) n) [] own tt low tt)
          with_base (Some m) b =
              let cm : is_counted (plan_of p) m ≡ true = base_counted n m w.s w.is b c in
              let z : (shape_at (shapes_of p.structs) m).size ≡ begin p based n w.s w.is c + 0 = (let y : begin p based n w.s w.is c ≡ (shape_at (shapes_of p.structs) m).size = begin_is p based n w.s w.is c m b in omega (arith, y)) in
              subst (λ o. Distinct (map (reference_of (plan_of p)) (own_held (plan_of p) n ++ of_base (held_within (plan_of p) times) o))) (sym (ap typed.base_of w.is ∙ b))
              (distinct_two (plan_of p) (begin p based n w.s w.is c + 0) (own_held (plan_of p) n) (held_within (plan_of p) times m) own (go m cm) low
              (subst (λ k. High k (map (reference_of (plan_of p)) (held_within (plan_of p) times m))) z (held_high p based times m cm)))

  pub all_distinct : (n : ℕ) → is_counted (plan_of p) n ≡ true → Distinct (map (reference_of (plan_of p)) (held_of (plan_of p) n))
  all_distinct n c = held_distinct p.structs n c

  -- ---- each field that is a reference

  module _ (ok : structs_ok p.structs 0 p.structs ≡ true) where
    laid : Laid p.structs (shapes_of p.structs) (fields_from [] p.structs)
    laid = all_laid p.structs ok

    within : (times : List LlStruct) (n j m : ℕ) (t : LlType) → n < length times → is_counted (plan_of p) n ≡ true → slice_get (typed_fields.fields_of p.structs n) j ≡ Some t → reference_to (plan_of p).counted t ≡ Some m
        → HasPlace j (map (reference_of (plan_of p)) (held_within (plan_of p) times n))
    within [] n j m t lt c f r = absurd (omega (arith, lt))
    within (time ∷ times) n j m t lt c f r = by (λ k l d f. within times k j m t l d f r) (marked_there p.structs p.graphs 0 p.structs n c)
      where
        by : ((k : ℕ) → k < length times → is_counted (plan_of p) k ≡ true → slice_get (typed_fields.fields_of p.structs k) j ≡ Some t → HasPlace j (map (reference_of (plan_of p)) (held_within (plan_of p) times k))) → StructAt p.structs n
            → HasPlace j (map (reference_of (plan_of p)) (own_held (plan_of p) n ++ of_base (held_within (plan_of p) times) (base_at (plan_of p) n)))
        by go w = with_base w.s.base refl
          where
            whole : typed_fields.fields_of p.structs n ≡ base_fields (fields_from [] p.structs) w.s.base ++ w.s.fields
            whole = laid.whole n w.s (let x : n < length p.structs = inside p.structs n w.s w.is in omega (arith, x, shapes_all p.structs)) w.is

            with_base : (o : Option ℕ) → w.s.base ≡ o → HasPlace j (map (reference_of (plan_of p)) (own_held (plan_of p) n ++ of_base (held_within (plan_of p) times) (base_at (plan_of p) n)))
            with_base None b =
                let f1 : slice_get w.s.fields j ≡ Some t = ap (λ o. slice_get (base_fields (fields_from [] p.structs) o ++ w.s.fields) j) (sym b) ∙ ap (λ l. slice_get l j) (sym whole) ∙ f in
                let zero_ : begin p based n w.s w.is c ≡ 0 = ap (λ x. x.own) (plain_shape p based n w.s None w.is b) in
                let at : begin p based n w.s w.is c + j ≡ j = omega (arith, zero_) in
                has_left j (plan_of p) (own_held (plan_of p) n) (of_base (held_within (plan_of p) times) (base_at (plan_of p) n))
                (subst (λ at. HasPlace at (map (reference_of (plan_of p)) (own_held (plan_of p) n))) at (own_place n w.s w.is c j m t f1 r))
            with_base (Some k) b = place (split_at (typed_fields.fields_of p.structs k) w.s.fields j t (ap (λ o. slice_get (base_fields (fields_from [] p.structs) o ++ w.s.fields) j) (sym b) ∙ ap (λ l. slice_get l j) (sym whole) ∙ f))
              where
                place : (slice_get (typed_fields.fields_of p.structs k) j ≡ Some t) ⊎ Behind (typed_fields.fields_of p.structs k) w.s.fields j t → HasPlace j (map (reference_of (plan_of p)) (own_held (plan_of p) n ++ of_base (held_within (plan_of p) times) (base_at (plan_of p) n)))
                place (inl g) =
                    has_right j (plan_of p) (own_held (plan_of p) n) (of_base (held_within (plan_of p) times) (base_at (plan_of p) n))
                    (subst (λ o. HasPlace j (map (reference_of (plan_of p)) (of_base (held_within (plan_of p) times) o))) (sym (ap typed.base_of w.is ∙ b))
                    (go k (let x : k < n = based.before n k w.s w.is b in omega (arith, x, lt)) (base_counted n k w.s w.is b c) g))
                place (inr v) =
                    let size : begin p based n w.s w.is c ≡ length (typed_fields.fields_of p.structs k) = begin_is p based n w.s w.is c k b ∙ laid.size k in
                    let at : begin p based n w.s w.is c + v.later ≡ j = omega (arith, size, v.place) in
                    has_left j (plan_of p) (own_held (plan_of p) n) (of_base (held_within (plan_of p) times) (base_at (plan_of p) n))
                    (subst (λ at. HasPlace at (map (reference_of (plan_of p)) (own_held (plan_of p) n))) at (own_place n w.s w.is c v.later m t v.is r))

    pub each_place : (n j m : ℕ) (t : LlType) → is_counted (plan_of p) n ≡ true → slice_get (typed_fields.fields_of p.structs n) j ≡ Some t → reference_to (plan_of p).counted t ≡ Some m → HasPlace j (map (reference_of (plan_of p)) (held_of (plan_of p) n))
    each_place n j m t c f r = let w : StructAt p.structs n = marked_there p.structs p.graphs 0 p.structs n c in within p.structs n j m t (inside p.structs n w.s w.is) c f r
