-- Fields that are references are among those that are held.
use Rattle.std.proofs.Common.{◌≡◌, ◌⊎◌, inl, inr, ◌<◌, ◌≤◌, ℕ, zero, suc, ◌+◌, ◌-◌, true, false, ◌&&◌, List, [], ◌∷◌, ◌++◌, length, map, Option, Some, None, refl, sym, ap, ◌∙◌, subst, arith}
use Rattle.std.specs.Prelude.{slice_get, is_none}
use Rattle.csub_tree.specs.State.{Value, Ptr}
use Rattle.csub_tree.specs.Layout.{shape_at, shape_over, begins_with, place}
use Rattle.csub_tree.specs.Statement.{read}
use Rattle.ll_code.specs.declared.program.LlType.{LlType}
use Rattle.ll_code.specs.declared.program.LlStruct.{LlStruct}
use Rattle.ll_code.specs.declared.program.LlProgram.{LlProgram}
use Rattle.ll_code.specs.Machine.{shapes_of}
use Rattle.ll_code.specs.Typed as typed
use Rattle.ll_code.specs.Typed.{field_of, own_field}
use Rattle.refcount_transform.specs.declared.plan.Held.{Held}
use Rattle.refcount_transform.specs.Plan.{Plan, plan_of, is_counted, base_at, has_count, shifted, behind_count, reference_to, referred, fields_of, fields_given, number_behind, field_number, held_if, held_from, own_held, of_base, held_within, held_of}
use Rattle.refcount_transform.specs.Counted.{structs_of}
use Rattle.refcount_laws.specs.Graphs.{Reference, Counts}
use Rattle.refcount_laws.specs.Made.{shapes_counted, place_in, reference_of}
use Rattle.refcount_laws.specs.Ghost.{hit, occurs, Slot, S, count_of, count, bare, bare_at, field_references, references, held_by, inner}
use Rattle.refcount_laws.proofs.Ghosts.{one_self}
use Rattle.refcount_laws.proofs.Numbers.{Based}
use Rattle.refcount_laws.proofs.Shapes.{Begins, Itself, ByBase, begins_by, HasBase}
use Rattle.refcount_laws.proofs.Standing.{StructAt, marked_there}
use Rattle.refcount_laws.proofs.Places.{counted_based, counted_base, has_count_is, base_back, earlier}
use Rattle.refcount_laws.proofs.Alike.{place_same, plain_shape, wide_shape}

abbrev pub HasPlace : ℕ → List Reference → Type 0
HasPlace at [] = ⊥
HasPlace at (r ∷ held) = (r.at ≡ at) ⊎ HasPlace at held

-- what stands there is among the references of the block
pub has_hits : (at : ℕ) (held : List Reference) (fields : List Value) (m : ℕ) → HasPlace at held → read fields at ≡ Ptr m → 0 < occurs (Ptr m) (field_references held fields)
has_hits at [] fields m h e = absurd h
has_hits at (r ∷ held) fields m (inl f) e = omega (arith, ap (hit (Ptr m)) (ap (read fields) f ∙ e), one_self m)
has_hits at (r ∷ held) fields m (inr h) e = omega (arith, has_hits at held fields m h e)

slot_has : (c : Counts) (d : Slot) (r : Value) → 0 < count_of d → occurs r (references c (bare d)) ≤ held_by c d r
slot_has c (S zero kind fields items) r lt = absurd (omega (arith, lt))
slot_has c (S (suc n) kind fields items) r lt = omega arith

-- and leads from a block that is there
pub inner_has : (c : Counts) (g : List Slot) (a : ℕ) (r : Value) → 0 < count g a → occurs r (references c (bare_at g a)) ≤ inner c g r
inner_has c [] a r lt = absurd (omega (arith, lt))
inner_has c (d ∷ g) zero r lt = omega (arith, slot_has c d r lt)
inner_has c (d ∷ g) (suc a) r lt = omega (arith, inner_has c g a r lt)

has_left : (at : ℕ) (plan : Plan) (xs ys : List Held) → HasPlace at (map (reference_of plan) xs) → HasPlace at (map (reference_of plan) (xs ++ ys))
has_left at plan [] ys h = absurd h
has_left at plan (x ∷ xs) ys (inl e) = inl e
has_left at plan (x ∷ xs) ys (inr h) = inr (has_left at plan xs ys h)

has_right : (at : ℕ) (plan : Plan) (xs ys : List Held) → HasPlace at (map (reference_of plan) ys) → HasPlace at (map (reference_of plan) (xs ++ ys))
has_right at plan [] ys h = h
has_right at plan (x ∷ xs) ys h = inr (has_right at plan xs ys h)

has_from : (plan : Plan) (n place : ℕ) (ts : List LlType) (j m : ℕ) (t : LlType) → slice_get ts j ≡ Some t → reference_to plan.counted t ≡ Some m → HasPlace (place_in plan n (field_number plan n (place + j))) (map (reference_of plan) (held_from plan n place ts))
has_from plan n place [] j m t e f = absurd (cc)
has_from plan n place (u ∷ ts) zero m t e f =
    let g : u ≡ t = cc in
    subst (λ o. HasPlace (place_in plan n (field_number plan n (place + 0))) (map (reference_of plan) (held_if n (field_number plan n place) o (held_from plan n (suc place) ts)))) (sym (ap (reference_to plan.counted) g ∙ f))
    (inl (ap (λ k. place_in plan n (field_number plan n k)) (let z : place ≡ place + 0 = omega arith in z)))
has_from plan n place (u ∷ ts) (suc j) m t e f =
    skip (referred plan u) (subst (λ k. HasPlace (place_in plan n (field_number plan n k)) (map (reference_of plan) (held_from plan n (suc place) ts))) (let z : suc place + j ≡ place + suc j = omega arith in z) (has_from plan n (suc place) ts j m t e f))
  where
    skip : (o : Option ℕ) → HasPlace (place_in plan n (field_number plan n (place + suc j))) (map (reference_of plan) (held_from plan n (suc place) ts))
        → HasPlace (place_in plan n (field_number plan n (place + suc j))) (map (reference_of plan) (held_if n (field_number plan n place) o (held_from plan n (suc place) ts)))
    skip None h = h
    skip (Some i) h = inr h

module _ (p : LlProgram) (based : Based p.structs) where
  abbrev plan : Plan
  plan = plan_of p

  -- a struct is counted where what it begins with is
  counted_fuel : (f k n : ℕ) → k < f → begins_with (shapes_counted plan) k n ≡ true → is_counted plan k ≡ true → is_counted plan n ≡ true
  counted_fuel zero k n lt h c = absurd (omega (arith, lt))
  counted_fuel (suc f) k n lt h c = by (λ m l x d. counted_fuel f m n l x d) (begins_by (structs_of plan) (counted_based p based) k n h)
    where
      by : ((m : ℕ) → m < f → begins_with (shapes_counted plan) m n ≡ true → is_counted plan m ≡ true → is_counted plan n ≡ true) → Begins (structs_of plan) (counted_based p based) k n → is_counted plan n ≡ true
      by go (Itself s e q) = subst (λ k. is_counted plan k ≡ true) (sym q) c
      by go (ByBase m b l x) =
          let back : HasBase p.structs based k m = base_back p based k m b in
          let there : StructAt p.structs m = earlier p.structs k m back.s back.is l in
          go m (omega (arith, l, lt)) x (sym (counted_base p based k m back there.s there.is) ∙ c)

  pub counted_begins : (k n : ℕ) → begins_with (shapes_counted plan) k n ≡ true → is_counted plan k ≡ true → is_counted plan n ≡ true
  counted_begins k n h c = counted_fuel (suc k) k n (omega arith) h c

  pub own_has : (n k m : ℕ) (s : LlStruct) (t : LlType) → slice_get p.structs n ≡ Some s → is_counted plan n ≡ true → field_of (Some s) k ≡ Some t → reference_to plan.counted t ≡ Some m → HasPlace (place (shape_at (shapes_of p.structs) n) k) (map (reference_of plan) (own_held plan n))
  own_has n k m s t e c f r = by s.base refl k f
    where
      at_is : (k j : ℕ) → field_number plan n j ≡ shifted plan n k → place_in plan n (field_number plan n j) ≡ place (shape_at (shapes_of p.structs) n) k
      at_is k j h = ap (λ i. place (shape_at (shapes_counted plan) n) i - 2) h ∙ ap (λ i. i - 2) (place_same p based n k s e c) ∙ (let z : suc (suc (place (shape_at (shapes_of p.structs) n) k)) - 2 ≡ place (shape_at (shapes_of p.structs) n) k = omega arith in z)

      found : (j : ℕ) → slice_get s.fields j ≡ Some t → HasPlace (place_in plan n (field_number plan n j)) (map (reference_of plan) (own_held plan n))
      found j g = subst (λ i. HasPlace (place_in plan n (field_number plan n i)) (map (reference_of plan) (own_held plan n))) (let z : 0 + j ≡ j = omega arith in z) (has_from plan n 0 (fields_of plan n) j m t (ap (λ o. slice_get (fields_given o) j) e ∙ g) r)

      by : (o : Option ℕ) → s.base ≡ o → (k : ℕ) → own_field s s.base k ≡ Some t → HasPlace (place (shape_at (shapes_of p.structs) n) k) (map (reference_of plan) (own_held plan n))
      by None b k f =
          subst (λ at. HasPlace at (map (reference_of plan) (own_held plan n))) (at_is k k (ap (λ o. number_behind plan n o k) (ap typed.base_of e ∙ b))) (found k (sym (ap (λ o. own_field s o k) b) ∙ f))
      by (Some j) b zero f = absurd (let x : None ≡ Some t = sym (ap (λ o. own_field s o 0) b) ∙ f in cc)
      by (Some j) b (suc k) f =
          let y : has_count plan n ≡ false = has_count_is p based n s false e c (ap is_none b) in
          subst (λ at. HasPlace at (map (reference_of plan) (own_held plan n))) (at_is (suc k) k (ap (λ o. number_behind plan n o k) (ap typed.base_of e ∙ b) ∙ sym (ap (λ b. behind_count b (suc k)) y))) (found k (sym (ap (λ o. own_field s o (suc k)) b) ∙ f))

  held_has : (times : List LlStruct) (k n at : ℕ) → k < length times → is_counted plan k ≡ true → begins_with (shapes_counted plan) k n ≡ true → HasPlace at (map (reference_of plan) (own_held plan n)) → HasPlace at (map (reference_of plan) (held_within plan times k))
  held_has [] k n at lt c h own = absurd (omega (arith, lt))
  held_has (t ∷ times) k n at lt c h own = by (λ m l d x. held_has times m n at l d x own) (begins_by (structs_of plan) (counted_based p based) k n h)
    where
      by : ((m : ℕ) → m < length times → is_counted plan m ≡ true → begins_with (shapes_counted plan) m n ≡ true → HasPlace at (map (reference_of plan) (held_within plan times m))) → Begins (structs_of plan) (counted_based p based) k n
          → HasPlace at (map (reference_of plan) (own_held plan k ++ of_base (held_within plan times) (base_at plan k)))
      by go (Itself s e q) = has_left at plan (own_held plan k) (of_base (held_within plan times) (base_at plan k)) (subst (λ n. HasPlace at (map (reference_of plan) (own_held plan n))) q own)
      by go (ByBase m b l x) =
          let back : HasBase p.structs based k m = base_back p based k m b in
          let there : StructAt p.structs m = earlier p.structs k m back.s back.is l in
          let cm : is_counted plan m ≡ true = sym (counted_base p based k m back there.s there.is) ∙ c in
          has_right at plan (own_held plan k) (of_base (held_within plan times) (base_at plan k))
          (subst (λ o. HasPlace at (map (reference_of plan) (of_base (held_within plan times) o))) (sym (ap typed.base_of back.is ∙ back.base)) (go m (omega (arith, l, lt)) cm x))

  -- a field that is a reference is held by each block whose struct begins with the field's
  pub field_held : (kind n k m : ℕ) (t : LlType) → is_counted plan kind ≡ true → begins_with (shapes_counted plan) kind n ≡ true → field_of (slice_get p.structs n) k ≡ Some t → reference_to plan.counted t ≡ Some m
      → HasPlace (place (shape_at (shapes_of p.structs) n) k) (map (reference_of plan) (held_of plan kind))
  field_held kind n k m t c h f r =
      let cn : is_counted plan n ≡ true = counted_begins kind n h c in
      let w : StructAt p.structs n = marked_there p.structs p.graphs 0 p.structs n cn in
      let v : StructAt p.structs kind = marked_there p.structs p.graphs 0 p.structs kind c in
      held_has p.structs kind n (place (shape_at (shapes_of p.structs) n) k) (inside p.structs kind v.s v.is) c h (own_has n k m w.s t w.is cn (sym (ap (λ o. field_of o k) w.is) ∙ f) r)
    where
      inside : (l : List LlStruct) (n : ℕ) (s : LlStruct) → slice_get l n ≡ Some s → n < length l
      inside [] n s e = absurd (cc)
      inside (x ∷ l) zero s e = omega arith
      inside (x ∷ l) (suc n) s e = omega (arith, inside l n s e)

  same_fuel : (f k n : ℕ) → k < f → begins_with (shapes_counted plan) k n ≡ true → is_counted plan k ≡ is_counted plan n
  same_fuel zero k n lt h = absurd (omega (arith, lt))
  same_fuel (suc f) k n lt h = by (λ m l x. same_fuel f m n l x) (begins_by (structs_of plan) (counted_based p based) k n h)
    where
      by : ((m : ℕ) → m < f → begins_with (shapes_counted plan) m n ≡ true → is_counted plan m ≡ is_counted plan n) → Begins (structs_of plan) (counted_based p based) k n → is_counted plan k ≡ is_counted plan n
      by go (Itself s e q) = ap (is_counted plan) (sym q)
      by go (ByBase m b l x) =
          let back : HasBase p.structs based k m = base_back p based k m b in
          let there : StructAt p.structs m = earlier p.structs k m back.s back.is l in
          counted_base p based k m back there.s there.is ∙ go m (omega (arith, l, lt)) x

  pub counted_alike : (k n : ℕ) → begins_with (shapes_counted plan) k n ≡ true → is_counted plan k ≡ is_counted plan n
  counted_alike k n h = same_fuel (suc k) k n (omega arith) h

  -- a struct that is not counted is as it was
  shape_fuel : (f n : ℕ) (s : LlStruct) → n < f → slice_get p.structs n ≡ Some s → is_counted plan n ≡ false → shape_at (shapes_counted plan) n ≡ shape_at (shapes_of p.structs) n
  shape_fuel zero n s lt e c = absurd (omega (arith, lt))
  shape_fuel (suc f) n s lt e c = by (λ m t l i d. shape_fuel f m t l i d) s.base refl
    where
      not_counted : has_count plan n ≡ false
      not_counted = ap (λ b. b && is_none (base_at plan n)) c

      by : ((m : ℕ) (t : LlStruct) → m < f → slice_get p.structs m ≡ Some t → is_counted plan m ≡ false → shape_at (shapes_counted plan) m ≡ shape_at (shapes_of p.structs) m) → (o : Option ℕ) → s.base ≡ o → shape_at (shapes_counted plan) n ≡ shape_at (shapes_of p.structs) n
      by go None b = wide_shape p based n s None false e b not_counted ∙ sym (plain_shape p based n s None e b)
      by go (Some m) b =
          let less : m < n = based.before n m s e b in
          let t : StructAt p.structs m = earlier p.structs n m s e less in
          let cm : is_counted plan m ≡ false = sym (counted_base p based n m (record { s = s; is = e; base = b }) t.s t.is) ∙ c in
          wide_shape p based n s (Some m) false e b not_counted ∙ ap (λ x. shape_over n (length s.fields) (Some x)) (go m t.s (omega (arith, less, lt)) t.is cm) ∙ sym (plain_shape p based n s (Some m) e b)

  pub place_plain : (n k : ℕ) (s : LlStruct) → slice_get p.structs n ≡ Some s → is_counted plan n ≡ false → place (shape_at (shapes_counted plan) n) (shifted plan n k) ≡ place (shape_at (shapes_of p.structs) n) k
  place_plain n k s e c =
      ap (λ x. place x (shifted plan n k)) (shape_fuel (suc n) n s (omega arith) e c) ∙ ap (λ b. place (shape_at (shapes_of p.structs) n) (behind_count (b && is_none (base_at plan n)) k)) c
