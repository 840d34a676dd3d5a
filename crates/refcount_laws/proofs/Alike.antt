-- Structs begin with the same structs once they are counted, and their fields stand behind the count and the release.
use Rattle.std.proofs.Common.{◌≡◌, ◌<◌, ℕ, zero, suc, ◌+◌, ◌-◌, Bool, true, false, List, [], ◌∷◌, length, Option, Some, None, refl, sym, ap, ◌∙◌, arith}
use Rattle.std.specs.Prelude.{slice_get, is_none}
use Rattle.csub_tree.specs.Layout.{Shape, shape_at, shape_over, base_of, is_among, begins_with, place}
use Rattle.ll_code.specs.declared.program.LlStruct.{LlStruct}
use Rattle.ll_code.specs.declared.program.LlProgram.{LlProgram}
use Rattle.ll_code.specs.Machine.{shapes_of}
use Rattle.refcount_transform.specs.Plan.{Plan, plan_of, is_counted, has_count, shifted, behind_count}
use Rattle.refcount_transform.specs.Counted.{struct_by, structs_from, structs_of}
use Rattle.refcount_laws.specs.Made.{shapes_counted}
use Rattle.refcount_laws.proofs.Numbers.{Based}
use Rattle.refcount_laws.proofs.Shapes.{shape_is, none_past}
use Rattle.refcount_laws.proofs.Standing.{StructAt}
use Rattle.refcount_laws.proofs.Places.{struct_there, counted_based, base_of_struct, counted_base, has_count_is, earlier}

none_from : (plan : Plan) (ss : List LlStruct) (n j : ℕ) → slice_get ss j ≡ None → slice_get (structs_from plan n ss) j ≡ None
none_from plan [] n j e = refl
none_from plan (s ∷ ss) n zero e = absurd (cc)
none_from plan (s ∷ ss) n (suc j) e = none_from plan ss (suc n) j e

module _ (p : LlProgram) (based : Based p.structs) where
  abbrev plan : Plan
  plan = plan_of p

  abbrev plain : List Shape
  plain = shapes_of p.structs

  abbrev wide : List Shape
  wide = shapes_counted plan

  pub plain_shape : (n : ℕ) (s : LlStruct) (o : Option ℕ) → slice_get p.structs n ≡ Some s → s.base ≡ o → shape_at plain n ≡ shape_over n (length s.fields) (base_of plain o)
  plain_shape n s o e b = shape_is p.structs based n s e ∙ ap (λ o. shape_over n (length s.fields) (base_of plain o)) b

  pub wide_shape : (n : ℕ) (s : LlStruct) (o : Option ℕ) (y : Bool) → slice_get p.structs n ≡ Some s → s.base ≡ o → has_count plan n ≡ y → shape_at wide n ≡ shape_over n (length (struct_by y s).fields) (base_of wide o)
  wide_shape n s o y e b h =
      shape_is (structs_of plan) (counted_based p based) n (struct_by (has_count plan n) s) (struct_there p based n s e)
      ∙ ap (λ o. shape_over n (length (struct_by (has_count plan n) s).fields) (base_of wide o)) (base_of_struct (has_count plan n) s ∙ b) ∙ ap (λ y. shape_over n (length (struct_by y s).fields) (base_of wide o)) h

  bases_fuel : (f n : ℕ) → n < f → (shape_at plain n).bases ≡ (shape_at wide n).bases
  bases_fuel zero n lt = absurd (omega (arith, lt))
  bases_fuel (suc f) n lt = by (λ m l. bases_fuel f m l) (slice_get p.structs n) refl
    where
      on : ((m : ℕ) → m < f → (shape_at plain m).bases ≡ (shape_at wide m).bases) → (s : LlStruct) → slice_get p.structs n ≡ Some s → (o : Option ℕ) → s.base ≡ o → (shape_at plain n).bases ≡ (shape_at wide n).bases
      on go s e None b = ap (λ x. x.bases) (plain_shape n s None e b) ∙ sym (ap (λ x. x.bases) (wide_shape n s None (has_count plan n) e b refl))
      on go s e (Some m) b =
          let less : m < n = based.before n m s e b in
          ap (λ x. x.bases) (plain_shape n s (Some m) e b) ∙ ap (λ l. n ∷ l) (go m (omega (arith, less, lt))) ∙ sym (ap (λ x. x.bases) (wide_shape n s (Some m) (has_count plan n) e b refl))

      by : ((m : ℕ) → m < f → (shape_at plain m).bases ≡ (shape_at wide m).bases) → (o : Option LlStruct) → slice_get p.structs n ≡ o → (shape_at plain n).bases ≡ (shape_at wide n).bases
      by go None e = none_past p.structs based n e ∙ sym (none_past (structs_of plan) (counted_based p based) n (none_from plan p.structs 0 n e))
      by go (Some s) e = on go s e s.base refl

  pub begins_same : (k n : ℕ) → begins_with plain k n ≡ begins_with wide k n
  begins_same k n = ap (is_among n) (bases_fuel (suc k) k (omega arith))

  -- a struct that is counted is two cells larger
  pub size_fuel : (f n : ℕ) (s : LlStruct) → n < f → slice_get p.structs n ≡ Some s → is_counted plan n ≡ true → (shape_at wide n).size ≡ suc (suc (shape_at plain n).size)
  size_fuel zero n s lt e c = absurd (omega (arith, lt))
  size_fuel (suc f) n s lt e c = on (λ m t l i d. size_fuel f m t l i d) s.base refl
    where
      on : ((m : ℕ) (t : LlStruct) → m < f → slice_get p.structs m ≡ Some t → is_counted plan m ≡ true → (shape_at wide m).size ≡ suc (suc (shape_at plain m).size)) → (o : Option ℕ) → s.base ≡ o → (shape_at wide n).size ≡ suc (suc (shape_at plain n).size)
      on go None b =
          let y : has_count plan n ≡ true = has_count_is p based n s true e c (ap is_none b) in
          let a : (shape_at wide n).size ≡ suc (suc (length s.fields)) = ap (λ x. x.size) (wide_shape n s None true e b y) in
          let d : (shape_at plain n).size ≡ length s.fields = ap (λ x. x.size) (plain_shape n s None e b) in
          omega (arith, a, d)
      on go (Some m) b =
          let less : m < n = based.before n m s e b in
          let t : StructAt p.structs m = earlier p.structs n m s e less in
          let cm : is_counted plan m ≡ true = sym (counted_base p based n m (record { s = s; is = e; base = b }) t.s t.is) ∙ c in
          let y : has_count plan n ≡ false = has_count_is p based n s false e c (ap is_none b) in
          let a : (shape_at wide n).size ≡ (shape_at wide m).size + length s.fields = ap (λ x. x.size) (wide_shape n s (Some m) false e b y) in
          let d : (shape_at plain n).size ≡ (shape_at plain m).size + length s.fields = ap (λ x. x.size) (plain_shape n s (Some m) e b) in
          omega (arith, a, d, go m t.s (omega (arith, less, lt)) t.is cm)

  pub place_same : (n k : ℕ) (s : LlStruct) → slice_get p.structs n ≡ Some s → is_counted plan n ≡ true → place (shape_at wide n) (shifted plan n k) ≡ suc (suc (place (shape_at plain n) k))
  place_same n k s e c = on s.base refl
    where
      on : (o : Option ℕ) → s.base ≡ o → place (shape_at wide n) (shifted plan n k) ≡ suc (suc (place (shape_at plain n) k))
      on None b =
          let y : has_count plan n ≡ true = has_count_is p based n s true e c (ap is_none b) in
          let a : place (shape_at wide n) (shifted plan n k) ≡ 0 + (suc (suc k) - 0) = ap (λ x. place x (shifted plan n k)) (wide_shape n s None true e b y) ∙ ap (λ y. 0 + (behind_count y k - 0)) y in
          let d : place (shape_at plain n) k ≡ 0 + (k - 0) = ap (λ x. place x k) (plain_shape n s None e b) in
          omega (arith, a, d)
      on (Some m) b =
          let less : m < n = based.before n m s e b in
          let t : StructAt p.structs m = earlier p.structs n m s e less in
          let cm : is_counted plan m ≡ true = sym (counted_base p based n m (record { s = s; is = e; base = b }) t.s t.is) ∙ c in
          let y : has_count plan n ≡ false = has_count_is p based n s false e c (ap is_none b) in
          let a : place (shape_at wide n) (shifted plan n k) ≡ (shape_at wide m).size + (k - 1) = ap (λ x. place x (shifted plan n k)) (wide_shape n s (Some m) false e b y) ∙ ap (λ y. (shape_at wide m).size + (behind_count y k - 1)) y in
          let d : place (shape_at plain n) k ≡ (shape_at plain m).size + (k - 1) = ap (λ x. place x k) (plain_shape n s (Some m) e b) in
          omega (arith, a, d, size_fuel (suc m) m t.s (omega arith) t.is cm)
