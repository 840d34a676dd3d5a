-- Fields keep their types, behind the count and the graph that releases.
use Rattle.std.proofs.Common.{◌≡◌, ℕ, zero, suc, ◌+◌, Bool, true, false, List, [], ◌∷◌, ◌++◌, Option, Some, None, refl, sym, ap, ◌∙◌, subst, arith}
use Rattle.std.specs.Prelude.{slice_get, option_map, is_none}
use Rattle.ll_code.specs.declared.program.LlType.{LlType}
use Rattle.ll_code.specs.declared.program.LlType.TheVariants as type
use Rattle.ll_code.specs.declared.program.LlStruct.{LlStruct}
use Rattle.ll_code.specs.declared.program.LlProgram.{LlProgram}
use Rattle.ll_code.specs.Typed.{base_of, field_of, own_field}
use Rattle.ll_laws.proofs.Values.{and_left, and_right, is_same}
use Rattle.refcount_transform.specs.declared.plan.Held.{Held}
use Rattle.refcount_transform.specs.Plan.{Plan, plan_of, is_marked, where_marked, reference_to, reference_given, referred, root_of, base_at, has_count, behind_count, shifted, number_behind, field_number, fields_given, fields_of, held_if, held_from, own_held, of_base, held_within, held_of}
use Rattle.refcount_transform.specs.Counted.{struct_by, struct_at, counted}
use Rattle.refcount_laws.specs.Graphs.{IsRoot}
use Rattle.refcount_laws.specs.Made.{counts_of, is_root_given, all_lead, structs_lead, leads_to_roots}
use Rattle.refcount_laws.proofs.Places.{base_of_struct, reference_marked}
use Rattle.refcount_typed.proofs.Structs.{get_struct}

pub reference_is : (marks : List Bool) (t : LlType) (m : ℕ) → reference_to marks t ≡ Some m → t ≡ type.Ptr m
reference_is marks type.Signed m e = absurd (cc)
reference_is marks type.Char m e = absurd (cc)
reference_is marks type.Bool m e = absurd (cc)
reference_is marks type.Void m e = absurd (cc)
reference_is marks type.Fn m e = absurd (cc)
reference_is marks (type.Ptr n) m e = by (is_marked marks n) e
  where
    by : (b : Bool) → where_marked n b ≡ Some m → type.Ptr n ≡ type.Ptr m
    by true e = let f : n ≡ m = cc in ap type.Ptr f
    by false e = absurd (cc)

pub given_is : (marks : List Bool) (o : Option LlType) (m : ℕ) → reference_given marks o ≡ Some m → o ≡ Some (type.Ptr m)
given_is marks None m e = absurd (cc)
given_is marks (Some t) m e = ap Some (reference_is marks t m e)

none_is : (o : Option ℕ) → is_none o ≡ true → o ≡ None
none_is None h = refl
none_is (Some m) h = absurd (cc)

pub given_root : (plan : Plan) (o : Option ℕ) (m : ℕ) → o ≡ Some m → is_root_given plan o ≡ true → root_of plan m ≡ m
given_root plan None m e h = absurd (cc)
given_root plan (Some k) m e h = let f : k ≡ m = cc in subst (λ k. root_of plan k ≡ k) f (is_same (root_of plan k) k h)

module _ (p : LlProgram) where
  abbrev plan : Plan
  plan = plan_of p

  field_by : (b : Bool) (s : LlStruct) (base : Option ℕ) (k : ℕ) → (b ≡ true → base ≡ None) → own_field (struct_by b s) base (behind_count b k) ≡ own_field s base k
  field_by false s base k h = refl
  field_by true s None k h = refl
  field_by true s (Some m) k h = absurd (let e : Some m ≡ None = h refl in cc)

  -- only a struct without a base begins with the count
  first_only : (n : ℕ) (s : LlStruct) → slice_get p.structs n ≡ Some s → has_count plan n ≡ true → s.base ≡ None
  first_only n s e h = none_is s.base (ap (λ o. is_none (base_of o)) (sym e) ∙ and_right _ (is_none (base_at plan n)) h)

  pub field_kept : (n k : ℕ) → field_of (slice_get (counted p).structs n) (shifted plan n k) ≡ field_of (slice_get p.structs n) k
  field_kept n k = ap (λ o. field_of o (shifted plan n k)) (get_struct plan n) ∙ by (slice_get p.structs n) refl
    where
      by : (o : Option LlStruct) → slice_get p.structs n ≡ o → field_of (option_map (struct_at plan n) o) (shifted plan n k) ≡ field_of o k
      by None e = refl
      by (Some s) e = ap (λ b. own_field (struct_by (has_count plan n) s) b (shifted plan n k)) (base_of_struct (has_count plan n) s) ∙ field_by (has_count plan n) s s.base k (first_only n s e)

  pub placed : (n place : ℕ) → field_of (slice_get (counted p).structs n) (field_number plan n place) ≡ slice_get (fields_of plan n) place
  placed n place = ap (λ o. field_of o (field_number plan n place)) (get_struct plan n) ∙ by (slice_get p.structs n) refl
    where
      behind_base : (b : Bool) (s : LlStruct) (m : ℕ) → (b ≡ true → Some m ≡ None) → own_field (struct_by b s) (Some m) (suc place) ≡ slice_get s.fields place
      behind_base true s m h = absurd (let e : Some m ≡ None = h refl in cc)
      behind_base false s m h = refl

      on : (s : LlStruct) → (has_count plan n ≡ true → s.base ≡ None) → (o : Option ℕ) → s.base ≡ o → own_field (struct_by (has_count plan n) s) o (number_behind plan n o place) ≡ slice_get s.fields place
      on s first None e = field_by (has_count plan n) s None place (λ h. refl)
      on s first (Some m) e = behind_base (has_count plan n) s m (λ h. sym e ∙ first h)

      by : (o : Option LlStruct) → slice_get p.structs n ≡ o → field_of (option_map (struct_at plan n) o) (field_number plan n place) ≡ slice_get (fields_given o) place
      by None e = refl
      by (Some s) e =
          ap (λ b. own_field (struct_by (has_count plan n) s) b (field_number plan n place)) (base_of_struct (has_count plan n) s)
          ∙ ap (λ b. own_field (struct_by (has_count plan n) s) s.base (number_behind plan n b place)) (ap base_of e) ∙ on s (first_only n s e) s.base refl

  -- ---- the fields that are references

  pub record Right (h : Held) : Type 0 where
    pub field : field_of (slice_get (counted p).structs h.owner) h.number ≡ Some (type.Ptr h.to)
    pub root : IsRoot (counts_of plan) h.to

  abbrev pub AllRight : List Held → Type 0
  AllRight [] = Unit {0}
  AllRight (h ∷ held) = Right h × AllRight held

  own_right : (n place : ℕ) (ts : List LlType) → ((i : ℕ) → slice_get (fields_of plan n) (place + i) ≡ slice_get ts i) → all_lead plan ts ≡ true → AllRight (held_from plan n place ts)
  own_right n place [] same lead = tt
  own_right n place (t ∷ ts) same lead =
      by (referred plan t) refl (own_right n (suc place) ts (λ i. ap (slice_get (fields_of plan n)) (let e : suc place + i ≡ place + suc i = omega arith in e) ∙ same (suc i)) (and_right _ _ lead))
    where
      by : (o : Option ℕ) → referred plan t ≡ o → AllRight (held_from plan n (suc place) ts) → AllRight (held_if n (field_number plan n place) o (held_from plan n (suc place) ts))
      by None e rest = rest
      by (Some m) e rest = (
        record {
          field = placed n place ∙ ap (slice_get (fields_of plan n)) (let f : place ≡ place + 0 = omega arith in f) ∙ same 0 ∙ ap Some (reference_is plan.counted t m e);
          root = (reference_marked plan.counted t m e, given_root plan (referred plan t) m e (and_left _ _ lead));
        },
        rest,
      )

  lead_at : (ss : List LlStruct) (n : ℕ) → structs_lead plan ss ≡ true → all_lead plan (fields_given (slice_get ss n)) ≡ true
  lead_at [] n h = refl
  lead_at (s ∷ ss) zero h = and_left _ _ (and_left _ _ h)
  lead_at (s ∷ ss) (suc n) h = lead_at ss n (and_right _ _ h)

  both_right : (xs ys : List Held) → AllRight xs → AllRight ys → AllRight (xs ++ ys)
  both_right [] ys a b = b
  both_right (x ∷ xs) ys a b = (a.0, both_right xs ys a.1 b)

  module _ (leads : leads_to_roots p ≡ true) where
    pub own_all_right : (n : ℕ) → AllRight (own_held plan n)
    own_all_right n = own_right n 0 (fields_of plan n) (λ i. ap (slice_get (fields_of plan n)) (let e : 0 + i ≡ i = omega arith in e)) (lead_at p.structs n leads)

    within_right : (times : List LlStruct) (n : ℕ) → AllRight (held_within plan times n)
    within_right [] n = tt
    within_right (t ∷ times) n = both_right (own_held plan n) (of_base (held_within plan times) (base_at plan n)) (own_all_right n) (by (λ m. within_right times m) (base_at plan n))
      where
        by : ((m : ℕ) → AllRight (held_within plan times m)) → (o : Option ℕ) → AllRight (of_base (held_within plan times) o)
        by go None = tt
        by go (Some m) = go m

    pub held_right : (n : ℕ) → AllRight (held_of plan n)
    held_right n = within_right p.structs n
