-- The number of the items of an array of references is a word.
use Rattle.std.proofs.Common.{◌≡◌, ℕ, zero, suc, true, List, [], ◌∷◌, Option, Some, None, refl, sym, ap, ◌∙◌}
use Rattle.std.specs.Prelude.{slice_get}
use Rattle.ll_code.specs.declared.program.LlType.{LlType}
use Rattle.ll_code.specs.declared.program.LlType.TheVariants as type
use Rattle.ll_code.specs.declared.program.LlStruct.{LlStruct}
use Rattle.ll_code.specs.declared.program.LlProgram.{LlProgram}
use Rattle.ll_code.specs.Typed.{items_of, field_of, has_type}
use Rattle.ll_laws.proofs.Values.{and_left, and_right}
use Rattle.refcount_transform.specs.Plan.{Plan, plan_of, reference_given, fields_given, fields_of, items_referred, field_number}
use Rattle.refcount_transform.specs.Counted.{counted}
use Rattle.refcount_typed.specs.Numbered.{number_first, structs_numbered, HasNumbers}
use Rattle.refcount_typed.proofs.Fields.{placed}

module _ (p : LlProgram) (numbers : HasNumbers p) where
  abbrev plan : Plan
  plan = plan_of p

  pub number_first_is : (n m : ℕ) → items_referred plan n ≡ Some m → slice_get (fields_of plan n) 0 ≡ Some type.Signed
  number_first_is n m e = signed (slice_get (fields_of plan n) 0) (ap (number_first (fields_of plan n)) (sym e) ∙ numbered p.structs n numbers)
    where
      numbered : (ss : List LlStruct) (j : ℕ) → structs_numbered plan ss ≡ true → number_first (fields_given (slice_get ss j)) (reference_given plan.counted (items_of (slice_get ss j))) ≡ true
      numbered [] j h = refl
      numbered (s ∷ ss) zero h = and_left _ _ h
      numbered (s ∷ ss) (suc j) h = numbered ss j (and_right _ _ h)

      signed : (o : Option LlType) → has_type type.Signed o ≡ true → o ≡ Some type.Signed
      signed None h = absurd (cc)
      signed (Some type.Signed) h = refl
      signed (Some type.Char) h = absurd (cc)
      signed (Some type.Bool) h = absurd (cc)
      signed (Some type.Void) h = absurd (cc)
      signed (Some type.Fn) h = absurd (cc)
      signed (Some (type.Ptr n)) h = absurd (cc)

  pub number_typed : (n m : ℕ) → items_referred plan n ≡ Some m → field_of (slice_get (counted p).structs n) (field_number plan n 0) ≡ Some type.Signed
  number_typed n m e = placed p n 0 ∙ number_first_is n m e
