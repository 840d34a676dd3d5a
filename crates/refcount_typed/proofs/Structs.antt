-- Structs keep their places, their bases and their items.
use Rattle.std.proofs.Common.{◌≡◌, ℕ, zero, suc, ◌+◌, Bool, true, false, List, [], ◌∷◌, length, Option, Some, None, refl, ap, ◌∙◌, arith}
use Rattle.std.specs.Prelude.{slice_get, option_map}
use Rattle.ll_code.specs.declared.program.LlStruct.{LlStruct}
use Rattle.ll_code.specs.declared.program.LlProgram.{LlProgram}
use Rattle.ll_code.specs.Typed.{base_of, items_of}
use Rattle.refcount_transform.specs.Plan.{Plan, plan_of, has_count}
use Rattle.refcount_transform.specs.Counted.{struct_by, struct_at, structs_from, structs_of, counted}

module _ (plan : Plan) where
  many_from : (k : ℕ) (ss : List LlStruct) → length (structs_from plan k ss) ≡ length ss
  many_from k [] = refl
  many_from k (s ∷ ss) = ap suc (many_from (suc k) ss)

  get_from : (k : ℕ) (ss : List LlStruct) (n : ℕ) → slice_get (structs_from plan k ss) n ≡ option_map (struct_at plan (k + n)) (slice_get ss n)
  get_from k [] n = refl
  get_from k (s ∷ ss) zero = let e : k ≡ k + 0 = omega arith in ap (λ j. Some (struct_at plan j s)) e
  get_from k (s ∷ ss) (suc n) = get_from (suc k) ss n ∙ (let e : suc k + n ≡ k + suc n = omega arith in ap (λ j. option_map (struct_at plan j) (slice_get ss n)) e)

  pub get_struct : (n : ℕ) → slice_get (structs_of plan) n ≡ option_map (struct_at plan n) (slice_get plan.structs n)
  get_struct n = get_from 0 plan.structs n ∙ (let e : 0 + n ≡ n = omega arith in ap (λ j. option_map (struct_at plan j) (slice_get plan.structs n)) e)

  based : (b : Bool) (s : LlStruct) → (struct_by b s).base ≡ s.base
  based true s = refl
  based false s = refl

  itemed : (b : Bool) (s : LlStruct) → (struct_by b s).items ≡ s.items
  itemed true s = refl
  itemed false s = refl

  pub base_kept : (n : ℕ) (o : Option LlStruct) → base_of (option_map (struct_at plan n) o) ≡ base_of o
  base_kept n None = refl
  base_kept n (Some s) = based (has_count plan n) s

  pub items_kept : (n : ℕ) (o : Option LlStruct) → items_of (option_map (struct_at plan n) o) ≡ items_of o
  items_kept n None = refl
  items_kept n (Some s) = itemed (has_count plan n) s

pub structs_many : (p : LlProgram) → length (counted p).structs ≡ length p.structs
structs_many p = many_from (plan_of p) 0 p.structs

pub base_same : (p : LlProgram) (n : ℕ) → base_of (slice_get (counted p).structs n) ≡ base_of (slice_get p.structs n)
base_same p n = ap base_of (get_struct (plan_of p) n) ∙ base_kept (plan_of p) n (slice_get p.structs n)

pub items_same : (p : LlProgram) (n : ℕ) → items_of (slice_get (counted p).structs n) ≡ items_of (slice_get p.structs n)
items_same p n = ap items_of (get_struct (plan_of p) n) ∙ items_kept (plan_of p) n (slice_get p.structs n)
