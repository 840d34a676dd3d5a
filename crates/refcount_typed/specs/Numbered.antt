-- Where the items of a struct are references, its first own field is their number: release reads it.
use Rattle.std.specs.Prelude.{◌≡◌, ℕ, ◌&&◌, Bool, true, List, [], ◌∷◌, Option, Some, None, slice_get}
use Rattle.ll_code.specs.declared.program.LlType.{LlType}
use Rattle.ll_code.specs.declared.program.LlType.TheVariants as type
use Rattle.ll_code.specs.declared.program.LlStruct.{LlStruct}
use Rattle.ll_code.specs.declared.program.LlProgram.{LlProgram}
use Rattle.ll_code.specs.Typed.{has_type}
use Rattle.refcount_transform.specs.Plan.{Plan, plan_of, reference_given}

abbrev pub number_first : List LlType → Option ℕ → Bool
number_first fields None = true
number_first fields (Some m) = has_type type.Signed (slice_get fields 0)

abbrev pub structs_numbered : Plan → List LlStruct → Bool
structs_numbered plan [] = true
structs_numbered plan (s ∷ ss) = number_first s.fields (reference_given plan.counted s.items) && structs_numbered plan ss

abbrev pub HasNumbers : LlProgram → Type 0
HasNumbers p = structs_numbered (plan_of p) p.structs ≡ true
