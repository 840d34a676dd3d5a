-- The types of the cells of a struct: those of its base stand first.
use Rattle.std.specs.Prelude.{ℕ, List, [], ◌∷◌, ◌++◌, slice_index_or, Option, Some, None}
use Rattle.ll_code.specs.declared.program.LlType.{LlType}
use Rattle.ll_code.specs.declared.program.LlStruct.{LlStruct}

abbrev pub fields_at : List (List LlType) → ℕ → List LlType
fields_at earlier n = slice_index_or earlier n []

abbrev pub base_fields : List (List LlType) → Option ℕ → List LlType
base_fields earlier None = []
base_fields earlier (Some n) = fields_at earlier n

-- a base is an earlier struct
unfoldable pub fields_from : List (List LlType) → List LlStruct → List (List LlType)
fields_from earlier [] = earlier
fields_from earlier (s ∷ structs) = fields_from (earlier ++ (base_fields earlier s.base ++ s.fields) ∷ []) structs

-- the types of the fields of struct n
abbrev pub fields_of : List LlStruct → ℕ → List LlType
fields_of structs n = fields_at (fields_from [] structs) n
