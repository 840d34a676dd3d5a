-- The structs of dicts: that of the dict, and its two arrays.
use Rattle.std.specs.Prelude.{ℕ, ◌+◌, ◌||◌, ◌&&◌, not, Bool, true, false, if◌then◌else◌, List, [], ◌∷◌, slice_get, Option, Some, None}
use Rattle.ll_code.specs.declared.program.LlType.{LlType}
use Rattle.ll_code.specs.declared.program.LlType.TheVariants as type
use Rattle.ll_code.specs.declared.program.LlStruct.{LlStruct}
use Rattle.ann_element.specs.declared.element.Element.{Element}
use Rattle.ann_element.specs.declared.annotation.Annotation.{Annotation}
use Rattle.rtyper_layout.specs.declared.dicts.Mapping.{Mapping}
use Rattle.rtyper_layout.specs.declared.layout.Layout.{Layout}
use Rattle.rtyper_layout.specs.Types.{word, field_type, type_of}

-- such values may stand as words
abbrev pub is_plain : LlType → Bool
is_plain type.Signed = true
is_plain type.Char = true
is_plain type.Bool = true
is_plain other = false

-- the structs of the two arrays
abbrev pub first : Mapping → ℕ
first m = word (m.dict + 1)

abbrev pub second : Mapping → ℕ
second m = word (m.dict + 2)

-- the second array holds the keys
abbrev pub keys_last : Mapping → Bool
keys_last m = is_plain m.key

-- there is an index
abbrev pub is_indexed : Mapping → Bool
is_indexed m = is_plain m.key || is_plain m.value

abbrev pub stored_key : Mapping → LlType
stored_key m = if is_plain m.key then type.Signed else m.key

-- values stand as words where the keys do not
abbrev pub stored_value : Mapping → LlType
stored_value m = if not (is_plain m.key) && is_plain m.value then type.Signed else m.value

abbrev pub first_item : Mapping → LlType
first_item m = if keys_last m then stored_value m else stored_key m

abbrev pub second_item : Mapping → LlType
second_item m = if keys_last m then stored_key m else stored_value m

-- what is never there may have any type
abbrev pub type_in : Layout → Option Element → LlType
type_in layout None = type.Bool
type_in layout (Some e) = field_type (type_of layout e)

abbrev pub mapping : Layout → Annotation → ℕ → ℕ → Mapping
mapping layout a site dict = record { dict = dict; key = type_in layout (slice_get a.keys site); value = type_in layout (slice_get a.items site) }

abbrev pub dict_fields : Mapping → List LlType
dict_fields m = type.Signed ∷ type.Signed ∷ type.Ptr (first m) ∷ type.Ptr (second m) ∷ []

-- a length, and the items
abbrev pub array : LlType → LlStruct
array item = record { base = None; fields = type.Signed ∷ []; items = Some item }

-- how many entries, how many places for them, and the two arrays
abbrev pub dict_structs : Mapping → List LlStruct
dict_structs m = record { base = None; fields = dict_fields m; items = None } ∷ array (first_item m) ∷ array (second_item m) ∷ []
