-- The structs of a dict, and what its graphs are made of.
use Rattle.std.specs.Prelude.{ℕ, Bool as Truth, if◌then◌else◌, List, [], ◌∷◌, ◌++◌, Option, Some, None, pos}
use Rattle.csub_tree.specs.declared.tree.CBinary.TheVariants.{Add, Sub, And, Lt, Eq, Ne}
use Rattle.csub_tree.specs.declared.tree.CUnary.TheVariants.{B2S, C2S, S2C}
use Rattle.csub_tree.specs.declared.tree.COperand.{COperand}
use Rattle.csub_tree.specs.declared.tree.COperand.TheVariants.{Var}
use Rattle.ll_code.specs.declared.program.LlType.{LlType}
use Rattle.ll_code.specs.declared.program.LlType.TheVariants.{Signed, Bool, Ptr}
use Rattle.ll_code.specs.declared.program.LlOp.{LlOp}
use Rattle.ll_code.specs.declared.program.LlOp.TheVariants.{Binary, Set, GetField, SetField, GetItem, Call}
use Rattle.ll_build.specs.Build.{word}
use Rattle.rtyper_layout.specs.declared.dicts.Mapping.{Mapping}
use Rattle.rtyper_layout.specs.declared.layout.Layout.{Layout}
use Rattle.rtyper_layout.specs.Dicts.{first, second, keys_last, is_indexed, stored_key, stored_value}
use Rattle.rtyper_layout.specs.Layout.{mapping_at}
use Rattle.rtyper_data.specs.declared.body.Body.{Body}
use Rattle.rtyper_data.specs.declared.found.Found.{Found}
use Rattle.rtyper_data.specs.declared.small.Keyed.{Keyed as Graph}
use Rattle.rtyper_data.specs.declared.small.Small.TheVariants.{Keyed}
use Rattle.rtyper_data.specs.Comparing.{binary_in, unary_in}
use Rattle.rtyper_data.specs.Finding.{same_type, small_number}
use Rattle.rtyper_data.specs.Seen.{Writing, writing}
use Rattle.rtyper_data.specs.Tuples.{variable_of}
use Rattle.rtyper_dict.specs.declared.parts.DictShape.{DictShape}

-- ---- structs

unfoldable pub shape_of : Mapping → DictShape
shape_of m = record {
  dict = m.dict;
  first = first m;
  second = second m;
  key = m.key;
  value = m.value;
  stored_key = stored_key m;
  stored_value = stored_value m;
  keys_last = keys_last m;
  is_indexed = is_indexed m;
}

abbrev pub dict_or : ℕ → Option Mapping → DictShape
dict_or n None = shape_of (record { dict = n; key = Signed; value = Signed })
dict_or n (Some m) = shape_of m

-- the dict whose struct this is; no other number is asked for
unfoldable pub dict_at : Layout → ℕ → DictShape
dict_at layout n = dict_or n (mapping_at layout.mappings n)

-- the types of the items of the two arrays
abbrev pub first_item : DictShape → LlType
first_item d = if d.keys_last then d.stored_value else d.stored_key

abbrev pub second_item : DictShape → LlType
second_item d = if d.keys_last then d.stored_key else d.stored_value

-- ---- the fields of a dict

abbrev pub count_read : ℕ → DictShape → ℕ → LlOp
count_read into d dict = GetField into d.dict dict 0

abbrev pub count_set : DictShape → ℕ → COperand → LlOp
count_set d dict x = SetField d.dict dict 0 x

abbrev pub places_read : ℕ → DictShape → ℕ → LlOp
places_read into d dict = GetField into d.dict dict 1

abbrev pub first_read : ℕ → DictShape → ℕ → LlOp
first_read into d dict = GetField into d.dict dict 2

abbrev pub second_read : ℕ → DictShape → ℕ → LlOp
second_read into d dict = GetField into d.dict dict 3

-- the length of a second array; the places for entries end there
abbrev pub length_read : ℕ → DictShape → ℕ → LlOp
length_read into d second = GetField into d.second second 0

-- what stands for the first array, which is read where it holds the keys
abbrev pub first_type : DictShape → LlType
first_type d = if d.keys_last then Signed else Ptr d.first

abbrev pub first_of_keys : ℕ → DictShape → ℕ → LlOp
first_of_keys into d dict = if d.keys_last then Set into (word (pos 0)) else first_read into d dict

-- the key at a place of its array, which is one of these two
abbrev pub key_of : ℕ → DictShape → ℕ → ℕ → ℕ → LlOp
key_of into d first second at = if d.keys_last then GetItem into d.second second (Var at) else GetItem into d.first first (Var at)

-- where the key of an entry stands, from the entry's place and the length of the index
abbrev pub key_at : ℕ → DictShape → ℕ → ℕ → LlOp
key_at into d index place = if d.keys_last then Binary into Add (Var index) (Var place) else Set into (Var place)

-- ---- words

abbrev pub add : ℕ → ℕ → COperand → LlOp
add into v x = Binary into Add (Var v) x

abbrev pub sub : ℕ → ℕ → COperand → LlOp
sub into v x = Binary into Sub (Var v) x

abbrev pub both : ℕ → ℕ → COperand → LlOp
both into v x = Binary into And (Var v) x

abbrev pub less : ℕ → ℕ → COperand → LlOp
less into v x = Binary into Lt (Var v) x

abbrev pub same : ℕ → ℕ → COperand → LlOp
same into v x = Binary into Eq (Var v) x

-- ---- calls

-- the number of a graph of dicts
abbrev pub keyed_number : Graph → Found → ℕ × Found
keyed_number graph found = small_number (Keyed graph) found

abbrev pub one_of : ℕ × Found → Option ℕ × Found
one_of made = (Some made.0, made.1)

-- of one that may not be needed
unfoldable pub number_if : Truth → Graph → Found → Option ℕ × Found
number_if needed graph found = if needed then one_of (keyed_number graph found) else (None, found)

-- and a call of a graph that gives nothing, where there is one
unfoldable pub and_call : Option ℕ → List COperand → List LlOp → List LlOp
and_call None xs ops = ops
and_call (Some number) xs ops = ops ++ Call None number xs ∷ []

-- ---- values as they stand in arrays, in which words stand for bools and chars

abbrev pub as_word : LlType → COperand → Body → COperand × Body
as_word Bool x body = unary_in B2S Signed x body
as_word kind x body = unary_in C2S Signed x body

-- a value of the first type as an item of the second
unfoldable pub stored : LlType → LlType → COperand → Body → COperand × Body
stored kind item x body = if same_type kind item then (x, body) else as_word kind x body

abbrev pub from_word : LlType → COperand → Body → COperand × Body
from_word Bool x body = binary_in Ne Bool x (word (pos 0)) body
from_word kind x body = unary_in S2C kind x body

-- an item of the first type as a value of the second
unfoldable pub unstored : LlType → LlType → COperand → Body → COperand × Body
unstored item kind x body = if same_type kind item then (x, body) else from_word kind x body

-- a variable with a value
abbrev pub variable_in : LlType → COperand × Writing → ℕ × Writing
variable_in t made = ((variable_of made.0 t made.1.body).0, writing made.1.found (variable_of made.0 t made.1.body).1)
