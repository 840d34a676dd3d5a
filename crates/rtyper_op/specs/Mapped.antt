-- Dicts that are constants of modules. Each is three statics: its two arrays, with the index, and the dict.
use Rattle.std.specs.Prelude.{ℕ, zero, suc, ◌+◌, ◌*◌, ◌^◌, nat_lt, nat_le, Bool, false, if◌then◌else◌, List, [], ◌∷◌, ◌++◌, length, map, replicate, slice_get, slice_set, Option, Some, None, ℤ, pos, negsuc, ◌*ℤ◌, ◌-ℤ◌}
use Rattle.std.specs.Int.{w64, int_bit_and, int_bit_xor}
use Rattle.std.specs.Ordering.{int_eq}
use Rattle.rpy_base.specs.Word.{wrap, floor_quotient}
use Rattle.csub_tree.specs.declared.tree.CCell.{CCell}
use Rattle.csub_tree.specs.declared.tree.CCell.TheVariants as cell
use Rattle.csub_tree.specs.declared.tree.CConst.{CConst}
use Rattle.csub_tree.specs.declared.tree.CConst.TheVariants as constant
use Rattle.ll_code.specs.declared.program.LlType.{LlType}
use Rattle.ll_code.specs.declared.program.LlType.TheVariants as type
use Rattle.rpy_tree.specs.declared.program.Const.{Const, fold-Const}
use Rattle.rpy_tree.specs.declared.program.Const.TheOpen.{Const-F}
use Rattle.rtyper_layout.specs.declared.dicts.Mapping.{Mapping}
use Rattle.rtyper_layout.specs.declared.layout.Layout.{Layout}
use Rattle.rtyper_layout.specs.Dicts.{first, second, keys_last, is_indexed, stored_key, stored_value}
use Rattle.rtyper_layout.specs.Layout.{fields_in, mapping_at}
use Rattle.rtyper_layout.specs.Types.{word}
use Rattle.rtyper_data.specs.declared.found.Found.{Found}
use Rattle.rtyper_op.specs.declared.mapped.Entry.{Entry}
use Rattle.rtyper_op.specs.Constants.{constant_of}
use Rattle.rtyper_data.specs.Finding.{same_constant, same_type, placed}
use Rattle.rtyper_data.specs.Seen.{Around}

-- ---- hashes

abbrev pub halves : ℤ → ℤ
halves h = int_bit_xor w64 h (floor_quotient h (pos (2 ^ 32)))

unfoldable pub mixed : ℤ → ℤ
mixed x = halves (wrap (x *ℤ negsuc 7046029254386353130))

-- with one item more
unfoldable pub with_item : ℤ → ℤ → ℤ
with_item h x = wrap (int_bit_xor w64 h x *ℤ pos 1099511628211)

abbrev pub with_bytes : ℤ → List ℕ → ℤ
with_bytes h [] = h
with_bytes h (b ∷ bytes) = with_bytes (with_item h (pos b)) bytes

-- a string of length one has the hash of its byte
unfoldable pub hash_of_text : List ℕ → LlType → ℤ
hash_of_text (b ∷ []) type.Char = mixed (pos b)
hash_of_text bytes kind = mixed (with_bytes (pos 0) bytes)

-- the parts of a tuple, as keys of the types of its fields
abbrev pub with_parts : ℤ → List (LlType → ℤ) → List LlType → ℤ
with_parts h [] fields = mixed h
with_parts h (p ∷ ps) [] = mixed h
with_parts h (p ∷ ps) (t ∷ ts) = with_parts (with_item h (p t)) ps ts

module _ (layout : Layout) where
  abbrev pub hash_of_tuple : List (LlType → ℤ) → LlType → ℤ
  hash_of_tuple parts (type.Ptr n) = with_parts (pos 0) parts (fields_in (slice_get layout.structs n))
  hash_of_tuple parts kind = pos 0

  abbrev pub hash_of_flag : Bool → ℤ
  hash_of_flag b = mixed (if b then pos 1 else pos 0)

  abbrev pub hash_step : Const-F (LlType → ℤ) → LlType → ℤ
  hash_step (Const-F.Word z) kind = mixed z
  hash_step (Const-F.Bool b) kind = hash_of_flag b
  hash_step (Const-F.Str bytes) kind = hash_of_text bytes kind
  hash_step (Const-F.Tuple parts) kind = hash_of_tuple parts kind
  hash_step other kind = pos 0

  -- the hash of a constant as a key of a type; other constants are no keys
  abbrev pub hash_of : Const → LlType → ℤ
  hash_of = fold-Const (LlType → ℤ) hash_step

-- ---- entries

abbrev pub as_word : CConst → CConst
as_word (constant.Bool b) = constant.Word (if b then pos 1 else pos 0)
as_word (constant.Char b) = constant.Word (pos b)
as_word other = other

-- a constant as it stands in an array whose items have the second type
abbrev pub as_stored : LlType → LlType → CConst × Found → CConst × Found
as_stored kind item made = if same_type item kind then made else (as_word made.0, made.1)

unfoldable pub stored : Around → Const → LlType → LlType → Found → CConst × Found
stored around c kind item found = as_stored kind item (constant_of around c kind found)

abbrev pub key_from : ℕ → List Entry → CConst → Option ℕ
key_from n [] key = None
key_from n (e ∷ entries) key = if same_constant e.key key then Some n else key_from (n + 1) entries key

abbrev pub entry_at : Entry → List Entry → Option ℕ → List Entry
entry_at e entries None = entries ++ e ∷ []
entry_at e entries (Some n) = slice_set entries n e

-- a key that is there keeps its place
unfoldable pub with_entry : Entry → List Entry → List Entry
with_entry e entries = entry_at e entries (key_from 0 entries e.key)

abbrev pub entry_by : ℤ → CConst → CConst × Found → Entry × Found
entry_by hash key value = (record { key = key; value = value.0; hash = hash }, value.1)

unfoldable pub entry_of : Around → Mapping → Const × Const → Found → Entry × Found
entry_of around m pair found = second_of (stored around pair.0 m.key (stored_key m) found)
  where
    second_of : CConst × Found → Entry × Found
    second_of key = entry_by (hash_of around.layout pair.0 m.key) key.0 (stored around pair.1 m.value (stored_value m) key.1)

abbrev pub entries_from : Around → Mapping → List (Const × Const) → List Entry × Found → List Entry × Found
entries_from around m [] done = done
entries_from around m (p ∷ pairs) done = entries_from around m pairs (joined (entry_of around m p done.1))
  where
    joined : Entry × Found → List Entry × Found
    joined made = (with_entry made.0 done.0, made.1)

-- ---- the index

-- doubled so often at most, until it is enough
unfoldable pub size_from : ℕ → ℕ → ℕ → ℕ
size_from zero size least = size
size_from (suc turns) size least = if nat_le least size then size else size_from turns (word (size * 2)) least

-- a power of two that is at least twice the number of entries
unfoldable pub size_of : ℕ → ℕ
size_of count = size_from 62 2 (word (count * 2))

abbrev pub number_or_zero : ℤ → ℕ
number_or_zero (pos n) = n
number_or_zero (negsuc n) = 0

-- where a hash leads in an index of so many words
unfoldable pub place_of_hash : ℤ → ℕ → ℕ
place_of_hash hash size = if nat_lt size (2 ^ 63) then number_or_zero (int_bit_and w64 hash (wrap (pos size -ℤ pos 1))) else 0

abbrev pub is_empty : Option ℤ → Bool
is_empty (Some z) = int_eq z (pos 0)
is_empty None = false

abbrev pub round : ℕ → ℕ → ℕ
round at size = if nat_le size at then 0 else at

-- a word goes to the first empty place from there on
abbrev pub enter_from : ℕ → ℕ → ℤ → List ℤ → List ℤ
enter_from zero at w words = words
enter_from (suc turns) at w words = if is_empty (slice_get words (round at (length words))) then slice_set words (round at (length words)) w else enter_from turns (word (round at (length words) + 1)) w words

abbrev pub enter_next : ℕ → ℕ → ℤ → List ℤ → List ℤ
enter_next turns at w words = enter_from (suc turns) at w words

unfoldable pub enter : ℤ → ℤ → List ℤ → List ℤ
enter hash w words = enter_from (length words) (place_of_hash hash (length words)) w words

-- the entries from a number on
abbrev pub enter_all : List Entry → ℕ → List ℤ → List ℤ
enter_all [] next words = words
enter_all (e ∷ entries) next words = enter_all entries (next + 1) (enter e.hash (pos next) words)

unfoldable pub index_of : List Entry → List ℤ
index_of entries = enter_all entries 1 (replicate (size_of (length entries)) (pos 0))

-- ---- statics

abbrev pub key_cells : List Entry → List CCell
key_cells entries = map (λ (e : Entry). cell.Const e.key) entries

abbrev pub value_cells : List Entry → List CCell
value_cells entries = map (λ (e : Entry). cell.Const e.value) entries

abbrev pub word_cell : ℤ → CCell
word_cell z = cell.Const (constant.Word z)

abbrev pub index_cells : List Entry → List CCell
index_cells entries = map word_cell (index_of entries)

abbrev pub count_cell : ℕ → CCell
count_cell count = word_cell (pos count)

-- a static of one list or dict alone
abbrev pub own_static : ℕ → List CCell → Found → CConst × Found
own_static kind cells found = placed kind cells found None

-- an array with its length
unfoldable pub array_of : ℕ → List CCell → Found → CConst × Found
array_of kind items found = own_static kind (count_cell (length items) ∷ cell.Braces items ∷ []) found

abbrev pub first_cells : Mapping → List Entry → List CCell
first_cells m entries = if keys_last m then value_cells entries else key_cells entries

abbrev pub second_cells : Mapping → List Entry → List CCell
second_cells m entries = (if is_indexed m then index_cells entries else []) ++ (if keys_last m then key_cells entries else value_cells entries)

unfoldable pub first_array : Mapping → List Entry → Found → CConst × Found
first_array m entries found = array_of (first m) (first_cells m entries) found

unfoldable pub second_array : Mapping → List Entry → Found → CConst × Found
second_array m entries found = array_of (second m) (second_cells m entries) found

-- the number of entries, that of places, and the arrays
abbrev pub cells_with : ℕ → CConst → CConst × Found → List CCell × Found
cells_with count a b = (count_cell count ∷ count_cell count ∷ cell.Const a ∷ cell.Const b.0 ∷ [], b.1)

abbrev pub cells_of : Mapping → List Entry → CConst × Found → List CCell × Found
cells_of m entries a = cells_with (length entries) a.0 (second_array m entries a.1)

-- an empty dict has no arrays
unfoldable pub dict_cells : Mapping → List Entry → Found → List CCell × Found
dict_cells m [] found = cells_with 0 constant.Null (constant.Null, found)
dict_cells m entries found = cells_of m entries (first_array m entries found)

-- one more static, which a site is
abbrev pub prebuilt_by : ℕ → ℕ → List CCell × Found → Found
prebuilt_by site kind made = record made.1 { statics = made.1.statics ++ record { kind = kind; cells = made.0 } ∷ []; prebuilt = made.1.prebuilt ++ (site, length made.1.statics) ∷ [] }

abbrev pub mapped_by : Around → ℕ → ℕ → List (Const × Const) → Option Mapping → Found → Found
mapped_by around site kind pairs None found = found
mapped_by around site kind pairs (Some m) found = with_entries (entries_from around m pairs ([], found))
  where
    with_entries : List Entry × Found → Found
    with_entries made = prebuilt_by site kind (dict_cells m made.0 made.1)

-- the dict of a site; two dicts with the same entries are two dicts
unfoldable pub mapped : Around → ℕ → ℕ → List (Const × Const) → Found → Found
mapped around site kind pairs found = mapped_by around site kind pairs (mapping_at around.layout.mappings kind) found
