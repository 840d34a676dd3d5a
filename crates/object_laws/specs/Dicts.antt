-- When blocks and statics are a dict of a heap: its head, with the number of its entries and that of places for them, and two arrays, which
-- an empty dict may lack. The entries stand in order of insertion, one place with a key in one array and its value in the other; before
-- those of the second one stands the index.
use Rattle.std.specs.Prelude.{◌≡◌, ◌<◌, ◌^◌, ◌⊎◌, ℕ, ◌+◌, ℤ, pos, Bool, true, false, if◌then◌else◌, List, [], ◌∷◌, ◌++◌, length, map, Option, Some, slice_get}
use Rattle.csub_tree.specs.State.{Value, Word, Byte, Flag, Null, Block}
use Rattle.ll_code.specs.declared.program.LlType.{LlType}
use Rattle.ll_code.specs.declared.program.LlType.TheVariants as type
use Rattle.ll_texts.specs.Texts.{found}
use Rattle.rpy_tree.specs.Value.{Value as Meant, Values, none, more, Word as MeantWord, Flag as MeantFlag, Text, Tuple, Mapped, Heap}
use Rattle.rpy_meaning.specs.Compare.{is_equal}
use Rattle.rtyper_layout.specs.declared.dicts.Mapping.{Mapping}
use Rattle.rtyper_layout.specs.declared.layout.Layout.{Layout}
use Rattle.rtyper_layout.specs.Dicts.{first, second, keys_last, is_indexed, stored_key, stored_value}
use Rattle.rtyper_layout.specs.Layout.{fields_in}
use Rattle.rtyper_data.specs.Finding.{same_type}
use Rattle.rtyper_op.specs.Mapped.{mixed, with_item, hash_of_text}
use Rattle.dict_laws.specs.Index.{IsRight}
use Rattle.dict_laws.specs.Keys.{AreApart}
use Rattle.dict_laws.specs.Masks.{IsLength, place_of}
use Rattle.object_laws.specs.Ghost.{Ghost, use_of, Table, First, Second}
use Rattle.object_laws.specs.Known.{Known}
use Rattle.object_laws.specs.Values.{EachHolds, AreEmpty}

-- ---- keys and values as they stand in arrays

-- a truth value and a byte as words
abbrev pub as_word : Value → Value
as_word (Flag b) = Word (if b then pos 1 else pos 0)
as_word (Byte b) = Word (pos b)
as_word other = other

-- a value of the first type in an array of items of the second one
abbrev pub as_item : LlType → LlType → Value → Value
as_item kind item x = if same_type item kind then x else as_word x

-- ---- hashes of keys, as of those types

module _ (layout : Layout) where
  abbrev mutual
    pub hash : LlType → Meant → ℤ
    hash kind (MeantWord z) = mixed z
    hash kind (MeantFlag b) = mixed (if b then pos 1 else pos 0)
    hash kind (Text bytes) = hash_of_text bytes kind
    hash (type.Ptr n) (Tuple vs) = hash_from (pos 0) (fields_in (slice_get layout.structs n)) vs
    hash kind other = pos 0

    -- the parts of a tuple, one after the other
    pub hash_from : ℤ → List LlType → Values → ℤ
    hash_from h [] vs = mixed h
    hash_from h (t ∷ ts) none = mixed h
    hash_from h (t ∷ ts) (more v vs) = hash_from (with_item h (hash t v)) ts vs

-- ---- the index

-- An index of entries with these hashes, with so many places for entries: its length is a power of two and more than these, and it is right
-- for where the hashes lead.
pub record IsIndex (hashes : List ℤ) (places : ℕ) (words : List ℕ) : Type 0 where
  pub long : IsLength places (length words)
  pub right : IsRight words (map (place_of long.bits) hashes)

abbrev pub IsIndexIf : Bool → List ℤ → ℕ → List ℕ → Type 0
IsIndexIf true hashes places words = IsIndex hashes places words
IsIndexIf false hashes places words = words ≡ []

abbrev pub index_values : List ℕ → List Value
index_values words = map (λ (n : ℕ). Word (pos n)) words

-- ---- dicts

-- the head of a dict of so many entries and places, and an array
abbrev pub dict_block : ℕ → ℕ → ℕ → Value → Value → Block
dict_block n count places first second = record { kind = n; fields = Word (pos count) ∷ Word (pos places) ∷ first ∷ second ∷ []; items = [] }

abbrev pub items_block : ℕ → List Value → Block
items_block n xs = record { kind = n; fields = Word (pos (length xs)) ∷ []; items = xs }

abbrev pub keys_of : List (Meant × Meant) → List Meant
keys_of pairs = map (λ (p : Meant × Meant). p.0) pairs

abbrev pub values_of : List (Meant × Meant) → List Meant
values_of pairs = map (λ (p : Meant × Meant). p.1) pairs

-- keys that stand in the first array, or in the second one
abbrev pub in_first : Mapping → List Value → List Value → List Value
in_first m keys values = if keys_last m then values else keys

abbrev pub in_second : Mapping → List Value → List Value → List Value
in_second m keys values = if keys_last m then keys else values

module _ (layout : Layout) (known : Known) (g : Ghost) (blocks : List (Option Block)) (statics : List Block) (m : Mapping) (i : ℕ) (pairs : List (Meant × Meant)) (places : ℕ) (one two : Value) where
  -- The arrays have so many places. The first ones stand for the keys and values, and the others are spare.
  pub record Arrays : Type 0 where
    pub keys : List Value
    pub values : List Value
    pub spare_keys : List Value
    pub spare_values : List Value
    pub index : List ℕ
    pub first_use : use_of g one ≡ Some (First i)
    pub second_use : use_of g two ≡ Some (Second i)
    pub first_is : found blocks statics one ≡ Some (items_block (first m) (in_first m (map (as_item m.key (stored_key m)) keys ++ spare_keys) (map (as_item m.value (stored_value m)) values ++ spare_values)))
    pub second_is : found blocks statics two ≡ Some (items_block (second m) (index_values index ++ in_second m (map (as_item m.key (stored_key m)) keys ++ spare_keys) (map (as_item m.value (stored_value m)) values ++ spare_values)))
    pub each_key : EachHolds layout known g (known.keys m.dict) keys (keys_of pairs)
    pub each_value : EachHolds layout known g (known.items m.dict) values (values_of pairs)
    pub no_keys : AreEmpty spare_keys
    pub no_values : AreEmpty spare_values
    pub key_places : length keys + length spare_keys ≡ places
    pub value_places : length values + length spare_values ≡ places
    pub indexed : IsIndexIf (is_indexed m) (map (hash layout m.key) (keys_of pairs)) places index

  -- there are none
  pub record Lacks : Type 0 where
    pub empty : pairs ≡ []
    pub no_places : places ≡ 0
    pub first_null : one ≡ Null
    pub second_null : two ≡ Null

-- The object of this number is a dict, and it stands at this head, of the struct of the mapping.
pub record DictAt (layout : Layout) (known : Known) (g : Ghost) (heap : Heap) (blocks : List (Option Block)) (statics : List Block) (m : Mapping) (i : ℕ) (head : Value) : Type 0 where
  pub pairs : List (Meant × Meant)
  pub object : slice_get heap i ≡ Some (Mapped pairs)
  pub places : ℕ
  pub one : Value
  pub two : Value
  pub head_use : use_of g head ≡ Some (Table i)
  pub head_is : found blocks statics head ≡ Some (dict_block m.dict (length pairs) places one two)
  pub arrays : Lacks layout known g blocks statics m i pairs places one two ⊎ Arrays layout known g blocks statics m i pairs places one two
  pub apart : AreApart is_equal (keys_of pairs)
  pub few : places < 2 ^ 62
