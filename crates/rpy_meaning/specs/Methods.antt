-- The methods of strings, lists and dicts, and conversions of values.
use Rattle.std.specs.Prelude.{ℕ, suc, min, ℤ, pos, negsuc, nat_lt, nat_le, nat_eq, ◌&&◌, ◌||◌, Bool, true, false, List, [], ◌∷◌, ◌++◌, length, map, insert, remove, reverse, sum_by, Option, Some, None, unwrap_or, if◌then◌else◌, codes}
use Rattle.std.specs.List.{slice_split, starts_with, ends_with, join_by, list_all}
use Rattle.std.specs.Str.Parse.{without_leading_sign, signed_digits_value}
use Rattle.std.specs.Fmt.{signed_decimal}
use Rattle.std.specs.Ordering.{int_eq}
use Rattle.rpy_base.specs.Word.{wrap}
use Rattle.rpy_base.specs.Number.{blank, trimmed}
use Rattle.rpy_tree.specs.Value.{Value, Word, Flag, Text, Nothing, Tuple, Ref, Object, Listed, Mapped}
use Rattle.rpy_meaning.specs.declared.row.Covers.{Covers}
use Rattle.rpy_meaning.specs.Costs.{append_cost, split_cost, keys_cost, items_cost}
use Rattle.rpy_meaning.specs.World.{Op, bad, give, flag, paying, new_object, set_object, at_object, with_list, new_text, index_error, value_error, attribute_error, negative_slice, no_number, if_some}
use Rattle.rpy_meaning.specs.Sequences.{place, item_at, value_at, items_of, byte, tuple, extend}
use Rattle.rpy_meaning.specs.Walks.{keys_of}

-- ---- strings

-- the first place from which a string begins with another
abbrev pub place_of : List ℕ → ℕ → List ℕ → Option ℕ
place_of part i [] = if starts_with nat_eq [] part then Some i else None
place_of part i (b ∷ bytes) = if starts_with nat_eq (b ∷ bytes) part then Some i else place_of part (suc i) bytes

abbrev pub place_or_minus_one : Option ℕ → ℤ
place_or_minus_one None = negsuc 0
place_or_minus_one (Some i) = pos i

abbrev pub is_digit : ℕ → Bool
is_digit b = nat_le 48 b && nat_le b 57

abbrev pub is_letter : ℕ → Bool
is_letter b = (nat_le 65 b && nat_le b 90) || (nat_le 97 b && nat_le b 122)

abbrev pub with_first : List ℕ → Option (List (List ℕ)) → Option (List (List ℕ))
with_first text None = None
with_first text (Some texts) = Some (text ∷ texts)

-- the strings that values are, where all of them are strings
abbrev pub texts_of : List Value → Option (List (List ℕ))
texts_of [] = Some []
texts_of (Text text ∷ vs) = with_first text (texts_of vs)
texts_of (v ∷ vs) = None

abbrev pub new_parts : List (List ℕ) → Op
new_parts parts = paying (split_cost (length parts) (sum_by length parts)) (new_object (Listed (map Text parts)))

-- a method of a string, with its arguments
abbrev pub TextMethod : Type 0
TextMethod = List ℕ → List Value → Op

abbrev pub join : TextMethod
join text (Ref r ∷ []) = with_list r (λ vs. if_some bad (texts_of vs) (λ texts. new_text (join_by (λ t. t) text texts)))
join text args = bad

abbrev pub split : TextMethod
split text (Text (b ∷ []) ∷ []) = new_parts (slice_split (nat_eq b) text)
split text args = bad

abbrev pub find : TextMethod
find text (Text part ∷ []) = give (Word (place_or_minus_one (place_of part 0 text)))
find text args = bad

abbrev pub begins : TextMethod
begins text (Text part ∷ []) = flag (starts_with nat_eq text part)
begins text args = bad

abbrev pub ends : TextMethod
ends text (Text part ∷ []) = flag (nat_le (length part) (length text) && ends_with nat_eq text part)
ends text args = bad

abbrev pub strip : TextMethod
strip text [] = new_text (trimmed text)
strip text args = bad

-- a test of one byte
abbrev pub is_byte : (ℕ → Bool) → TextMethod
is_byte f (b ∷ []) [] = flag (f b)
is_byte f text args = bad

abbrev pub text_methods : List (List ℕ × TextMethod)
text_methods =
    (codes "join", join)
    ∷ (codes "split", split)
    ∷ (codes "find", find)
    ∷ (codes "startswith", begins)
    ∷ (codes "endswith", ends)
    ∷ (codes "strip", strip)
    ∷ (codes "isdigit", is_byte is_digit)
    ∷ (codes "isalpha", is_byte is_letter)
    ∷ (codes "isspace", is_byte blank)
    ∷ []

-- ---- lists

-- a method of the list that is an object, with its items and the arguments
abbrev pub ListMethod : Type 0
ListMethod = ℕ → List Value → List Value → Op

abbrev pub append : ListMethod
append r vs (v ∷ []) = paying append_cost (set_object r (Listed (vs ++ v ∷ [])) Nothing)
append r vs args = bad

-- a place past the end is cut there
abbrev pub insert_at : ListMethod
insert_at r vs (Word (pos i) ∷ v ∷ []) = paying append_cost (set_object r (Listed (insert vs (min i (length vs)) v)) Nothing)
insert_at r vs (Word (negsuc i) ∷ v ∷ []) = negative_slice
insert_at r vs args = bad

abbrev pub extend_by : Covers → ListMethod
extend_by c r vs (Ref s ∷ []) = extend r s Nothing
extend_by c r vs (Nothing ∷ []) = attribute_error c
extend_by c r vs args = bad

abbrev pub reverse_list : ListMethod
reverse_list r vs [] = set_object r (Listed (reverse vs)) Nothing
reverse_list r vs args = bad

abbrev pub taken_out : Covers → ℕ → List Value → ℤ → Op
taken_out c r vs z =
    if_some (index_error c) (place z (length vs)) (λ i. if_some bad (item_at z vs) (λ v. set_object r (Listed (remove vs i)) v))

abbrev pub pop : Covers → ListMethod
pop c r vs [] = taken_out c r vs (negsuc 0)
pop c r vs (Word z ∷ []) = taken_out c r vs z
pop c r vs args = bad

abbrev pub list_methods : Covers → List (List ℕ × ListMethod)
list_methods c =
    (codes "append", append)
    ∷ (codes "insert", insert_at)
    ∷ (codes "extend", extend_by c)
    ∷ (codes "reverse", reverse_list)
    ∷ (codes "pop", pop c)
    ∷ []

-- ---- dicts

-- a method of a dict with these pairs
abbrev pub DictMethod : Type 0
DictMethod = List (Value × Value) → List Value → Op

abbrev pub get : DictMethod
get pairs (key ∷ []) = give (unwrap_or (value_at key pairs) Nothing)
get pairs (key ∷ v ∷ []) = give (unwrap_or (value_at key pairs) v)
get pairs args = bad

abbrev pub keys : DictMethod
keys pairs [] = paying (keys_cost (length pairs)) (new_object (Listed (keys_of pairs)))
keys pairs args = bad

abbrev pub values : DictMethod
values pairs [] = paying (keys_cost (length pairs)) (new_object (Listed (map (λ p. p.1) pairs)))
values pairs args = bad

abbrev pub items : DictMethod
items pairs [] = paying (items_cost (length pairs)) (new_object (Listed (map (λ p. tuple (p.0 ∷ p.1 ∷ [])) pairs)))
items pairs args = bad

abbrev pub dict_methods : List (List ℕ × DictMethod)
dict_methods =
    (codes "get", get)
    ∷ (codes "keys", keys)
    ∷ (codes "iterkeys", keys)
    ∷ (codes "values", values)
    ∷ (codes "itervalues", values)
    ∷ (codes "items", items)
    ∷ (codes "iteritems", items)
    ∷ []

-- ---- functions of one value

abbrev pub object_length : Option Object → Op
object_length (Some (Listed vs)) = give (Word (pos (length vs)))
object_length (Some (Mapped pairs)) = give (Word (pos (length pairs)))
object_length other = bad

abbrev pub len : Covers → Value → Op
len c (Text text) = give (Word (pos (length text)))
len c (Tuple vs) = give (Word (pos (length (items_of vs))))
len c (Ref r) = at_object r object_length
len c Nothing = attribute_error c
len c other = bad

abbrev pub ord : Value → Op
ord (Text (b ∷ [])) = give (Word (pos b))
ord other = bad

abbrev pub chr : Covers → Value → Op
chr c (Word (pos n)) = if nat_lt n 256 then give (byte n) else value_error c
chr c (Word (negsuc n)) = value_error c
chr c other = bad

abbrev pub to_text : Value → Op
to_text (Word z) = new_text (signed_decimal z)
to_text (Flag true) = give (Text (codes "True"))
to_text (Flag false) = give (Text (codes "False"))
to_text (Text text) = give (Text text)
to_text other = bad

abbrev pub are_digits : List ℕ → Bool
are_digits [] = false
are_digits (b ∷ bytes) = list_all is_digit (b ∷ bytes)

-- perhaps a sign, and digits whose number is a word
abbrev pub is_number : List ℕ → Bool
is_number text =
    are_digits (without_leading_sign text) && int_eq (wrap (signed_digits_value 10 text)) (signed_digits_value 10 text)

abbrev pub number : List ℕ → Op
number text = if is_number text then give (Word (signed_digits_value 10 text)) else no_number

abbrev pub to_word : Value → Op
to_word (Word z) = give (Word z)
to_word (Flag true) = give (Word (pos 1))
to_word (Flag false) = give (Word (pos 0))
to_word (Text text) = number (trimmed text)
to_word other = bad
