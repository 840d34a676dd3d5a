-- Operations on strings, lists, dicts and tuples.
use Rattle.std.specs.Prelude.{ℕ, ◌-◌, ◌*◌, suc, ℤ, pos, negsuc, int_le, nat_abs, nat_lt, Bool, true, false, ◌&&◌, List, [], ◌∷◌, ◌++◌, length, take, drop, slice_get, slice_set, remove, Option, Some, None, option_and_then, if◌then◌else◌}
use Rattle.std.specs.List.{repeat, list_any}
use Rattle.rpy_tree.specs.declared.syntax.BinOp.{BinOp}
use Rattle.rpy_tree.specs.declared.syntax.BinOp.TheVariants.{Add, Mul}
use Rattle.rpy_tree.specs.Value.{Value, Word, Text, Nothing, Tuple, Ref, Values, none, more, Object, Listed, Mapped}
use Rattle.rpy_meaning.specs.declared.row.Covers.{Covers}
use Rattle.rpy_meaning.specs.Costs.{text_cost, list_cost, tuple_cost, extend_cost, key_cost}
use Rattle.rpy_meaning.specs.World.{new_object, Op, bad, give, paying, set_object, at_object, with_list, new_text, new_list, index_error, attribute_error, negative_slice, no_key, if_some}
use Rattle.rpy_meaning.specs.Compare.{is_equal, is_among}
use Rattle.rpy_meaning.specs.Arithmetic.{word, on_word, on_words, arithmetic}

-- ---- tuples

abbrev pub parts_of : List Value → Values
parts_of [] = none
parts_of (v ∷ vs) = more v (parts_of vs)

abbrev pub items_of : Values → List Value
items_of none = []
items_of (more v vs) = v ∷ items_of vs

abbrev pub tuple : List Value → Value
tuple vs = Tuple (parts_of vs)

abbrev pub new_tuple : List Value → Op
new_tuple vs = paying tuple_cost (give (tuple vs))

-- ---- pairs of keys and values

abbrev pub has_key : Value → List (Value × Value) → Bool
has_key key pairs = list_any (λ p. is_equal p.0 key) pairs

abbrev pub value_at : Value → List (Value × Value) → Option Value
value_at key [] = None
value_at key (p ∷ pairs) = if is_equal p.0 key then Some p.1 else value_at key pairs

-- a key that is there keeps its place, and a new one goes last
abbrev pub with_key : Value → Value → List (Value × Value) → List (Value × Value)
with_key key v [] = (key, v) ∷ []
with_key key v (p ∷ pairs) = if is_equal p.0 key then (p.0, v) ∷ pairs else p ∷ with_key key v pairs

abbrev pub without_key : Value → List (Value × Value) → List (Value × Value)
without_key key [] = []
without_key key (p ∷ pairs) = if is_equal p.0 key then pairs else p ∷ without_key key pairs

-- ---- places

-- a place below zero has the length added once; outside there is none
abbrev pub place : ℤ → ℕ → Option ℕ
place (pos i) n = if nat_lt i n then Some i else None
place (negsuc i) n = if nat_lt i n then Some (n - suc i) else None

abbrev pub item_at : {A : Type 0} → ℤ → List A → Option A
item_at z xs = option_and_then (slice_get xs) (place z (length xs))

-- a string of one byte
abbrev pub byte : ℕ → Value
byte b = Text (b ∷ [])

abbrev pub index_object : Covers → Value → Option Object → Op
index_object c i (Some (Listed vs)) = on_word (λ z. if_some (index_error c) (item_at z vs) give) i
index_object c key (Some (Mapped pairs)) = if_some no_key (value_at key pairs) give
index_object c i other = bad

abbrev pub index : Covers → Value → Value → Op
index c (Text bytes) i = on_word (λ z. if_some (index_error c) (item_at z bytes) (λ b. give (byte b))) i
index c (Ref r) i = at_object r (index_object c i)
index c (Tuple vs) i = on_word (λ z. if_some bad (item_at z (items_of vs)) give) i
index c Nothing i = attribute_error c
index c other i = bad

abbrev pub store_object : Covers → ℕ → Value → Value → Option Object → Op
store_object c r i v (Some (Listed vs)) =
    on_word (λ z. if_some (index_error c) (place z (length vs)) (λ k. set_object r (Listed (slice_set vs k v)) v)) i
store_object c r key v (Some (Mapped pairs)) =
    paying (if has_key key pairs then 0 else key_cost) (set_object r (Mapped (with_key key v pairs)) v)
store_object c r i v other = bad

abbrev pub store_index : Covers → Value → Value → Value → Op
store_index c (Ref r) i v = at_object r (store_object c r i v)
store_index c Nothing i v = attribute_error c
store_index c other i v = bad

abbrev pub delete_object : Covers → ℕ → Value → Option Object → Op
delete_object c r i (Some (Listed vs)) =
    on_word (λ z. if_some (index_error c) (place z (length vs)) (λ k. set_object r (Listed (remove vs k)) Nothing)) i
delete_object c r key (Some (Mapped pairs)) =
    if has_key key pairs then set_object r (Mapped (without_key key pairs)) Nothing else no_key
delete_object c r i other = bad

abbrev pub delete_index : Covers → Value → Value → Op
delete_index c (Ref r) i = at_object r (delete_object c r i)
delete_index c Nothing i = attribute_error c
delete_index c other i = bad

-- ---- slices

-- a bound that is there is not below zero
abbrev pub is_bound : Option ℤ → Bool
is_bound None = true
is_bound (Some z) = int_le (pos 0) z

-- which items of a sequence are in a slice
abbrev pub Cut : Type 1
Cut = (A : Type 0) → List A → List A

-- a bound past the end is cut there
abbrev pub before : Option ℤ → Cut
before None A xs = xs
before (Some z) A xs = take (nat_abs z) xs

abbrev pub after : Option ℤ → Cut
after None A xs = xs
after (Some z) A xs = drop (nat_abs z) xs

abbrev pub between : Option ℤ → Option ℤ → Cut
between low high A xs = after low A (before high A xs)

abbrev pub but_last : Cut
but_last A xs = take (length xs - 1) xs

-- the slice of a string or list
abbrev pub part : Covers → Cut → Value → Op
part c cut (Text bytes) = new_text (cut ℕ bytes)
part c cut (Ref r) = with_list r (λ vs. new_list (cut Value vs))
part c cut Nothing = attribute_error c
part c cut other = bad

abbrev pub part_between : Covers → Option ℤ → Option ℤ → Value → Op
part_between c low high Nothing = attribute_error c
part_between c low high x = if is_bound low && is_bound high then part c (between low high) x else negative_slice

-- a container and the bounds that are there
abbrev pub slice : Covers → Bool → Bool → List Value → Op
slice c false false (x ∷ []) = part_between c None None x
slice c true false (x ∷ Word a ∷ []) = part_between c (Some a) None x
slice c false true (x ∷ Word b ∷ []) = part_between c None (Some b) x
slice c true true (x ∷ Word a ∷ Word b ∷ []) = part_between c (Some a) (Some b) x
slice c low high other = bad

abbrev pub all_but_last : Covers → Value → Op
all_but_last c = part c but_last

-- ---- sums and products

abbrev pub count : ℤ → ℕ
count (pos n) = n
count (negsuc n) = 0

abbrev pub plus : Covers → Value → Value → Op
plus c (Text a) (Text b) = new_text (a ++ b)
plus c (Ref r) (Ref s) = with_list r (λ vs. with_list s (λ us. new_list (vs ++ us)))
plus c (Word a) (Word b) = arithmetic c word Add a b
plus c Nothing y = attribute_error c
plus c x Nothing = attribute_error c
plus c x y = bad

abbrev pub times : Covers → Value → Value → Op
times c (Text bytes) (Word n) = paying (text_cost (length bytes * count n)) (give (Text (repeat (count n) bytes)))
times c (Ref r) (Word n) = with_list r (λ vs. paying (list_cost (length vs * count n)) (new_object (Listed (repeat (count n) vs))))
times c (Word a) (Word b) = arithmetic c word Mul a b
times c Nothing y = attribute_error c
times c x y = bad

abbrev pub binary : Covers → BinOp → Value → Value → Op
binary c Add = plus c
binary c Mul = times c
binary c op = on_words (arithmetic c word op)

-- a list grows in its place
abbrev pub extend : ℕ → ℕ → Value → Op
extend r s v = with_list r (λ vs. with_list s (λ us. paying (extend_cost (length us)) (set_object r (Listed (vs ++ us)) v)))

abbrev pub add_to : Covers → Value → Value → Op
add_to c (Ref r) (Ref s) = extend r s (Ref r)
add_to c x y = plus c x y

-- ---- items

abbrev pub is_in_object : Value → Option Object → Option Bool
is_in_object v (Some (Listed vs)) = Some (is_among v vs)
is_in_object key (Some (Mapped pairs)) = Some (has_key key pairs)
is_in_object v other = None
