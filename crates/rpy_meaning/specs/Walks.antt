-- Walks over strings, lists, dicts and ranges. A walk over a value has the value and a place, so items that are added meanwhile are seen;
-- one over a range, by its step, has the end and the next number.
use Rattle.std.specs.Prelude.{ℕ, ℤ, pos, ◌+ℤ◌, int_lt, nat_lt, Bool, List, length, map, slice_get, Option, Some, None, if◌then◌else◌}
use Rattle.rpy_tree.specs.Value.{Value, Word, Text, Nothing, Ref, Object, Listed, Mapped}
use Rattle.rpy_meaning.specs.declared.row.Covers.{Covers}
use Rattle.rpy_meaning.specs.Costs.{keys_cost}
use Rattle.rpy_meaning.specs.World.{Op, bad, give, flag, paying, new_object, at_object, with_list, attribute_error, if_some}
use Rattle.rpy_meaning.specs.Sequences.{byte}

abbrev pub keys_of : List (Value × Value) → List Value
keys_of pairs = map (λ p. p.0) pairs

abbrev pub walk_object : ℕ → Option Object → Op
walk_object r (Some (Listed vs)) = give (Ref r)
walk_object r (Some (Mapped pairs)) = paying (keys_cost (length pairs)) (new_object (Listed (keys_of pairs)))
walk_object r other = bad

-- what is walked: of a dict the list of its keys
abbrev pub walk : Covers → Value → Op
walk c (Text bytes) = give (Text bytes)
walk c (Ref r) = at_object r (walk_object r)
walk c Nothing = attribute_error c
walk c other = bad

-- whether a number is before the end of a range
abbrev pub is_before : ℤ → ℤ → ℤ → Bool
is_before step end i = if int_lt (pos 0) step then int_lt i end else int_lt end i

-- the next number of a range, or its end where that comes first
abbrev pub next_number : ℤ → ℤ → ℤ → ℤ
next_number step end i = if is_before step end (i +ℤ step) then i +ℤ step else end

abbrev pub has_item : Option ℤ → Value → Value → Op
has_item None (Text bytes) (Word (pos i)) = flag (nat_lt i (length bytes))
has_item None (Ref r) (Word (pos i)) = with_list r (λ vs. flag (nat_lt i (length vs)))
has_item (Some step) (Word end) (Word i) = flag (is_before step end i)
has_item step x y = bad

abbrev pub item : Option ℤ → Value → Value → Op
item None (Text bytes) (Word (pos i)) = if_some bad (slice_get bytes i) (λ b. give (byte b))
item None (Ref r) (Word (pos i)) = with_list r (λ vs. if_some bad (slice_get vs i) give)
item (Some step) end i = give i
item step x y = bad

abbrev pub advance : Option ℤ → Value → Value → Op
advance None x (Word i) = give (Word (i +ℤ pos 1))
advance (Some step) (Word end) (Word i) = give (Word (next_number step end i))
advance step x y = bad
