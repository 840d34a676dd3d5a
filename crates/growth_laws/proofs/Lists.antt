-- The lowering of operations on lists only asks for more.
use Rattle.std.proofs.Common.{ℕ, Bool, true, false, ◌&&◌, List, [], ◌∷◌, length, Option, Some, None}
use Rattle.std.specs.Prelude.{negsuc, codes}
use Rattle.std.specs.Str.{bytes_eq}
use Rattle.csub_tree.specs.declared.tree.CBinary.TheVariants.{Lt}
use Rattle.csub_tree.specs.declared.tree.COperand.{COperand}
use Rattle.ll_code.specs.declared.program.LlType.{LlType}
use Rattle.ll_code.specs.declared.program.LlType.TheVariants.{Signed, Bool as Flag, Ptr}
use Rattle.rpy_meaning.specs.declared.row.RowOp.{RowOp}
use Rattle.rpy_meaning.specs.declared.row.RowOp.TheVariants as row
use Rattle.rpy_tree.specs.declared.syntax.BinOp.TheVariants as bin
use Rattle.rpy_tree.specs.declared.syntax.CmpOp.TheVariants as compared
use Rattle.rtyper_data.specs.declared.small.Listed.{Listed as Graph}
use Rattle.rtyper_data.specs.declared.small.Listed.TheVariants as listed
use Rattle.rtyper_data.specs.Numbers.{word}
use Rattle.rtyper_data.specs.Seen.{Around, Operand, Place, type_of, Writing}
use Rattle.list_shape.specs.Shapes.{shape_of}
use Rattle.rtyper_op.specs.Lowering.{is_never}
use Rattle.rtyper_list.specs.Operands.{done_by, give_listed, is_list, is_none, list_at, list_of, there, there_in}
use Rattle.rtyper_list.specs.Displays.{bounds, but_last, but_last_to, comprehension, comprehension_to, concat, concat_to, display, display_of, display_to, items_as, made, repeat, repeat_to, slice, slice_between, slice_of}
use Rattle.rtyper_list.specs.Items.{delete, has_item, index, is_within, len, placed, pop, shape_in, store, walk, walk_item, within}
use Rattle.rtyper_list.specs.Methods.{append, extend, extend_by, extend_if, extended, insert, item_given, join, method, of_one as method_of_one, of_three as method_of_three, of_two as method_of_two, reverse, split, split_to, text_there}
use Rattle.rtyper_list.specs.Lowering.{fails, first_is_list, first_of_one, first_of_three, first_of_two, joined, joins, lower_list_op, lowered, lowered_unless, method_of, method_of_list, method_of_two as any_method_of_two, of_one, of_some, of_three, of_two, other, second_of_two, slice_or, split_by, splits, sum, sum_or, within_or}
use Rattle.growth_laws.specs.Growing.{Grows}
use Rattle.growth_laws.proofs.Growing.{same_found}
use Rattle.growth_laws.proofs.Data.{by_small_grows, give_binary_grows, give_grows, given_grows, if_written, present_grows, then_grows}
use Rattle.growth_laws.proofs.DictGraphs.{listed_grows}
use Rattle.growth_laws.proofs.Operating.{failure_op_grows, lower_op_grows}

-- ---- lists, and calls of their graphs

there_grows : (around : Around) (a : Operand) (w : Writing) → Grows w.found (there around a w).1.found
unfolding there
there_grows around a w = present_grows around a _ w

there_in_grows : (around : Around) (a : Operand) (w : Writing) → Grows w.found (there_in around a w).1.found
unfolding there_in
there_in_grows around a w = there_grows around a w

done_by_grows : (graph : Graph) (xs : List COperand) (w : Writing) → Grows w.found (done_by graph xs w).found
unfolding done_by
done_by_grows graph xs w = listed_grows graph w.found

give_listed_grows : (around : Around) (place : Place) (graph : Graph) (gives : LlType) (xs : List COperand) (w : Writing) → Grows w.found (give_listed around place graph gives xs w).found
unfolding give_listed
give_listed_grows around place graph gives xs w = then_grows (by_small_grows _ _ _ w) (give_grows around place _ gives _)

-- ---- lists that are made

items_as_grow : (around : Around) (t : LlType) (args : List Operand) (w : Writing) → Grows w.found (items_as around t args w).1.found
items_as_grow around t [] w = same_found w.found
items_as_grow around t (a ∷ args) w = then_grows (given_grows around a t w) (items_as_grow around t args _)

made_grows : (r count : ℕ) (w : Writing) → Grows w.found (made r count w).1.found
unfolding made
made_grows r count w = by_small_grows _ _ _ w

display_of_grows : (around : Around) (place : Place) (r : ℕ) (args : List Operand) (w : Writing) → Grows w.found (display_of around place r args w).found
unfolding display_of
display_of_grows around place r args w = then_grows (items_as_grow around (shape_of around.layout r).item args w) (made_grows r (length args) _)

display_to_grows : (around : Around) (place : Place) (args : List Operand) (r : Option ℕ) (w : Writing) → Grows w.found (display_to around place args r w).found
display_to_grows around place args None w = same_found w.found
display_to_grows around place args (Some r) w = display_of_grows around place r args w

display_grows : (around : Around) (place : Place) (args : List Operand) (w : Writing) → Grows w.found (display around place args w).found
unfolding display
display_grows around place args w = display_to_grows around place args (list_at around place) _

comprehension_to_grows : (around : Around) (place : Place) (r : Option ℕ) (w : Writing) → Grows w.found (comprehension_to around place r w).found
comprehension_to_grows around place None w = same_found w.found
comprehension_to_grows around place (Some r) w = give_listed_grows around place _ _ _ w

comprehension_grows : (around : Around) (place : Place) (w : Writing) → Grows w.found (comprehension around place w).found
unfolding comprehension
comprehension_grows around place w = comprehension_to_grows around place (list_at around place) _

concat_to_grows : (around : Around) (place : Place) (a b : Operand) (r : Option ℕ) (w : Writing) → Grows w.found (concat_to around place a b r w).found
concat_to_grows around place a b None w = failure_op_grows around place w
concat_to_grows around place a b (Some r) w = then_grows (there_grows around a w) (then_grows (there_grows around b _) (give_listed_grows around place _ _ _ _))

concat_grows : (around : Around) (place : Place) (a b : Operand) (w : Writing) → Grows w.found (concat around place a b w).found
unfolding concat
concat_grows around place a b w = concat_to_grows around place a b (list_at around place) w

repeat_to_grows : (around : Around) (place : Place) (a : Operand) (times : COperand) (r : Option ℕ) (w : Writing) → Grows w.found (repeat_to around place a times r w).found
repeat_to_grows around place a times None w = failure_op_grows around place w
repeat_to_grows around place a times (Some r) w = then_grows (there_grows around a w) (give_listed_grows around place _ _ _ _)

repeat_grows : (around : Around) (place : Place) (a : Operand) (times : COperand) (w : Writing) → Grows w.found (repeat around place a times w).found
unfolding repeat
repeat_grows around place a times w = repeat_to_grows around place a times (list_at around place) w

slice_between_grows : (around : Around) (place : Place) (a : Operand) (ends : COperand × COperand) (r : Option ℕ) (w : Writing) → Grows w.found (slice_between around place a ends r w).found
slice_between_grows around place a ends None w = failure_op_grows around place w
slice_between_grows around place a ends (Some r) w = then_grows (there_grows around a w) (give_listed_grows around place _ _ _ _)

slice_of_grows : (around : Around) (place : Place) (a : Operand) (ends : COperand × COperand) (w : Writing) → Grows w.found (slice_of around place a ends w).found
unfolding slice_of
slice_of_grows around place a ends w = slice_between_grows around place a ends (list_at around place) w

slice_grows : (around : Around) (place : Place) (low high : Bool) (args : List Operand) (w : Writing) → Grows w.found (slice around place low high args w).found
unfolding slice
slice_grows around place low high [] w = failure_op_grows around place w
slice_grows around place low high (a ∷ args) w = slice_of_grows around place a (bounds low high args) w

but_last_to_grows : (around : Around) (place : Place) (a : Operand) (r : Option ℕ) (w : Writing) → Grows w.found (but_last_to around place a r w).found
but_last_to_grows around place a None w = failure_op_grows around place w
but_last_to_grows around place a (Some r) w = then_grows (there_grows around a w) (give_listed_grows around place _ _ _ _)

but_last_grows : (around : Around) (place : Place) (a : Operand) (w : Writing) → Grows w.found (but_last around place a w).found
unfolding but_last
but_last_grows around place a w = but_last_to_grows around place a (list_at around place) w

-- ---- items, and walks

placed_grows : (list x : ℕ) (index : COperand) (w : Writing) → Grows w.found (placed list x index w).1.found
unfolding placed
placed_grows list x index w = by_small_grows _ _ _ w

index_grows : (around : Around) (place : Place) (a : Operand) (i : COperand) (w : Writing) → Grows w.found (index around place a i w).found
unfolding index
index_grows around place a i w = then_grows (there_in_grows around a w) (then_grows (placed_grows (list_of around a) _ i _) (give_grows around place _ (shape_in around a).item _))

store_grows : (around : Around) (place : Place) (a : Operand) (i : COperand) (c : Operand) (w : Writing) → Grows w.found (store around place a i c w).found
unfolding store
store_grows around place a i c w = then_grows (there_in_grows around a w) (then_grows (placed_grows (list_of around a) _ i _) (then_grows (given_grows around c (shape_in around a).item _) (give_grows around place c.x (type_of around c) _)))

delete_grows : (around : Around) (place : Place) (a : Operand) (i : COperand) (w : Writing) → Grows w.found (delete around place a i w).found
unfolding delete
delete_grows around place a i w = then_grows (there_in_grows around a w) (then_grows (placed_grows (list_of around a) _ i _) (done_by_grows (listed.Remove (list_of around a)) _ _))

pop_grows : (around : Around) (place : Place) (a : Operand) (i : COperand) (w : Writing) → Grows w.found (pop around place a i w).found
unfolding pop
pop_grows around place a i w = then_grows (there_in_grows around a w) (then_grows (placed_grows (list_of around a) _ i _) (then_grows (done_by_grows (listed.Remove (list_of around a)) _ _) (give_grows around place _ (shape_in around a).item _)))

has_item_grows : (around : Around) (place : Place) (a : Operand) (at : COperand) (w : Writing) → Grows w.found (has_item around place a at w).found
unfolding has_item
has_item_grows around place a at w = give_binary_grows around place Lt Flag at _ _

walk_item_grows : (around : Around) (place : Place) (a : Operand) (at : COperand) (w : Writing) → Grows w.found (walk_item around place a at w).found
unfolding walk_item
walk_item_grows around place a at w = give_grows around place _ (shape_in around a).item _

len_grows : (around : Around) (place : Place) (a : Operand) (w : Writing) → Grows w.found (len around place a w).found
unfolding len
len_grows around place a w = then_grows (there_in_grows around a w) (give_grows around place _ Signed _)

walk_grows : (around : Around) (place : Place) (a : Operand) (w : Writing) → Grows w.found (walk around place a w).found
unfolding walk
walk_grows around place a w = then_grows (there_grows around a w) (give_grows around place _ (type_of around a) _)

is_within_grows : (around : Around) (reversed : Bool) (a b : Operand) (w : Writing) → Grows w.found (is_within around reversed a b w).1.found
unfolding is_within
is_within_grows around reversed a b w = then_grows (there_grows around b w) (by_small_grows _ _ _ _)

within_grows : (around : Around) (place : Place) (reversed : Bool) (a b : Operand) (w : Writing) → Grows w.found (within around place reversed a b w).found
unfolding within
within_grows around place reversed a b w = then_grows (is_within_grows around reversed a b w) (give_grows around place _ Flag _)

-- ---- methods

item_given_grows : (around : Around) (a b : Operand) (w : Writing) → Grows w.found (item_given around a b w).1.found
unfolding item_given
item_given_grows around a b w = given_grows around b (shape_in around a).item w

append_grows : (around : Around) (place : Place) (a b : Operand) (w : Writing) → Grows w.found (append around place a b w).found
unfolding append
append_grows around place a b w = then_grows (there_grows around a w) (then_grows (item_given_grows around a b _) (done_by_grows (listed.Append (list_of around a)) _ _))

insert_grows : (around : Around) (place : Place) (a : Operand) (i : COperand) (c : Operand) (w : Writing) → Grows w.found (insert around place a i c w).found
unfolding insert
insert_grows around place a i c w = then_grows (there_grows around a w) (then_grows (item_given_grows around a c _) (done_by_grows (listed.Insert (list_of around a)) _ _))

extended_grows : (around : Around) (place : Place) (a : Operand) (x : COperand) (gives : Bool) (w : Writing) → Grows w.found (extended around place a x gives w).found
extended_grows around place a x true w = give_grows around place x (type_of around a) w
extended_grows around place a x false w = same_found w.found

extend_by_grows : (around : Around) (place : Place) (a : Operand) (x : COperand) (b : Operand) (gives : Bool) (w : Writing) → Grows w.found (extend_by around place a x b gives w).found
unfolding extend_by
extend_by_grows around place a x b gives w = then_grows (there_grows around b w) (then_grows (done_by_grows (listed.Extend (list_of around a) (list_of around b)) _ _) (extended_grows around place a x gives _))

extend_if_grows : (c : Bool) (around : Around) (place : Place) (a : Operand) (x : COperand) (b : Operand) (gives : Bool) (w : Writing) → Grows w.found (extend_if c around place a x b gives w).found
extend_if_grows true around place a x b gives w = extend_by_grows around place a x b gives w
extend_if_grows false around place a x b gives w = failure_op_grows around place w

extend_grows : (around : Around) (place : Place) (a b : Operand) (gives : Bool) (w : Writing) → Grows w.found (extend around place a b gives w).found
unfolding extend
extend_grows around place a b gives w = then_grows (there_grows around a w) (extend_if_grows (is_list b) around place a _ b gives _)

reverse_grows : (around : Around) (place : Place) (a : Operand) (w : Writing) → Grows w.found (reverse around place a w).found
unfolding reverse
reverse_grows around place a w = then_grows (there_grows around a w) (done_by_grows (listed.Reverse (list_of around a)) _ _)

method_of_one_grows : (around : Around) (place : Place) (name : List ℕ) (a : Operand) (w : Writing) → Grows w.found (method_of_one around place name a w).found
unfolding method_of_one
method_of_one_grows around place name a w =
    if_written _ _ (bytes_eq name (codes "pop")) (pop_grows around place a (word (negsuc 0)) w)
    (if_written _ _ (bytes_eq name (codes "reverse")) (reverse_grows around place a w) (same_found w.found))

method_of_two_grows : (around : Around) (place : Place) (name : List ℕ) (a b : Operand) (w : Writing) → Grows w.found (method_of_two around place name a b w).found
unfolding method_of_two
method_of_two_grows around place name a b w =
    if_written _ _ (bytes_eq name (codes "append")) (append_grows around place a b w)
    (if_written _ _ (bytes_eq name (codes "extend")) (extend_grows around place a b false w)
    (if_written _ _ (bytes_eq name (codes "pop")) (pop_grows around place a b.x w) (same_found w.found)))

method_of_three_grows : (around : Around) (place : Place) (name : List ℕ) (a b c : Operand) (w : Writing) → Grows w.found (method_of_three around place name a b c w).found
unfolding method_of_three
method_of_three_grows around place name a b c w = if_written _ _ (bytes_eq name (codes "insert")) (insert_grows around place a b.x c w) (same_found w.found)

method_grows : (around : Around) (place : Place) (name : List ℕ) (args : List Operand) (w : Writing) → Grows w.found (method around place name args w).found
unfolding method
method_grows around place name (a ∷ []) w = method_of_one_grows around place name a w
method_grows around place name (a ∷ b ∷ []) w = method_of_two_grows around place name a b w
method_grows around place name (a ∷ b ∷ c ∷ []) w = method_of_three_grows around place name a b c w
method_grows around place name _ w = same_found w.found

-- ---- strings and lists

join_grows : (around : Around) (place : Place) (a b : Operand) (w : Writing) → Grows w.found (join around place a b w).found
unfolding join
join_grows around place a b w = then_grows (given_grows around a (Ptr 0) w) (then_grows (there_grows around b _) (give_listed_grows around place _ _ _ _))

text_there_grows : (around : Around) (a : Operand) (w : Writing) → Grows w.found (text_there around a w).1.found
unfolding text_there
text_there_grows around a w = then_grows (present_grows around a _ w) (given_grows around _ (Ptr 0) _)

split_to_grows : (around : Around) (place : Place) (a : Operand) (byte : COperand) (r : Option ℕ) (w : Writing) → Grows w.found (split_to around place a byte r w).found
split_to_grows around place a byte None w = failure_op_grows around place w
split_to_grows around place a byte (Some r) w = then_grows (text_there_grows around a w) (give_listed_grows around place _ _ _ _)

split_grows : (around : Around) (place : Place) (a : Operand) (byte : COperand) (w : Writing) → Grows w.found (split around place a byte w).found
unfolding split
split_grows around place a byte w = split_to_grows around place a byte (list_at around place) w

-- ---- by the operands; where no operand is a list, an operation is lowered as others are

method_of_list_grows : (around : Around) (o : RowOp) (place : Place) (name : List ℕ) (args : List Operand) (w : Writing) → Grows w.found (method_of_list around o place name args w).found
unfolding method_of_list
method_of_list_grows around o place name args w = if_written _ _ (first_is_list args) (method_grows around place name args w) (lower_op_grows around o place args w)

joined_grows : (around : Around) (o : RowOp) (place : Place) (a b : Operand) (w : Writing) → Grows w.found (joined around o place a b w).found
unfolding joined
joined_grows around o place a b w = if_written _ _ (joins a b) (join_grows around place a b w) (lower_op_grows around o place (a ∷ b ∷ []) w)

split_by_grows : (around : Around) (o : RowOp) (place : Place) (a b : Operand) (w : Writing) → Grows w.found (split_by around o place a b w).found
unfolding split_by
split_by_grows around o place a b w = if_written _ _ (splits a b) (split_grows around place a b.x w) (lower_op_grows around o place (a ∷ b ∷ []) w)

any_method_of_two_grows : (around : Around) (o : RowOp) (place : Place) (name : List ℕ) (a b : Operand) (w : Writing) → Grows w.found (any_method_of_two around o place name a b w).found
unfolding any_method_of_two
any_method_of_two_grows around o place name a b w =
    if_written _ _ (bytes_eq name (codes "join")) (joined_grows around o place a b w)
    (if_written _ _ (bytes_eq name (codes "split")) (split_by_grows around o place a b w) (method_of_list_grows around o place name (a ∷ b ∷ []) w))

method_of_grows : (around : Around) (o : RowOp) (place : Place) (name : List ℕ) (args : List Operand) (w : Writing) → Grows w.found (method_of around o place name args w).found
unfolding method_of
method_of_grows around o place name (a ∷ b ∷ []) w = any_method_of_two_grows around o place name a b w
method_of_grows around o place name args w = method_of_list_grows around o place name args w

first_of_one_grows : (around : Around) (o : RowOp) (place : Place) (a : Operand) (w : Writing) → Grows w.found (first_of_one around o place a w).found
unfolding first_of_one
first_of_one_grows around row.Len place a w = len_grows around place a w
first_of_one_grows around (row.AllButLast site) place a w = but_last_grows around place a w
first_of_one_grows around (row.Walk site) place a w = walk_grows around place a w
first_of_one_grows around o place a w = lower_op_grows around o place (a ∷ []) w

sum_grows : (around : Around) (place : Place) (a b : Operand) (w : Writing) → Grows w.found (sum around place a b w).found
unfolding sum
sum_grows around place a b w = if_written _ _ (is_list a && is_list b) (concat_grows around place a b w) (failure_op_grows around place w)

within_or_grows : (around : Around) (o : RowOp) (place : Place) (reversed : Bool) (a b : Operand) (w : Writing) → Grows w.found (within_or around o place reversed a b w).found
unfolding within_or
within_or_grows around o place reversed a b w = if_written _ _ (is_list b) (within_grows around place reversed a b w) (lower_op_grows around o place (a ∷ b ∷ []) w)

sum_or_grows : (around : Around) (o : RowOp) (place : Place) (a b : Operand) (w : Writing) → Grows w.found (sum_or around o place a b w).found
unfolding sum_or
sum_or_grows around o place a b w = if_written _ _ (is_list b && is_none a) (failure_op_grows around place w) (lower_op_grows around o place (a ∷ b ∷ []) w)

second_of_two_grows : (around : Around) (o : RowOp) (place : Place) (a b : Operand) (w : Writing) → Grows w.found (second_of_two around o place a b w).found
unfolding second_of_two
second_of_two_grows around (row.Compare compared.Within) place a b w = within_or_grows around (row.Compare compared.Within) place false a b w
second_of_two_grows around (row.Compare compared.NotWithin) place a b w = within_or_grows around (row.Compare compared.NotWithin) place true a b w
second_of_two_grows around (row.Binary bin.Add site) place a b w = sum_or_grows around (row.Binary bin.Add site) place a b w
second_of_two_grows around row.AddTo place a b w = sum_or_grows around row.AddTo place a b w
second_of_two_grows around o place a b w = lower_op_grows around o place (a ∷ b ∷ []) w

first_of_two_grows : (around : Around) (o : RowOp) (place : Place) (a b : Operand) (w : Writing) → Grows w.found (first_of_two around o place a b w).found
unfolding first_of_two
first_of_two_grows around (row.Index i) place a b w = index_grows around place a b.x w
first_of_two_grows around row.DeleteIndex place a b w = delete_grows around place a b.x w
first_of_two_grows around (row.Binary bin.Add site) place a b w = sum_grows around place a b w
first_of_two_grows around (row.Binary bin.Mul site) place a b w = repeat_grows around place a b.x w
first_of_two_grows around row.AddTo place a b w = extend_grows around place a b true w
first_of_two_grows around row.AddItem place a b w = append_grows around place a b w
first_of_two_grows around (row.HasItem None) place a b w = has_item_grows around place a b.x w
first_of_two_grows around (row.Item None) place a b w = walk_item_grows around place a b.x w
first_of_two_grows around o place a b w = second_of_two_grows around o place a b w

of_two_grows : (around : Around) (o : RowOp) (place : Place) (a b : Operand) (w : Writing) → Grows w.found (of_two around o place a b w).found
unfolding of_two
of_two_grows around o place a b w = if_written _ _ (is_list a) (first_of_two_grows around o place a b w) (second_of_two_grows around o place a b w)

of_one_grows : (around : Around) (o : RowOp) (place : Place) (a : Operand) (w : Writing) → Grows w.found (of_one around o place a w).found
unfolding of_one
of_one_grows around o place a w = if_written _ _ (is_list a) (first_of_one_grows around o place a w) (lower_op_grows around o place (a ∷ []) w)

first_of_three_grows : (around : Around) (o : RowOp) (place : Place) (a b c : Operand) (w : Writing) → Grows w.found (first_of_three around o place a b c w).found
unfolding first_of_three
first_of_three_grows around row.StoreIndex place a b c w = store_grows around place a b.x c w
first_of_three_grows around o place a b c w = lower_op_grows around o place (a ∷ b ∷ c ∷ []) w

of_three_grows : (around : Around) (o : RowOp) (place : Place) (a b c : Operand) (w : Writing) → Grows w.found (of_three around o place a b c w).found
unfolding of_three
of_three_grows around o place a b c w = if_written _ _ (is_list a) (first_of_three_grows around o place a b c w) (lower_op_grows around o place (a ∷ b ∷ c ∷ []) w)

other_grows : (around : Around) (o : RowOp) (place : Place) (args : List Operand) (w : Writing) → Grows w.found (other around o place args w).found
unfolding other
other_grows around o place args w = lower_op_grows around o place args w

of_some_grows : (around : Around) (o : RowOp) (place : Place) (args : List Operand) (w : Writing) → Grows w.found (of_some around o place args w).found
unfolding of_some
of_some_grows around o place (a ∷ []) w = of_one_grows around o place a w
of_some_grows around o place (a ∷ b ∷ []) w = of_two_grows around o place a b w
of_some_grows around o place (a ∷ b ∷ c ∷ []) w = of_three_grows around o place a b c w
of_some_grows around o place args w = other_grows around o place args w

slice_or_grows : (around : Around) (o : RowOp) (place : Place) (low high : Bool) (args : List Operand) (w : Writing) → Grows w.found (slice_or around o place low high args w).found
unfolding slice_or
slice_or_grows around o place low high args w = if_written _ _ (first_is_list args) (slice_grows around place low high args w) (lower_op_grows around o place args w)

lowered_grows : (around : Around) (o : RowOp) (place : Place) (args : List Operand) (w : Writing) → Grows w.found (lowered around o place args w).found
unfolding lowered
lowered_grows around (row.List site) place args w = display_grows around place args w
lowered_grows around (row.Comprehension site) place args w = comprehension_grows around place w
lowered_grows around (row.Method name site) place args w = method_of_grows around (row.Method name site) place name args w
lowered_grows around (row.Slice site low high) place args w = slice_or_grows around (row.Slice site low high) place low high args w
lowered_grows around o place args w = of_some_grows around o place args w

lowered_unless_grows : (c : Bool) (around : Around) (o : RowOp) (place : Place) (args : List Operand) (w : Writing) → Grows w.found (lowered_unless c around o place args w).found
lowered_unless_grows true around o place args w = failure_op_grows around place w
lowered_unless_grows false around o place args w = lowered_grows around o place args w

pub lower_list_op_grows : (around : Around) (o : RowOp) (place : Place) (args : List Operand) (w : Writing) → Grows w.found (lower_list_op around o place args w).found
lower_list_op_grows around o place args w = if_written _ _ (is_never args) (lower_op_grows around o place args w) (lowered_unless_grows (fails o args) around o place args w)
