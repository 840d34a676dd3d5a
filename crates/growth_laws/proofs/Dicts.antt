-- The lowering of operations on dicts only asks for more.
use Rattle.std.proofs.Common.{ℕ, Bool, List, [], ◌∷◌, Option, Some, None}
use Rattle.std.specs.Prelude.{codes}
use Rattle.std.specs.Str.{bytes_eq}
use Rattle.csub_tree.specs.declared.tree.COperand.{COperand}
use Rattle.ll_code.specs.declared.program.LlType.{LlType}
use Rattle.ll_code.specs.declared.program.LlType.TheVariants as type
use Rattle.rpy_tree.specs.declared.syntax.CmpOp.{CmpOp}
use Rattle.rpy_meaning.specs.declared.row.RowOp.{RowOp}
use Rattle.rpy_meaning.specs.declared.row.RowOp.TheVariants as row
use Rattle.rtyper_data.specs.declared.small.Keyed.{Keyed as Graph}
use Rattle.rtyper_data.specs.declared.small.Keyed.TheVariants as keyed
use Rattle.rtyper_data.specs.Seen.{Around, Operand, Place, type_of, type_at, Writing}
use Rattle.rtyper_dict.specs.declared.parts.DictShape.{DictShape}
use Rattle.rtyper_dict.specs.Operands.{dict_of, done_by, entry_in, key_in, list_at, there, value_in}
use Rattle.rtyper_dict.specs.Lowering.{compare, delete, display, display_to, get, get_as, get_if, get_to, index, is_there, is_reversed, len, list, list_if, list_named, list_to, lower_dict_op, method_of_one, of_dict, of_dict_or, of_first, of_one, of_second, of_three, of_two, other_value, store, within, within_or}
use Rattle.growth_laws.specs.Growing.{Grows}
use Rattle.growth_laws.proofs.Growing.{same_found}
use Rattle.growth_laws.proofs.Data.{by_small_grows, give_grows, given_grows, if_written, present_grows, then_grows}
use Rattle.growth_laws.proofs.DictGraphs.{keyed_grows}
use Rattle.growth_laws.proofs.Operating.{failure_op_grows}

-- ---- dicts, keys and values

there_grows : (around : Around) (a : Operand) (w : Writing) → Grows w.found (there around a w).1.found
unfolding there
there_grows around a w = present_grows around a _ w

key_in_grows : (around : Around) (d : DictShape) (b : Operand) (w : Writing) → Grows w.found (key_in around d b w).1.found
unfolding key_in
key_in_grows around d b w = given_grows around b d.key w

value_in_grows : (around : Around) (d : DictShape) (c : Operand) (w : Writing) → Grows w.found (value_in around d c w).1.found
unfolding value_in
value_in_grows around d c w = given_grows around c d.value w

done_by_grows : (graph : Graph) (xs : List COperand) (w : Writing) → Grows w.found (done_by graph xs w).found
unfolding done_by
done_by_grows graph xs w = keyed_grows graph w.found

entry_in_grows : (around : Around) (d : DictShape) (a b : Operand) (graph : Graph) (w : Writing) → Grows w.found (entry_in around d a b graph w).1.found
unfolding entry_in
entry_in_grows around d a b graph w = then_grows (there_grows around a w) (then_grows (key_in_grows around d b _) (by_small_grows _ _ _ _))

-- ---- operations

display_to_grows : (around : Around) (place : Place) (t : LlType) (w : Writing) → Grows w.found (display_to around place t w).found
display_to_grows around place (type.Ptr n) w = by_small_grows _ _ _ w
display_to_grows around place _ w = same_found w.found

display_grows : (around : Around) (place : Place) (w : Writing) → Grows w.found (display around place w).found
unfolding display
display_grows around place w = display_to_grows around place (type_at around place) _

index_grows : (around : Around) (place : Place) (d : DictShape) (a b : Operand) (w : Writing) → Grows w.found (index around place d a b w).found
unfolding index
index_grows around place d a b w = then_grows (entry_in_grows around d a b (keyed.Entry d.dict) w) (then_grows (by_small_grows _ _ _ _) (give_grows around place _ d.value _))

store_grows : (around : Around) (place : Place) (d : DictShape) (a b c : Operand) (w : Writing) → Grows w.found (store around place d a b c w).found
unfolding store
store_grows around place d a b c w = then_grows (there_grows around a w) (then_grows (key_in_grows around d b _) (then_grows (value_in_grows around d c _) (then_grows (done_by_grows (keyed.Store d.dict) _ _) (give_grows around place c.x (type_of around c) _))))

delete_grows : (around : Around) (place : Place) (d : DictShape) (a b : Operand) (w : Writing) → Grows w.found (delete around place d a b w).found
unfolding delete
delete_grows around place d a b w = then_grows (entry_in_grows around d a b (keyed.Entry d.dict) w) (done_by_grows (keyed.Remove d.dict) _ _)

is_there_grows : (around : Around) (d : DictShape) (reversed : Bool) (a b : Operand) (w : Writing) → Grows w.found (is_there around d reversed a b w).1.found
unfolding is_there
is_there_grows around d reversed a b w = entry_in_grows around d b a (keyed.Find d.dict) w

within_grows : (around : Around) (place : Place) (d : DictShape) (reversed : Bool) (a b : Operand) (w : Writing) → Grows w.found (within around place d reversed a b w).found
unfolding within
within_grows around place d reversed a b w = then_grows (is_there_grows around d reversed a b w) (give_grows around place _ type.Bool _)

len_grows : (around : Around) (place : Place) (d : DictShape) (a : Operand) (w : Writing) → Grows w.found (len around place d a w).found
unfolding len
len_grows around place d a w = then_grows (there_grows around a w) (give_grows around place _ type.Signed _)

other_value_grows : (around : Around) (kind : LlType) (other : Option Operand) (w : Writing) → Grows w.found (other_value around kind other w).1.found
other_value_grows around kind None w = same_found w.found
other_value_grows around kind (Some c) w = given_grows around c kind w

get_as_grows : (around : Around) (place : Place) (d : DictShape) (x : COperand) (b : Operand) (other : Option Operand) (kind : LlType) (w : Writing) → Grows w.found (get_as around place d x b other kind w).found
unfolding get_as
get_as_grows around place d x b other kind w = then_grows (key_in_grows around d b w) (then_grows (other_value_grows around kind other _) (by_small_grows _ _ _ _))

get_to_grows : (around : Around) (place : Place) (d : DictShape) (x : COperand) (b : Operand) (other : Option Operand) (kind : LlType) (w : Writing) → Grows w.found (get_to around place d x b other kind w).found
get_to_grows around place d x b other type.Void w = same_found w.found
get_to_grows around place d x b other kind w = get_as_grows around place d x b other kind w

get_grows : (around : Around) (place : Place) (d : DictShape) (a b : Operand) (other : Option Operand) (w : Writing) → Grows w.found (get around place d a b other w).found
unfolding get
get_grows around place d a b other w = then_grows (there_grows around a w) (get_to_grows around place d _ b other (type_at around place) _)

list_to_grows : (around : Around) (place : Place) (graph : Graph) (x : COperand) (t : LlType) (w : Writing) → Grows w.found (list_to around place graph x t w).found
list_to_grows around place graph x (type.Ptr n) w = by_small_grows _ _ _ w
list_to_grows around place graph x _ w = same_found w.found

list_grows : (around : Around) (place : Place) (graph : Graph) (a : Operand) (w : Writing) → Grows w.found (list around place graph a w).found
unfolding list
list_grows around place graph a w = then_grows (there_grows around a w) (list_to_grows around place graph _ (type_at around place) _)

-- ---- by the operands

list_if_grows : (around : Around) (place : Place) (graph : Option Graph) (a : Operand) (w : Writing) → Grows w.found (list_if around place graph a w).found
list_if_grows around place None a w = same_found w.found
list_if_grows around place (Some graph) a w = list_grows around place graph a w

method_of_one_grows : (around : Around) (place : Place) (d : DictShape) (name : List ℕ) (a : Operand) (w : Writing) → Grows w.found (method_of_one around place d name a w).found
unfolding method_of_one
method_of_one_grows around place d name a w = list_if_grows around place (list_named name d.dict (list_at around place)) a w

get_if_grows : (around : Around) (place : Place) (d : DictShape) (name : List ℕ) (a b : Operand) (other : Option Operand) (w : Writing) → Grows w.found (get_if around place d name a b other w).found
unfolding get_if
get_if_grows around place d name a b other w = if_written (get around place d a b other w) w (bytes_eq name (codes "get")) (get_grows around place d a b other w) (same_found w.found)

of_one_grows : (around : Around) (o : RowOp) (place : Place) (d : DictShape) (a : Operand) (w : Writing) → Grows w.found (of_one around o place d a w).found
unfolding of_one
of_one_grows around row.Len place d a w = len_grows around place d a w
of_one_grows around (row.Walk site) place d a w = list_grows around place (keyed.Keys d.dict (list_at around place)) a w
of_one_grows around (row.Method name site) place d a w = method_of_one_grows around place d name a w
of_one_grows around _ place d a w = same_found w.found

of_two_grows : (around : Around) (o : RowOp) (place : Place) (d : DictShape) (a b : Operand) (w : Writing) → Grows w.found (of_two around o place d a b w).found
unfolding of_two
of_two_grows around (row.Index i) place d a b w = index_grows around place d a b w
of_two_grows around row.DeleteIndex place d a b w = delete_grows around place d a b w
of_two_grows around (row.Method name site) place d a b w = get_if_grows around place d name a b None w
of_two_grows around _ place d a b w = same_found w.found

of_three_grows : (around : Around) (o : RowOp) (place : Place) (d : DictShape) (a b c : Operand) (w : Writing) → Grows w.found (of_three around o place d a b c w).found
unfolding of_three
of_three_grows around row.StoreIndex place d a b c w = store_grows around place d a b c w
of_three_grows around (row.Method name site) place d a b c w = get_if_grows around place d name a b (Some c) w
of_three_grows around _ place d a b c w = same_found w.found

of_dict_grows : (around : Around) (o : RowOp) (place : Place) (d : DictShape) (args : List Operand) (w : Writing) → Grows w.found (of_dict around o place d args w).found
unfolding of_dict
of_dict_grows around o place d (a ∷ []) w = of_one_grows around o place d a w
of_dict_grows around o place d (a ∷ b ∷ []) w = of_two_grows around o place d a b w
of_dict_grows around o place d (a ∷ b ∷ c ∷ []) w = of_three_grows around o place d a b c w
of_dict_grows around o place d _ w = same_found w.found

of_dict_or_grows : (around : Around) (o : RowOp) (place : Place) (d : Option DictShape) (args : List Operand) (w : Writing) → Grows w.found (of_dict_or around o place d args w).found
of_dict_or_grows around o place None args w = failure_op_grows around place w
of_dict_or_grows around o place (Some d) args w = of_dict_grows around o place d args w

of_first_grows : (around : Around) (o : RowOp) (place : Place) (args : List Operand) (w : Writing) → Grows w.found (of_first around o place args w).found
unfolding of_first
of_first_grows around o place [] w = same_found w.found
of_first_grows around o place (a ∷ args) w = of_dict_or_grows around o place (dict_of around a) (a ∷ args) w

within_or_grows : (around : Around) (place : Place) (d : Option DictShape) (reversed : Bool) (a b : Operand) (w : Writing) → Grows w.found (within_or around place d reversed a b w).found
within_or_grows around place None reversed a b w = failure_op_grows around place w
within_or_grows around place (Some d) reversed a b w = within_grows around place d reversed a b w

of_second_grows : (around : Around) (c : CmpOp) (place : Place) (a b : Operand) (w : Writing) → Grows w.found (of_second around c place a b w).found
unfolding of_second
of_second_grows around c place a b w = within_or_grows around place (dict_of around b) (is_reversed c) a b w

compare_grows : (around : Around) (o : RowOp) (c : CmpOp) (place : Place) (args : List Operand) (w : Writing) → Grows w.found (compare around o c place args w).found
unfolding compare
compare_grows around o c place (a ∷ b ∷ []) w = of_second_grows around c place a b w
compare_grows around o c place args w = of_first_grows around o place args w

pub lower_dict_op_grows : (around : Around) (o : RowOp) (place : Place) (args : List Operand) (w : Writing) → Grows w.found (lower_dict_op around o place args w).found
unfolding lower_dict_op
lower_dict_op_grows around (row.Dict site) place args w = display_grows around place w
lower_dict_op_grows around (row.Compare c) place args w = compare_grows around (row.Compare c) c place args w
lower_dict_op_grows around o place args w = of_first_grows around o place args w
