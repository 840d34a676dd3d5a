-- The lowering of operations on instances and function values only asks for more.
use Rattle.std.proofs.Common.{ℕ, Bool, List, [], ◌∷◌, slice_get, Option, Some, None}
use Rattle.std.specs.Prelude.{nat_lt}
use Rattle.csub_tree.specs.declared.tree.COperand.{COperand}
use Rattle.ll_code.specs.declared.program.LlType.{LlType}
use Rattle.ll_code.specs.declared.program.LlType.TheVariants as type
use Rattle.ll_code.specs.declared.program.LlOp.TheVariants as op
use Rattle.rpy_meaning.specs.declared.row.RowOp.{RowOp}
use Rattle.rpy_meaning.specs.declared.row.RowOp.TheVariants as row
use Rattle.class_desc.specs.Line.{init}
use Rattle.class_desc.specs.Range.{range}
use Rattle.rtyper_layout.specs.declared.classes.Laid.{Laid}
use Rattle.rtyper_layout.specs.Types.{type_of as type_of_element, type_seen}
use Rattle.rtyper_data.specs.declared.body.Body.{Body}
use Rattle.rtyper_data.specs.declared.found.Found.{Found}
use Rattle.rtyper_data.specs.declared.small.Small.TheVariants as small
use Rattle.rtyper_data.specs.Converting.{landing}
use Rattle.rtyper_data.specs.Seen.{Around, Operand, Place, type_of, Writing}
use Rattle.rtyper_op.specs.Lowering.{is_never}
use Rattle.rtyper_class.specs.declared.call.Reached.{Reached}
use Rattle.rtyper_class.specs.declared.call.Reached.TheVariants as reached
use Rattle.rtyper_class.specs.Attributes.{Standing, place_in, read, read_as, read_at, store, store_at, store_value}
use Rattle.rtyper_class.specs.Calls.{by_vtable, call_init, call_one_of, call_value, indirect, indirect_giving, init_if, method, method_by, new, new_by, new_into, new_of, param_types, raise, reached_by, through}
use Rattle.rtyper_class.specs.Lowering.{attribute, attribute_of, functions_of, instance_of, is_instance, is_instance_by, is_instance_on, lower_class_op, lowered, method_of, method_on, of_one, of_some, of_two, other, raise_on, set_attribute, set_attribute_of, value_call, value_call_of}
use Rattle.rtyper_class.specs.Seen.{World, laid}
use Rattle.growth_laws.specs.Growing.{Grows}
use Rattle.growth_laws.proofs.Growing.{same_found, smalls_grow}
use Rattle.growth_laws.proofs.Data.{by_small_grows, give_grows, given_grows, if_written, landed_grows, present_grows, then_grows}
use Rattle.growth_laws.proofs.Lists.{lower_list_op_grows}
use Rattle.growth_laws.proofs.Operating.{arguments_grows, call_grows, failure_op_grows}

-- ---- attributes

read_as_grows : (world : World) (place : Place) (at : Standing) (t : LlType) (x : COperand × Writing) → Grows x.1.found (read_as world place at t x).found
read_as_grows world place at type.Void x = failure_op_grows world.around place x.1
read_as_grows world place at kind x = then_grows (by_small_grows _ _ _ x.1) (give_grows world.around place _ kind _)

read_at_grows : (world : World) (place : Place) (at : Option Standing) (x : COperand × Writing) → Grows x.1.found (read_at world place at x).found
read_at_grows world place None x = same_found x.1.found
read_at_grows world place (Some at) x = read_as_grows world place at (type_of_element world.around.layout at.element) x

read_grows : (world : World) (place : Place) (name : List ℕ) (a : Operand) (class : ℕ) (or_none : Bool) (w : Writing) → Grows w.found (read world place name a class or_none w).found
unfolding read
read_grows world place name a class or_none w = then_grows (present_grows world.around a or_none w) (read_at_grows world place (place_in world class name) _)

store_value_grows : (world : World) (place : Place) (at : Standing) (a b : Operand) (x : COperand) (value : COperand × Writing) → Grows value.1.found (store_value world place at a b x value).found
store_value_grows world place at a b x value = give_grows world.around place b.x (type_of world.around b) _

store_at_grows : (world : World) (place : Place) (at : Option Standing) (a b : Operand) (x : COperand × Writing) → Grows x.1.found (store_at world place at a b x).found
store_at_grows world place None a b x = same_found x.1.found
store_at_grows world place (Some at) a b x = then_grows (given_grows world.around b (type_of_element world.around.layout at.element) x.1) (store_value_grows world place at a b x.0 _)

store_grows : (world : World) (place : Place) (name : List ℕ) (a b : Operand) (class : ℕ) (or_none : Bool) (w : Writing) → Grows w.found (store world place name a b class or_none w).found
unfolding store
store_grows world place name a b class or_none w = then_grows (present_grows world.around a or_none w) (store_at_grows world place (place_in world class name) a b _)

-- ---- calls

indirect_giving_grows : (around : Around) (place : Place) (v : ℕ) (kinds : List LlType) (t : LlType) (xs : List COperand × Writing) → Grows xs.1.found (indirect_giving around place v kinds t xs).found
unfolding indirect_giving
indirect_giving_grows around place v kinds type.Void xs = same_found xs.1.found
indirect_giving_grows around place v kinds t xs = landed_grows around place t (λ into. op.CallFn (Some into) t kinds v xs.0) xs.1.found (landing around place t xs.1.body)

indirect_grows : (around : Around) (place : Place) (v like : ℕ) (args : List Operand) (w : Writing) → Grows w.found (indirect around place v like args w).found
unfolding indirect
indirect_grows around place v like args w = then_grows (arguments_grows around like args w) (indirect_giving_grows around place v (param_types around like) (type_seen around.layout (slice_get around.results like)) _)

through_grows : (around : Around) (place : Place) (like : ℕ) (args : List Operand) (found : Found) (v : ℕ × Body) → Grows found (through around place like args found v).found
through_grows around place like args found v = indirect_grows around place v.0 like args _

call_one_of_grows : (around : Around) (place : Place) (fs : List ℕ) (args : List Operand) (x : COperand × Writing) → Grows x.1.found (call_one_of around place fs args x).found
call_one_of_grows around place [] args x = same_found x.1.found
call_one_of_grows around place (f ∷ []) args x = call_grows around place f args x.1
call_one_of_grows around place (f ∷ g ∷ fs) args x = through_grows around place f args x.1.found _

call_value_grows : (around : Around) (place : Place) (a : Operand) (fs : List ℕ) (or_none : Bool) (args : List Operand) (w : Writing) → Grows w.found (call_value around place a fs or_none args w).found
unfolding call_value
call_value_grows around place a fs or_none args w = then_grows (present_grows around a or_none w) (call_one_of_grows around place fs args _)

by_vtable_grows : (world : World) (place : Place) (name : List ℕ) (class like : ℕ) (args : List Operand) (found : Found) (instance : ℕ × Body) → Grows found (by_vtable world place name class like args found instance).found
by_vtable_grows world place name class like args found instance = through_grows world.around place like args found _

method_by_grows : (world : World) (place : Place) (name : List ℕ) (class : ℕ) (a : Operand) (rest : List Operand) (r : Reached) (x : COperand × Writing) → Grows x.1.found (method_by world place name class a rest r x).found
method_by_grows world place name class a rest reached.Nothing x = same_found x.1.found
method_by_grows world place name class a rest (reached.One f) x = call_grows world.around place f _ x.1
method_by_grows world place name class a rest (reached.Several f) x = by_vtable_grows world place name class f _ x.1.found _

method_grows : (world : World) (place : Place) (name : List ℕ) (class : ℕ) (or_none : Bool) (args : List Operand) (w : Writing) → Grows w.found (method world place name class or_none args w).found
unfolding method
method_grows world place name class or_none [] w = same_found w.found
method_grows world place name class or_none (a ∷ rest) w = then_grows (present_grows world.around a or_none w) (method_by_grows world place name class a rest (reached_by world class name) _)

-- ---- new instances, and what is raised

call_init_grows : (around : Around) (instance : ℕ) (place : Place) (f : ℕ) (args : List Operand) (w : Writing) → Grows w.found (call_init around instance place f args w).found
unfolding call_init
call_init_grows around instance place f args w = arguments_grows around f _ w

raise_grows : (around : Around) (place : Place) (a : Operand) (or_none : Bool) (w : Writing) → Grows w.found (raise around place a or_none w).found
unfolding raise
raise_grows around place a or_none w = present_grows around a or_none _

init_if_grows : (around : Around) (instance : ℕ) (place : Place) (f : Option ℕ) (args : List Operand) (w : Writing) → Grows w.found (init_if around instance place f args w).found
init_if_grows around instance place None args w = same_found w.found
init_if_grows around instance place (Some f) args w = call_init_grows around instance place f args w

new_into_grows : (world : World) (place : Place) (class : ℕ) (args : List Operand) (number : ℕ × Found) (v : ℕ × Body) → Grows number.1 (new_into world place class args number v).found
new_into_grows world place class args number v = init_if_grows world.around v.0 place (init world.classes.classes class) args _

new_of_grows : (world : World) (place : Place) (class : ℕ) (args : List Operand) (t : LlType) (w : Writing) → Grows w.found (new_of world place class args t w).found
new_of_grows world place class args t w = then_grows (smalls_grow (small.New class) w.found) (new_into_grows world place class args _ _)

new_by_grows : (world : World) (place : Place) (class : ℕ) (args : List Operand) (l : Option Laid) (w : Writing) → Grows w.found (new_by world place class args l w).found
new_by_grows world place class args None w = same_found w.found
new_by_grows world place class args (Some l) w = if_written _ _ (nat_lt class 13) (give_grows world.around place _ (type.Ptr l.root) w) (new_of_grows world place class args (type.Ptr l.root) w)

new_grows : (world : World) (place : Place) (class : ℕ) (args : List Operand) (w : Writing) → Grows w.found (new world place class args w).found
unfolding new
new_grows world place class args w = new_by_grows world place class args (laid world class) w

-- ---- by the operands

is_instance_by_grows : (world : World) (place : Place) (r : ℕ × ℕ) (a : Operand) (l : Option Laid) (w : Writing) → Grows w.found (is_instance_by world place r a l w).found
is_instance_by_grows world place r a None w = same_found w.found
is_instance_by_grows world place r a (Some l) w = then_grows (by_small_grows _ _ _ w) (give_grows world.around place _ type.Bool _)

is_instance_grows : (world : World) (place : Place) (of : ℕ) (a : Operand) (class : ℕ) (w : Writing) → Grows w.found (is_instance world place of a class w).found
unfolding is_instance
is_instance_grows world place of a class w = is_instance_by_grows world place (range world.classes.classes of) a (laid world class) w

attribute_of_grows : (world : World) (place : Place) (name : List ℕ) (a : Operand) (i : Option (ℕ × Bool)) (w : Writing) → Grows w.found (attribute_of world place name a i w).found
attribute_of_grows world place name a None w = failure_op_grows world.around place w
attribute_of_grows world place name a (Some i) w = read_grows world place name a i.0 i.1 w

attribute_grows : (world : World) (place : Place) (name : List ℕ) (a : Operand) (w : Writing) → Grows w.found (attribute world place name a w).found
unfolding attribute
attribute_grows world place name a w = attribute_of_grows world place name a (instance_of a) w

set_attribute_of_grows : (world : World) (place : Place) (name : List ℕ) (a b : Operand) (i : Option (ℕ × Bool)) (w : Writing) → Grows w.found (set_attribute_of world place name a b i w).found
set_attribute_of_grows world place name a b None w = failure_op_grows world.around place w
set_attribute_of_grows world place name a b (Some i) w = store_grows world place name a b i.0 i.1 w

set_attribute_grows : (world : World) (place : Place) (name : List ℕ) (a b : Operand) (w : Writing) → Grows w.found (set_attribute world place name a b w).found
unfolding set_attribute
set_attribute_grows world place name a b w = set_attribute_of_grows world place name a b (instance_of a) w

value_call_of_grows : (world : World) (place : Place) (a : Operand) (fs : Option (List ℕ × Bool)) (args : List Operand) (w : Writing) → Grows w.found (value_call_of world place a fs args w).found
value_call_of_grows world place a None args w = failure_op_grows world.around place w
value_call_of_grows world place a (Some fs) args w = call_value_grows world.around place a fs.0 fs.1 args w

value_call_grows : (world : World) (place : Place) (args : List Operand) (w : Writing) → Grows w.found (value_call world place args w).found
unfolding value_call
value_call_grows world place [] w = same_found w.found
value_call_grows world place (a ∷ args) w = value_call_of_grows world place a (functions_of a) args w

raise_on_grows : (world : World) (place : Place) (a : Operand) (i : Option (ℕ × Bool)) (w : Writing) → Grows w.found (raise_on world place a i w).found
raise_on_grows world place a None w = failure_op_grows world.around place w
raise_on_grows world place a (Some i) w = raise_grows world.around place a i.1 w

-- ---- what is no instance is lowered as on lists

method_on_grows : (world : World) (o : RowOp) (place : Place) (name : List ℕ) (args : List Operand) (i : Option (ℕ × Bool)) (w : Writing) → Grows w.found (method_on world o place name args i w).found
method_on_grows world o place name args None w = lower_list_op_grows world.around o place args w
method_on_grows world o place name args (Some i) w = method_grows world place name i.0 i.1 args w

method_of_grows : (world : World) (o : RowOp) (place : Place) (name : List ℕ) (args : List Operand) (w : Writing) → Grows w.found (method_of world o place name args w).found
unfolding method_of
method_of_grows world o place name [] w = lower_list_op_grows world.around o place [] w
method_of_grows world o place name (a ∷ args) w = method_on_grows world o place name (a ∷ args) (instance_of a) w

is_instance_on_grows : (world : World) (o : RowOp) (place : Place) (of : ℕ) (a : Operand) (i : Option (ℕ × Bool)) (w : Writing) → Grows w.found (is_instance_on world o place of a i w).found
is_instance_on_grows world o place of a None w = lower_list_op_grows world.around o place (a ∷ []) w
is_instance_on_grows world o place of a (Some i) w = is_instance_grows world place of a i.0 w

of_one_grows : (world : World) (o : RowOp) (place : Place) (a : Operand) (w : Writing) → Grows w.found (of_one world o place a w).found
unfolding of_one
of_one_grows world (row.Attr name) place a w = attribute_grows world place name a w
of_one_grows world (row.IsInstance of) place a w = is_instance_on_grows world (row.IsInstance of) place of a (instance_of a) w
of_one_grows world row.Raise place a w = raise_on_grows world place a (instance_of a) w
of_one_grows world o place a w = lower_list_op_grows world.around o place (a ∷ []) w

of_two_grows : (world : World) (o : RowOp) (place : Place) (a b : Operand) (w : Writing) → Grows w.found (of_two world o place a b w).found
unfolding of_two
of_two_grows world (row.StoreAttr name) place a b w = set_attribute_grows world place name a b w
of_two_grows world o place a b w = lower_list_op_grows world.around o place (a ∷ b ∷ []) w

other_grows : (world : World) (o : RowOp) (place : Place) (args : List Operand) (w : Writing) → Grows w.found (other world o place args w).found
unfolding other
other_grows world o place args w = lower_list_op_grows world.around o place args w

of_some_grows : (world : World) (o : RowOp) (place : Place) (args : List Operand) (w : Writing) → Grows w.found (of_some world o place args w).found
unfolding of_some
of_some_grows world o place (a ∷ []) w = of_one_grows world o place a w
of_some_grows world o place (a ∷ b ∷ []) w = of_two_grows world o place a b w
of_some_grows world o place args w = other_grows world o place args w

lowered_grows : (world : World) (o : RowOp) (place : Place) (args : List Operand) (w : Writing) → Grows w.found (lowered world o place args w).found
unfolding lowered
lowered_grows world (row.New class) place args w = new_grows world place class args w
lowered_grows world (row.CallOf class f) place args w = call_grows world.around place f args w
lowered_grows world row.CallValue place args w = value_call_grows world place args w
lowered_grows world (row.Method name site) place args w = method_of_grows world (row.Method name site) place name args w
lowered_grows world o place args w = of_some_grows world o place args w

pub lower_class_op_grows : (world : World) (o : RowOp) (place : Place) (args : List Operand) (w : Writing) → Grows w.found (lower_class_op world o place args w).found
lower_class_op_grows world o place args w = if_written _ _ (is_never args) (lower_list_op_grows world.around o place args w) (lowered_grows world o place args w)
