-- Whether an operation is one on operands of these kinds. Of one that is not nothing is written, or only that an operand is no `None`, and the place stays as it is.
use Rattle.std.specs.Prelude.{ℕ, nat_lt, ◌&&◌, ◌||◌, not, Bool, true, false, if◌then◌else◌, List, [], ◌∷◌, Option, Some, None, ℤ, codes}
use Rattle.std.specs.Str.{bytes_eq}
use Rattle.ll_code.specs.declared.program.LlType.{LlType}
use Rattle.ll_code.specs.declared.program.LlType.TheVariants as type
use Rattle.ll_build.specs.declared.needs.Helper.{Helper}
use Rattle.rpy_meaning.specs.declared.row.RowOp.{RowOp}
use Rattle.rpy_meaning.specs.declared.row.RowOp.TheVariants as row
use Rattle.rpy_tree.specs.declared.syntax.BinOp.{BinOp}
use Rattle.rpy_tree.specs.declared.syntax.BinOp.TheVariants as bin
use Rattle.rpy_tree.specs.declared.syntax.CmpOp.TheVariants as compared
use Rattle.rtyper_layout.specs.declared.kind.Kind.{Kind}
use Rattle.rtyper_layout.specs.declared.kind.Kind.TheVariants as kind
use Rattle.rtyper_layout.specs.declared.classes.Laid.{Laid}
use Rattle.rtyper_layout.specs.declared.layout.Layout.{Layout}
use Rattle.rtyper_layout.specs.Kinds.{is_text, is_text_or_none}
use Rattle.rtyper_layout.specs.Layout.{is_tuple}
use Rattle.rtyper_data.specs.Finding.{same_type}
use Rattle.rtyper_data.specs.Seen.{Around, Operand, Place, kind_of, operand_at, type_at}
use Rattle.rtyper_op.specs.Lowering.{is_never}
use Rattle.rtyper_op.specs.Texts.{of_byte, of_two}
use Rattle.rtyper_class.specs.declared.call.Reached.{Reached}
use Rattle.rtyper_class.specs.declared.call.Reached.TheVariants as reached
use Rattle.rtyper_class.specs.Attributes.{place_in}
use Rattle.rtyper_class.specs.Calls.{reached_by}
use Rattle.rtyper_class.specs.Lowering.{functions_of, instance_of}
use Rattle.rtyper_class.specs.Seen.{World, laid}
use Rattle.rtyper_dict.specs.declared.parts.DictShape.{DictShape}
use Rattle.rtyper_dict.specs.Lowering.{is_dict_op, list_named}
use Rattle.rtyper_dict.specs.Operands.{dict_of, list_at}
use Rattle.rtyper_list.specs.Lowering.{fails, first_is_list, joins, splits}
use Rattle.rtyper_list.specs.Operands.{is_list, is_none}

-- ---- of no lists, dicts and instances

abbrev pub is_plain : Kind → Bool
is_plain kind.Word = true
is_plain kind.Flag = true
is_plain kind.Byte = true
is_plain kind.Text = true
is_plain k = false

abbrev pub are_words : Kind → Kind → Bool
are_words kind.Word kind.Word = true
are_words s t = false

abbrev pub is_tuple_kind : Kind → Bool
is_tuple_kind kind.Tuple = true
is_tuple_kind k = false

abbrev pub literal_suits : RowOp → Bool
literal_suits (row.Word z) = true
literal_suits (row.Str bytes) = true
literal_suits (row.Bool b) = true
literal_suits row.None = true
literal_suits (row.Constant c) = true
literal_suits row.Turn = true
literal_suits other = false

abbrev pub conversion_suits : RowOp → Kind → Bool
conversion_suits row.Intmask kind.Word = true
conversion_suits row.ToInt k = is_plain k
conversion_suits row.ToStr k = is_plain k
conversion_suits row.Ord kind.Byte = true
conversion_suits row.Chr kind.Word = true
conversion_suits (row.Unary o) kind.Word = true
conversion_suits row.CheckedNeg kind.Word = true
conversion_suits (row.IsInstance class) kind.Nothing = true
conversion_suits o k = false

abbrev pub len_suits : Kind → Bool
len_suits kind.Tuple = true
len_suits k = is_text_or_none k

abbrev pub one_suits : RowOp → Kind → Bool
one_suits row.Copy k = true
one_suits row.DropNone k = true
one_suits row.OnlyNone k = true
one_suits row.FalseNone k = true
one_suits (row.Lower class) k = true
one_suits row.Not k = true
one_suits row.Truth k = true
one_suits row.Len k = len_suits k
one_suits (row.AllButLast site) k = is_text_or_none k
one_suits (row.Walk site) k = true
one_suits (row.Unpack n i) k = is_tuple_kind k
one_suits o k = conversion_suits o k

abbrev pub sum_suits : Kind → Kind → Bool
sum_suits kind.Word kind.Word = true
sum_suits s t = is_text_or_none s && is_text_or_none t

abbrev pub product_suits : Kind → Bool
product_suits kind.Word = true
product_suits s = is_text_or_none s

abbrev pub binary_suits : BinOp → Kind → Kind → Bool
binary_suits bin.Add s t = sum_suits s t
binary_suits bin.Mul s t = product_suits s
binary_suits o s t = are_words s t

abbrev pub index_suits : Kind → Option ℤ → Bool
index_suits kind.Tuple (Some i) = true
index_suits k literal = is_text_or_none k

abbrev pub two_suits : RowOp → Kind → Kind → Bool
two_suits (row.Binary o site) s t = binary_suits o s t
two_suits row.AddTo s t = sum_suits s t
two_suits (row.Compare o) s t = true
two_suits row.Min s t = are_words s t
two_suits row.Max s t = are_words s t
two_suits row.Write s t = true
two_suits (row.Index i) s t = index_suits s i
two_suits (row.HasItem step) s t = true
two_suits (row.Item step) s t = true
two_suits (row.Advance step) s t = true
two_suits row.NonNegative s t = true
two_suits (row.Checked o) s t = true
two_suits o s t = false

abbrev pub some_suit : RowOp → List Operand → Bool
some_suit o [] = literal_suits o
some_suit o (a ∷ []) = one_suits o (kind_of a)
some_suit o (a ∷ b ∷ []) = two_suits o (kind_of a) (kind_of b)
some_suit o args = false

-- a method of one byte
abbrev pub byte_suits : Option Helper → Kind → Bool
byte_suits (Some h) kind.Byte = true
byte_suits h k = false

abbrev pub strip_suits : List ℕ → Kind → Bool
strip_suits name k = bytes_eq name (codes "strip") && is_text_or_none k

abbrev pub text_suits : Option (Helper × LlType) → Bool → Bool
text_suits (Some h) true = true
text_suits h are_texts = false

abbrev pub method_suits : List ℕ → List Operand → Bool
method_suits name (a ∷ []) = byte_suits (of_byte name) (kind_of a) || strip_suits name (kind_of a)
method_suits name (a ∷ b ∷ []) = text_suits (of_two name) (is_text_or_none (kind_of a) && is_text (kind_of b))
method_suits name args = false

-- each fails of `None`
abbrev pub method_suits_by : Kind → List ℕ → List Operand → Bool
method_suits_by kind.Nothing name args = true
method_suits_by k name args = method_suits name args

abbrev pub method_suits_to : List ℕ → List Operand → Bool
method_suits_to name [] = false
method_suits_to name (a ∷ args) = method_suits_by (kind_of a) name (a ∷ args)

abbrev pub tuple_suits : Layout → LlType → Bool
tuple_suits layout (type.Ptr n) = is_tuple layout n
tuple_suits layout t = true

abbrev pub op_suits : Around → Place → RowOp → List Operand → Bool
op_suits around place row.Print args = true
op_suits around place row.Tuple args = tuple_suits around.layout (type_at around place)
op_suits around place (row.Call f) args = true
op_suits around place (row.Slice site low high) args = is_text_or_none (kind_of (operand_at args 0))
op_suits around place (row.Method name site) args = method_suits_to name args
op_suits around place o args = some_suit o args

abbrev pub lower_suits : Around → RowOp → Place → List Operand → Bool
lower_suits around o place args = if is_never args then true else op_suits around place o args

-- ---- of lists

abbrev pub list_one_suits : List ℕ → Bool
list_one_suits name = if bytes_eq name (codes "pop") then true else if bytes_eq name (codes "reverse") then true else false

abbrev pub list_two_suits : List ℕ → Bool
list_two_suits name = if bytes_eq name (codes "append") then true else if bytes_eq name (codes "extend") then true else if bytes_eq name (codes "pop") then true else false

abbrev pub list_method_suits : List ℕ → List Operand → Bool
list_method_suits name (a ∷ []) = list_one_suits name
list_method_suits name (a ∷ b ∷ []) = list_two_suits name
list_method_suits name (a ∷ b ∷ d ∷ []) = bytes_eq name (codes "insert")
list_method_suits name args = false

abbrev pub method_of_list_suits : Around → RowOp → Place → List ℕ → List Operand → Bool
method_of_list_suits around o place name args = if first_is_list args then list_method_suits name args else lower_suits around o place args

abbrev pub joined_suits : Around → RowOp → Place → Operand → Operand → Bool
joined_suits around o place a b = if joins a b then true else lower_suits around o place (a ∷ b ∷ [])

abbrev pub split_suits : Around → RowOp → Place → Operand → Operand → Bool
split_suits around o place a b = if splits a b then true else lower_suits around o place (a ∷ b ∷ [])

abbrev pub any_method_suits : Around → RowOp → Place → List ℕ → List Operand → Bool
any_method_suits around o place name (a ∷ b ∷ []) =
    if bytes_eq name (codes "join") then joined_suits around o place a b
    else if bytes_eq name (codes "split") then split_suits around o place a b
    else method_of_list_suits around o place name (a ∷ b ∷ [])
any_method_suits around o place name args = method_of_list_suits around o place name args

abbrev pub first_of_one_suits : Around → RowOp → Place → Operand → Bool
first_of_one_suits around row.Len place a = true
first_of_one_suits around (row.AllButLast site) place a = true
first_of_one_suits around (row.Walk site) place a = true
first_of_one_suits around o place a = lower_suits around o place (a ∷ [])

abbrev pub second_of_two_suits : Around → RowOp → Place → Operand → Operand → Bool
second_of_two_suits around (row.Compare compared.Within) place a b = if is_list b then true else lower_suits around (row.Compare compared.Within) place (a ∷ b ∷ [])
second_of_two_suits around (row.Compare compared.NotWithin) place a b = if is_list b then true else lower_suits around (row.Compare compared.NotWithin) place (a ∷ b ∷ [])
second_of_two_suits around (row.Binary bin.Add site) place a b = if is_list b && is_none a then true else lower_suits around (row.Binary bin.Add site) place (a ∷ b ∷ [])
second_of_two_suits around row.AddTo place a b = if is_list b && is_none a then true else lower_suits around row.AddTo place (a ∷ b ∷ [])
second_of_two_suits around o place a b = lower_suits around o place (a ∷ b ∷ [])

abbrev pub first_of_two_suits : Around → RowOp → Place → Operand → Operand → Bool
first_of_two_suits around (row.Index i) place a b = true
first_of_two_suits around row.DeleteIndex place a b = true
first_of_two_suits around (row.Binary bin.Add site) place a b = true
first_of_two_suits around (row.Binary bin.Mul site) place a b = true
first_of_two_suits around row.AddTo place a b = true
first_of_two_suits around row.AddItem place a b = true
first_of_two_suits around (row.HasItem None) place a b = true
first_of_two_suits around (row.Item None) place a b = true
first_of_two_suits around o place a b = second_of_two_suits around o place a b

abbrev pub first_of_three_suits : Around → RowOp → Place → Operand → Operand → Operand → Bool
first_of_three_suits around row.StoreIndex place a b d = true
first_of_three_suits around o place a b d = lower_suits around o place (a ∷ b ∷ d ∷ [])

abbrev pub some_list_suits : Around → RowOp → Place → List Operand → Bool
some_list_suits around o place (a ∷ []) = if is_list a then first_of_one_suits around o place a else lower_suits around o place (a ∷ [])
some_list_suits around o place (a ∷ b ∷ []) = if is_list a then first_of_two_suits around o place a b else second_of_two_suits around o place a b
some_list_suits around o place (a ∷ b ∷ d ∷ []) = if is_list a then first_of_three_suits around o place a b d else lower_suits around o place (a ∷ b ∷ d ∷ [])
some_list_suits around o place args = lower_suits around o place args

abbrev pub list_op_suits : Around → RowOp → Place → List Operand → Bool
list_op_suits around (row.List site) place args = true
list_op_suits around (row.Comprehension site) place args = true
list_op_suits around (row.Method name site) place args = any_method_suits around (row.Method name site) place name args
list_op_suits around (row.Slice site low high) place args = if first_is_list args then true else lower_suits around (row.Slice site low high) place args
list_op_suits around o place args = some_list_suits around o place args

-- what fails sets the place
abbrev pub list_suits_unless : Bool → Around → RowOp → Place → List Operand → Bool
list_suits_unless true around o place args = true
list_suits_unless false around o place args = list_op_suits around o place args

abbrev pub lower_list_suits : Around → RowOp → Place → List Operand → Bool
lower_list_suits around o place args = if is_never args then lower_suits around o place args else list_suits_unless (fails o args) around o place args

-- ---- of instances and function values

abbrev pub is_some : {A : Type 0} → Option A → Bool
is_some (Some a) = true
is_some None = false

-- what is no instance fails; of an instance the attribute is there
abbrev pub attribute_suits : World → List ℕ → Option (ℕ × Bool) → Bool
attribute_suits world name None = true
attribute_suits world name (Some i) = is_some (place_in world i.0 name)

abbrev pub some_function : List ℕ → Bool
some_function [] = false
some_function (f ∷ fs) = true

abbrev pub function_suits : Option (List ℕ × Bool) → Bool
function_suits None = true
function_suits (Some fs) = some_function fs.0

abbrev pub value_call_suits : List Operand → Bool
value_call_suits [] = false
value_call_suits (a ∷ args) = function_suits (functions_of a)

abbrev pub reached_suits : Reached → Bool
reached_suits reached.Nothing = false
reached_suits (reached.One f) = true
reached_suits (reached.Several f) = true

-- the new instance of a class that the program defines is made in the place, where that has its type
abbrev pub new_suits : World → Place → ℕ → Option Laid → Bool
new_suits world place class None = false
new_suits world place class (Some l) = if nat_lt class 13 then true else same_type (type_at world.around place) (type.Ptr l.root)

abbrev pub method_on_suits : World → RowOp → Place → List ℕ → List Operand → Option (ℕ × Bool) → Bool
method_on_suits world o place name args None = lower_list_suits world.around o place args
method_on_suits world o place name args (Some i) = reached_suits (reached_by world i.0 name)

abbrev pub class_method_suits : World → RowOp → Place → List ℕ → List Operand → Bool
class_method_suits world o place name [] = lower_list_suits world.around o place []
class_method_suits world o place name (a ∷ args) = method_on_suits world o place name (a ∷ args) (instance_of a)

abbrev pub is_instance_suits : World → RowOp → Place → Operand → Option (ℕ × Bool) → Bool
is_instance_suits world o place a None = lower_list_suits world.around o place (a ∷ [])
is_instance_suits world o place a (Some i) = is_some (laid world i.0)

abbrev pub class_one_suits : World → RowOp → Place → Operand → Bool
class_one_suits world (row.Attr name) place a = attribute_suits world name (instance_of a)
class_one_suits world (row.IsInstance of) place a = is_instance_suits world (row.IsInstance of) place a (instance_of a)
class_one_suits world row.Raise place a = true
class_one_suits world o place a = lower_list_suits world.around o place (a ∷ [])

abbrev pub class_two_suits : World → RowOp → Place → Operand → Operand → Bool
class_two_suits world (row.StoreAttr name) place a b = attribute_suits world name (instance_of a)
class_two_suits world o place a b = lower_list_suits world.around o place (a ∷ b ∷ [])

abbrev pub some_class_suits : World → RowOp → Place → List Operand → Bool
some_class_suits world o place (a ∷ []) = class_one_suits world o place a
some_class_suits world o place (a ∷ b ∷ []) = class_two_suits world o place a b
some_class_suits world o place args = lower_list_suits world.around o place args

abbrev pub class_op_suits : World → RowOp → Place → List Operand → Bool
class_op_suits world (row.New class) place args = new_suits world place class (laid world class)
class_op_suits world (row.CallOf class f) place args = true
class_op_suits world row.CallValue place args = value_call_suits args
class_op_suits world (row.Method name site) place args = class_method_suits world (row.Method name site) place name args
class_op_suits world o place args = some_class_suits world o place args

abbrev pub lower_class_suits : World → RowOp → Place → List Operand → Bool
lower_class_suits world o place args = if is_never args then lower_list_suits world.around o place args else class_op_suits world o place args

-- ---- of dicts

abbrev pub dict_one_suits : Around → RowOp → Place → DictShape → Bool
dict_one_suits around row.Len place d = true
dict_one_suits around (row.Walk site) place d = true
dict_one_suits around (row.Method name site) place d = is_some (list_named name d.dict (list_at around place))
dict_one_suits around o place d = false

abbrev pub dict_two_suits : RowOp → Bool
dict_two_suits (row.Index i) = true
dict_two_suits row.DeleteIndex = true
dict_two_suits (row.Method name site) = bytes_eq name (codes "get")
dict_two_suits o = false

abbrev pub dict_three_suits : RowOp → Bool
dict_three_suits row.StoreIndex = true
dict_three_suits (row.Method name site) = bytes_eq name (codes "get")
dict_three_suits o = false

abbrev pub some_dict_suits : Around → RowOp → Place → DictShape → List Operand → Bool
some_dict_suits around o place d (a ∷ []) = dict_one_suits around o place d
some_dict_suits around o place d (a ∷ b ∷ []) = dict_two_suits o
some_dict_suits around o place d (a ∷ b ∷ e ∷ []) = dict_three_suits o
some_dict_suits around o place d args = false

-- what is no dict fails
abbrev pub dict_suits_or : Around → RowOp → Place → Option DictShape → List Operand → Bool
dict_suits_or around o place None args = true
dict_suits_or around o place (Some d) args = some_dict_suits around o place d args

abbrev pub first_dict_suits : Around → RowOp → Place → List Operand → Bool
first_dict_suits around o place [] = false
first_dict_suits around o place (a ∷ args) = dict_suits_or around o place (dict_of around a) (a ∷ args)

abbrev pub dict_compare_suits : Around → RowOp → Place → List Operand → Bool
dict_compare_suits around o place (a ∷ b ∷ []) = true
dict_compare_suits around o place args = first_dict_suits around o place args

abbrev pub lower_dict_suits : Around → RowOp → Place → List Operand → Bool
lower_dict_suits around (row.Dict site) place args = true
lower_dict_suits around (row.Compare o) place args = dict_compare_suits around (row.Compare o) place args
lower_dict_suits around o place args = first_dict_suits around o place args

-- ---- all operations

-- the operation is one on operands of these kinds
abbrev pub suits : World → RowOp → Place → List Operand → Bool
suits world o place args = if is_dict_op o args then lower_dict_suits world.around o place args else lower_class_suits world o place args
