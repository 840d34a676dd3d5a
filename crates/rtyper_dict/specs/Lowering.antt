-- The lowering of operations on dicts.
use Rattle.std.specs.Prelude.{ℕ, ◌||◌, ◌&&◌, not, Bool, true, false, if◌then◌else◌, List, [], ◌∷◌, Option, Some, None, pos, codes}
use Rattle.std.specs.Str.{bytes_eq}
use Rattle.csub_tree.specs.declared.tree.CBinary.TheVariants.{Ge}
use Rattle.csub_tree.specs.declared.tree.COperand.{COperand}
use Rattle.ll_code.specs.declared.program.LlType.{LlType}
use Rattle.ll_code.specs.declared.program.LlType.TheVariants as type
use Rattle.ll_code.specs.declared.program.LlOp.TheVariants.{Step}
use Rattle.ll_build.specs.Build.{word}
use Rattle.rpy_meaning.specs.declared.row.RowOp.{RowOp}
use Rattle.rpy_meaning.specs.declared.row.RowOp.TheVariants as row
use Rattle.rpy_tree.specs.declared.syntax.CmpOp.{CmpOp}
use Rattle.rpy_tree.specs.declared.syntax.CmpOp.TheVariants as compared
use Rattle.rtyper_data.specs.declared.body.Body.{Body}
use Rattle.rtyper_data.specs.declared.small.Keyed.{Keyed as Graph}
use Rattle.rtyper_data.specs.declared.small.Keyed.TheVariants as keyed
use Rattle.rtyper_data.specs.declared.small.Small.TheVariants.{Keyed}
use Rattle.rtyper_data.specs.Comparing.{alone, binary_in, opposite_of}
use Rattle.rtyper_data.specs.Converting.{by_small, default_operand, given, give, give_made}
use Rattle.rtyper_data.specs.Seen.{Around, Operand, Place, type_of, type_at, Writing, push, set}
use Rattle.rtyper_data.specs.Tuples.{variable_of}
use Rattle.rtyper_op.specs.Lowering.{failure, is_never}
use Rattle.rtyper_op.specs.Placing.{says_nothing}
use Rattle.list_shape.specs.Shapes.{new_by, taking}
use Rattle.rtyper_dict.specs.declared.parts.DictShape.{DictShape}
use Rattle.rtyper_dict.specs.Parts.{count_read, unstored}
use Rattle.rtyper_dict.specs.Operands.{is_dict, is_dict_or_none, dict_of, list_at, there, key_in, value_in, done_by, entry_in}

-- ---- which operations

abbrev pub first_may_be : List Operand → Bool
first_may_be [] = false
first_may_be (a ∷ args) = is_dict_or_none a

abbrev pub second_may_be : List Operand → Bool
second_may_be (a ∷ b ∷ []) = is_dict_or_none b
second_may_be args = false

abbrev pub first_is_dict : List Operand → Bool
first_is_dict [] = false
first_is_dict (a ∷ args) = is_dict a

abbrev pub only_is_dict : List Operand → Bool
only_is_dict (a ∷ []) = is_dict a
only_is_dict args = false

abbrev pub is_within : CmpOp → Bool
is_within compared.Within = true
is_within compared.NotWithin = true
is_within other = false

-- where the operands come; what looks into `None` counts as one, since the key may be any value
abbrev pub is_of_dicts : RowOp → List Operand → Bool
is_of_dicts (row.Dict site) args = true
is_of_dicts (row.Compare c) args = is_within c && second_may_be args
is_of_dicts (row.Index i) args = first_may_be args
is_of_dicts row.StoreIndex args = first_may_be args
is_of_dicts row.DeleteIndex args = first_may_be args
is_of_dicts row.Len args = only_is_dict args
is_of_dicts (row.Walk site) args = only_is_dict args
is_of_dicts (row.Method name site) args = first_is_dict args
is_of_dicts other args = false

abbrev pub is_dict_op : RowOp → List Operand → Bool
is_dict_op o args = not (is_never args) && is_of_dicts o args

-- ---- operations

abbrev pub display_to : Around → Place → LlType → Writing → Writing
display_to around place (type.Ptr n) w = set place.variable (by_small (Keyed (keyed.Make n)) (type.Ptr n) [] w)
display_to around place other w = says_nothing around place w

-- a display begins with no entries
unfoldable pub display : Around → Place → Writing → Writing
display around place w = display_to around place (type_at around place) (push (Step (word (pos 1))) w)

abbrev pub give_value : Around → Place → DictShape → COperand × Writing → Writing
give_value around place d v = give_made around place d.value (alone v.1.found (unstored d.stored_value d.value v.0 v.1.body))

-- the value of a key, which has to be there
unfoldable pub index : Around → Place → DictShape → Operand → Operand → Writing → Writing
index around place d a b w =
    taking (entry_in around d a b (keyed.Entry d.dict) w) (λ at next. give_value around place d (by_small (Keyed (keyed.Value d.dict)) d.stored_value (at.0 ∷ at.1 ∷ []) next))

unfoldable pub store : Around → Place → DictShape → Operand → Operand → Operand → Writing → Writing
store around place d a b c w =
    taking (there around a w) (λ x next.
    taking (key_in around d b next) (λ k mid.
    taking (value_in around d c mid) (λ v last. give around place c.x (type_of around c) (done_by (keyed.Store d.dict) (x ∷ k ∷ v ∷ []) last))))

unfoldable pub delete : Around → Place → DictShape → Operand → Operand → Writing → Writing
delete around place d a b w =
    taking (entry_in around d a b (keyed.Entry d.dict) w) (λ at next. says_nothing around place (done_by (keyed.Remove d.dict) (at.0 ∷ at.1 ∷ []) next))

-- whether a key has an entry, or has none
unfoldable pub is_there : Around → DictShape → Bool → Operand → Operand → Writing → COperand × Writing
is_there around d reversed a b w =
    taking (entry_in around d b a (keyed.Find d.dict) w) (λ at next. opposite_of reversed (alone next.found (binary_in Ge type.Bool at.1 (word (pos 0)) next.body)))

unfoldable pub within : Around → Place → DictShape → Bool → Operand → Operand → Writing → Writing
within around place d reversed a b w = give_made around place type.Bool (is_there around d reversed a b w)

abbrev pub counted : DictShape → ℕ × Body → COperand × Body
counted d dict = new_by type.Signed (λ v. count_read v d dict.0) dict.1

unfoldable pub len : Around → Place → DictShape → Operand → Writing → Writing
len around place d a w =
    taking (there around a w) (λ x next. give_made around place type.Signed (alone next.found (counted d (variable_of x (type.Ptr d.dict) next.body))))

-- ---- methods

-- what stands for a key that is not there
abbrev pub other_value : Around → LlType → Option Operand → Writing → COperand × Writing
other_value around kind None w = (default_operand kind, w)
other_value around kind (Some c) w = given around c kind w

unfoldable pub get_as : Around → Place → DictShape → COperand → Operand → Option Operand → LlType → Writing → Writing
get_as around place d x b other kind w =
    taking (key_in around d b w) (λ k next.
    taking (other_value around kind other next) (λ v last. set place.variable (by_small (Keyed (keyed.Get d.dict kind)) kind (x ∷ k ∷ v ∷ []) last)))

abbrev pub get_to : Around → Place → DictShape → COperand → Operand → Option Operand → LlType → Writing → Writing
get_to around place d x b other type.Void w = w
get_to around place d x b other kind w = get_as around place d x b other kind w

-- the value of a key, or another
unfoldable pub get : Around → Place → DictShape → Operand → Operand → Option Operand → Writing → Writing
get around place d a b other w = taking (there around a w) (λ x next. get_to around place d x b other (type_at around place) next)

abbrev pub list_to : Around → Place → Graph → COperand → LlType → Writing → Writing
list_to around place graph x (type.Ptr n) w = set place.variable (by_small (Keyed graph) (type.Ptr n) (x ∷ []) w)
list_to around place graph x other w = says_nothing around place w

-- a list of the entries
unfoldable pub list : Around → Place → Graph → Operand → Writing → Writing
list around place graph a w = taking (there around a w) (λ x next. list_to around place graph x (type_at around place) next)

abbrev pub is_either : List ℕ → List ℕ → List ℕ → Bool
is_either name one two = bytes_eq name one || bytes_eq name two

-- the graph of a method that makes a list
abbrev pub list_named : List ℕ → ℕ → ℕ → Option Graph
list_named name d l =
    if is_either name (codes "keys") (codes "iterkeys") then Some (keyed.Keys d l)
    else if is_either name (codes "values") (codes "itervalues") then Some (keyed.Values d l)
    else if is_either name (codes "items") (codes "iteritems") then Some (keyed.Items d l)
    else None

abbrev pub list_if : Around → Place → Option Graph → Operand → Writing → Writing
list_if around place None a w = w
list_if around place (Some graph) a w = list around place graph a w

unfoldable pub method_of_one : Around → Place → DictShape → List ℕ → Operand → Writing → Writing
method_of_one around place d name a w = list_if around place (list_named name d.dict (list_at around place)) a w

unfoldable pub get_if : Around → Place → DictShape → List ℕ → Operand → Operand → Option Operand → Writing → Writing
get_if around place d name a b other w = if bytes_eq name (codes "get") then get around place d a b other w else w

-- ---- operations whose first operand is a dict

unfoldable pub of_one : Around → RowOp → Place → DictShape → Operand → Writing → Writing
of_one around row.Len place d a w = len around place d a w
of_one around (row.Walk site) place d a w = list around place (keyed.Keys d.dict (list_at around place)) a w
of_one around (row.Method name site) place d a w = method_of_one around place d name a w
of_one around o place d a w = w

unfoldable pub of_two : Around → RowOp → Place → DictShape → Operand → Operand → Writing → Writing
of_two around (row.Index i) place d a b w = index around place d a b w
of_two around row.DeleteIndex place d a b w = delete around place d a b w
of_two around (row.Method name site) place d a b w = get_if around place d name a b None w
of_two around o place d a b w = w

unfoldable pub of_three : Around → RowOp → Place → DictShape → Operand → Operand → Operand → Writing → Writing
of_three around row.StoreIndex place d a b c w = store around place d a b c w
of_three around (row.Method name site) place d a b c w = get_if around place d name a b (Some c) w
of_three around o place d a b c w = w

unfoldable pub of_dict : Around → RowOp → Place → DictShape → List Operand → Writing → Writing
of_dict around o place d (a ∷ []) w = of_one around o place d a w
of_dict around o place d (a ∷ b ∷ []) w = of_two around o place d a b w
of_dict around o place d (a ∷ b ∷ c ∷ []) w = of_three around o place d a b c w
of_dict around o place d args w = w

abbrev pub of_dict_or : Around → RowOp → Place → Option DictShape → List Operand → Writing → Writing
of_dict_or around o place None args w = failure around place w
of_dict_or around o place (Some d) args w = of_dict around o place d args w

-- what is no dict fails
unfoldable pub of_first : Around → RowOp → Place → List Operand → Writing → Writing
of_first around o place [] w = w
of_first around o place (a ∷ args) w = of_dict_or around o place (dict_of around a) (a ∷ args) w

-- ---- operations whose second operand is one

abbrev pub is_reversed : CmpOp → Bool
is_reversed compared.NotWithin = true
is_reversed other = false

abbrev pub within_or : Around → Place → Option DictShape → Bool → Operand → Operand → Writing → Writing
within_or around place None reversed a b w = failure around place w
within_or around place (Some d) reversed a b w = within around place d reversed a b w

unfoldable pub of_second : Around → CmpOp → Place → Operand → Operand → Writing → Writing
of_second around c place a b w = within_or around place (dict_of around b) (is_reversed c) a b w

unfoldable pub compare : Around → RowOp → CmpOp → Place → List Operand → Writing → Writing
compare around o c place (a ∷ b ∷ []) w = of_second around c place a b w
compare around o c place args w = of_first around o place args w

-- ---- all operations

-- the low-level operations of an operation on dicts
unfoldable pub lower_dict_op : Around → RowOp → Place → List Operand → Writing → Writing
lower_dict_op around (row.Dict site) place args w = display around place w
lower_dict_op around (row.Compare c) place args w = compare around (row.Compare c) c place args w
lower_dict_op around o place args w = of_first around o place args w
