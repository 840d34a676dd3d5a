-- The lowering of operations on instances and function values.
use Rattle.std.specs.Prelude.{ℕ, Bool, if◌then◌else◌, List, [], ◌∷◌, Option, Some, None}
use Rattle.ll_code.specs.declared.program.LlType.TheVariants as type
use Rattle.ann_element.specs.declared.element.Element.{Element}
use Rattle.ann_element.specs.declared.element.Element.TheVariants as e
use Rattle.class_desc.specs.Range.{range}
use Rattle.rpy_meaning.specs.declared.row.RowOp.{RowOp}
use Rattle.rpy_meaning.specs.declared.row.RowOp.TheVariants as row
use Rattle.rtyper_layout.specs.declared.classes.Laid.{Laid}
use Rattle.rtyper_data.specs.declared.small.Small.TheVariants as small
use Rattle.rtyper_op.specs.Calls.{call}
use Rattle.rtyper_data.specs.Converting.{by_small, give_made}
use Rattle.rtyper_op.specs.Lowering.{failure, is_never}
use Rattle.rtyper_data.specs.Seen.{Operand, Place, Writing}
use Rattle.rtyper_list.specs.Lowering.{lower_list_op}
use Rattle.rtyper_class.specs.Attributes.{read, store}
use Rattle.rtyper_class.specs.Calls.{call_value, method, new, raise}
use Rattle.rtyper_class.specs.Seen.{World, laid}

abbrev pub of_instance : Element → Option (ℕ × Bool)
of_instance (e.Instance class or_none) = Some (class, or_none)
of_instance other = None

abbrev pub instance_in : Option Element → Option (ℕ × Bool)
instance_in None = None
instance_in (Some x) = of_instance x

-- the class of an instance, and whether it may be `None`
abbrev pub instance_of : Operand → Option (ℕ × Bool)
instance_of a = instance_in a.element

abbrev pub of_functions : Element → Option (List ℕ × Bool)
of_functions (e.Func functions or_none) = Some (functions, or_none)
of_functions other = None

abbrev pub functions_in : Option Element → Option (List ℕ × Bool)
functions_in None = None
functions_in (Some x) = of_functions x

-- the functions of a function value, and whether it may be `None`
abbrev pub functions_of : Operand → Option (List ℕ × Bool)
functions_of a = functions_in a.element

abbrev pub is_instance_by : World → Place → ℕ × ℕ → Operand → Option Laid → Writing → Writing
is_instance_by world place range a None w = w
is_instance_by world place range a (Some l) w = give_made world.around place type.Bool (by_small (small.IsInstance l.root l.vtable range.0 range.1) type.Bool (a.x ∷ []) w)

-- whether an instance of a class, or `None`, is of another: by the numbers of the classes below that
unfoldable pub is_instance : World → Place → ℕ → Operand → ℕ → Writing → Writing
is_instance world place of a class w = is_instance_by world place (range world.classes.classes of) a (laid world class) w

abbrev pub attribute_of : World → Place → List ℕ → Operand → Option (ℕ × Bool) → Writing → Writing
attribute_of world place name a None w = failure world.around place w
attribute_of world place name a (Some i) w = read world place name a i.0 i.1 w

unfoldable pub attribute : World → Place → List ℕ → Operand → Writing → Writing
attribute world place name a w = attribute_of world place name a (instance_of a) w

abbrev pub set_attribute_of : World → Place → List ℕ → Operand → Operand → Option (ℕ × Bool) → Writing → Writing
set_attribute_of world place name a b None w = failure world.around place w
set_attribute_of world place name a b (Some i) w = store world place name a b i.0 i.1 w

unfoldable pub set_attribute : World → Place → List ℕ → Operand → Operand → Writing → Writing
set_attribute world place name a b w = set_attribute_of world place name a b (instance_of a) w

abbrev pub value_call_of : World → Place → Operand → Option (List ℕ × Bool) → List Operand → Writing → Writing
value_call_of world place a None args w = failure world.around place w
value_call_of world place a (Some fs) args w = call_value world.around place a fs.0 fs.1 args w

-- the value that is called, and the arguments
unfoldable pub value_call : World → Place → List Operand → Writing → Writing
value_call world place [] w = w
value_call world place (a ∷ args) w = value_call_of world place a (functions_of a) args w

-- ---- which operation

abbrev pub method_on : World → RowOp → Place → List ℕ → List Operand → Option (ℕ × Bool) → Writing → Writing
method_on world o place name args None w = lower_list_op world.around o place args w
method_on world o place name args (Some i) w = method world place name i.0 i.1 args w

-- a method of an instance is called, and any other is lowered as those of lists and strings are
unfoldable pub method_of : World → RowOp → Place → List ℕ → List Operand → Writing → Writing
method_of world o place name [] w = lower_list_op world.around o place [] w
method_of world o place name (a ∷ args) w = method_on world o place name (a ∷ args) (instance_of a) w

abbrev pub is_instance_on : World → RowOp → Place → ℕ → Operand → Option (ℕ × Bool) → Writing → Writing
is_instance_on world o place of a None w = lower_list_op world.around o place (a ∷ []) w
is_instance_on world o place of a (Some i) w = is_instance world place of a i.0 w

abbrev pub raise_on : World → Place → Operand → Option (ℕ × Bool) → Writing → Writing
raise_on world place a None w = failure world.around place w
raise_on world place a (Some i) w = raise world.around place a i.1 w

unfoldable pub of_one : World → RowOp → Place → Operand → Writing → Writing
of_one world (row.Attr name) place a w = attribute world place name a w
of_one world (row.IsInstance of) place a w = is_instance_on world (row.IsInstance of) place of a (instance_of a) w
of_one world row.Raise place a w = raise_on world place a (instance_of a) w
of_one world o place a w = lower_list_op world.around o place (a ∷ []) w

unfoldable pub of_two : World → RowOp → Place → Operand → Operand → Writing → Writing
of_two world (row.StoreAttr name) place a b w = set_attribute world place name a b w
of_two world o place a b w = lower_list_op world.around o place (a ∷ b ∷ []) w

-- of any other number
unfoldable pub other : World → RowOp → Place → List Operand → Writing → Writing
other world o place args w = lower_list_op world.around o place args w

unfoldable pub of_some : World → RowOp → Place → List Operand → Writing → Writing
of_some world o place (a ∷ []) w = of_one world o place a w
of_some world o place (a ∷ b ∷ []) w = of_two world o place a b w
of_some world o place args w = other world o place args w

unfoldable pub lowered : World → RowOp → Place → List Operand → Writing → Writing
lowered world (row.New class) place args w = new world place class args w
lowered world (row.CallOf class f) place args w = call world.around place f args w
lowered world row.CallValue place args w = value_call world place args w
lowered world (row.Method name site) place args w = method_of world (row.Method name site) place name args w
lowered world o place args w = of_some world o place args w

-- the low-level operations of an operation; what never comes is not operated on
abbrev pub lower_class_op : World → RowOp → Place → List Operand → Writing → Writing
lower_class_op world o place args w = if is_never args then lower_list_op world.around o place args w else lowered world o place args w
