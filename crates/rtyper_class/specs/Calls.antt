-- Calls of classes, methods and function values.
use Rattle.std.specs.Prelude.{ℕ, ◌+◌, ◌==◌, ◌&&◌, nat_lt, Bool, if◌then◌else◌, List, [], ◌∷◌, ◌++◌, slice_get, Option, Some, None}
use Rattle.std.specs.Str.{bytes_eq}
use Rattle.csub_tree.specs.declared.tree.COperand.{COperand}
use Rattle.csub_tree.specs.declared.tree.COperand.TheVariants.{Var}
use Rattle.ll_code.specs.declared.program.LlType.{LlType}
use Rattle.ll_code.specs.declared.program.LlType.TheVariants as type
use Rattle.ll_code.specs.declared.program.LlOp.TheVariants as op
use Rattle.ann_element.specs.declared.element.Element.{Element}
use Rattle.class_desc.specs.Line.{is_below, method as method_named, init}
use Rattle.rtyper_layout.specs.declared.classes.Laid.{Laid}
use Rattle.rtyper_layout.specs.declared.layout.Layout.{Layout}
use Rattle.rtyper_layout.specs.Families.{class_at}
use Rattle.rtyper_layout.specs.Types.{word, type_of as type_of_element, type_seen}
use Rattle.rtyper_data.specs.declared.body.Body.{Body}
use Rattle.rtyper_data.specs.declared.found.Found.{Found}
use Rattle.rtyper_data.specs.declared.small.Small.TheVariants as small
use Rattle.rtyper_op.specs.Calls.{arguments, call, number_of}
use Rattle.rtyper_data.specs.Converting.{give, give_nothing, landing, landed, present}
use Rattle.rtyper_data.specs.Finding.{same_type, small_number}
use Rattle.rtyper_data.specs.Seen.{Around, Operand, Place, type_of, with_op, fresh, Writing, writing}
use Rattle.rtyper_data.specs.Tuples.{variable_of}
use Rattle.rtyper_class.specs.declared.call.Reached.{Reached}
use Rattle.rtyper_class.specs.declared.call.Reached.TheVariants as reached
use Rattle.rtyper_class.specs.Instances.{builtin_instance}
use Rattle.rtyper_class.specs.Seen.{World, laid}
use Rattle.rtyper_class.specs.Vtables.{names_of}

-- ---- through function values

abbrev pub type_if : LlType → List LlType
type_if t = if same_type t type.Void then [] else t ∷ []

abbrev pub types_of : Layout → List Element → List LlType
types_of layout [] = []
types_of layout (e ∷ es) = type_if (type_of_element layout e) ++ types_of layout es

abbrev pub types_in : Layout → Option (List Element) → List LlType
types_in layout None = []
types_in layout (Some params) = types_of layout params

-- the types of the parameters, those without a type aside
abbrev pub param_types : Around → ℕ → List LlType
param_types around f = types_in around.layout (slice_get around.params f)

unfoldable pub indirect_giving : Around → Place → ℕ → List LlType → LlType → List COperand × Writing → Writing
indirect_giving around place v kinds type.Void xs = writing xs.1.found (give_nothing around place (with_op (op.CallFn None type.Void kinds v xs.0) xs.1.body))
indirect_giving around place v kinds gives xs = landed around place gives (λ into. op.CallFn (Some into) gives kinds v xs.0) xs.1.found (landing around place gives xs.1.body)

-- a call of a function value that is one of several functions like this one
unfoldable pub indirect : Around → Place → ℕ → ℕ → List Operand → Writing → Writing
indirect around place v like args w = indirect_giving around place v (param_types around like) (type_seen around.layout (slice_get around.results like)) (arguments around like args w)

abbrev pub through : Around → Place → ℕ → List Operand → Found → ℕ × Body → Writing
through around place like args found v = indirect around place v.0 like args (writing found v.1)

abbrev pub call_one_of : Around → Place → List ℕ → List Operand → COperand × Writing → Writing
call_one_of around place [] args x = x.1
call_one_of around place (f ∷ []) args x = call around place f args x.1
call_one_of around place (f ∷ g ∷ fs) args x = through around place f args x.1.found (variable_of x.0 type.Fn x.1.body)

-- a call of a value that is one of these functions, or `None`
unfoldable pub call_value : Around → Place → Operand → List ℕ → Bool → List Operand → Writing → Writing
call_value around place a functions or_none args w = call_one_of around place functions args (present around a or_none w)

-- ---- methods

-- nothing, one function, or several like the first
abbrev pub also : Reached → Option ℕ → Reached
also r None = r
also reached.Nothing (Some f) = reached.One f
also (reached.One g) (Some f) = if g == f then reached.One g else reached.Several g
also (reached.Several g) (Some f) = reached.Several g

abbrev pub also_of : World → ℕ → List ℕ → ℕ → Reached → Reached
also_of world class name below r = if is_below world.classes.classes below class then also r (method_named world.classes.classes below name) else r

-- the methods under a name, of the classes from a number on that have instances
abbrev pub reached_from : World → ℕ → List ℕ → ℕ → List Bool → Reached → Reached
reached_from world class name n [] r = r
reached_from world class name n (m ∷ made) r = reached_from world class name (n + 1) made (if m then also_of world class name (class_at n) r else r)

-- those that instances of a class, or of one below it, have
unfoldable pub reached_by : World → ℕ → List ℕ → Reached
reached_by world class name = reached_from world class name 0 world.made reached.Nothing

-- the place of a name, counted from a number
abbrev pub slot_from : ℕ → List (List ℕ) → List ℕ → ℕ
slot_from n [] name = 0
slot_from n (each ∷ names) name = if bytes_eq each name then n else slot_from (word (n + 1)) names name

abbrev pub slot_read : Laid → ℕ → ℕ → ℕ → ℕ × Body → ℕ × Body
slot_read l slot instance f vtable = (f, with_op (op.GetField f l.vtable vtable.0 slot) (with_op (op.GetField vtable.0 l.root instance 0) vtable.1))

abbrev pub looked_in : World → List ℕ → ℕ → Option Laid → ℕ × Body → ℕ × Body
looked_in world name instance None f = f
looked_in world name instance (Some l) f = slot_read l (slot_from 1 (names_of world l.vtable) name) instance f.0 (fresh (type.Ptr l.vtable) f.1)

-- the function that the vtable of an instance has under a name: the number of the class stands before the methods
unfoldable pub looked_up : World → ℕ → List ℕ → ℕ → Body → ℕ × Body
looked_up world class name instance body = looked_in world name instance (laid world class) (fresh type.Fn body)

abbrev pub receiver : COperand → Operand → Operand
receiver x a = record { x = x; element = a.element }

abbrev pub by_vtable : World → Place → List ℕ → ℕ → ℕ → List Operand → Found → ℕ × Body → Writing
by_vtable world place name class like args found instance = through world.around place like args found (looked_up world class name instance.0 instance.1)

abbrev pub method_by : World → Place → List ℕ → ℕ → Operand → List Operand → Reached → COperand × Writing → Writing
method_by world place name class a rest reached.Nothing x = x.1
method_by world place name class a rest (reached.One f) x = call world.around place f (receiver x.0 a ∷ rest) x.1
method_by world place name class a rest (reached.Several f) x = by_vtable world place name class f (receiver x.0 a ∷ rest) x.1.found (variable_of x.0 (type_of world.around a) x.1.body)

-- a method call on an instance of the class, or `None`: the first operand
unfoldable pub method : World → Place → List ℕ → ℕ → Bool → List Operand → Writing → Writing
method world place name class or_none [] w = w
method world place name class or_none (a ∷ rest) w = method_by world place name class a rest (reached_by world class name) (present world.around a or_none w)

-- ---- classes

unfoldable pub init_giving : ℕ → LlType → List COperand → Body → Body
init_giving number type.Void xs body = with_op (op.Call None number xs) body
init_giving number gives xs body = with_op (op.Call (Some (fresh gives body).0) number xs) (fresh gives body).1

abbrev pub init_with : ℕ → LlType → List COperand × Writing → Writing
init_with number gives xs = writing xs.1.found (init_giving number gives xs.0 xs.1.body)

-- `__init__` of a new instance and the arguments; what it gives is dropped
unfoldable pub call_init : Around → ℕ → Place → ℕ → List Operand → Writing → Writing
call_init around instance place f args w =
    init_with (number_of around f) (type_seen around.layout (slice_get around.results f)) (arguments around f (record { x = Var instance; element = place.element } ∷ args) w)

abbrev pub raise_by : Found → ℕ × Body → Writing
raise_by found v = writing found (with_op (op.Raise v.0) v.1)

abbrev pub raise_value : LlType → COperand × Writing → Writing
raise_value t x = raise_by x.1.found (variable_of x.0 t x.1.body)

-- nothing comes behind a raise, so the result is set before
unfoldable pub raise : Around → Place → Operand → Bool → Writing → Writing
raise around place a or_none w = raise_value (type_of around a) (present around a or_none (writing w.found (give_nothing around place w.body)))

abbrev pub init_if : Around → ℕ → Place → Option ℕ → List Operand → Writing → Writing
init_if around instance place None args w = w
init_if around instance place (Some f) args w = call_init around instance place f args w

abbrev pub new_into : World → Place → ℕ → List Operand → ℕ × Found → ℕ × Body → Writing
new_into world place class args number v = init_if world.around v.0 place (init world.classes.classes class) args (writing number.1 (with_op (op.Call (Some v.0) number.0 []) v.1))

abbrev pub new_of : World → Place → ℕ → List Operand → LlType → Writing → Writing
new_of world place class args t w = new_into world place class args (small_number (small.New class) w.found) (landing world.around place t w.body)

abbrev pub new_by : World → Place → ℕ → List Operand → Option Laid → Writing → Writing
new_by world place class args None w = w
new_by world place class args (Some l) w =
    if nat_lt class 13 then give world.around place (builtin_instance world class) (type.Ptr l.root) w
    else new_of world place class args (type.Ptr l.root) w

-- a call of a class; the first thirteen are the builtin exceptions, of which each has one instance
unfoldable pub new : World → Place → ℕ → List Operand → Writing → Writing
new world place class args w = new_by world place class args (laid world class) w
