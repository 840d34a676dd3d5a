-- Instances: how they are made, and of which class they are.
use Rattle.std.specs.Prelude.{ℕ, zero, suc, ◌+◌, ◌-◌, ◌*◌, ◌==◌, ◌&&◌, Bool, true, false, if◌then◌else◌, List, [], ◌∷◌, length, slice_get, unwrap_or, Option, Some, None, pos, codes}
use Rattle.std.specs.Str.{bytes_eq}
use Rattle.csub_tree.specs.declared.tree.CBinary.TheVariants as binary
use Rattle.csub_tree.specs.declared.tree.CUnary.TheVariants as unary
use Rattle.csub_tree.specs.declared.tree.CConst.{CConst}
use Rattle.csub_tree.specs.declared.tree.CConst.TheVariants as constant
use Rattle.csub_tree.specs.declared.tree.COperand.{COperand}
use Rattle.csub_tree.specs.declared.tree.COperand.TheVariants.{Var, Const as held}
use Rattle.ll_code.specs.declared.program.LlType.{LlType}
use Rattle.ll_code.specs.declared.program.LlType.TheVariants as type
use Rattle.ll_code.specs.declared.program.LlStruct.{LlStruct}
use Rattle.ll_code.specs.declared.program.LlOp.{LlOp}
use Rattle.ll_code.specs.declared.program.LlOp.TheVariants as op
use Rattle.ll_code.specs.declared.program.LlExit.TheVariants as exit
use Rattle.ll_code.specs.declared.program.LlBlock.{LlBlock}
use Rattle.ll_code.specs.declared.program.LlGraph.{LlGraph}
use Rattle.ann_element.specs.declared.element.Element.{Element}
use Rattle.class_desc.specs.declared.classes.Initial.{Initial}
use Rattle.class_desc.specs.Line.{base}
use Rattle.class_desc.specs.Tables.{initial}
use Rattle.rtyper_layout.specs.declared.classes.Laid.{Laid}
use Rattle.rtyper_layout.specs.Families.{top_step}
use Rattle.rtyper_layout.specs.Types.{word, field_type, type_of}
use Rattle.rtyper_data.specs.declared.body.Body.{Body}
use Rattle.rtyper_data.specs.declared.found.Found.{Found}
use Rattle.rtyper_data.specs.Building.{block_with, fork, gives, graph_with}
use Rattle.rtyper_data.specs.Comparing.{flag}
use Rattle.rtyper_op.specs.Constants.{constant_of}
use Rattle.rtyper_data.specs.Converting.{default_operand}
use Rattle.rtyper_data.specs.Graphs.{asks_null, failing, fields_at, of_block}
use Rattle.rtyper_data.specs.Numbers.{word as word_operand}
use Rattle.rtyper_data.specs.Seen.{Writing, writing, push}
use Rattle.rtyper_class.specs.Seen.{World, laid}
use Rattle.rtyper_class.specs.Vtables.{vtable_at}

-- ---- new instances

-- what an attribute starts with, where the class has a constant for it
abbrev pub initial_of : List Initial → ℕ → List ℕ → Option Initial
initial_of [] home name = None
initial_of (i ∷ initials) home name = if i.home == home && bytes_eq i.name name then Some i else initial_of initials home name

-- the field of an attribute, by its place; one field stands before those of attributes
abbrev pub value_field : ℕ → ℕ
value_field place = word (word (place * 2) + 1)

-- the field that says whether it is set
abbrev pub set_field : ℕ → ℕ
set_field place = word (value_field place + 1)

abbrev pub start_as : ℕ → ℕ → COperand → Bool → Writing → Writing
start_as own place x is_set w = push (op.SetField own 0 (set_field place) (flag is_set)) (push (op.SetField own 0 (value_field place) x) w)

abbrev pub start_constant : ℕ → ℕ → Body → CConst × Found → Writing
start_constant own place body made = start_as own place (held made.0) true (writing made.1 body)

abbrev pub start_by : World → ℕ → ℕ → LlType → Option Initial → Writing → Writing
start_by world own place kind None w = start_as own place (default_operand kind) false w
start_by world own place kind (Some i) w = start_constant own place w.body (constant_of world.around i.value kind w.found)

-- the value of an attribute of the instance that is variable 0, and whether it is set
unfoldable pub start : World → ℕ → ℕ → Element → Option Initial → Writing → Writing
start world own place e i w = start_by world own place (field_type (type_of world.around.layout e)) i w

-- the attributes that a class itself declares, counted from a number
abbrev pub starts_from : World → ℕ → ℕ → List Initial → ℕ → List (ℕ × List ℕ × Element) → Writing → Writing
starts_from world home own initials n [] w = w
starts_from world home own initials n (a ∷ more) w =
    if a.0 == home then starts_from world home own initials (word (n + 1)) more (start world own n a.2 (initial_of initials home a.1) w)
    else starts_from world home own initials n more w

unfoldable pub starts : World → ℕ → ℕ → List Initial → Writing → Writing
starts world home own initials w = starts_from world home own initials 0 world.attributes w

abbrev pub onward : (ℕ → Writing → Writing) → Option ℕ → Writing → Writing
onward further None w = w
onward further (Some b) w = further b w

abbrev pub starts_next : (ℕ → Writing → Writing) → World → List Initial → ℕ → Option Laid → Writing → Writing
starts_next further world initials class None w = w
starts_next further world initials class (Some l) w = onward further (base world.classes.classes class) (starts world class l.own initials w)

-- those of a class and of its bases: at most so many classes
abbrev pub starts_within : World → List Initial → ℕ → ℕ → Writing → Writing
starts_within world initials zero class w = w
starts_within world initials (suc n) class w = starts_next (starts_within world initials n) world initials class (laid world class) w

unfoldable pub all_starts : World → List Initial → ℕ → Writing → Writing
all_starts world initials class w = starts_within world initials (length world.classes.classes) class w

-- an instance costs one step, and has its vtable
abbrev pub made : World → Laid → Body
made world l = record {
  types = type.Ptr l.root ∷ [];
  ops = op.Step (word_operand (pos 1)) ∷ op.New 0 l.root l.own ∷ op.SetField l.root 0 0 (held (vtable_at world l)) ∷ [];
}

-- and all that it has is set at once
unfoldable pub instance_body : World → ℕ → Laid → Found → Writing
instance_body world class l found = all_starts world (initial world.classes class) class (writing found (made world l))

abbrev pub instance_graph : Laid → Writing → LlGraph × Found
instance_graph l w = (graph_with (codes "new") [] (type.Ptr l.root) w.body.types (block_with [] w.body.ops (gives 0) ∷ []), w.found)

abbrev pub new_instance : World → ℕ → Laid → Found → LlGraph × Found
new_instance world class l found = instance_graph l (instance_body world class l found)

-- ---- attributes that may not be set

abbrev pub base_in : Option LlStruct → Option ℕ
base_in None = None
base_in (Some s) = s.base

-- the topmost of a struct and of so many above it
abbrev pub root_within : List LlStruct → ℕ → ℕ → ℕ
root_within structs zero at = at
root_within structs (suc n) at = top_step (root_within structs n) at (base_in (slice_get structs at))

unfoldable pub root_of : World → ℕ → ℕ
root_of world own = root_within world.around.layout.structs (length world.around.layout.structs) own

abbrev pub behind_base : Option ℕ → ℕ → ℕ
behind_base None number = number
behind_base (Some b) number = number - 1

-- the type of a field, by its number: the field of a base has none
unfoldable pub type_of_field : World → ℕ → ℕ → LlType
type_of_field world own number = unwrap_or (slice_get (fields_at world.around.layout own) (behind_base (base_in (slice_get world.around.layout.structs own)) number)) type.Bool

-- the value of an attribute that is set; of another it fails
abbrev pub attribute_graph : World → ℕ → ℕ → LlType → LlBlock → LlGraph
attribute_graph world own place kind fails = graph_with (codes "attribute") (0 ∷ []) kind (type.Ptr (root_of world own) ∷ type.Bool ∷ kind ∷ []) (
    block_with (0 ∷ []) (op.GetField 1 own 0 (set_field place) ∷ []) (fork 1 1 (Var 0 ∷ []) 2 [])
    ∷ block_with (0 ∷ []) (op.GetField 2 own 0 (value_field place) ∷ []) (gives 2)
    ∷ fails
    ∷ [])

unfoldable pub attribute : World → ℕ → ℕ → Bool → Found → LlGraph × Found
attribute world own place raises found = of_block (attribute_graph world own place (type_of_field world own (value_field place))) (failing 4 9 raises found)

-- ---- classes of instances

-- whether the number in the vtable lies in the range: variables 2 to 7
abbrev pub asks_range : ℕ → ℕ → ℕ → ℕ → List LlOp
asks_range root vtable low high =
    op.GetField 2 root 0 0
    ∷ op.GetField 3 vtable 2 0
    ∷ op.Binary 4 binary.Ge (Var 3) (word_operand (pos low))
    ∷ op.Unary 5 unary.B2S (Var 4)
    ∷ op.Binary 4 binary.Lt (Var 3) (word_operand (pos high))
    ∷ op.Unary 6 unary.B2S (Var 4)
    ∷ op.Binary 7 binary.And (Var 5) (Var 6)
    ∷ op.Binary 4 binary.Ne (Var 7) (word_operand (pos 0))
    ∷ []

abbrev pub range_types : ℕ → ℕ → List LlType
range_types root vtable = type.Ptr root ∷ type.Bool ∷ type.Ptr vtable ∷ type.Signed ∷ type.Bool ∷ type.Signed ∷ type.Signed ∷ type.Signed ∷ []

-- `None` is of no class
unfoldable pub is_instance : ℕ → ℕ → ℕ → ℕ → LlGraph
is_instance root vtable low high = graph_with (codes "is_instance") (0 ∷ []) type.Bool (range_types root vtable) (
    block_with (0 ∷ []) (asks_null (type.Ptr root)) (fork 1 1 [] 2 (Var 0 ∷ []))
    ∷ block_with [] [] (exit.Return (Some (flag false)))
    ∷ block_with (0 ∷ []) (asks_range root vtable low high) (gives 4)
    ∷ [])

-- ---- exceptions

abbrev pub root_in : Option Laid → ℕ
root_in None = 0
root_in (Some l) = l.root

-- the one instance of a builtin exception class
unfoldable pub builtin_instance : World → ℕ → COperand
builtin_instance world class = held (constant.Static (root_in (laid world 0)) (word (world.first_exception + class)))

unfoldable pub raise : World → ℕ → LlGraph
raise world class = graph_with (codes "raise") [] type.Void (type.Ptr (root_in (laid world 0)) ∷ []) (block_with [] (op.Set 0 (builtin_instance world class) ∷ []) (exit.Raise 0) ∷ [])
