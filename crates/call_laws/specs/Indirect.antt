-- Methods that are called through the vtables of instances.
use Rattle.std.specs.Prelude.{◌≡◌, ◌≢◌, ℕ, ◌&&◌, pos, Bool, true, false, List, [], ◌∷◌, map, slice_get, Option, Some}
use Rattle.ann_element.specs.declared.element.Element.{Element}
use Rattle.csub_tree.specs.State.{Word, Fun}
use Rattle.csub_tree.specs.Statement.{read, same_result, same_types}
use Rattle.ll_code.specs.Machine.{c_result, c_type, param_types}
use Rattle.ll_code.specs.declared.program.LlGraph.{LlGraph}
use Rattle.ll_code.specs.declared.program.LlProgram.{LlProgram}
use Rattle.ll_code.specs.declared.program.LlType.TheVariants as type
use Rattle.rpy_meaning.specs.Classes.{is_below, method_of}
use Rattle.rpy_meaning.specs.World.{World as MeantWorld}
use Rattle.rpy_meaning.specs.declared.row.RowOp.TheVariants as row
use Rattle.rpy_tree.specs.Value.{Value as Meant, Ref, Object, Instance}
use Rattle.rtyper_layout.specs.declared.classes.Laid.{Laid}
use Rattle.rtyper_layout.specs.Types.{type_of as type_of_element, type_seen}
use Rattle.rtyper_op.specs.Lowering.{is_never}
use Rattle.rtyper_data.specs.Seen.{Around, Operand, Place, type_of, type_at, Writing}
use Rattle.rtyper_class.specs.declared.call.Reached.TheVariants as reached
use Rattle.rtyper_class.specs.Calls.{reached_by, slot_from, param_types as types_like}
use Rattle.rtyper_class.specs.Seen.{World}
use Rattle.rtyper_class.specs.Vtables.{names_of}
use Rattle.object_laws.specs.Known.{Known}
use Rattle.object_laws.specs.Staying.{Stays}
use Rattle.class_laws.specs.Classes.{IsOf, IsLaidOut}
use Rattle.class_laws.specs.Instances.{IsInstance, present_asks}
use Rattle.call_laws.specs.Calls.{AllStay, there}
use Rattle.call_laws.specs.Done.{IsEnteredWhere}

-- each operand has the type of its parameter, which has one
abbrev pub AllTyped : Around → List Operand → List Element → Type 0
AllTyped around [] [] = Unit {0}
AllTyped around (a ∷ args) (p ∷ params) = (type_of around a ≡ type_of_element around.layout p) × (type_of_element around.layout p ≡ type.Void → ⊥) × AllTyped around args params
AllTyped around args params = ⊥

-- the graph of this number has the signature that is asked for where one of functions like this one is called
pub record IsSigned (p : LlProgram) (around : Around) (like n : ℕ) : Type 0 where
  pub graph : LlGraph
  pub is : slice_get p.graphs n ≡ Some graph
  pub fits : (same_result (c_result graph.result) (c_result (type_seen around.layout (slice_get around.results like))) && same_types (param_types graph) (map c_type (types_like around like))) ≡ true

-- the place of a method in a vtable, behind the number of the class
abbrev pub slot_of : World → Laid → List ℕ → ℕ
slot_of world l name = slot_from 1 (names_of world l.vtable) name

-- The class has this function under the name, and its vtable the graph of that at this place, with the signature of functions like this one.
-- It takes an instance of the class and the operands as they are, and its result goes to the place as it is.
pub record HasAtSlot (p : LlProgram) (world : World) (known : Known) (name : List ℕ) (like slot : ℕ) (a : Operand) (args : List Operand) (place : Place) (class f : ℕ) : Type 0 where
  pub itself : is_below known.program.classes class class ≡ true
  pub named : method_of known.program.classes class name ≡ Some f
  pub number : ℕ
  pub graph : known.graph f ≡ Some number
  pub stands : read (Word (pos (known.vtable class).number) ∷ (known.vtable class).methods) slot ≡ Fun number
  pub signed : IsSigned p world.around like number
  pub params : List Element
  pub takes : slice_get world.around.params f ≡ Some params
  pub stay : AllStay world.around.layout known (there a class ∷ args) params
  pub result : Element
  pub gives : slice_get world.around.results f ≡ Some result
  pub goes : Stays world.around.layout known (Some result) place.element

abbrev pub InVtable : LlProgram → World → Known → List ℕ → ℕ → ℕ → Operand → List Operand → Place → Option Object → Type 0
InVtable p world known name like slot a args place (Some (Instance c attributes)) = (f : ℕ) × HasAtSlot p world known name like slot a args place c f
InVtable p world known name like slot a args place other = Unit {0}

-- the vtable of the instance has its method
abbrev pub HasMethods : World → Known → List ℕ → ℕ → ℕ → Operand → List Operand → Place → LlProgram → MeantWorld → List Meant → Type 0
HasMethods world known name like slot a args place p meant (Ref i ∷ vs) = InVtable p world known name like slot a args place (slice_get meant.heap i)
HasMethods world known name like slot a args place p meant vs = Unit {0}

-- A method of an instance, where several functions can be meant: the one in the vtable of the instance is called. `None` fails, or raises.
abbrev pub MethodsAreLookedUp : Type 0
MethodsAreLookedUp = (site : Option ℕ) (world : World) (known : Known) → IsOf world known → IsLaidOut world known → (name : List ℕ) (like class : ℕ) (r : Bool) (l : Laid) (place : Place) (a : Operand) (args : List Operand) (w : Writing) (params : List Element)
    → IsInstance world a.element class r l → reached_by world class name ≡ reached.Several like → slice_get world.around.params like ≡ Some params → AllTyped world.around (there a class ∷ args) params
    → type_seen world.around.layout (slice_get world.around.results like) ≡ type_at world.around place → type_at world.around place ≢ type.Void → is_never args ≡ false
    → IsEnteredWhere (HasMethods world known name like (slot_of world l name) a args place) 0 world known (row.Method name site) w.found.covered (present_asks world a r w.found.covered) place (a ∷ args) w
