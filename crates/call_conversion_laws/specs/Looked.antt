-- Methods that are called through the vtables of instances, with arguments and results that are converted.
use Rattle.std.specs.Prelude.{◌≡◌, ◌<◌, ℕ, pos, Bool, true, false, List, ◌∷◌, ◌++◌, length, slice_get, Option, Some}
use Rattle.ann_element.specs.declared.element.Element.{Element}
use Rattle.csub_tree.specs.State.{Word, Fun}
use Rattle.csub_tree.specs.Statement.{read}
use Rattle.ll_code.specs.declared.program.LlProgram.{LlProgram}
use Rattle.rpy_meaning.specs.Classes.{is_below, method_of}
use Rattle.rpy_meaning.specs.World.{World as MeantWorld}
use Rattle.rpy_meaning.specs.declared.row.RowOp.TheVariants as row
use Rattle.rpy_tree.specs.Value.{Value as Meant, Ref, Object, Instance}
use Rattle.rtyper_layout.specs.declared.classes.Laid.{Laid}
use Rattle.rtyper_layout.specs.Layout.{is_tuple}
use Rattle.rtyper_layout.specs.Types.{type_of}
use Rattle.rtyper_op.specs.Lowering.{is_never}
use Rattle.rtyper_data.specs.Seen.{Operand, Place, type_at, Writing}
use Rattle.rtyper_class.specs.declared.call.Reached.TheVariants as reached
use Rattle.rtyper_class.specs.Calls.{reached_by}
use Rattle.rtyper_class.specs.Seen.{World}
use Rattle.object_laws.specs.Known.{Known}
use Rattle.conversion_laws.specs.Asked.{asks_for}
use Rattle.conversion_laws.specs.Going.{Goes}
use Rattle.class_laws.specs.Classes.{IsOf, IsLaidOut}
use Rattle.class_laws.specs.Instances.{IsInstance, present_asks}
use Rattle.call_laws.specs.Calls.{there}
use Rattle.call_laws.specs.Indirect.{slot_of}
use Rattle.passing_laws.specs.Passing.{AllPass, pass_asks}
use Rattle.call_conversion_laws.specs.Called.{IsCalledWhere}
use Rattle.call_conversion_laws.specs.Several.{IsMeant}

-- the class has this function under the name, which may be meant with an instance of the class, and its vtable has the graph of that at this place
pub record HasAtSlot (p : LlProgram) (world : World) (known : Known) (name : List ℕ) (like slot : ℕ) (a : Operand) (args : List Operand) (params : List Element) (result : Element) (place : Place) (blocks more class f : ℕ) : Type 0 where
  pub itself : is_below known.program.classes class class ≡ true
  pub named : method_of known.program.classes class name ≡ Some f
  pub meant : IsMeant p world known like (there a class ∷ args) params result place blocks more f
  pub stands : read (Word (pos (known.vtable class).number) ∷ (known.vtable class).methods) slot ≡ Fun meant.number

abbrev pub InVtable : LlProgram → World → Known → List ℕ → ℕ → ℕ → Operand → List Operand → List Element → Element → Place → ℕ → ℕ → Option Object → Type 0
InVtable p world known name like slot a args params result place blocks more (Some (Instance c attributes)) = (f : ℕ) × HasAtSlot p world known name like slot a args params result place blocks more c f
InVtable p world known name like slot a args params result place blocks more other = Unit {0}

-- the vtable of the instance has its method
abbrev pub HasMethods : World → Known → List ℕ → ℕ → ℕ → Operand → List Operand → List Element → Element → Place → ℕ → ℕ → LlProgram → MeantWorld → List Meant → Type 0
HasMethods world known name like slot a args params result place blocks more p meant (Ref i ∷ vs) = InVtable p world known name like slot a args params result place blocks more (slice_get meant.heap i)
HasMethods world known name like slot a args params result place blocks more p meant vs = Unit {0}

-- A method of an instance, where several functions can be meant, with an argument for each parameter: the one in the vtable of the instance is called. `None` fails, or raises.
abbrev pub MethodsAreLookedUp : Type 0
MethodsAreLookedUp = (site : Option ℕ) (world : World) (known : Known) → IsOf world known → IsLaidOut world known → (name : List ℕ) (like class : ℕ) (r : Bool) (l : Laid) (place : Place) (a : Operand) (args : List Operand) (w : Writing) (params : List Element) (result : Element) (blocks more : ℕ)
    → is_tuple world.around.layout 0 ≡ false → is_never args ≡ false → place.variable < length w.body.types → IsInstance world a.element class r l → reached_by world class name ≡ reached.Several like
    → slice_get world.around.params like ≡ Some params → slice_get world.around.results like ≡ Some result → AllPass world.around.layout known (there a class ∷ args) params → Goes world.around.layout known (Some result) place.element
    → IsCalledWhere (HasMethods world known name like (slot_of world l name) a args params result place blocks more) blocks more world known (row.Method name site) w.found.covered
    (present_asks world a r w.found.covered ++ pass_asks world.around.layout (there a class ∷ args) params) (λ found. found) (asks_for world.around.layout (type_of world.around.layout result) (type_at world.around place)) place (a ∷ args) w
