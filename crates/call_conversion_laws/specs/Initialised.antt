-- New instances whose `__init__` is called with arguments that are converted.
use Rattle.std.specs.Prelude.{◌≡◌, ◌≢◌, ◌<◌, ◌≤◌, ◌+◌, ℕ, Bool, true, false, List, [], ◌∷◌, ◌++◌, length, slice_get, Some, codes}
use Rattle.ann_element.specs.declared.element.Element.{Element}
use Rattle.ann_element.specs.declared.element.Element.TheVariants as element
use Rattle.csub_tree.specs.declared.tree.COperand.TheVariants.{Var}
use Rattle.ll_code.specs.declared.program.LlType.TheVariants as type
use Rattle.class_desc.specs.Line.{init}
use Rattle.rpy_meaning.specs.Classes.{is_below, method_of}
use Rattle.rpy_meaning.specs.Operations.{builtin_classes}
use Rattle.rpy_meaning.specs.declared.row.Covers.{Covers}
use Rattle.rpy_meaning.specs.declared.row.RowOp.TheVariants as row
use Rattle.rtyper_layout.specs.declared.classes.Laid.{Laid}
use Rattle.rtyper_layout.specs.Layout.{is_tuple}
use Rattle.rtyper_layout.specs.Types.{type_of}
use Rattle.rtyper_op.specs.Calls.{number_of}
use Rattle.rtyper_op.specs.Lowering.{is_never}
use Rattle.rtyper_data.specs.declared.small.Small.TheVariants as small
use Rattle.rtyper_data.specs.Seen.{Operand, Place, type_at, Writing}
use Rattle.rtyper_class.specs.Seen.{World, laid}
use Rattle.lower_laws.specs.Asked.{Make}
use Rattle.object_laws.specs.Known.{Known}
use Rattle.class_laws.specs.Classes.{IsOf, IsLaidOut}
use Rattle.class_laws.specs.Starting.{Starts}
use Rattle.call_laws.specs.Calls.{AreOthers}
use Rattle.passing_laws.specs.Passing.{AllPass, pass_asks, tuples_of, items_of}
use Rattle.call_conversion_laws.specs.Called.{IsCalled}
use Rattle.call_conversion_laws.specs.Defaults.{AllDefault, HasDefaults, stood_in}

-- the new instance, and the operands
abbrev pub with_self : Place → List Operand → List Operand
with_self place args = record { x = Var place.variable; element = place.element } ∷ args

-- The class has this `__init__`, which has a graph and gives something. The new instance and each operand go to a parameter, and each further
-- parameter has a default.
pub record Initialises (world : World) (known : Known) (class f : ℕ) (args : List Operand) (place : Place) : Type 0 where
  pub has : init world.classes.classes class ≡ Some f
  pub meant : method_of known.program.classes class (codes "__init__") ≡ Some f
  pub graph : known.graph f ≡ Some (number_of world.around f)
  pub here : List Element
  pub missing : List Element
  pub takes : slice_get world.around.params f ≡ Some (here ++ missing)
  pub pass : AllPass world.around.layout known (with_self place args) here
  pub default : AllDefault world.around known (slice_get world.around.functions f) (length (with_self place args)) missing
  pub defaults : HasDefaults known f (slice_get world.around.functions f) (here ++ missing)
  pub result : Element
  pub gives : slice_get world.around.results f ≡ Some result
  pub some : type_of world.around.layout result ≢ type.Void

-- A new instance of a class with `__init__`, in one block, at its cost; that is called with it and the arguments. In place of what it gives
-- stands the instance. No operand reads the place.
abbrev pub InstancesAreInitialised : Type 0
InstancesAreInitialised = (world : World) (known : Known) → IsOf world known → IsLaidOut world known → (place : Place) (args : List Operand) (w : Writing) (class d f : ℕ) (r : Bool) (l : Laid) (covers : Covers)
    → is_tuple world.around.layout 0 ≡ false → is_never args ≡ false → place.variable < length w.body.types
    → builtin_classes ≤ class → laid world class ≡ Some l → Starts world known class → place.element ≡ Some (element.Instance d r) → is_below known.program.classes class d ≡ true → type_at world.around place ≡ type.Ptr l.root
    → (it : Initialises world known class f args place) → AreOthers place args
    → IsCalled (1 + tuples_of it.here) (items_of it.here) world known (row.New class) covers (Make (small.New class) ∷ pass_asks world.around.layout (with_self place args) it.here)
    (stood_in world.around (slice_get world.around.functions f) (length (with_self place args)) it.missing) [] place args w
