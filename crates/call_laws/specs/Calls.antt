-- What is called: functions by their names, methods, function values, and `__init__` of new instances.
use Rattle.std.specs.Prelude.{◌≡◌, ◌≢◌, ◌≤◌, ℕ, Bool, true, false, List, [], ◌∷◌, slice_get, Option, Some, codes}
use Rattle.ann_element.specs.declared.element.Element.{Element}
use Rattle.ann_element.specs.declared.element.Element.TheVariants as element
use Rattle.csub_tree.specs.declared.tree.COperand.{COperand}
use Rattle.csub_tree.specs.declared.tree.COperand.TheVariants.{Var, Const}
use Rattle.ll_code.specs.declared.program.LlType.TheVariants as type
use Rattle.rpy_meaning.specs.Classes.{is_below, method_of}
use Rattle.rpy_meaning.specs.Operations.{builtin_classes}
use Rattle.rpy_meaning.specs.World.{World as MeantWorld}
use Rattle.rpy_tree.specs.Value.{Value as Meant, Ref, Object, Instance}
use Rattle.rpy_meaning.specs.declared.row.Covers.{Covers}
use Rattle.rpy_meaning.specs.declared.row.RowOp.{RowOp}
use Rattle.rpy_meaning.specs.declared.row.RowOp.TheVariants as row
use Rattle.class_desc.specs.Line.{init}
use Rattle.rtyper_layout.specs.declared.classes.Laid.{Laid}
use Rattle.rtyper_layout.specs.declared.layout.Layout.{Layout}
use Rattle.rtyper_layout.specs.Types.{type_of}
use Rattle.rtyper_op.specs.Calls.{number_of}
use Rattle.rtyper_data.specs.declared.small.Small.TheVariants as small
use Rattle.rtyper_data.specs.Seen.{Operand, Place, type_at, Writing}
use Rattle.rtyper_class.specs.declared.call.Reached.TheVariants as reached
use Rattle.rtyper_class.specs.Calls.{reached_by}
use Rattle.rtyper_class.specs.Seen.{World, laid}
use Rattle.lower_laws.specs.Asked.{Make}
use Rattle.object_laws.specs.Known.{Known}
use Rattle.object_laws.specs.Staying.{Stays}
use Rattle.class_laws.specs.Classes.{IsOf, IsLaidOut}
use Rattle.class_laws.specs.Starting.{Starts}
use Rattle.class_laws.specs.Instances.{IsInstance, present_asks}
use Rattle.call_laws.specs.Done.{IsEntered, IsEnteredWhere}

-- each operand is what is known of its parameter, as it is
abbrev pub AllStay : Layout → Known → List Operand → List Element → Type 0
AllStay layout known [] [] = Unit {0}
AllStay layout known (a ∷ args) (param ∷ params) = Stays layout known a.element (Some param) × AllStay layout known args params
AllStay layout known args params = ⊥

-- The function has a graph, which takes so many operands as they are, and its result goes to the place as it is.
pub record Takes (world : World) (known : Known) (f : ℕ) (args : List Operand) (place : Place) : Type 0 where
  pub graph : known.graph f ≡ Some (number_of world.around f)
  pub params : List Element
  pub takes : slice_get world.around.params f ≡ Some params
  pub stay : AllStay world.around.layout known args params
  pub result : Element
  pub gives : slice_get world.around.results f ≡ Some result
  pub goes : Stays world.around.layout known (Some result) place.element

-- a call of a function with an argument for each parameter
abbrev pub FunctionsAreCalled : (ℕ → RowOp) → Type 0
FunctionsAreCalled o = (world : World) (known : Known) (f : ℕ) (place : Place) (args : List Operand) (w : Writing) (covers : Covers) → Takes world known f args place → IsEntered 0 world known (o f) covers [] place args w

-- ---- methods and function values

-- the operand is an instance of this class that is there
abbrev pub there : Operand → ℕ → Operand
there a class = record { x = a.x; element = Some (element.Instance class false) }

abbrev pub InClass : Known → List ℕ → ℕ → Option Object → Type 0
InClass known name f (Some (Instance c attributes)) = method_of known.program.classes c name ≡ Some f
InClass known name f other = Unit {0}

-- the class of the instance has this function under the name
abbrev pub HasMethod : Known → List ℕ → ℕ → MeantWorld → List Meant → Type 0
HasMethod known name f meant (Ref i ∷ vs) = InClass known name f (slice_get meant.heap i)
HasMethod known name f meant vs = Unit {0}

-- A method of an instance, where the class and those below it that have instances have but one; the instance comes first. `None` fails, or
-- raises.
abbrev pub MethodsAreCalled : Type 0
MethodsAreCalled = (site : Option ℕ) (world : World) (known : Known) (name : List ℕ) (f class : ℕ) (r : Bool) (l : Laid) (place : Place) (a : Operand) (args : List Operand) (w : Writing)
    → IsInstance world a.element class r l → reached_by world class name ≡ reached.One f → Takes world known f (there a class ∷ args) place
    → IsEnteredWhere (λ p. HasMethod known name f) 0 world known (row.Method name site) w.found.covered (present_asks world a r w.found.covered) place (a ∷ args) w

-- a value that is one function, or `None`, which fails, or raises
abbrev pub ValuesAreCalled : Type 0
ValuesAreCalled = (world : World) (known : Known) (f : ℕ) (r : Bool) (place : Place) (a : Operand) (args : List Operand) (w : Writing) → a.element ≡ Some (element.Func (f ∷ []) r) → Takes world known f args place
    → IsEntered 0 world known row.CallValue w.found.covered (present_asks world a r w.found.covered) place (a ∷ args) w

-- ---- new instances

-- the operand does not read the variable of the result
abbrev pub IsOther : Place → COperand → Type 0
IsOther place (Var v) = v ≢ place.variable
IsOther place (Const c) = Unit {0}

abbrev pub AreOthers : Place → List Operand → Type 0
AreOthers place [] = Unit {0}
AreOthers place (a ∷ args) = IsOther place a.x × AreOthers place args

-- The class has this `__init__`, whose graph takes an instance and so many operands as they are, and gives something.
pub record Initialises (world : World) (known : Known) (class f : ℕ) (args : List Operand) (place : Place) : Type 0 where
  pub has : init world.classes.classes class ≡ Some f
  pub meant : method_of known.program.classes class (codes "__init__") ≡ Some f
  pub graph : known.graph f ≡ Some (number_of world.around f)
  pub first : Element
  pub params : List Element
  pub takes : slice_get world.around.params f ≡ Some (first ∷ params)
  pub self : Stays world.around.layout known place.element (Some first)
  pub stay : AllStay world.around.layout known args params
  pub result : Element
  pub gives : slice_get world.around.results f ≡ Some result
  pub some : type_of world.around.layout result ≢ type.Void

-- A new instance of a class with `__init__`, in one block, at its cost; that is called with it and the arguments. In place of what it gives
-- stands the instance.
abbrev pub InstancesAreInitialised : Type 0
InstancesAreInitialised = (world : World) (known : Known) → IsOf world known → IsLaidOut world known → (place : Place) (args : List Operand) (w : Writing) (class d f : ℕ) (r : Bool) (l : Laid) (covers : Covers)
    → builtin_classes ≤ class → laid world class ≡ Some l → Starts world known class → place.element ≡ Some (element.Instance d r) → is_below known.program.classes class d ≡ true → type_at world.around place ≡ type.Ptr l.root
    → Initialises world known class f args place → AreOthers place args → IsEntered 1 world known (row.New class) covers (Make (small.New class) ∷ []) place args w
