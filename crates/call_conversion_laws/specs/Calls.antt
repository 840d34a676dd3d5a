-- What is called, with arguments and results that are converted.
use Rattle.std.specs.Prelude.{◌≡◌, ◌<◌, ℕ, Bool, false, List, [], ◌∷◌, ◌++◌, length, slice_get, Option, Some}
use Rattle.ann_element.specs.declared.element.Element.{Element}
use Rattle.ann_element.specs.declared.element.Element.TheVariants as element
use Rattle.rpy_meaning.specs.declared.row.Covers.{Covers}
use Rattle.rpy_meaning.specs.declared.row.RowOp.{RowOp}
use Rattle.rpy_meaning.specs.declared.row.RowOp.TheVariants as row
use Rattle.rtyper_layout.specs.declared.classes.Laid.{Laid}
use Rattle.rtyper_layout.specs.Layout.{is_tuple}
use Rattle.rtyper_layout.specs.Types.{type_of}
use Rattle.rtyper_op.specs.Calls.{number_of}
use Rattle.rtyper_op.specs.Lowering.{is_never}
use Rattle.rtyper_data.specs.Seen.{Operand, Place, type_at, Writing}
use Rattle.rtyper_class.specs.declared.call.Reached.TheVariants as reached
use Rattle.rtyper_class.specs.Calls.{reached_by}
use Rattle.rtyper_class.specs.Seen.{World}
use Rattle.object_laws.specs.Known.{Known}
use Rattle.conversion_laws.specs.Asked.{asks_for}
use Rattle.conversion_laws.specs.Going.{Goes}
use Rattle.class_laws.specs.Instances.{IsInstance, present_asks}
use Rattle.call_laws.specs.Calls.{there, HasMethod}
use Rattle.passing_laws.specs.Passing.{AllPass, pass_asks, tuples_of, items_of}
use Rattle.call_conversion_laws.specs.Called.{IsCalled, IsCalledWhere}
use Rattle.call_conversion_laws.specs.Defaults.{AllDefault, HasDefaults, stood_in}

-- The function has a graph. Each operand goes to a parameter, each further parameter has a default, and the result goes to the place.
pub record Takes (world : World) (known : Known) (f : ℕ) (args : List Operand) (place : Place) : Type 0 where
  pub graph : known.graph f ≡ Some (number_of world.around f)
  pub here : List Element
  pub missing : List Element
  pub takes : slice_get world.around.params f ≡ Some (here ++ missing)
  pub pass : AllPass world.around.layout known args here
  pub default : AllDefault world.around known (slice_get world.around.functions f) (length args) missing
  pub defaults : HasDefaults known f (slice_get world.around.functions f) (here ++ missing)
  pub result : Element
  pub gives : slice_get world.around.results f ≡ Some result
  pub goes : Goes world.around.layout known (Some result) place.element

-- a call of a function; the struct of strings is no tuple, each operand may be there, and the place is a variable
abbrev pub FunctionsAreCalled : (ℕ → RowOp) → Type 0
FunctionsAreCalled o = (world : World) (known : Known) (f : ℕ) (place : Place) (args : List Operand) (w : Writing) (covers : Covers) → is_tuple world.around.layout 0 ≡ false → is_never args ≡ false → place.variable < length w.body.types → (it : Takes world known f args place)
    → IsCalled (tuples_of it.here) (items_of it.here) world known (o f) covers (pass_asks world.around.layout args it.here) (stood_in world.around (slice_get world.around.functions f) (length args) it.missing)
    (asks_for world.around.layout (type_of world.around.layout it.result) (type_at world.around place)) place args w

-- A method of an instance, where the class and those below it that have instances have but one; the instance comes first. `None` fails, or
-- raises.
abbrev pub MethodsAreCalled : Type 0
MethodsAreCalled = (site : Option ℕ) (world : World) (known : Known) (name : List ℕ) (f class : ℕ) (r : Bool) (l : Laid) (place : Place) (a : Operand) (args : List Operand) (w : Writing)
    → is_tuple world.around.layout 0 ≡ false → is_never args ≡ false → place.variable < length w.body.types → IsInstance world a.element class r l → reached_by world class name ≡ reached.One f → (it : Takes world known f (there a class ∷ args) place)
    → IsCalledWhere (λ p. HasMethod known name f) (tuples_of it.here) (items_of it.here) world known (row.Method name site) w.found.covered (present_asks world a r w.found.covered ++ pass_asks world.around.layout (there a class ∷ args) it.here)
    (stood_in world.around (slice_get world.around.functions f) (length (there a class ∷ args)) it.missing) (asks_for world.around.layout (type_of world.around.layout it.result) (type_at world.around place)) place (a ∷ args) w

-- a value that is one function, or `None`, which fails, or raises
abbrev pub ValuesAreCalled : Type 0
ValuesAreCalled = (world : World) (known : Known) (f : ℕ) (r : Bool) (place : Place) (a : Operand) (args : List Operand) (w : Writing)
    → is_tuple world.around.layout 0 ≡ false → is_never args ≡ false → place.variable < length w.body.types → a.element ≡ Some (element.Func (f ∷ []) r) → (it : Takes world known f args place)
    → IsCalled (tuples_of it.here) (items_of it.here) world known row.CallValue w.found.covered (present_asks world a r w.found.covered ++ pass_asks world.around.layout args it.here)
    (stood_in world.around (slice_get world.around.functions f) (length args) it.missing) (asks_for world.around.layout (type_of world.around.layout it.result) (type_at world.around place)) place (a ∷ args) w
