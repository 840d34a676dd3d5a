-- Values that may be one of several functions.
use Rattle.std.specs.Prelude.{◌≡◌, ◌<◌, ◌≤◌, ℕ, Bool, true, false, List, [], ◌∷◌, ◌++◌, length, slice_get, Some}
use Rattle.ann_element.specs.declared.element.Element.{Element}
use Rattle.ann_element.specs.declared.element.Element.TheVariants as element
use Rattle.ll_code.specs.declared.program.LlProgram.{LlProgram}
use Rattle.rpy_meaning.specs.declared.row.RowOp.TheVariants as row
use Rattle.rtyper_layout.specs.declared.layout.Layout.{Layout}
use Rattle.rtyper_layout.specs.Layout.{is_tuple}
use Rattle.rtyper_layout.specs.Types.{type_of}
use Rattle.rtyper_op.specs.Lowering.{is_never}
use Rattle.rtyper_data.specs.Seen.{Operand, Place, type_at, Writing}
use Rattle.rtyper_class.specs.Seen.{World}
use Rattle.object_laws.specs.Known.{Known}
use Rattle.object_laws.specs.Values.{is_one_of}
use Rattle.conversion_laws.specs.Asked.{asks_for}
use Rattle.conversion_laws.specs.Going.{Goes}
use Rattle.class_laws.specs.Instances.{present_asks}
use Rattle.call_laws.specs.Indirect.{IsSigned}
use Rattle.passing_laws.specs.Passing.{AllPass, pass_asks, tuples_of, items_of}
use Rattle.call_conversion_laws.specs.Called.{IsCalledWhere}
use Rattle.call_conversion_laws.specs.Defaults.{HasDefaults}

-- elements of the same types, one for each
abbrev pub AllAlike : Layout → List Element → List Element → Type 0
AllAlike layout [] [] = Unit {0}
AllAlike layout (e ∷ es) (f ∷ fs) = (type_of layout e ≡ type_of layout f) × AllAlike layout es fs
AllAlike layout es fs = ⊥

-- The function may be meant where one of functions like that one is called: it has a graph with this signature, and parameters of these types.
-- Each operand goes to a parameter, with no more tuples and items than these; and its result is of this type and goes to the place.
pub record IsMeant (p : LlProgram) (world : World) (known : Known) (like : ℕ) (args : List Operand) (params : List Element) (result : Element) (place : Place) (blocks more f : ℕ) : Type 0 where
  pub number : ℕ
  pub graph : known.graph f ≡ Some number
  pub signed : IsSigned p world.around like number
  pub own : List Element
  pub takes : slice_get world.around.params f ≡ Some own
  pub alike : AllAlike world.around.layout own params
  pub pass : AllPass world.around.layout known args own
  pub tuples : tuples_of own ≤ blocks
  pub items : items_of own ≤ more
  pub defaults : HasDefaults known f (slice_get world.around.functions f) own
  pub given : Element
  pub gives : slice_get world.around.results f ≡ Some given
  pub same : type_of world.around.layout given ≡ type_of world.around.layout result
  pub goes : Goes world.around.layout known (Some given) place.element

-- A value that is one of several functions, or `None`, with an argument for each parameter: that function is called, where each of them may be meant. `None` fails, or raises.
abbrev pub ValuesOfSeveralAreCalled : Type 0
ValuesOfSeveralAreCalled = (world : World) (known : Known) (f g : ℕ) (fs : List ℕ) (r : Bool) (place : Place) (a : Operand) (args : List Operand) (w : Writing) (params : List Element) (result : Element) (blocks more : ℕ)
    → is_tuple world.around.layout 0 ≡ false → is_never args ≡ false → place.variable < length w.body.types → a.element ≡ Some (element.Func (f ∷ g ∷ fs) r)
    → slice_get world.around.params f ≡ Some params → slice_get world.around.results f ≡ Some result → AllPass world.around.layout known args params → Goes world.around.layout known (Some result) place.element
    → IsCalledWhere (λ p meant vs. (h : ℕ) → is_one_of (f ∷ g ∷ fs) h ≡ true → IsMeant p world known f args params result place blocks more h) blocks more world known row.CallValue w.found.covered
    (present_asks world a r w.found.covered ++ pass_asks world.around.layout args params) (λ found. found) (asks_for world.around.layout (type_of world.around.layout result) (type_at world.around place)) place (a ∷ args) w
