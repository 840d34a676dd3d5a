-- Attributes whose values are converted on the way.
use Rattle.std.specs.Prelude.{◌≡◌, ℕ, ◌+◌, Bool, false, List, [], ◌∷◌, ◌++◌, Some}
use Rattle.rpy_meaning.specs.World.{World as MeantWorld}
use Rattle.rpy_meaning.specs.declared.row.RowOp.TheVariants as row
use Rattle.rpy_tree.specs.Value.{Value as Meant}
use Rattle.rtyper_layout.specs.declared.classes.Laid.{Laid}
use Rattle.rtyper_layout.specs.Layout.{is_tuple}
use Rattle.rtyper_layout.specs.Types.{type_of as type_of_element}
use Rattle.rtyper_op.specs.Lowering.{never_comes}
use Rattle.rtyper_data.specs.Seen.{Operand, Place, kind_of, type_of, type_at, Writing}
use Rattle.rtyper_class.specs.Attributes.{Standing as Stood, place_in}
use Rattle.rtyper_class.specs.Lowering.{lower_class_op}
use Rattle.rtyper_class.specs.Seen.{World}
use Rattle.lower_laws.specs.Asked.{Ask}
use Rattle.object_laws.specs.Done.{references}
use Rattle.object_laws.specs.Known.{Known}
use Rattle.conversion_laws.specs.Asked.{asks_for}
use Rattle.conversion_laws.specs.Converted.{tuples_in, items_in}
use Rattle.conversion_laws.specs.Going.{Goes}
use Rattle.class_laws.specs.Asked.{Has}
use Rattle.class_laws.specs.Classes.{IsOf, IsLaidOut}
use Rattle.class_laws.specs.Instances.{IsInstance, present_asks}
use Rattle.passing_laws.specs.Done.{IsDoneBehind}
use Rattle.passing_laws.specs.Standing.{HasOne, With}

abbrev pub HasClasses : World → HasOne
HasClasses world = With (Has world) world.around.layout

-- the value may be there, and goes to what is known of the attribute, and of the place; the struct of strings is no tuple
pub record GoesBoth (world : World) (known : Known) (b : Operand) (s : Stood) (place : Place) : Type 0 where
  pub apart : is_tuple world.around.layout 0 ≡ false
  pub comes : never_comes (kind_of b) ≡ false
  pub goes : Goes world.around.layout known b.element (Some s.element)
  pub gives : Goes world.around.layout known b.element place.element

-- what is asked for: whether the instance is there, and for both conversions
abbrev pub storing_asks : World → Operand → Operand → Bool → Stood → Place → Writing → List Ask
storing_asks world a b or_none s place w =
    present_asks world a or_none w.found.covered ++ (asks_for world.around.layout (type_of world.around b) (type_of_element world.around.layout s.element) ++ asks_for world.around.layout (type_of world.around b) (type_at world.around place))

-- how many references are written
abbrev pub references_stored : Stood → Place → MeantWorld → List Meant → ℕ
references_stored s place world vs = items_in (Some s.element) + (items_in place.element + references world.heap vs)

-- An attribute is stored, once the value is converted, and is set then; no other one is another. The value of that is the value.
abbrev pub AttributesAreStored : Type 0
AttributesAreStored = (world : World) (known : Known) → IsOf world known → IsLaidOut world known → (place : Place) (name : List ℕ) (a b : Operand) (w : Writing) (class : ℕ) (or_none : Bool) (l : Laid) (s : Stood)
    → IsInstance world a.element class or_none l → place_in world class name ≡ Some s → GoesBoth world known b s place
    → IsDoneBehind (HasClasses world) (references_stored s place) (tuples_in (Some s.element) + tuples_in place.element) 0 0 known world.around (row.StoreAttr name) w.found.covered (storing_asks world a b or_none s place w) (lower_class_op world (row.StoreAttr name) place (a ∷ b ∷ []) w) place (a ∷ b ∷ []) w
