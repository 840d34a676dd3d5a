-- Attributes of instances.
use Rattle.std.specs.Prelude.{ℕ, Bool, true, List, [], ◌∷◌, Option, Some, None}
use Rattle.csub_tree.specs.declared.tree.COperand.{COperand}
use Rattle.ll_code.specs.declared.program.LlType.{LlType}
use Rattle.ll_code.specs.declared.program.LlType.TheVariants as type
use Rattle.ll_code.specs.declared.program.LlOp.TheVariants as op
use Rattle.ann_element.specs.declared.element.Element.{Element}
use Rattle.class_desc.specs.Tables.{home}
use Rattle.rtyper_layout.specs.declared.classes.Laid.{Laid}
use Rattle.rtyper_layout.specs.Families.{attribute_place}
use Rattle.rtyper_layout.specs.Types.{type_of as type_of_element}
use Rattle.rtyper_data.specs.declared.body.Body.{Body}
use Rattle.rtyper_data.specs.declared.found.Found.{Found}
use Rattle.rtyper_data.specs.declared.small.Small.TheVariants as small
use Rattle.rtyper_data.specs.Comparing.{flag}
use Rattle.rtyper_data.specs.Converting.{by_small, give, give_made, given, present}
use Rattle.rtyper_op.specs.Lowering.{failure}
use Rattle.rtyper_data.specs.Seen.{Operand, Place, type_of, Writing, writing, push}
use Rattle.rtyper_data.specs.Tuples.{variable_of}
use Rattle.rtyper_class.specs.declared.attribute.Standing.{Standing as Parts}
use Rattle.rtyper_class.specs.Instances.{value_field, set_field}
use Rattle.rtyper_class.specs.Seen.{World, laid}

-- where an attribute stands: the struct that declares it, its place there, and its element
pub record Standing : Type 0 where
  pub own : ℕ
  pub place : ℕ
  pub element : Element

abbrev pub the_standing : Parts → Standing
the_standing s = record { own = s.own; place = s.place; element = s.element.now }

abbrev pub standing : ℕ → Option (ℕ × Element) → Option Standing
standing own None = None
standing own (Some at) = Some (record { own = own; place = at.0; element = at.1 })

abbrev pub standing_in : World → ℕ → List ℕ → Option Laid → Option Standing
standing_in world home name None = None
standing_in world home name (Some l) = standing l.own (attribute_place world.attributes home name)

abbrev pub standing_at : World → List ℕ → Option ℕ → Option Standing
standing_at world name None = None
standing_at world name (Some home) = standing_in world home name (laid world home)

-- of the topmost class that declares it
unfoldable pub place_in : World → ℕ → List ℕ → Option Standing
place_in world class name = standing_at world name (home world.classes class name)

-- what nothing ever sets has no type, and reading it fails
abbrev pub read_as : World → Place → Standing → LlType → COperand × Writing → Writing
read_as world place at type.Void x = failure world.around place x.1
read_as world place at kind x = give_made world.around place kind (by_small (small.Attribute at.own at.place x.1.found.covered.attribute) kind (x.0 ∷ []) x.1)

abbrev pub read_at : World → Place → Option Standing → COperand × Writing → Writing
read_at world place None x = x.1
read_at world place (Some at) x = read_as world place at (type_of_element world.around.layout at.element) x

-- reads an attribute of an instance of the class, or `None`
unfoldable pub read : World → Place → List ℕ → Operand → ℕ → Bool → Writing → Writing
read world place name a class or_none w = read_at world place (place_in world class name) (present world.around a or_none w)

-- the value, and that it is set
abbrev pub store_in : World → Place → Standing → Operand → COperand → Found → ℕ × Body → Writing
store_in world place at b value found v =
    give world.around place b.x (type_of world.around b) (push (op.SetField at.own v.0 (set_field at.place) (flag true)) (push (op.SetField at.own v.0 (value_field at.place) value) (writing found v.1)))

abbrev pub store_value : World → Place → Standing → Operand → Operand → COperand → COperand × Writing → Writing
store_value world place at a b x value = store_in world place at b value.0 value.1.found (variable_of x (type_of world.around a) value.1.body)

abbrev pub store_at : World → Place → Option Standing → Operand → Operand → COperand × Writing → Writing
store_at world place None a b x = x.1
store_at world place (Some at) a b x = store_value world place at a b x.0 (given world.around b (type_of_element world.around.layout at.element) x.1)

-- sets an attribute; the result is the value
unfoldable pub store : World → Place → List ℕ → Operand → Operand → ℕ → Bool → Writing → Writing
store world place name a b class or_none w = store_at world place (place_in world class name) a b (present world.around a or_none w)
