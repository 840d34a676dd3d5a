-- What a new instance starts with.
use Rattle.std.specs.Prelude.{◌≡◌, ℕ, ◌+◌, ◌==◌, Bool, true, false, if◌then◌else◌, List, [], ◌∷◌, Option, Some, None}
use Rattle.ann_element.specs.declared.element.Element.{Element}
use Rattle.csub_tree.specs.Layout.{constant}
use Rattle.csub_tree.specs.Operation.{is_unset}
use Rattle.ll_held.specs.Held.{is_reference}
use Rattle.rpy_tree.specs.Value.{Value as Meant}
use Rattle.rpy_meaning.specs.Classes.{named, first_attributes}
use Rattle.class_desc.specs.declared.classes.Initial.{Initial}
use Rattle.class_desc.specs.Line.{base, is_below}
use Rattle.class_desc.specs.Tables.{initial}
use Rattle.rtyper_layout.specs.declared.classes.Laid.{Laid}
use Rattle.rtyper_layout.specs.Types.{word, field_type, type_of}
use Rattle.rtyper_data.specs.declared.found.Found.{Found}
use Rattle.rtyper_op.specs.Constants.{constant_of}
use Rattle.rtyper_class.specs.Instances.{initial_of}
use Rattle.rtyper_class.specs.Seen.{World, laid}
use Rattle.object_laws.specs.Ghost.{Ghost}
use Rattle.object_laws.specs.Known.{Known, Standing}
use Rattle.object_laws.specs.Values.{Holds}

abbrev pub next_place : Bool → ℕ → ℕ
next_place ours n = if ours then word (n + 1) else n

-- the attributes that one class declares are known, each at its place, which are counted from a number
abbrev pub AreKnown : Known → (class home own n : ℕ) → List (ℕ × List ℕ × Element) → Type 0
AreKnown known class home own n [] = Unit {0}
AreKnown known class home own n (a ∷ more) = (a.0 == home ≡ true → known.attribute class a.1 ≡ Some (record { own = own; place = n; element = a.2 })) × AreKnown known class home own (next_place (a.0 == home) n) more

-- the constant stands for the value, whatever blocks and statics are for, and refers to none
pub record IsConstant (world : World) (known : Known) (e : Element) (i : Initial) (v : Meant) (found : Found) : Type 0 where
  pub holds : (g : Ghost) → Holds world.around.layout known g (Some e) (constant (constant_of world.around i.value (field_type (type_of world.around.layout e)) found).0) v
  pub fixed : is_unset (constant (constant_of world.around i.value (field_type (type_of world.around.layout e)) found).0) ≡ false
  pub alone : is_reference (constant (constant_of world.around i.value (field_type (type_of world.around.layout e)) found).0) ≡ false

-- an attribute has a value at first where the class has a constant for it
abbrev pub StartsAs : World → Known → Element → Option Meant → Option Initial → Type 0
StartsAs world known e None None = Unit {0}
StartsAs world known e (Some v) (Some i) = (found : Found) → IsConstant world known e i v found
StartsAs world known e v i = ⊥

-- The instances of a class start alike: its bases have structs where it has; what it and its bases declare is known at its place, and starts
-- with a constant that is no block, or with nothing.
pub record Starts (world : World) (known : Known) (class : ℕ) : Type 0 where
  pub bases : (c b : ℕ) (l : Laid) → laid world c ≡ Some l → base world.classes.classes c ≡ Some b → (m : Laid) × (laid world b ≡ Some m)
  pub listed : (home : ℕ) (l : Laid) → is_below world.classes.classes class home ≡ true → laid world home ≡ Some l → AreKnown known class home l.own 0 world.attributes
  pub values : (home : ℕ) (l : Laid) (name : List ℕ) (s : Standing) → is_below world.classes.classes class home ≡ true → laid world home ≡ Some l → known.attribute class name ≡ Some s → s.own ≡ l.own
      → StartsAs world known s.element (named name (first_attributes known.program.classes class)) (initial_of (initial world.classes class) home name)
