-- What is known of a program where its classes are laid out.
use Rattle.std.specs.Prelude.{◌≡◌, ◌<◌, ◌⊎◌, ◌+◌, ℕ, true, List, length, Some, option_map}
use Rattle.csub_tree.specs.State.{Static}
use Rattle.csub_tree.specs.Layout.{shape_at, begins_with, constant}
use Rattle.rpy_meaning.specs.Classes.{is_below as is_below_meant}
use Rattle.class_desc.specs.Line.{is_below}
use Rattle.class_desc.specs.Range.{range, IsExact}
use Rattle.rtyper_layout.specs.declared.classes.Laid.{Laid}
use Rattle.rtyper_layout.specs.declared.layout.Layout.{Layout}
use Rattle.rtyper_layout.specs.Types.{word}
use Rattle.rtyper_class.specs.Attributes.{Standing as Stood, place_in}
use Rattle.rtyper_class.specs.Seen.{World, laid}
use Rattle.rtyper_class.specs.Vtables.{vtable_at}
use Rattle.object_laws.specs.Known.{Known, Standing}
use Rattle.object_laws.specs.Represents.{shapes, value_at, set_at}

abbrev pub standing_of : Stood → Standing
standing_of s = record { own = s.own; place = s.place; element = s.element }

-- It is known of this world: attributes stand where the lowering looks for them, a class has its vtable, whose number is that of the class,
-- and a builtin exception class its instance; the classes are those of the program, and a class is below another where its number lies
-- in the range of that.
pub record IsOf (world : World) (known : Known) : Type 0 where
  pub attribute : (class : ℕ) (name : List ℕ) → known.attribute class name ≡ option_map standing_of (place_in world class name)
  pub vtable : (class : ℕ) (l : Laid) → laid world class ≡ Some l → (known.vtable class).at ≡ constant (vtable_at world l)
  pub number : (class : ℕ) → (known.vtable class).number ≡ (range world.classes.classes class).0
  pub exception : (class : ℕ) → known.exception class ≡ Static (word (world.first_exception + class))
  pub below : (c d : ℕ) → is_below_meant known.program.classes c d ≡ is_below world.classes.classes c d
  pub exact : IsExact world.classes.classes

-- The two fields of an attribute in the instances of a class: its struct begins with the one that declares the attribute, the fields are
-- next to each other, and stand behind the vtable.
pub record HasFields (layout : Layout) (l : Laid) (s : Standing) : Type 0 where
  pub begins : begins_with (shapes layout) l.own s.own ≡ true
  pub declared : s.own < length layout.structs
  pub first : 0 < value_at layout s
  pub next : set_at layout s ≡ value_at layout s + 1
  pub inside : set_at layout s < (shape_at (shapes layout) l.own).size

-- the struct is one of the layout, and its fields are counted from zero
pub record IsTop (layout : Layout) (n : ℕ) : Type 0 where
  pub struct : n < length layout.structs
  pub own : (shape_at (shapes layout) n).own ≡ 0
  pub first : (shape_at (shapes layout) n).first ≡ 0
  pub some : 0 < (shape_at (shapes layout) n).size

-- The classes are laid out: each struct begins with the topmost one of its family, whose first field is the vtable; attributes have their
-- fields, which are apart; and a class has the topmost struct, the struct of vtables and the attributes of what it is below.
pub record IsLaidOut (world : World) (known : Known) : Type 0 where
  pub class : (c : ℕ) (l : Laid) → laid world c ≡ Some l → (c < length world.classes.classes) × (l.own < length world.around.layout.structs) × (0 < (shape_at (shapes world.around.layout) l.own).size)
  pub root : (c : ℕ) (l : Laid) → laid world c ≡ Some l → IsTop world.around.layout l.root × (begins_with (shapes world.around.layout) l.own l.root ≡ true)
  pub vtable : (c : ℕ) (l : Laid) → laid world c ≡ Some l → IsTop world.around.layout l.vtable × (begins_with (shapes world.around.layout) l.vtable l.vtable ≡ true)
  pub fields : (c : ℕ) (l : Laid) (name : List ℕ) (s : Standing) → laid world c ≡ Some l → known.attribute c name ≡ Some s → HasFields world.around.layout l s
  pub apart : (c : ℕ) (l : Laid) (a b : List ℕ) (s t : Standing) → laid world c ≡ Some l → known.attribute c a ≡ Some s → known.attribute c b ≡ Some t → (a ≡ b → ⊥) → (set_at world.around.layout s < value_at world.around.layout t) ⊎ (set_at world.around.layout t < value_at world.around.layout s)
  pub inherits : (c d : ℕ) (l m : Laid) → is_below world.classes.classes c d ≡ true → laid world c ≡ Some l → laid world d ≡ Some m
      → (l.root ≡ m.root) × (l.vtable ≡ m.vtable) × ((name : List ℕ) (s : Standing) → known.attribute d name ≡ Some s → known.attribute c name ≡ Some s)
