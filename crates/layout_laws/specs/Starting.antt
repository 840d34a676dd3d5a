-- What the laws of new instances take of the layout of a program.
use Rattle.std.specs.Prelude.{◌≡◌, ◌≤◌, ℕ, Bool, true, List, ◌++◌, length, map, slice_get, Some}
use Rattle.ann_element.specs.declared.annotation.Annotation.{Annotation}
use Rattle.ann_element.specs.declared.element.Element.{Element}
use Rattle.rpy_meaning.specs.Classes.{constants_of}
use Rattle.rpy_meaning.specs.Resolved.{Further, builtin_names, class_names_from, program_of, value_in}
use Rattle.rpy_meaning.specs.Tree.{Class}
use Rattle.rpy_resolved.specs.declared.tree.Resolved.{Resolved}
use Rattle.rpy_tree.specs.Value.{Value as Meant}
use Rattle.rpy_tree.specs.declared.program.ClassInfo.{ClassInfo}
use Rattle.rpy_tree.specs.declared.program.Const.{Const}
use Rattle.rpy_tree.specs.declared.program.Program as tree
use Rattle.class_desc.specs.declared.classes.Initial.{Initial}
use Rattle.class_desc.specs.Line.{base, constants_in, is_below}
use Rattle.class_desc.specs.Tables.{home, initial}
use Rattle.rtyper_layout.specs.declared.classes.Laid.{Laid}
use Rattle.rtyper_data.specs.declared.found.Found.{Found}
use Rattle.rtyper_class.specs.Instances.{initial_of}
use Rattle.rtyper_class.specs.Seen.{World, laid}
use Rattle.object_laws.specs.Known.{Known, Standing}
use Rattle.class_laws.specs.Starting.{AreKnown, IsConstant, Starts}
use Rattle.layout_laws.specs.Knowing.{AreClasses}
use Rattle.layout_laws.specs.Layouts.{IsWorldOf, IsNumbered, KnowsAttributes}

-- Each attribute that the annotation has is declared by its class, by none above that, and stands there once.
pub record AreDeclared (world : World) : Type 0 where
  pub at_home : (i class : ℕ) (name : List ℕ) (e : Element) → slice_get world.attributes i ≡ Some (class, name, e) → home world.classes class name ≡ Some class
  pub once : (i j class : ℕ) (name : List ℕ) (e f : Element) → slice_get world.attributes i ≡ Some (class, name, e) → slice_get world.attributes j ≡ Some (class, name, f) → i ≡ j

-- the constants of the classes of the meaning are these, with these values
abbrev pub AreConstants : (Const → Meant) → List Class → List ClassInfo → Type 0
AreConstants value meant infos = (class : ℕ) → constants_of (slice_get meant class) ≡ map (λ (a : List ℕ × Const). (a.0, value a.1)) (constants_in (slice_get infos class))

-- what an attribute of the class starts with stands for its value, and is no block
abbrev pub ConstantsStand : World → Known → (Const → Meant) → ℕ → Type 0
ConstantsStand world known value class = (home : ℕ) (name : List ℕ) (s : Standing) (i : Initial) (found : Found) → known.attribute class name ≡ Some s → initial_of (initial world.classes class) home name ≡ Some i
    → IsConstant world known s.element i (value i.value) found

-- the base of a class that has structs has some
abbrev pub BasesAreLaid : Type 0
BasesAreLaid = (program : Resolved) (annotation : Annotation) (raises : Bool) (world : World) → IsWorldOf program annotation raises world → IsNumbered world
    → (c b : ℕ) (l : Laid) → laid world c ≡ Some l → base world.classes.classes c ≡ Some b → (m : Laid) × (laid world b ≡ Some m)

-- what a class and its bases declare is known at its place
abbrev pub AttributesAreKnown : Type 0
AttributesAreKnown = (world : World) (known : Known) → IsNumbered world → KnowsAttributes world known → AreDeclared world
    → (class home : ℕ) (l : Laid) → is_below world.classes.classes class home ≡ true → laid world home ≡ Some l → AreKnown known class home l.own 0 world.attributes

-- what the laws of new instances take
abbrev pub InstancesStart : Type 0
InstancesStart = (program : Resolved) (annotation : Annotation) (raises : Bool) (world : World) (known : Known) (value : Const → Meant) (class : ℕ)
    → IsWorldOf program annotation raises world → IsNumbered world → KnowsAttributes world known → AreDeclared world
    → AreClasses known.program.classes world.classes.classes → AreConstants value known.program.classes world.classes.classes → ConstantsStand world known value class
    → Starts world known class

-- those of the program that the meaning makes are so, where each class has a name
abbrev pub ProgramsHaveTheirConstants : Type 0
ProgramsHaveTheirConstants = (p : tree.Program) (further : Further) → length p.classes ≤ length (builtin_names ++ class_names_from p further p.names p.modules) → AreConstants (value_in p further) (program_of p further).classes p.classes
