-- Operations on instances, in every program that has types.
use Rattle.std.specs.Prelude.{◌≡◌, ◌<◌, ◌⊎◌, ℕ, Bool, false, List, [], ◌∷◌, length, Some, None}
use Rattle.ann_element.specs.declared.element.Element.TheVariants as element
use Rattle.class_desc.specs.Line.{init}
use Rattle.flow_graph.specs.declared.graph.Op.{Op}
use Rattle.ll_live.specs.Live.{among}
use Rattle.rpy_meaning.specs.declared.row.RowOp.TheVariants as row
use Rattle.rpy_meaning.specs.Operations.{builtin_classes}
use Rattle.rtyper_class.specs.Attributes.{Standing, place_in}
use Rattle.rtyper_class.specs.Seen.{laid}
use Rattle.rtyper_layout.specs.declared.classes.Laid.{Laid}
use Rattle.rtyper_program.specs.Seen.{element_at}
use Rattle.object_laws.specs.Staying.{Stays}
use Rattle.typed_rows.specs.Programs.{Typed, layout, world}
use Rattle.typed_rows.specs.Rows.{RowIsWritten, RowIsWrittenWhere}

-- the class is one of the program
abbrev pub IsClass : ℕ → Typed → ℕ → Op → Type 0
IsClass class t n o = class < length t.classes.classes

-- whether an instance, or `None`, is of a class of the program
abbrev pub ClassesAreTold : Type 0
ClassesAreTold = (class : ℕ) → RowIsWrittenWhere (IsClass class) (row.IsInstance class)

-- the attribute of the instance is, as it is, of what is known of the result
abbrev pub ResultIsAttribute : List ℕ → Typed → ℕ → Op → Type 0
ResultIsAttribute name t n o = (v class : ℕ) (or_none : Bool) (s : Standing) → o.args ≡ v ∷ [] → element_at t.known.annotation n v ≡ Some (element.Instance class or_none) → place_in (world t) class name ≡ Some s
    → Stays (layout t) t.seen (Some s.element) (element_at t.known.annotation n o.result)

-- an attribute is read, which fails, or raises, where it is not set, or of `None`
abbrev pub AttributesAreRead : Type 0
AttributesAreRead = (name : List ℕ) → RowIsWrittenWhere (ResultIsAttribute name) (row.Attr name)

-- the value of an attribute is stored, which fails, or raises, of `None`
abbrev pub AttributesAreStored : Type 0
AttributesAreStored = (name : List ℕ) → RowIsWritten (row.StoreAttr name)

-- the class has structs, and is a builtin exception class or has no `__init__`
pub record IsPlain (class : ℕ) (t : Typed) (n : ℕ) (o : Op) : Type 0 where
  pub structs : Laid
  pub laid_as : laid (world t) class ≡ Some structs
  pub plain : (class < builtin_classes) ⊎ (init t.classes.classes class ≡ None)

-- an instance of such a class is made, or that of the builtin exception class given, whatever the arguments are
abbrev pub InstancesAreMade : Type 0
InstancesAreMade = (class : ℕ) → RowIsWrittenWhere (IsPlain class) (row.New class)

-- the result is no operand
abbrev pub ResultIsNew : Typed → ℕ → Op → Type 0
ResultIsNew t n o = among o.result o.args ≡ false

-- an exception is raised; `None` fails, or raises
abbrev pub ExceptionsAreRaised : Type 0
ExceptionsAreRaised = RowIsWrittenWhere ResultIsNew row.Raise
