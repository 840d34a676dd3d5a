-- Calls of functions, in every program that has types.
use Rattle.std.specs.Prelude.{◌≡◌, ◌≢◌, ◌≤◌, ℕ, Bool, false, List, [], ◌∷◌, ◌++◌, length, slice_get, Some}
use Rattle.ann_element.specs.declared.element.Element.{Element}
use Rattle.ann_element.specs.declared.element.Element.TheVariants as element
use Rattle.ann_rules.specs.Asks.{defaults}
use Rattle.class_desc.specs.Line as line
use Rattle.flow_graph.specs.declared.graph.Op.{Op}
use Rattle.rpy_meaning.specs.declared.row.RowOp.TheVariants as row
use Rattle.ll_code.specs.declared.program.LlType.TheVariants as type
use Rattle.ll_live.specs.Live.{among}
use Rattle.rpy_meaning.specs.Operations.{builtin_classes}
use Rattle.rtyper_class.specs.Seen.{laid}
use Rattle.rtyper_layout.specs.Types.{type_of}
use Rattle.rtyper_layout.specs.declared.classes.Laid.{Laid}
use Rattle.rtyper_program.specs.Seen.{element_at}
use Rattle.call_conversion_laws.specs.Defaults.{AllDefault}
use Rattle.conversion_laws.specs.Constants.{AreKept}
use Rattle.typed_rows.specs.Programs.{Typed, last, layout, world}
use Rattle.typed_rows.specs.Rows.{RowIsWrittenWhere}

-- What is asked for as statics is known to stay. The function has a parameter for each of so many arguments, and the defaults of the further ones are of what is
-- known of these.
pub record Takes (t : Typed) (f count : ℕ) : Type 0 where
  pub stay : AreKept t.p (layout t) t.seen (last t)
  pub few : count ≤ length (defaults t.whole f)
  pub default : (here missing : List Element) → slice_get t.known.annotation.params f ≡ Some (here ++ missing) → length here ≡ count → AllDefault (world t).around t.seen (slice_get (world t).around.functions f) count missing

-- the function takes the operands
abbrev pub TakesOperands : ℕ → Typed → ℕ → Op → Type 0
TakesOperands f t n o = Takes t f (length o.args)

-- a function is called by its name, and so is a method of a class
abbrev pub FunctionsAreCalled : Type 0
FunctionsAreCalled = (f : ℕ) → RowIsWrittenWhere (TakesOperands f) (row.Call f)

abbrev pub MethodsOfClassesAreCalled : Type 0
MethodsOfClassesAreCalled = (class f : ℕ) → RowIsWrittenWhere (TakesOperands f) (row.CallOf class f)

-- the value that is called is one function, or `None`, and that takes the other operands
abbrev pub IsOneFunction : Typed → ℕ → Op → Type 0
IsOneFunction t n o = (v : ℕ) (vs functions : List ℕ) (or_none : Bool) → o.args ≡ v ∷ vs → element_at t.known.annotation n v ≡ Some (element.Func functions or_none) → (f : ℕ) × ((functions ≡ f ∷ []) × Takes t f (length vs))

-- a value that is one function is called, and `None` fails, or raises
abbrev pub ValuesAreCalled : Type 0
ValuesAreCalled = RowIsWrittenWhere IsOneFunction row.CallValue

-- The class, which is no builtin exception class, has structs and this `__init__`, which takes the new instance and the operands and gives something. Of the
-- result, which is no operand, it is known that it is an instance of the class.
pub record IsInitialised (class : ℕ) (t : Typed) (n : ℕ) (o : Op) : Type 0 where
  pub more : builtin_classes ≤ class
  pub structs : Laid
  pub laid_as : laid (world t) class ≡ Some structs
  pub init : ℕ
  pub has : line.init t.classes.classes class ≡ Some init
  pub takes : Takes t init (length (o.result ∷ o.args))
  pub some : (e : Element) → slice_get t.known.annotation.results init ≡ Some e → type_of (layout t) e ≢ type.Void
  pub result : element_at t.known.annotation n o.result ≡ Some (element.Instance class false)
  pub fresh : among o.result o.args ≡ false

-- an instance of such a class is made, and its `__init__` called
abbrev pub InstancesAreInitialised : Type 0
InstancesAreInitialised = (class : ℕ) → RowIsWrittenWhere (IsInitialised class) (row.New class)
