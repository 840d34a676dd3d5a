-- What is done with instances, where no value is converted on the way.
use Rattle.std.specs.Prelude.{◌≡◌, ◌≢◌, ◌<◌, ◌≤◌, ◌⊎◌, ℕ, Bool, true, List, [], ◌∷◌, ◌++◌, length, slice_get, Option, Some, None, codes}
use Rattle.ann_element.specs.declared.element.Element.{Element}
use Rattle.ann_element.specs.declared.element.Element.TheVariants as element
use Rattle.ll_code.specs.declared.program.LlType.TheVariants as type
use Rattle.rpy_tree.specs.Value.{Value as Meant, Nothing, Ref, Object, Instance}
use Rattle.rpy_meaning.specs.Classes.{is_below, method_of}
use Rattle.rpy_meaning.specs.World.{World as MeantWorld}
use Rattle.rpy_tree.specs.declared.syntax.CmpOp.{CmpOp}
use Rattle.rpy_meaning.specs.declared.row.Covers.{Covers}
use Rattle.rpy_meaning.specs.declared.row.RowOp.{RowOp}
use Rattle.rpy_meaning.specs.declared.row.RowOp.TheVariants as row
use Rattle.rpy_meaning.specs.Operations.{builtin_classes}
use Rattle.class_desc.specs.Line.{init}
use Rattle.class_desc.specs.Range.{range}
use Rattle.rtyper_layout.specs.declared.classes.Laid.{Laid}
use Rattle.rtyper_layout.specs.declared.kind.Kind.TheVariants as kind
use Rattle.rtyper_layout.specs.Kinds.{kind_seen}
use Rattle.rtyper_data.specs.declared.small.Small.TheVariants as small
use Rattle.rtyper_data.specs.Seen.{Operand, Place, kind_of, type_of, type_at, Writing}
use Rattle.rtyper_class.specs.Attributes.{Standing as Stood, place_in}
use Rattle.rtyper_class.specs.Seen.{World, laid}
use Rattle.lower_laws.specs.Asked.{Ask, Make}
use Rattle.list_laws.specs.Lists.{if_missing}
use Rattle.object_laws.specs.Known.{Known}
use Rattle.object_laws.specs.Staying.{Stays}
use Rattle.class_laws.specs.Classes.{IsOf, IsLaidOut}
use Rattle.class_laws.specs.Done.{IsDone, IsDoneWhere}
use Rattle.class_laws.specs.Starting.{Starts}

-- an instance of this class, or of one below it, which may be missing; the class has these structs
pub record IsInstance (world : World) (seen : Option Element) (class : ℕ) (or_none : Bool) (l : Laid) : Type 0 where
  pub is : seen ≡ Some (element.Instance class or_none)
  pub laid_as : laid world class ≡ Some l

-- where an instance may be `None`, this is asked first
abbrev pub present_asks : World → Operand → Bool → Covers → List Ask
present_asks world a or_none c = if_missing or_none (type_of world.around a) c

-- ---- new instances

-- a new instance of a class without `__init__`, in one block, at its cost
abbrev pub InstancesAreMade : Type 0
InstancesAreMade = (world : World) (known : Known) → IsOf world known → IsLaidOut world known → (place : Place) (w : Writing) (class d : ℕ) (r : Bool) (l : Laid) (covers : Covers)
    → builtin_classes ≤ class → laid world class ≡ Some l → Starts world known class → init world.classes.classes class ≡ None → method_of known.program.classes class (codes "__init__") ≡ None → place.element ≡ Some (element.Instance d r) → is_below known.program.classes class d ≡ true → type_at world.around place ≡ type.Ptr l.root
    → IsDone 1 world known (row.New class) covers (Make (small.New class) ∷ []) place [] w

-- the one instance of a builtin exception class is a static
abbrev pub BuiltinsAreGiven : Type 0
BuiltinsAreGiven = (world : World) (known : Known) → IsOf world known → (place : Place) (w : Writing) (class d : ℕ) (r : Bool) (l : Laid) (covers : Covers)
    → class < builtin_classes → laid world class ≡ Some l → place.element ≡ Some (element.Instance d r) → is_below known.program.classes class d ≡ true → type_at world.around place ≡ type.Ptr l.root
    → IsDone 0 world known (row.New class) covers [] place [] w

-- ---- attributes

-- An attribute is read; one that is not set fails, or raises, as `None` does.
abbrev pub AttributesAreRead : Type 0
AttributesAreRead = (world : World) (known : Known) → IsOf world known → IsLaidOut world known → (place : Place) (name : List ℕ) (a : Operand) (w : Writing) (class : ℕ) (or_none : Bool) (l : Laid) (s : Stood)
    → IsInstance world a.element class or_none l → place_in world class name ≡ Some s → Stays world.around.layout known (Some s.element) place.element
    → IsDone 0 world known (row.Attr name) w.found.covered (present_asks world a or_none w.found.covered ++ Make (small.Attribute s.own s.place w.found.covered.attribute) ∷ []) place (a ∷ []) w

-- An attribute is stored, and is set then; no other one is another. The value of that is the value.
abbrev pub AttributesAreStored : Type 0
AttributesAreStored = (world : World) (known : Known) → IsOf world known → IsLaidOut world known → (place : Place) (name : List ℕ) (a b : Operand) (w : Writing) (class : ℕ) (or_none : Bool) (l : Laid) (s : Stood)
    → IsInstance world a.element class or_none l → place_in world class name ≡ Some s → Stays world.around.layout known b.element (Some s.element) → Stays world.around.layout known b.element place.element
    → IsDone 0 world known (row.StoreAttr name) w.found.covered (present_asks world a or_none w.found.covered) place (a ∷ b ∷ []) w

-- ---- classes

-- whether an instance is one of a class: its number lies in the range of that; `None` is none
abbrev pub InstancesAreTold : Type 0
InstancesAreTold = (world : World) (known : Known) → IsOf world known → IsLaidOut world known → (place : Place) (a : Operand) (w : Writing) (of class : ℕ) (or_none : Bool) (l : Laid) (covers : Covers)
    → IsInstance world a.element class or_none l → of < length world.classes.classes → kind_seen place.element ≡ kind.Flag
    → IsDone 0 world known (row.IsInstance of) covers (Make (small.IsInstance l.root l.vtable (range world.classes.classes of).0 (range world.classes.classes of).1) ∷ []) place (a ∷ []) w

-- ---- identity and truth

-- two instances whose structs begin alike are the same where they stand at the same place
abbrev pub IsIdentity : CmpOp → Type 0
IsIdentity o = (world : World) (known : Known) (place : Place) (a b : Operand) (w : Writing) (c d n : ℕ) (r s : Bool) (covers : Covers)
    → a.element ≡ Some (element.Instance c r) → b.element ≡ Some (element.Instance d s) → type_of world.around a ≡ type.Ptr n → type_of world.around b ≡ type.Ptr n → kind_seen place.element ≡ kind.Flag
    → IsDone 0 world known (row.Compare o) covers [] place (a ∷ b ∷ []) w

-- an instance beside `None`
abbrev pub IsBesideNone : CmpOp → Type 0
IsBesideNone o = (world : World) (known : Known) (place : Place) (a b : Operand) (w : Writing) (c n : ℕ) (r : Bool) (covers : Covers) → kind_seen place.element ≡ kind.Flag
    → ((a.element ≡ Some (element.Instance c r)) × (type_of world.around a ≡ type.Ptr n) × (kind_of b ≡ kind.Nothing)) ⊎ ((kind_of a ≡ kind.Nothing) × (b.element ≡ Some (element.Instance c r)) × (type_of world.around b ≡ type.Ptr n))
    → IsDone 0 world known (row.Compare o) covers [] place (a ∷ b ∷ []) w

-- an instance counts as true, and one that is missing as false; and the opposite
abbrev pub IsTruth : RowOp → Type 0
IsTruth o = (world : World) (known : Known) (place : Place) (a : Operand) (w : Writing) (c : ℕ) (r : Bool) (covers : Covers) → a.element ≡ Some (element.Instance c r) → kind_seen place.element ≡ kind.Flag
    → IsDone 0 world known o covers [] place (a ∷ []) w

-- ---- copies and narrowings

-- the operation gives its operand, where that stays what it is
abbrev pub IsCopied : RowOp → Type 0
IsCopied o = (world : World) (known : Known) (place : Place) (a : Operand) (w : Writing) (covers : Covers) → Stays world.around.layout known a.element place.element
    → IsDone 0 world known o covers [] place (a ∷ []) w

abbrev pub IsThere : MeantWorld → List Meant → Type 0
IsThere world (v ∷ []) = v ≢ Nothing
IsThere world vs = Unit {0}

-- of an instance that is there it is known that it is
abbrev pub IsNarrowed : Type 0
IsNarrowed = (world : World) (known : Known) (place : Place) (a : Operand) (w : Writing) (c n : ℕ) (r s : Bool) (covers : Covers)
    → a.element ≡ Some (element.Instance c r) → place.element ≡ Some (element.Instance c s) → type_of world.around a ≡ type.Ptr n
    → IsDoneWhere IsThere 0 world known row.DropNone covers [] place (a ∷ []) w

abbrev pub IsNothing : MeantWorld → List Meant → Type 0
IsNothing world (v ∷ []) = v ≡ Nothing
IsNothing world vs = Unit {0}

-- of one that is `None` it is known that it is
abbrev pub IsEmptied : RowOp → Type 0
IsEmptied o = (world : World) (known : Known) (place : Place) (a : Operand) (w : Writing) (c n : ℕ) (r : Bool) (covers : Covers)
    → a.element ≡ Some (element.Instance c r) → kind_seen place.element ≡ kind.Nothing → type_of world.around a ≡ type.Ptr n
    → IsDoneWhere IsNothing 0 world known o covers [] place (a ∷ []) w

-- it is an instance of this class, or of one below it
abbrev pub IsOfClass : Known → ℕ → Option Object → Type 0
IsOfClass known d (Some (Instance c attributes)) = is_below known.program.classes c d ≡ true
IsOfClass known d other = ⊥

abbrev pub AreOfClass : Known → ℕ → MeantWorld → List Meant → Type 0
AreOfClass known d world (Ref i ∷ []) = IsOfClass known d (slice_get world.heap i)
AreOfClass known d world vs = ⊥

-- of an instance that was told to be one of a class, which has the same topmost struct, it is known that it is
abbrev pub IsLowered : ℕ → Type 0
IsLowered d = (world : World) (known : Known) (place : Place) (a : Operand) (w : Writing) (c n : ℕ) (r s : Bool) (covers : Covers)
    → a.element ≡ Some (element.Instance c r) → place.element ≡ Some (element.Instance d s) → type_of world.around a ≡ type.Ptr n → type_at world.around place ≡ type.Ptr n
    → IsDoneWhere (AreOfClass known d) 0 world known (row.Lower d) covers [] place (a ∷ []) w
