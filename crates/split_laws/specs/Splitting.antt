-- A string is split into a list of its parts.
use Rattle.std.specs.Prelude.{◌≡◌, ◌<◌, ◌≤◌, ◌⊎◌, ℕ, ◌+◌, ◌^◌, nat_eq, true, List, [], ◌∷◌, ◌++◌, length, Option, Some, codes}
use Rattle.std.specs.List.{slice_split}
use Rattle.ann_element.specs.declared.element.Element.{Element}
use Rattle.rpy_tree.specs.Value.{Value as Meant, Text}
use Rattle.rpy_meaning.specs.declared.row.Covers.{Covers}
use Rattle.rpy_meaning.specs.declared.row.RowOp.{RowOp}
use Rattle.rpy_meaning.specs.declared.row.RowOp.TheVariants as row
use Rattle.rpy_meaning.specs.Operations.{op}
use Rattle.rpy_meaning.specs.World.{World}
use Rattle.csub_tree.specs.State.{Value, Core}
use Rattle.ll_code.specs.State.{Frame, At}
use Rattle.ll_code.specs.declared.program.LlType.{LlType}
use Rattle.ll_code.specs.declared.program.LlType.TheVariants as type
use Rattle.ll_code.specs.declared.program.LlOp.{LlOp}
use Rattle.ll_code.specs.declared.program.LlExit.{LlExit}
use Rattle.ll_code.specs.declared.program.LlProgram.{LlProgram}
use Rattle.ll_build.specs.declared.needs.Helper.TheVariants.{StrOfChar}
use Rattle.ll_build.specs.declared.needs.Numbers.{Numbers}
use Rattle.rtyper_layout.specs.declared.kind.Kind.{Kind}
use Rattle.rtyper_layout.specs.declared.kind.Kind.TheVariants as kind
use Rattle.rtyper_layout.specs.declared.layout.Layout.{Layout}
use Rattle.rtyper_layout.specs.Kinds.{kind_seen}
use Rattle.rtyper_layout.specs.Types.{type_seen}
use Rattle.rtyper_data.specs.declared.small.Listed.TheVariants as listed
use Rattle.rtyper_data.specs.declared.small.Small.TheVariants as small
use Rattle.rtyper_data.specs.Seen.{Around, Operand, Place, kind_of, type_of, Writing}
use Rattle.rtyper_list.specs.Lowering.{lower_list_op}
use Rattle.lower_laws.specs.Asked.{Ask, Help, Make, all_asked}
use Rattle.lower_laws.specs.Values.{AllBelow, is_plain}
use Rattle.object_laws.specs.Done.{AllAsked, Follows, HasLayout}
use Rattle.object_laws.specs.Ghost.{Ghost}
use Rattle.object_laws.specs.Known.{Known}
use Rattle.object_laws.specs.Represents.{Represents}
use Rattle.object_laws.specs.Values.{Given}
use Rattle.list_copy_laws.specs.Joined.{Takes}
use Rattle.split_laws.specs.Asked.{Has}

-- how many parts the first operand has, between bytes that are the second
abbrev pub parts_in : List Meant → ℕ
parts_in (Text text ∷ Text (b ∷ []) ∷ []) = length (slice_split (nat_eq b) text)
parts_in vs = 0

-- A string is there, where it is not known that it may be `None`, and one byte more is still counted by a word.
abbrev pub CanSplit : Kind → List Meant → Type 0
CanSplit k (Text text ∷ vs) = length text + 1 < 2 ^ 63
CanSplit kind.MaybeText vs = Unit {0}
CanSplit k vs = ⊥

-- What is written behind what was there asks for this, and does what the operation does: in every program that has it at its numbers, over
-- every memory that represents the heap, whatever comes behind and waits, of such values. At most two blocks are made, and one for each part; one
-- reference is written for each part, and one more.
pub record IsSplit (Good : List Meant → Type 0) (known : Known) (around : Around) (o : RowOp) (covers : Covers) (asks : List Ask) (place : Place) (args : List Operand) (w : Writing) : Type 0 where
  pub ops : List LlOp
  pub new : List LlType
  pub asked : (lower_list_op around o place args w).found ≡ all_asked asks w.found
  pub written : (lower_list_op around o place args w).body.ops ≡ w.body.ops ++ ops
  pub types : (lower_list_op around o place args w).body.types ≡ w.body.types ++ new
  pub follows : (p : LlProgram) (numbers : Numbers) (raised : ℕ → Value) (arguments : List (List ℕ)) (rest : List LlOp) (e : LlExit) (frames : List Frame) (core : Core) (g : Ghost) (world : World) (vs : List Meant)
      → HasLayout p around.layout → AllAsked (Has p around.layout numbers raised core) asks w.found → Represents around.layout known g world.heap world.left core.blocks core.statics → world.left ≡ core.steps
      → length w.body.types + length new ≤ length core.vars → place.variable < length w.body.types → AllBelow (length w.body.types) args → Given known around g core args vs → Good vs
      → Follows (2 + parts_in vs) known around place p arguments (At (ops ++ rest) e frames core) rest e frames core g raised (1 + parts_in vs) (length w.body.types) world (op known.program covers o vs world)

-- ---- the operands

-- a string or a byte; a string that may be `None`
abbrev pub can_be_split : Kind → Type 0
can_be_split k = (k ≡ kind.Text) ⊎ ((k ≡ kind.Byte) ⊎ (k ≡ kind.MaybeText))

-- a byte becomes a string first, and `None` is asked for
abbrev pub asks_by : Kind → LlType → Covers → List Ask
asks_by kind.Byte t c = Help StrOfChar ∷ []
asks_by kind.MaybeText t c = Make (small.Present t c.attribute) ∷ []
asks_by k t c = []

-- the items of the list are strings
pub record AreTexts (layout : Layout) (item : Element) : Type 0 where
  pub plain : is_plain (kind_seen (Some item)) ≡ true
  pub typed : type_seen layout (Some item) ≡ type.Ptr 0

-- A list of the parts is made, at its cost; `None` fails, or raises.
abbrev pub StringsAreSplit : Type 0
StringsAreSplit = (site : Option ℕ) (known : Known) (around : Around) (place : Place) (a b : Operand) (w : Writing) (n : ℕ) (item : Element) → can_be_split (kind_of a) → kind_of b ≡ kind.Byte → Takes around known place n item → AreTexts around.layout item
    → IsSplit (CanSplit (kind_of a)) known around (row.Method (codes "split") site) w.found.covered (asks_by (kind_of a) (type_of around a) w.found.covered ++ Make (small.Listed (listed.Split n)) ∷ []) place (a ∷ b ∷ []) w
