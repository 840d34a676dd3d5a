-- Items that come into lists, in programs that have types: each is converted to what is known of the items of the list.
use Rattle.std.specs.Prelude.{◌≡◌, ◌≢◌, ℕ, true, List, Option, Some, codes, slice_get}
use Rattle.ann_element.specs.declared.element.Element.{Element}
use Rattle.ann_element.specs.declared.element.Element.TheVariants as element
use Rattle.flow_graph.specs.declared.graph.Op.{Op}
use Rattle.ll_code.specs.declared.program.LlType.TheVariants as type
use Rattle.rpy_meaning.specs.declared.row.RowOp.TheVariants as row
use Rattle.lower_laws.specs.Values.{is_plain}
use Rattle.rpy_tree.specs.declared.syntax.CmpOp.{CmpOp}
use Rattle.rtyper_layout.specs.Kinds.{kind_of}
use Rattle.rtyper_layout.specs.Types.{type_of, type_seen}
use Rattle.rtyper_list.specs.Operands.{of_list, of_none}
use Rattle.rtyper_program.specs.Seen.{element_at}
use Rattle.typed_rows.specs.Programs.{Typed, layout}
use Rattle.typed_rows.specs.Rows.{FirstIs, RowIsWritten, RowIsWrittenWhere, SecondIs, kind_at}
use Rattle.list_rows.specs.Told.{Both, IsItemOf, ResultIs}

-- an item that is appended
abbrev pub AppendsAreWritten : Type 0
AppendsAreWritten = (site : Option ℕ) → RowIsWrittenWhere (Both (FirstIs of_list) (ResultIs of_none)) (row.Method (codes "append") site)

-- an item that a comprehension adds to its list
abbrev pub GathersAreWritten : Type 0
GathersAreWritten = RowIsWrittenWhere (Both (FirstIs of_list) (ResultIs of_none)) row.AddItem

-- an item that is inserted before a place
abbrev pub InsertsAreWritten : Type 0
InsertsAreWritten = (site : Option ℕ) → RowIsWrittenWhere (Both (FirstIs of_list) (ResultIs of_none)) (row.Method (codes "insert") site)

-- a display
abbrev pub DisplaysAreWritten : Type 0
DisplaysAreWritten = (site : ℕ) → RowIsWritten (row.List site)

-- ---- tuples

-- a tuple, whose items are converted
abbrev pub TuplesAreWritten : Type 0
TuplesAreWritten = RowIsWritten row.Tuple

-- the item at this place of a tuple, its first operand, has a type
abbrev pub PartIsThere : ℕ → Typed → ℕ → Op → Type 0
PartIsThere i t n o = (v : ℕ) (parts : List Element) (part : Element) → slice_get o.args 0 ≡ Some v → element_at t.known.annotation n v ≡ Some (element.Tuple parts) → slice_get parts i ≡ Some part → type_of (layout t) part ≢ type.Void

-- an item of a tuple for a target, converted to what is known of that
abbrev pub TargetsAreWritten : Type 0
TargetsAreWritten = (count i : ℕ) → RowIsWrittenWhere (PartIsThere i) (row.Unpack count i)

-- ---- items that are looked for

-- its first operand is a word, a truth value, a byte or a string, which may be missing, and so is an item of the second, which has the same type
abbrev pub ComparesAlike : Typed → ℕ → Op → Type 0
ComparesAlike t n o = (v u : ℕ) (item : Element) → slice_get o.args 0 ≡ Some v → slice_get o.args 1 ≡ Some u → IsItemOf t n u item
    → (is_plain (kind_at t n v) ≡ true) × ((is_plain (kind_of item) ≡ true) × (type_of (layout t) item ≡ type_seen (layout t) (element_at t.known.annotation n v)))

-- whether a value is among the items of a list, and whether it is not
abbrev pub MembershipsAreWritten : CmpOp → Type 0
MembershipsAreWritten o = RowIsWrittenWhere (Both (SecondIs of_list) ComparesAlike) (row.Compare o)
