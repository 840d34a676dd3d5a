-- Operations on dicts that are written in programs that have types.
use Rattle.std.specs.Prelude.{◌≡◌, ◌⊎◌, ℕ, ℤ, Bool, true, length, Option, Some, codes, slice_get}
use Rattle.ann_element.specs.declared.element.Element.{Element}
use Rattle.ann_element.specs.declared.element.Element.TheVariants as element
use Rattle.flow_graph.specs.declared.graph.Op.{Op}
use Rattle.ll_code.specs.declared.program.LlType.TheVariants as type
use Rattle.rpy_tree.specs.declared.syntax.CmpOp.{CmpOp}
use Rattle.rtyper_layout.specs.declared.dicts.Mapping.{Mapping}
use Rattle.rtyper_layout.specs.Layout.{mapping_at}
use Rattle.rtyper_layout.specs.Types.{type_of}
use Rattle.dict_find_laws.specs.Finding.{HasKeys}
use Rattle.rpy_meaning.specs.declared.row.RowOp.TheVariants as row
use Rattle.rtyper_list.specs.Operands.{of_none}
use Rattle.rtyper_program.specs.Seen.{element_at}
use Rattle.object_laws.specs.Staying.{Stays}
use Rattle.object_laws.specs.Values.{may_be_missing, of_dict}
use Rattle.rtyper_layout.specs.declared.kind.Kind.TheVariants as kind
use Rattle.typed_rows.specs.Programs.{Typed, layout}
use Rattle.typed_rows.specs.Rows.{FirstIs, RowIsWritten, RowIsWrittenWhere, SecondIs, kind_at}
use Rattle.list_rows.specs.Told.{Both, ResultIs}

-- the number of entries of a dict, or of one that may be `None`
abbrev pub LengthsAreWritten : Type 0
LengthsAreWritten = RowIsWrittenWhere (FirstIs of_dict) row.Len

-- a display, which begins with no entries
abbrev pub DisplaysAreWritten : Type 0
DisplaysAreWritten = (site : ℕ) → RowIsWritten (row.Dict site)

-- ---- keys and values

-- the variable is a dict, of whose keys and values this is known
pub record HasPairOf (t : Typed) (n v : ℕ) (key value : Element) : Type 0 where
  pub site : ℕ
  pub or_none : Bool
  pub dict : element_at t.known.annotation n v ≡ Some (element.Dict site or_none)
  pub key_stands : slice_get t.known.annotation.keys site ≡ Some key
  pub value_stands : slice_get t.known.annotation.items site ≡ Some value

-- ---- what is looked up

-- Of the dict at the one place of the operands its keys can be looked for, and the operand at the other stays what it is as one of them.
abbrev pub LooksUp : ℕ → ℕ → Typed → ℕ → Op → Type 0
LooksUp at by t n o = (v u site k : ℕ) (or_none : Bool) (m : Mapping) → slice_get o.args at ≡ Some v → slice_get o.args by ≡ Some u → element_at t.known.annotation n v ≡ Some (element.Dict site or_none) → type_of (layout t) (element.Dict site or_none) ≡ type.Ptr k
    → mapping_at (layout t).mappings k ≡ Some m → HasKeys (layout t) t.seen m × Stays (layout t) t.seen (element_at t.known.annotation n u) (t.seen.keys m.dict)

-- a value of its first operand stays what it is as the result
abbrev pub ValueStays : Typed → ℕ → Op → Type 0
ValueStays t n o = (v : ℕ) (key value : Element) → slice_get o.args 0 ≡ Some v → HasPairOf t n v key value → Stays (layout t) t.seen (Some value) (element_at t.known.annotation n o.result)

-- whether a key has an entry, and whether it has none
abbrev pub SearchesAreWritten : CmpOp → Type 0
SearchesAreWritten o = RowIsWrittenWhere (Both (SecondIs of_dict) (LooksUp 1 0)) (row.Compare o)

-- the value of a key
abbrev pub IndicesAreWritten : Type 0
IndicesAreWritten = (literal : Option ℤ) → RowIsWrittenWhere (Both (FirstIs of_dict) (Both (LooksUp 0 1) ValueStays)) (row.Index literal)

-- ---- what is changed

-- the third operand stays what it is as a value of the first, and as the result
abbrev pub StoredStays : Typed → ℕ → Op → Type 0
StoredStays t n o = (v u : ℕ) (key value : Element) → slice_get o.args 0 ≡ Some v → slice_get o.args 2 ≡ Some u → HasPairOf t n v key value
    → Stays (layout t) t.seen (element_at t.known.annotation n u) (Some value) × Stays (layout t) t.seen (element_at t.known.annotation n u) (element_at t.known.annotation n o.result)

-- a value that is stored by its key
abbrev pub StoresAreWritten : Type 0
StoresAreWritten = RowIsWrittenWhere (Both (FirstIs of_dict) (Both (LooksUp 0 1) StoredStays)) row.StoreIndex

-- an entry that is deleted by its key
abbrev pub DeletionsAreWritten : Type 0
DeletionsAreWritten = RowIsWrittenWhere (Both (FirstIs of_dict) (Both (LooksUp 0 1) (ResultIs of_none))) row.DeleteIndex

-- ---- values that are got, or others

-- it has so many operands
abbrev pub Counts : ℕ → Typed → ℕ → Op → Type 0
Counts k t n o = length o.args ≡ k

-- the third operand stays what it is as the result
abbrev pub OtherStays : Typed → ℕ → Op → Type 0
OtherStays t n o = (u : ℕ) → slice_get o.args 2 ≡ Some u → Stays (layout t) t.seen (element_at t.known.annotation n u) (element_at t.known.annotation n o.result)

-- the result may be `None`
abbrev pub MayBeMissing : Typed → ℕ → Op → Type 0
MayBeMissing t n o = (kind_at t n o.result ≡ kind.MaybeText) ⊎ (may_be_missing (kind_at t n o.result) ≡ true)

-- the value of a key, or another one
abbrev pub GetsAreWritten : Type 0
GetsAreWritten = (site : Option ℕ) → RowIsWrittenWhere (Both (Both (FirstIs of_dict) (Counts 3)) (Both (LooksUp 0 1) (Both ValueStays OtherStays))) (row.Method (codes "get") site)

-- the value of a key, or `None`
abbrev pub GetsOrNoneAreWritten : Type 0
GetsOrNoneAreWritten = (site : Option ℕ) → RowIsWrittenWhere (Both (Both (FirstIs of_dict) (Counts 2)) (Both (LooksUp 0 1) (Both ValueStays MayBeMissing))) (row.Method (codes "get") site)
