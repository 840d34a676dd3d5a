-- Tuples that are made and read, where no value is converted on the way.
use Rattle.std.specs.Prelude.{◌≡◌, ◌<◌, ◌^◌, ℕ, ℤ, true, List, [], ◌∷◌, length, slice_get, Option, Some}
use Rattle.ann_element.specs.declared.element.Element.{Element}
use Rattle.ann_element.specs.declared.element.Element.TheVariants as e
use Rattle.ll_code.specs.declared.program.LlType.TheVariants as type
use Rattle.rtyper_layout.specs.declared.kind.Kind.{Kind}
use Rattle.rtyper_layout.specs.declared.kind.Kind.TheVariants as kind
use Rattle.rtyper_layout.specs.declared.layout.Layout.{Layout}
use Rattle.rtyper_layout.specs.Kinds.{kind_seen}
use Rattle.rtyper_layout.specs.Layout.{is_tuple}
use Rattle.rtyper_layout.specs.Types.{type_seen, shape}
use Rattle.rpy_meaning.specs.declared.row.Covers.{Covers}
use Rattle.rpy_meaning.specs.declared.row.RowOp.TheVariants as row
use Rattle.rtyper_data.specs.Numbers.{word}
use Rattle.rtyper_data.specs.Seen.{Around, Operand, Place, kind_of, Writing}
use Rattle.rtyper_data.specs.Tuples.{fields_of, place_of}
use Rattle.lower_laws.specs.Done.{IsDone}
use Rattle.lower_laws.specs.Values.{is_simple}

-- A value that is known as the one is the other as it is: of the same simple kind, a string where `None` could be, or the same tuple.
pub data Stays (layout : Layout) (from to : Option Element) : Type 0 where
  Same : (k : Kind) → is_simple k ≡ true → kind_seen from ≡ k → kind_seen to ≡ k → Stays layout from to
  Wider : kind_seen from ≡ kind.Text → kind_seen to ≡ kind.MaybeText → Stays layout from to
  Whole : (n : ℕ) → from ≡ to → kind_seen to ≡ kind.Tuple → type_seen layout to ≡ type.Ptr n → Stays layout from to

-- each operand is an item as it is
abbrev pub AllStay : Layout → List Operand → List Element → Type 0
AllStay layout [] [] = Unit {0}
AllStay layout (a ∷ args) (part ∷ parts) = Stays layout a.element (Some part) × AllStay layout args parts
AllStay layout args parts = ⊥

-- a tuple of these items, which has this struct in the layout
pub record IsTuple (around : Around) (seen : Option Element) (n : ℕ) (parts : List Element) : Type 0 where
  pub is : seen ≡ Some (e.Tuple parts)
  pub typed : type_seen around.layout seen ≡ type.Ptr n
  pub struct : is_tuple around.layout n ≡ true
  pub fields : fields_of around n ≡ shape around.layout parts

-- ---- what is done with tuples

-- one block is made
abbrev pub TuplesAreMade : Type 0
TuplesAreMade = (around : Around) (place : Place) (args : List Operand) (w : Writing) (covers : Covers) (n : ℕ) (parts : List Element) → IsTuple around place.element n parts → AllStay around.layout args parts → IsDone around row.Tuple covers [] place args w

-- an item is taken, of the parts that a target has, and at an index that is known
abbrev pub ItemsAreTaken : Type 0
ItemsAreTaken = (around : Around) (place : Place) (a : Operand) (w : Writing) (covers : Covers) (n : ℕ) (parts : List Element) (count i : ℕ) (part : Element)
    → IsTuple around a.element n parts → slice_get parts i ≡ Some part → Stays around.layout (Some part) place.element → IsDone around (row.Unpack count i) covers [] place (a ∷ []) w

abbrev pub IndicesAreTaken : Type 0
IndicesAreTaken = (around : Around) (place : Place) (a b : Operand) (w : Writing) (covers : Covers) (n : ℕ) (parts : List Element) (z : ℤ) (part : Element)
    → IsTuple around a.element n parts → b.x ≡ word z → kind_of b ≡ kind.Word → slice_get parts (place_of z (length parts)) ≡ Some part → Stays around.layout (Some part) place.element → IsDone around (row.Index (Some z)) covers [] place (a ∷ b ∷ []) w

abbrev pub LengthsAreKnown : Type 0
LengthsAreKnown = (around : Around) (place : Place) (a : Operand) (w : Writing) (covers : Covers) (n : ℕ) (parts : List Element) → IsTuple around a.element n parts → length parts < 2 ^ 63 → kind_seen place.element ≡ kind.Word → IsDone around row.Len covers [] place (a ∷ []) w
