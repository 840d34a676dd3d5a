-- Whether values are equal: words, truth values, bytes, strings, `None` and tuples of these; and the order of bytes.
use Rattle.std.specs.Prelude.{◌≡◌, ℕ, true, false, List, [], ◌∷◌, Option, Some}
use Rattle.ann_element.specs.declared.element.Element.{Element}
use Rattle.rpy_tree.specs.declared.syntax.CmpOp.{CmpOp}
use Rattle.rpy_meaning.specs.declared.row.Covers.{Covers}
use Rattle.rpy_meaning.specs.declared.row.RowOp.TheVariants as row
use Rattle.rtyper_layout.specs.declared.kind.Kind.TheVariants as kind
use Rattle.rtyper_layout.specs.declared.layout.Layout.{Layout}
use Rattle.rtyper_layout.specs.Kinds.{kind_seen}
use Rattle.rtyper_layout.specs.Layout.{is_tuple}
use Rattle.rtyper_data.specs.Seen.{Around, Operand, Place, kind_of, type_of, Writing}
use Rattle.rtyper_op.specs.Lowering.{lower_op}
use Rattle.lower_laws.specs.Values.{is_simple}
use Rattle.object_laws.specs.Done.{IsDone}
use Rattle.object_laws.specs.Known.{Known}
use Rattle.conversion_laws.specs.Asked.{Has, equal_asks}
use Rattle.conversion_laws.specs.Going.{IsTuple}

module _ (layout : Layout) where
  mutual
    -- values of the one are compared with values of the other: both are simple, or both are tuples of as many items, which are compared
    pub data Compares : Option Element → Option Element → Type 0 where
      Simple : {a b : Option Element} → is_simple (kind_seen a) ≡ true → is_simple (kind_seen b) ≡ true → Compares a b
      Items : {a b : Option Element} (m n : ℕ) (parts others : List Element) → IsTuple layout a m parts → IsTuple layout b n others → AllCompare parts others → Compares a b

    -- one for each
    pub data AllCompare : List Element → List Element → Type 0 where
      End : AllCompare [] []
      Next : {part other : Element} {parts others : List Element} → Compares (Some part) (Some other) → AllCompare parts others → AllCompare (part ∷ parts) (other ∷ others)

-- two values are equal, or not; the struct of strings is no tuple
abbrev pub ValuesAreCompared : CmpOp → Type 0
ValuesAreCompared o = (known : Known) (around : Around) (place : Place) (a b : Operand) (w : Writing) (covers : Covers) → is_tuple around.layout 0 ≡ false → Compares around.layout a.element b.element → kind_seen place.element ≡ kind.Flag
    → IsDone (λ p. Has p around.layout) 0 known around (row.Compare o) covers (equal_asks around.layout (type_of around a) (type_of around b)) (lower_op around (row.Compare o) place (a ∷ b ∷ []) w) place (a ∷ b ∷ []) w

-- a byte comes before another as its number does
abbrev pub BytesAreOrdered : CmpOp → Type 0
BytesAreOrdered o = (known : Known) (around : Around) (place : Place) (a b : Operand) (w : Writing) (covers : Covers) → kind_of a ≡ kind.Byte → kind_of b ≡ kind.Byte → kind_seen place.element ≡ kind.Flag
    → IsDone (λ p. Has p around.layout) 0 known around (row.Compare o) covers [] (lower_op around (row.Compare o) place (a ∷ b ∷ []) w) place (a ∷ b ∷ []) w
