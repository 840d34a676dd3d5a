-- Whether a value is `None`.
use Rattle.std.specs.Prelude.{◌≡◌, ◌⊎◌, ℕ, true, List, [], ◌∷◌}
use Rattle.ann_element.specs.declared.element.Element.{Element}
use Rattle.rpy_tree.specs.declared.syntax.CmpOp.{CmpOp}
use Rattle.rpy_meaning.specs.declared.row.Covers.{Covers}
use Rattle.rpy_meaning.specs.declared.row.RowOp.TheVariants as row
use Rattle.rtyper_layout.specs.declared.kind.Kind.TheVariants as kind
use Rattle.rtyper_layout.specs.Kinds.{kind_seen}
use Rattle.rtyper_data.specs.Seen.{Around, Operand, Place, kind_of, Writing}
use Rattle.lower_laws.specs.Done.{IsDone}
use Rattle.lower_laws.specs.Tuples.{IsTuple}
use Rattle.lower_laws.specs.Values.{is_simple}

-- identity is done where one of the operands is `None`, and the other may be a word, a truth value, a byte, a string or `None`
abbrev pub BesideNone : CmpOp → Type 0
BesideNone o = (around : Around) (place : Place) (a b : Operand) (w : Writing) (covers : Covers) → kind_seen place.element ≡ kind.Flag
    → ((kind_of a ≡ kind.Nothing) × (is_simple (kind_of b) ≡ true)) ⊎ ((is_simple (kind_of a) ≡ true) × (kind_of b ≡ kind.Nothing)) → IsDone around (row.Compare o) covers [] place (a ∷ b ∷ []) w

-- the other may also be a tuple
abbrev pub TupleBesideNone : CmpOp → Type 0
TupleBesideNone o = (around : Around) (place : Place) (a b : Operand) (w : Writing) (covers : Covers) (n : ℕ) (parts : List Element) → kind_seen place.element ≡ kind.Flag
    → ((kind_of a ≡ kind.Nothing) × IsTuple around b.element n parts) ⊎ (IsTuple around a.element n parts × (kind_of b ≡ kind.Nothing)) → IsDone around (row.Compare o) covers [] place (a ∷ b ∷ []) w
