-- Values that stay as they are, and the next numbers of ranges by one.
use Rattle.std.specs.Prelude.{◌≡◌, ℤ, true, List, [], ◌∷◌, Some}
use Rattle.rpy_meaning.specs.declared.row.Covers.{Covers}
use Rattle.rpy_meaning.specs.declared.row.RowOp.{RowOp}
use Rattle.rpy_meaning.specs.declared.row.RowOp.TheVariants as row
use Rattle.rpy_meaning.specs.Walks.{is_before}
use Rattle.rpy_tree.specs.Value.{Value as Meant, Word}
use Rattle.rtyper_layout.specs.declared.kind.Kind.TheVariants as kind
use Rattle.rtyper_layout.specs.Kinds.{kind_seen}
use Rattle.rtyper_data.specs.Seen.{Around, Operand, Place, kind_of, Writing}
use Rattle.lower_laws.specs.Done.{IsDone, IsDoneWhere}
use Rattle.lower_laws.specs.Tuples.{Stays}

-- the operation gives its operand, where that stays what it is
abbrev pub IsCopied : RowOp → Type 0
IsCopied o = (around : Around) (place : Place) (a : Operand) (w : Writing) (covers : Covers) → Stays around.layout a.element place.element → IsDone around o covers [] place (a ∷ []) w

-- of a range, the number that is reached
abbrev pub IsReached : ℤ → Type 0
IsReached step = (around : Around) (place : Place) (a b : Operand) (w : Writing) (covers : Covers) → kind_of a ≡ kind.Word → kind_of b ≡ kind.Word → kind_seen place.element ≡ kind.Word → IsDone around (row.Item (Some step)) covers [] place (a ∷ b ∷ []) w

-- a number that comes before the end of its range
abbrev pub Before : ℤ → List Meant → Type 0
Before step (Word end ∷ Word i ∷ []) = is_before step end i ≡ true
Before step vs = Unit {0}

-- of a range by one, up or down, the number behind one that comes before the end
abbrev pub IsNext : ℤ → Type 0
IsNext step = (around : Around) (place : Place) (a b : Operand) (w : Writing) (covers : Covers) → kind_of a ≡ kind.Word → kind_of b ≡ kind.Word → kind_seen place.element ≡ kind.Word → IsDoneWhere (Before step) around (row.Advance (Some step)) covers [] place (a ∷ b ∷ []) w
