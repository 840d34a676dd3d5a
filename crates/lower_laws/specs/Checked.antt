-- Operations on words whose results have to fit.
use Rattle.std.specs.Prelude.{◌≡◌, [], ◌∷◌}
use Rattle.rpy_tree.specs.declared.syntax.BinOp.{BinOp}
use Rattle.rpy_meaning.specs.declared.row.RowOp.TheVariants as row
use Rattle.rtyper_layout.specs.declared.kind.Kind.TheVariants as kind
use Rattle.rtyper_layout.specs.Kinds.{kind_seen}
use Rattle.rtyper_data.specs.declared.small.Small.TheVariants as small
use Rattle.rtyper_op.specs.Lowering.{checked_small}
use Rattle.rtyper_data.specs.Seen.{Around, Operand, Place, kind_of, Writing}
use Rattle.lower_laws.specs.Asked.{Make}
use Rattle.lower_laws.specs.Done.{IsDone}

-- of two words, by a small graph that raises what does not fit, and the failures that are covered
abbrev pub IsChecked : BinOp → Type 0
IsChecked o = (around : Around) (place : Place) (a b : Operand) (w : Writing) → kind_of a ≡ kind.Word → kind_of b ≡ kind.Word → kind_seen place.element ≡ kind.Word
    → IsDone around (row.Checked o) w.found.covered (Make (checked_small o w.found.covered) ∷ []) place (a ∷ b ∷ []) w

-- the opposite of one
abbrev pub NegIsChecked : Type 0
NegIsChecked = (around : Around) (place : Place) (a : Operand) (w : Writing) → kind_of a ≡ kind.Word → kind_seen place.element ≡ kind.Word → IsDone around row.CheckedNeg w.found.covered (Make small.CheckedNeg ∷ []) place (a ∷ []) w
