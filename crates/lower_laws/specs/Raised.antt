-- Operations of helpers on words whose failures are raised where they are covered.
use Rattle.std.specs.Prelude.{◌≡◌, [], ◌∷◌}
use Rattle.ll_build.specs.declared.needs.Helper.{Helper}
use Rattle.rpy_meaning.specs.declared.row.RowOp.{RowOp}
use Rattle.rtyper_layout.specs.declared.kind.Kind.TheVariants as kind
use Rattle.rtyper_layout.specs.Kinds.{kind_seen}
use Rattle.rtyper_data.specs.Seen.{Around, Operand, Place, kind_of, Writing}
use Rattle.lower_laws.specs.Asked.{Raise}
use Rattle.lower_laws.specs.Done.{IsDone}

-- of two words, with the failures that are covered
abbrev pub IsRaised : Helper → RowOp → Type 0
IsRaised h o = (around : Around) (place : Place) (a b : Operand) (w : Writing) → kind_of a ≡ kind.Word → kind_of b ≡ kind.Word → kind_seen place.element ≡ kind.Word → IsDone around o w.found.covered (Raise h ∷ []) place (a ∷ b ∷ []) w
