-- What is printed, and by which helpers.
use Rattle.std.specs.Prelude.{◌≡◌, Bool, true, false, ◌&&◌, List, [], ◌∷◌, ◌++◌}
use Rattle.ll_build.specs.declared.needs.Helper.TheVariants as helper
use Rattle.rtyper_layout.specs.declared.kind.Kind.{Kind}
use Rattle.rtyper_layout.specs.declared.kind.Kind.TheVariants as kind
use Rattle.rtyper_layout.specs.Kinds.{kind_seen}
use Rattle.rpy_meaning.specs.declared.row.Covers.{Covers}
use Rattle.rpy_meaning.specs.declared.row.RowOp.TheVariants as row
use Rattle.rtyper_data.specs.Seen.{Around, Operand, Place, kind_of, Writing}
use Rattle.lower_laws.specs.Asked.{Ask, Help}
use Rattle.lower_laws.specs.Done.{IsDone}

-- words, truth values, bytes and strings are
abbrev pub is_shown : Kind → Bool
is_shown kind.Word = true
is_shown kind.Flag = true
is_shown kind.Byte = true
is_shown kind.Text = true
is_shown _ = false

abbrev pub are_shown : List Operand → Bool
are_shown [] = true
are_shown (a ∷ args) = is_shown (kind_of a) && are_shown args

-- a byte is put by the machine itself
abbrev pub printer : Kind → List Ask
printer kind.Word = Help helper.PrintWord ∷ []
printer kind.Flag = Help helper.PrintBool ∷ []
printer kind.Text = Help helper.PrintStr ∷ []
printer _ = []

abbrev pub printers : List Operand → List Ask
printers [] = []
printers (a ∷ args) = printer (kind_of a) ++ printers args

-- what is printed gives `None`
abbrev pub IsPrinted : Type 0
IsPrinted = (around : Around) (place : Place) (args : List Operand) (w : Writing) (covers : Covers) → are_shown args ≡ true → kind_seen place.element ≡ kind.Nothing → IsDone around row.Print covers (printers args) place args w
