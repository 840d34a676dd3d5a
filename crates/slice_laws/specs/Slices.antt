-- Slices of strings and of bytes, of which strings are made first.
use Rattle.std.specs.Prelude.{◌≡◌, ℕ, Bool, true, false, List, [], ◌∷◌, ◌++◌}
use Rattle.ll_code.specs.declared.program.LlType.TheVariants as type
use Rattle.ll_build.specs.declared.needs.Helper.TheVariants as helper
use Rattle.rpy_meaning.specs.declared.row.RowOp.TheVariants as row
use Rattle.rtyper_data.specs.Seen.{Around, Operand, Place, kind_of, Writing}
use Rattle.rtyper_layout.specs.declared.kind.Kind.TheVariants as kind
use Rattle.rtyper_layout.specs.Kinds.{is_text_or_none}
use Rattle.rpy_meaning.specs.Classes.{no_covers}
use Rattle.lower_laws.specs.Asked.{Help}
use Rattle.lower_laws.specs.Done.{IsDone}
use Rattle.lower_laws.specs.Texted.{Takes, asks_of}

-- the bounds that are there, which are words
abbrev pub AreBounds : Bool → Bool → List Operand → Type 0
AreBounds false false [] = Unit {0}
AreBounds true false (b ∷ []) = kind_of b ≡ kind.Word
AreBounds false true (b ∷ []) = kind_of b ≡ kind.Word
AreBounds true true (b ∷ c ∷ []) = (kind_of b ≡ kind.Word) × (kind_of c ≡ kind.Word)
AreBounds low high bounds = ⊥

-- a slice of a string, a byte, or `None`, which fails, by bounds that may be absent
abbrev pub SlicesAreDone : Type 0
SlicesAreDone = (site : ℕ) (low high : Bool) (around : Around) (place : Place) (a : Operand) (bounds : List Operand) (w : Writing) → is_text_or_none (kind_of a) ≡ true → AreBounds low high bounds → Takes around place (type.Ptr 0)
    → IsDone around (row.Slice site low high) no_covers (asks_of a ++ Help helper.StrSlice ∷ []) place (a ∷ bounds) w
