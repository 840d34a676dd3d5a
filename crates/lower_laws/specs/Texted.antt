-- Operations of helpers on strings, which may be missing, and on bytes, of which strings are made first.
use Rattle.std.specs.Prelude.{◌≡◌, ◌≢◌, true, List, [], ◌∷◌, ◌++◌}
use Rattle.ll_code.specs.declared.program.LlType.{LlType}
use Rattle.ll_build.specs.declared.needs.Helper.{Helper}
use Rattle.ll_build.specs.declared.needs.Helper.TheVariants as helper
use Rattle.rpy_meaning.specs.declared.row.Covers.{Covers}
use Rattle.rpy_meaning.specs.declared.row.RowOp.{RowOp}
use Rattle.rpy_meaning.specs.declared.row.RowOp.TheVariants as row
use Rattle.rtyper_data.specs.declared.small.Small.TheVariants as small
use Rattle.rpy_meaning.specs.Classes.{no_covers}
use Rattle.rtyper_layout.specs.declared.kind.Kind.{Kind}
use Rattle.rtyper_layout.specs.declared.kind.Kind.TheVariants as kind
use Rattle.rtyper_layout.specs.Kinds.{kind_seen, is_text, is_text_or_none}
use Rattle.rtyper_data.specs.Seen.{Around, Operand, Place, type_at, kind_of, Writing}
use Rattle.lower_laws.specs.Asked.{Ask, Help, Make}
use Rattle.lower_laws.specs.Done.{IsDone}
use Rattle.lower_laws.specs.Values.{is_plain}

-- what is asked for where a string is wanted
abbrev pub text_asks : Kind → List Ask
text_asks kind.Byte = Help helper.StrOfChar ∷ []
text_asks _ = []

abbrev pub asks_of : Operand → List Ask
asks_of a = text_asks (kind_of a)

-- the place takes values of this type
abbrev pub Takes : Around → Place → LlType → Type 0
Takes around place t = (is_plain (kind_seen place.element) ≡ true) × (type_at around place ≡ t)

-- of one string or byte, of two, and of one and a word
abbrev pub OnText : Helper → RowOp → LlType → Type 0
OnText h o t = (around : Around) (place : Place) (a : Operand) (w : Writing) → is_text_or_none (kind_of a) ≡ true → Takes around place t → IsDone around o no_covers (asks_of a ++ Help h ∷ []) place (a ∷ []) w

abbrev pub OnTexts : Helper → RowOp → LlType → Type 0
OnTexts h o t = (around : Around) (place : Place) (a b : Operand) (w : Writing) → is_text_or_none (kind_of a) ≡ true → is_text_or_none (kind_of b) ≡ true → Takes around place t → IsDone around o no_covers (asks_of a ++ (asks_of b ++ Help h ∷ [])) place (a ∷ b ∷ []) w

abbrev pub OnTextAndWord : Helper → RowOp → LlType → Type 0
OnTextAndWord h o t = (around : Around) (place : Place) (a b : Operand) (w : Writing) → is_text_or_none (kind_of a) ≡ true → kind_of b ≡ kind.Word → Takes around place t → IsDone around o no_covers (asks_of a ++ Help h ∷ []) place (a ∷ b ∷ []) w

-- of methods, which `None` alone has not
abbrev pub IsMethod : Helper → RowOp → LlType → Type 0
IsMethod h o t = (around : Around) (place : Place) (a : Operand) (w : Writing) → is_text_or_none (kind_of a) ≡ true → kind_of a ≢ kind.Nothing → Takes around place t → IsDone around o no_covers (asks_of a ++ Help h ∷ []) place (a ∷ []) w

abbrev pub IsMethodOfTwo : Helper → RowOp → LlType → Type 0
IsMethodOfTwo h o t = (around : Around) (place : Place) (a b : Operand) (w : Writing) → is_text_or_none (kind_of a) ≡ true → kind_of a ≢ kind.Nothing → is_text (kind_of b) ≡ true → Takes around place t → IsDone around o no_covers (asks_of a ++ (asks_of b ++ Help h ∷ [])) place (a ∷ b ∷ []) w

-- of a string or a byte beside one, where not both are bytes
abbrev pub AreTold : Helper → RowOp → Type 0
AreTold h o = (around : Around) (place : Place) (a b : Operand) (w : Writing) → is_text (kind_of a) ≡ true → is_text (kind_of b) ≡ true → (kind_of a ≡ kind.Byte → kind_of b ≢ kind.Byte) → kind_seen place.element ≡ kind.Flag → IsDone around o no_covers (asks_of a ++ (asks_of b ++ Help h ∷ [])) place (a ∷ b ∷ []) w

-- the number of a string or a byte, which raises where there is none
abbrev pub IsNumbered : Type 0
IsNumbered = (around : Around) (place : Place) (a : Operand) (w : Writing) (covers : Covers) → is_text (kind_of a) ≡ true → kind_seen place.element ≡ kind.Word → IsDone around row.ToInt covers (asks_of a ++ Make small.IntOfText ∷ []) place (a ∷ []) w
