-- Operations of helpers on strings, which may be missing, and on bytes, of which strings are made first, whose failures are raised where they are
-- covered.
use Rattle.std.specs.Prelude.{◌≡◌, ◌≢◌, true, [], ◌∷◌, ◌++◌}
use Rattle.ll_code.specs.declared.program.LlType.{LlType}
use Rattle.ll_build.specs.declared.needs.Helper.{Helper}
use Rattle.rpy_meaning.specs.declared.row.RowOp.{RowOp}
use Rattle.rtyper_layout.specs.declared.kind.Kind.TheVariants as kind
use Rattle.rtyper_layout.specs.Kinds.{is_text, is_text_or_none}
use Rattle.rtyper_data.specs.Seen.{Around, Operand, Place, kind_of, Writing}
use Rattle.lower_laws.specs.Asked.{Raise}
use Rattle.lower_laws.specs.Follows.{IsWord}
use Rattle.lower_laws.specs.Helped.{IsText}
use Rattle.lower_laws.specs.Texted.{asks_of, Takes}
use Rattle.covered_text_laws.specs.Done.{IsDone}

-- of one string or byte, of two, and of one and a word
abbrev pub OnText : Helper → RowOp → LlType → Type 0
OnText h o t = (around : Around) (place : Place) (a : Operand) (w : Writing) → is_text_or_none (kind_of a) ≡ true → Takes around place t → IsDone around o w.found.covered (asks_of a ++ Raise h ∷ []) place (a ∷ []) w

abbrev pub OnTexts : Helper → RowOp → LlType → Type 0
OnTexts h o t = (around : Around) (place : Place) (a b : Operand) (w : Writing) → is_text_or_none (kind_of a) ≡ true → is_text_or_none (kind_of b) ≡ true → Takes around place t → IsDone around o w.found.covered (asks_of a ++ (asks_of b ++ Raise h ∷ [])) place (a ∷ b ∷ []) w

abbrev pub OnTextAndWord : Helper → RowOp → LlType → Type 0
OnTextAndWord h o t = (around : Around) (place : Place) (a b : Operand) (w : Writing) → is_text_or_none (kind_of a) ≡ true → kind_of b ≡ kind.Word → Takes around place t → IsDone around o w.found.covered (asks_of a ++ Raise h ∷ []) place (a ∷ b ∷ []) w

-- of methods, which `None` alone has not
abbrev pub IsMethod : Helper → RowOp → LlType → Type 0
IsMethod h o t = (around : Around) (place : Place) (a : Operand) (w : Writing) → is_text_or_none (kind_of a) ≡ true → kind_of a ≢ kind.Nothing → Takes around place t → IsDone around o w.found.covered (asks_of a ++ Raise h ∷ []) place (a ∷ []) w

abbrev pub IsMethodOfTwo : Helper → RowOp → LlType → Type 0
IsMethodOfTwo h o t = (around : Around) (place : Place) (a b : Operand) (w : Writing) → is_text_or_none (kind_of a) ≡ true → kind_of a ≢ kind.Nothing → is_text (kind_of b) ≡ true → Takes around place t → IsDone around o w.found.covered (asks_of a ++ (asks_of b ++ Raise h ∷ [])) place (a ∷ b ∷ []) w

-- of a string, or `None` where one could be, and words: a walk, slices
abbrev pub OnString : Helper → RowOp → LlType → Type 0
OnString h o t = (around : Around) (place : Place) (a : Operand) (w : Writing) → IsText around a → Takes around place t → IsDone around o w.found.covered (Raise h ∷ []) place (a ∷ []) w

abbrev pub OnStringAndWord : Helper → RowOp → LlType → Type 0
OnStringAndWord h o t = (around : Around) (place : Place) (a b : Operand) (w : Writing) → IsText around a → IsWord around b → Takes around place t → IsDone around o w.found.covered (Raise h ∷ []) place (a ∷ b ∷ []) w

abbrev pub OnStringAndWords : Helper → RowOp → LlType → Type 0
OnStringAndWords h o t = (around : Around) (place : Place) (a b c : Operand) (w : Writing) → IsText around a → IsWord around b → IsWord around c → Takes around place t → IsDone around o w.found.covered (Raise h ∷ []) place (a ∷ b ∷ c ∷ []) w

-- of a word: its byte
abbrev pub OnWord : Helper → RowOp → LlType → Type 0
OnWord h o t = (around : Around) (place : Place) (a : Operand) (w : Writing) → IsWord around a → Takes around place t → IsDone around o w.found.covered (Raise h ∷ []) place (a ∷ []) w
