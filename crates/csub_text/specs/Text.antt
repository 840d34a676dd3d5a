-- The texts of C files, and the line at which bytes are none.
use Rattle.std.specs.Prelude.{◌≡◌, ℕ, suc, ◌==◌, ◌++◌, cond, Bool, true, false, List, [], ◌∷◌, ◌⊎◌}
use Rattle.csub_tree.specs.declared.tree.CFile.{CFile}
use Rattle.csub_tree.specs.Spelling.{file_text}
use Rattle.csub_text.specs.Written.{IsWritten}

-- the bytes are the text of the file
abbrev pub IsText : List ℕ → CFile → Type 0
IsText bytes file = (bytes ≡ file_text file) × IsWritten file

-- the bytes are the text of no file
abbrev pub IsNoText : List ℕ → Type 0
IsNoText bytes = (file : CFile) → IsText bytes file → ⊥

-- some text begins with these bytes
abbrev pub Begins : List ℕ → Type 0
Begins bytes = (rest : List ℕ) × (file : CFile) × IsText (bytes ++ rest) file

-- no bytes, or bytes that end with a newline
abbrev pub AreLines : List ℕ → Type 0
AreLines bytes = (bytes ≡ []) ⊎ ((start : List ℕ) × (bytes ≡ start ++ 10 ∷ []))

-- how many lines end in these bytes
abbrev pub line_ends : List ℕ → ℕ
line_ends [] = 0
line_ends (b ∷ bs) = cond (b == 10) (suc (line_ends bs)) (line_ends bs)

-- the bytes up to the first newline and with it
abbrev pub first_line : List ℕ → List ℕ
first_line [] = []
first_line (b ∷ bs) = cond (b == 10) (b ∷ []) (b ∷ first_line bs)

abbrev pub has_line : List ℕ → Bool
has_line [] = false
has_line (b ∷ bs) = cond (b == 10) true (has_line bs)

-- Line k is the first such that no text begins with the lines up to it. Where every line fits and the bytes are no text, it is the
-- number of lines and one. A last piece without a newline counts as a line that fits no text.
pub record IsDead (bytes : List ℕ) (k : ℕ) : Type 0 where
  pub before : List ℕ
  pub after : List ℕ
  pub parts : bytes ≡ before ++ after
  pub lines : AreLines before
  pub number : k ≡ suc (line_ends before)
  pub fits : Begins before
  pub line : has_line after ≡ true → Begins (before ++ first_line after) → ⊥
  pub whole : after ≡ [] → IsNoText bytes
