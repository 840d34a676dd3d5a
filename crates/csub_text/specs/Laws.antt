-- The laws of C texts.
use Rattle.std.specs.Prelude.{◌≡◌, List, ℕ}
use Rattle.csub_tree.specs.declared.tree.CFile.{CFile}
use Rattle.csub_text.specs.Text.{IsText, IsNoText, IsDead}

-- no bytes are the text of two files
abbrev pub OneFile : Type 0
OneFile = (bytes : List ℕ) (file other : CFile) → IsText bytes file → IsText bytes other → file ≡ other

-- bytes with a dead line are no text
abbrev pub DeadIsNoText : Type 0
DeadIsNoText = (bytes : List ℕ) (line : ℕ) → IsDead bytes line → IsNoText bytes

-- the dead line is one
abbrev pub OneDeadLine : Type 0
OneDeadLine = (bytes : List ℕ) (line other : ℕ) → IsDead bytes line → IsDead bytes other → line ≡ other
