-- The static strings: the empty one, those of one byte and their table, `True` and `False`.
use Rattle.std.specs.Prelude.{ℕ, zero, suc, ◌+◌, ℤ, pos, List, [], ◌∷◌, ◌++◌, length, map, codes}
use Rattle.csub_tree.specs.declared.tree.CConst.TheVariants.{Word, Char, Static}
use Rattle.csub_tree.specs.declared.tree.CCell.{CCell}
use Rattle.csub_tree.specs.declared.tree.CCell.TheVariants.{Const, Braces}
use Rattle.csub_tree.specs.declared.tree.CStatic.{CStatic}

-- a static of this struct: the count of its items, and the items
abbrev pub counted : ℕ → ℤ → List CCell → CStatic
counted kind count items = record { kind = kind; cells = Const (Word count) ∷ Braces items ∷ [] }

abbrev pub byte_cell : ℕ → CCell
byte_cell byte = Const (Char byte)

-- a string, which is of struct 0
abbrev pub text : List ℕ → CStatic
text bytes = counted 0 (pos (length bytes)) (map byte_cell bytes)

-- the strings of one byte, of so many bytes from 0 on
unfoldable pub singles : ℕ → List CStatic
singles zero = []
singles (suc byte) = singles byte ++ text (byte ∷ []) ∷ []

-- the same strings as entries of a table: static 0 is the empty string
unfoldable pub entries : ℕ → List CCell
entries zero = []
entries (suc byte) = entries byte ++ Const (Static 0 (byte + 1)) ∷ []

abbrev pub table_static : ℕ → CStatic
table_static table = counted table (pos 256) (entries 256)

-- static 0, statics 1 to 256, 257, 258 and 259
abbrev pub texts : ℕ → List CStatic
texts table = text [] ∷ singles 256 ++ table_static table ∷ text (codes "True") ∷ text (codes "False") ∷ []
