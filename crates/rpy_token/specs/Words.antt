-- Keywords and signs.
use Rattle.std.specs.Prelude.{◌==◌, if◌then◌else◌, List, [], ◌∷◌, ◌++◌, Option, Some, None, codes}
use Rattle.std.specs.Str.{bytes_eq}
use Rattle.rpy_token.specs.declared.token.Keyword.{Keyword}
use Rattle.rpy_token.specs.declared.token.Keyword.TheVariants as k
use Rattle.rpy_token.specs.declared.token.Sign.{Sign}
use Rattle.rpy_token.specs.declared.token.Sign.TheVariants as s
use Rattle.rpy_token.specs.Bytes.{Bytes}

-- ---- keywords

-- what a table has for a text
abbrev pub look_up : {A : Type 0} → Bytes → List (Bytes × A) → Option A
look_up text [] = None
look_up text (row ∷ rows) = if bytes_eq text row.0 then Some row.1 else look_up text rows

abbrev pub short_keywords : List (Bytes × Keyword)
short_keywords =
    (codes "as", k.As) ∷ (codes "if", k.If) ∷ (codes "in", k.In) ∷ (codes "is", k.Is) ∷ (codes "or", k.Or)
    ∷ (codes "and", k.And) ∷ (codes "def", k.Def) ∷ (codes "del", k.Del) ∷ (codes "for", k.For) ∷ (codes "not", k.Not) ∷ (codes "try", k.Try) ∷ []

abbrev pub middle_keywords : List (Bytes × Keyword)
middle_keywords =
    (codes "elif", k.Elif) ∷ (codes "else", k.Else) ∷ (codes "exec", k.Exec) ∷ (codes "from", k.From) ∷ (codes "pass", k.Pass) ∷ (codes "with", k.With)
    ∷ (codes "break", k.Break) ∷ (codes "class", k.Class) ∷ (codes "print", k.Print) ∷ (codes "raise", k.Raise) ∷ (codes "while", k.While) ∷ (codes "yield", k.Yield) ∷ []

abbrev pub long_keywords : List (Bytes × Keyword)
long_keywords =
    (codes "assert", k.Assert) ∷ (codes "except", k.Except) ∷ (codes "global", k.Global) ∷ (codes "import", k.Import) ∷ (codes "lambda", k.Lambda) ∷ (codes "return", k.Return)
    ∷ (codes "finally", k.Finally) ∷ (codes "continue", k.Continue) ∷ []

abbrev pub keywords : List (Bytes × Keyword)
keywords = short_keywords ++ (middle_keywords ++ long_keywords)

unfoldable pub keyword : Bytes → Option Keyword
keyword text = look_up text keywords

-- ---- signs

-- what follows a text at the front
abbrev pub after_text : Bytes → Bytes → Option Bytes
after_text [] bytes = Some bytes
after_text (t ∷ ts) [] = None
after_text (t ∷ ts) (b ∷ bs) = if b == t then after_text ts bs else None

abbrev pub row_or : {A : Type 0} → A → Option Bytes → Option (A × Bytes) → Option (A × Bytes)
row_or x (Some rest) other = Some (x, rest)
row_or x None other = other

-- the first row whose text stands at the front, and what follows it
abbrev pub first_row : {A : Type 0} → List (Bytes × A) → Bytes → Option (A × Bytes)
first_row [] bytes = None
first_row (row ∷ rows) bytes = row_or row.1 (after_text row.0 bytes) (first_row rows bytes)

-- the longest first
abbrev pub signs : List (Bytes × Sign)
signs =
    (codes "//=", s.FloorDivAssign) ∷ (codes "<<=", s.ShlAssign) ∷ (codes ">>=", s.ShrAssign)
    ∷ (codes "+=", s.AddAssign) ∷ (codes "-=", s.SubAssign) ∷ (codes "*=", s.MulAssign) ∷ (codes "/=", s.DivAssign) ∷ (codes "%=", s.ModAssign) ∷ (codes "&=", s.AndAssign)
    ∷ (codes "|=", s.OrAssign) ∷ (codes "^=", s.XorAssign) ∷ (codes "==", s.EqualEqual) ∷ (codes "!=", s.NotEqual) ∷ (codes "<=", s.LessEqual) ∷ (codes ">=", s.GreaterEqual)
    ∷ (codes "//", s.FloorDiv) ∷ (codes "<<", s.ShiftLeft) ∷ (codes ">>", s.ShiftRight)
    ∷ (codes "+", s.Plus) ∷ (codes "-", s.Minus) ∷ (codes "*", s.Star) ∷ (codes "/", s.Slash) ∷ (codes "%", s.Percent) ∷ (codes "&", s.Ampersand)
    ∷ (codes "|", s.Bar) ∷ (codes "^", s.Caret) ∷ (codes "~", s.Tilde) ∷ (codes "<", s.Less) ∷ (codes ">", s.Greater) ∷ (codes "=", s.Equal)
    ∷ (codes "(", s.OpenParen) ∷ (codes ")", s.CloseParen) ∷ (codes "[", s.OpenBracket) ∷ (codes "]", s.CloseBracket) ∷ (codes "{", s.OpenBrace) ∷ (codes "}", s.CloseBrace)
    ∷ (codes ",", s.Comma) ∷ (codes ":", s.Colon) ∷ (codes ";", s.Semicolon) ∷ (codes ".", s.Dot) ∷ (codes "@", s.At) ∷ []

unfoldable pub longest_sign : Bytes → Option (Sign × Bytes)
longest_sign bytes = first_row signs bytes
