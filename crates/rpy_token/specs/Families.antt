-- How the code looks keywords and signs up: family by family. Laws say that it is by the tables.
use Rattle.std.specs.Prelude.{ℕ, ◌&&◌, ◌==◌, if◌then◌else◌, [], ◌∷◌, Option, Some, None}
use Rattle.rpy_token.specs.declared.token.Keyword.{Keyword}
use Rattle.rpy_token.specs.declared.token.Sign.{Sign}
use Rattle.rpy_token.specs.declared.token.Sign.TheVariants as s
use Rattle.rpy_token.specs.Bytes.{Bytes}
use Rattle.rpy_token.specs.Words.{look_up, short_keywords, middle_keywords, long_keywords}

-- the first of two answers
abbrev pub first_of_two : {A : Type 0} → Option A → Option A → Option A
first_of_two (Some x) other = Some x
first_of_two None other = other

-- ---- keywords, by their length

unfoldable pub short_keyword : Bytes → Option Keyword
short_keyword text = look_up text short_keywords

unfoldable pub middle_keyword : Bytes → Option Keyword
middle_keyword text = look_up text middle_keywords

unfoldable pub long_keyword : Bytes → Option Keyword
long_keyword text = look_up text long_keywords

unfoldable pub keyword_by_length : Bytes → Option Keyword
keyword_by_length text = first_of_two (short_keyword text) (first_of_two (middle_keyword text) (long_keyword text))

-- ---- signs, the longest first

-- `//`, `<<` and `>>`, by their byte, with `=` after them
abbrev pub doubled_assign : ℕ → Option Sign
doubled_assign a =
    if a == 47 then Some s.FloorDivAssign
    else (if a == 60 then Some s.ShlAssign
    else (if a == 62 then Some s.ShrAssign
    else None))

-- the byte before a `=`
abbrev pub before_equals : ℕ → Option Sign
before_equals a =
    if a == 43 then Some s.AddAssign
    else (if a == 45 then Some s.SubAssign
    else (if a == 42 then Some s.MulAssign
    else (if a == 47 then Some s.DivAssign
    else (if a == 37 then Some s.ModAssign
    else (if a == 38 then Some s.AndAssign
    else (if a == 124 then Some s.OrAssign
    else (if a == 94 then Some s.XorAssign
    else (if a == 61 then Some s.EqualEqual
    else (if a == 33 then Some s.NotEqual
    else (if a == 60 then Some s.LessEqual
    else (if a == 62 then Some s.GreaterEqual
    else None)))))))))))

-- `//`, `<<` and `>>`, by their byte
abbrev pub doubled : ℕ → Option Sign
doubled a =
    if a == 47 then Some s.FloorDiv
    else (if a == 60 then Some s.ShiftLeft
    else (if a == 62 then Some s.ShiftRight
    else None))

abbrev pub operator : ℕ → Option Sign
operator a =
    if a == 43 then Some s.Plus
    else (if a == 45 then Some s.Minus
    else (if a == 42 then Some s.Star
    else (if a == 47 then Some s.Slash
    else (if a == 37 then Some s.Percent
    else (if a == 38 then Some s.Ampersand
    else (if a == 124 then Some s.Bar
    else (if a == 94 then Some s.Caret
    else (if a == 126 then Some s.Tilde
    else (if a == 60 then Some s.Less
    else (if a == 62 then Some s.Greater
    else None))))))))))

abbrev pub punctuation : ℕ → Option Sign
punctuation a =
    if a == 61 then Some s.Equal
    else (if a == 40 then Some s.OpenParen
    else (if a == 41 then Some s.CloseParen
    else (if a == 91 then Some s.OpenBracket
    else (if a == 93 then Some s.CloseBracket
    else (if a == 123 then Some s.OpenBrace
    else (if a == 125 then Some s.CloseBrace
    else (if a == 44 then Some s.Comma
    else (if a == 58 then Some s.Colon
    else (if a == 59 then Some s.Semicolon
    else (if a == 46 then Some s.Dot
    else (if a == 64 then Some s.At
    else None)))))))))))

-- a sign, and what follows it
abbrev pub and_rest : Option Sign → Bytes → Option (Sign × Bytes)
and_rest None rest = None
and_rest (Some sign) rest = Some (sign, rest)

unfoldable pub sign_of_three : Bytes → Option (Sign × Bytes)
sign_of_three (a ∷ b ∷ c ∷ rest) = if a == b && c == 61 then and_rest (doubled_assign a) rest else None
sign_of_three _ = None

unfoldable pub sign_of_two : Bytes → Option (Sign × Bytes)
sign_of_two (a ∷ b ∷ rest) = if b == 61 then and_rest (before_equals a) rest else (if a == b then and_rest (doubled a) rest else None)
sign_of_two _ = None

unfoldable pub sign_of_one : Bytes → Option (Sign × Bytes)
sign_of_one [] = None
sign_of_one (a ∷ rest) = and_rest (first_of_two (operator a) (punctuation a)) rest

unfoldable pub sign_of : Bytes → Option (Sign × Bytes)
sign_of bytes = first_of_two (sign_of_three bytes) (first_of_two (sign_of_two bytes) (sign_of_one bytes))
