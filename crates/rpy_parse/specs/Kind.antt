-- The kinds of tokens, by number.
use Rattle.std.specs.Prelude.{ℕ, List, [], ◌∷◌, get_or, pos}
use Rattle.rpy_token.specs.declared.token.Token.{Token}
use Rattle.rpy_token.specs.declared.token.TokenKind.{TokenKind}
use Rattle.rpy_token.specs.declared.token.TokenKind.TheVariants as k
use Rattle.rpy_token.specs.declared.token.Keyword.{Keyword}
use Rattle.rpy_token.specs.declared.token.Keyword.TheVariants as word
use Rattle.rpy_token.specs.declared.token.Sign.{Sign}
use Rattle.rpy_token.specs.declared.token.Sign.TheVariants as sign

abbrev pub kinds : ℕ
kinds = 79

abbrev pub word_kind : Keyword → ℕ
word_kind word.And = 3
word_kind word.As = 4
word_kind word.Assert = 5
word_kind word.Break = 6
word_kind word.Class = 7
word_kind word.Continue = 8
word_kind word.Def = 9
word_kind word.Del = 10
word_kind word.Elif = 11
word_kind word.Else = 12
word_kind word.Except = 13
word_kind word.Exec = 14
word_kind word.Finally = 15
word_kind word.For = 16
word_kind word.From = 17
word_kind word.Global = 18
word_kind word.If = 19
word_kind word.Import = 20
word_kind word.In = 21
word_kind word.Is = 22
word_kind word.Lambda = 23
word_kind word.Not = 24
word_kind word.Or = 25
word_kind word.Pass = 26
word_kind word.Print = 27
word_kind word.Raise = 28
word_kind word.Return = 29
word_kind word.Try = 30
word_kind word.While = 31
word_kind word.With = 32
word_kind word.Yield = 33

abbrev pub sign_kind : Sign → ℕ
sign_kind sign.FloorDivAssign = 34
sign_kind sign.ShlAssign = 35
sign_kind sign.ShrAssign = 36
sign_kind sign.AddAssign = 37
sign_kind sign.SubAssign = 38
sign_kind sign.MulAssign = 39
sign_kind sign.DivAssign = 40
sign_kind sign.ModAssign = 41
sign_kind sign.AndAssign = 42
sign_kind sign.OrAssign = 43
sign_kind sign.XorAssign = 44
sign_kind sign.EqualEqual = 45
sign_kind sign.NotEqual = 46
sign_kind sign.LessEqual = 47
sign_kind sign.GreaterEqual = 48
sign_kind sign.FloorDiv = 49
sign_kind sign.ShiftLeft = 50
sign_kind sign.ShiftRight = 51
sign_kind sign.Plus = 52
sign_kind sign.Minus = 53
sign_kind sign.Star = 54
sign_kind sign.Slash = 55
sign_kind sign.Percent = 56
sign_kind sign.Ampersand = 57
sign_kind sign.Bar = 58
sign_kind sign.Caret = 59
sign_kind sign.Tilde = 60
sign_kind sign.Less = 61
sign_kind sign.Greater = 62
sign_kind sign.Equal = 63
sign_kind sign.OpenParen = 64
sign_kind sign.CloseParen = 65
sign_kind sign.OpenBracket = 66
sign_kind sign.CloseBracket = 67
sign_kind sign.OpenBrace = 68
sign_kind sign.CloseBrace = 69
sign_kind sign.Comma = 70
sign_kind sign.Colon = 71
sign_kind sign.Semicolon = 72
sign_kind sign.Dot = 73
sign_kind sign.At = 74

abbrev pub newline_kind : ℕ
newline_kind = 75

abbrev pub indent_kind : ℕ
indent_kind = 76

abbrev pub dedent_kind : ℕ
dedent_kind = 77

abbrev pub end_kind : ℕ
end_kind = 78

abbrev pub number : TokenKind → ℕ
number (k.Name x) = 0
number (k.Int n) = 1
number (k.Str x) = 2
number (k.Word w) = word_kind w
number (k.Sign s) = sign_kind s
number k.Newline = newline_kind
number k.Indent = indent_kind
number k.Dedent = dedent_kind
number k.End = end_kind

abbrev pub kind : Token → ℕ
kind t = number t.kind

-- a token without a place
abbrev pub token : TokenKind → Token
token x = record { kind = x; start = 0; end = 0; line = 0 }

-- one of each kind
abbrev pub examples : List TokenKind
examples = k.Name [] ∷ k.Int (pos 0) ∷ k.Str [] ∷ k.Word word.And ∷ k.Word word.As ∷ k.Word word.Assert ∷ k.Word word.Break ∷ k.Word word.Class ∷ k.Word word.Continue ∷ k.Word word.Def ∷ k.Word word.Del ∷ k.Word word.Elif ∷ k.Word word.Else ∷ k.Word word.Except ∷ k.Word word.Exec ∷ k.Word word.Finally ∷ k.Word word.For ∷ k.Word word.From ∷ k.Word word.Global ∷ k.Word word.If ∷ k.Word word.Import ∷ k.Word word.In ∷ k.Word word.Is ∷ k.Word word.Lambda ∷ k.Word word.Not ∷ k.Word word.Or ∷ k.Word word.Pass ∷ k.Word word.Print ∷ k.Word word.Raise ∷ k.Word word.Return ∷ k.Word word.Try ∷ k.Word word.While ∷ k.Word word.With ∷ k.Word word.Yield ∷ k.Sign sign.FloorDivAssign ∷ k.Sign sign.ShlAssign ∷ k.Sign sign.ShrAssign ∷ k.Sign sign.AddAssign ∷ k.Sign sign.SubAssign ∷ k.Sign sign.MulAssign ∷ k.Sign sign.DivAssign ∷ k.Sign sign.ModAssign ∷ k.Sign sign.AndAssign ∷ k.Sign sign.OrAssign ∷ k.Sign sign.XorAssign ∷ k.Sign sign.EqualEqual ∷ k.Sign sign.NotEqual ∷ k.Sign sign.LessEqual ∷ k.Sign sign.GreaterEqual ∷ k.Sign sign.FloorDiv ∷ k.Sign sign.ShiftLeft ∷ k.Sign sign.ShiftRight ∷ k.Sign sign.Plus ∷ k.Sign sign.Minus ∷ k.Sign sign.Star ∷ k.Sign sign.Slash ∷ k.Sign sign.Percent ∷ k.Sign sign.Ampersand ∷ k.Sign sign.Bar ∷ k.Sign sign.Caret ∷ k.Sign sign.Tilde ∷ k.Sign sign.Less ∷ k.Sign sign.Greater ∷ k.Sign sign.Equal ∷ k.Sign sign.OpenParen ∷ k.Sign sign.CloseParen ∷ k.Sign sign.OpenBracket ∷ k.Sign sign.CloseBracket ∷ k.Sign sign.OpenBrace ∷ k.Sign sign.CloseBrace ∷ k.Sign sign.Comma ∷ k.Sign sign.Colon ∷ k.Sign sign.Semicolon ∷ k.Sign sign.Dot ∷ k.Sign sign.At ∷ k.Newline ∷ k.Indent ∷ k.Dedent ∷ k.End ∷ []

abbrev pub token_of : ℕ → Token
token_of n = token (get_or examples n k.End)
