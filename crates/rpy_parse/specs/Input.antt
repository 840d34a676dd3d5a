-- The tokens that are still to be read.
use Rattle.std.specs.Prelude.{ℕ, Bool, true, false, eqb, List, [], ◌∷◌, Option, Some, None}
use Rattle.rpy_token.specs.declared.token.Token.{Token}
use Rattle.rpy_token.specs.declared.token.TokenKind.{TokenKind}
use Rattle.rpy_token.specs.declared.token.TokenKind.TheVariants as k
use Rattle.rpy_parse.specs.Kind.{number, token}

abbrev pub Input : Type 0
Input = List Token

abbrev pub first : Input → Option Token
first [] = None
first (x ∷ xs) = Some x

abbrev pub kind_of : Option Token → Option TokenKind
kind_of None = None
kind_of (Some t) = Some t.kind

abbrev pub first_kind : Input → Option TokenKind
first_kind i = kind_of (first i)

abbrev pub here_of : Option Token → Token
here_of None = token k.End
here_of (Some t) = t

-- the next token, and some token at the end
abbrev pub here : Input → Token
here i = here_of (first i)

abbrev pub next : Input → Input
next [] = []
next (x ∷ xs) = xs

abbrev pub is_kind : ℕ → Option TokenKind → Bool
is_kind n None = false
is_kind n (Some x) = eqb (number x) n

-- whether a token of this kind is next
abbrev pub sees : ℕ → Input → Bool
sees n i = is_kind n (first_kind i)

-- what is left where a token was read, or was not
abbrev pub after : Bool → Input → Input
after true i = next i
after false i = i
