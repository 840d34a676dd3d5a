-- Brackets, and the operators between two separators.
use Rattle.std.specs.Prelude.{ℕ, ◌+◌, nat_lt, if◌then◌else◌, List, [], ◌∷◌, length, Ok, Err}
use Rattle.rpy_token.specs.declared.fault.LimitKind.TheVariants.{Brackets, Operators}
use Rattle.rpy_token.specs.declared.fault.TokenFault.TheVariants as fault
use Rattle.rpy_token.specs.declared.levels.Levels.{Levels}
use Rattle.rpy_token.specs.declared.levels.Role.{Role}
use Rattle.rpy_token.specs.declared.levels.Role.TheVariants.{Operator, Open, Close, Separator, Plain}
use Rattle.rpy_token.specs.declared.token.Keyword.{Keyword}
use Rattle.rpy_token.specs.declared.token.Keyword.TheVariants as k
use Rattle.rpy_token.specs.declared.token.Sign.{Sign}
use Rattle.rpy_token.specs.declared.token.Sign.TheVariants as s
use Rattle.rpy_token.specs.declared.token.TokenKind.{TokenKind}
use Rattle.rpy_token.specs.declared.token.TokenKind.TheVariants as kind
use Rattle.rpy_token.specs.Fault.{Outcome, ◌>>=◌}

abbrev pub role_of_sign : Sign → Role
role_of_sign s.OpenParen = Open
role_of_sign s.OpenBracket = Open
role_of_sign s.OpenBrace = Open
role_of_sign s.CloseParen = Close
role_of_sign s.CloseBracket = Close
role_of_sign s.CloseBrace = Close
role_of_sign s.Comma = Separator
role_of_sign s.Colon = Separator
role_of_sign s.Semicolon = Separator
role_of_sign s.Equal = Separator
role_of_sign s.AddAssign = Separator
role_of_sign s.SubAssign = Separator
role_of_sign s.MulAssign = Separator
role_of_sign s.DivAssign = Separator
role_of_sign s.FloorDivAssign = Separator
role_of_sign s.ModAssign = Separator
role_of_sign s.AndAssign = Separator
role_of_sign s.OrAssign = Separator
role_of_sign s.XorAssign = Separator
role_of_sign s.ShlAssign = Separator
role_of_sign s.ShrAssign = Separator
role_of_sign s.At = Plain
role_of_sign _ = Operator

abbrev pub role_of_word : Keyword → Role
role_of_word k.And = Operator
role_of_word k.Or = Operator
role_of_word k.Not = Operator
role_of_word k.In = Operator
role_of_word k.Is = Operator
role_of_word _ = Plain

-- What a token is to the limits. The end of a logical line separates.
abbrev pub role_of : TokenKind → Role
role_of (kind.Sign sign) = role_of_sign sign
role_of (kind.Word word) = role_of_word word
role_of kind.Newline = Separator
role_of _ = Plain

-- at most 64 operators between two separators of a level
abbrev pub with_operator : ℕ → Levels → Outcome Levels
with_operator at levels =
    if nat_lt levels.operators 64 then Ok (record levels { operators = levels.operators + 1 })
    else Err (fault.Limit Operators at)

-- A bracket is an operator of the level around it, and begins a level of its own.
abbrev pub opened : Levels → Levels
opened levels = record { operators = 0; outer = levels.operators ∷ levels.outer }

-- back in the level around; at depth zero a closing bracket changes nothing
abbrev pub back_in : Levels → List ℕ → Levels
back_in levels [] = levels
back_in levels (operators ∷ outer) = record { operators = operators; outer = outer }

abbrev pub closed : Levels → Levels
closed levels = back_in levels levels.outer

-- the levels after a token of this role at a place
unfoldable pub counted : ℕ → Role → Levels → Outcome Levels
counted at Operator levels = with_operator at levels
counted at Open levels =
    if nat_lt (length levels.outer) 16 then (with_operator at levels >>= λ more. Ok (opened more))
    else Err (fault.Limit Brackets at)
counted at Close levels = Ok (closed levels)
counted at Separator levels = Ok (record levels { operators = 0 })
counted at Plain levels = Ok levels
