-- The tokens of a source, by cases on whether a logical line begins, on the open indentations, on the
-- brackets, and on the kind of the next piece.
use Rattle.std.specs.Prelude.{◌≡◌, ◌≢◌, ℕ, ◌+◌, ◌<◌, ◌≤◌, true, false, List, [], ◌∷◌, ◌++◌, length, take, Some, None, Ok, Err}
use Rattle.rpy_token.specs.declared.fault.LimitKind.TheVariants.{Blocks}
use Rattle.rpy_token.specs.declared.fault.TokenFault.{TokenFault}
use Rattle.rpy_token.specs.declared.fault.TokenFault.TheVariants as fault
use Rattle.rpy_token.specs.declared.levels.Levels.{Levels}
use Rattle.rpy_token.specs.declared.piece.Piece.TheVariants as p
use Rattle.rpy_token.specs.declared.token.Token.{Token}
use Rattle.rpy_token.specs.declared.token.TokenKind.{TokenKind}
use Rattle.rpy_token.specs.declared.token.TokenKind.TheVariants as kind
use Rattle.rpy_token.specs.Bytes.{Bytes, blank_len}
use Rattle.rpy_token.specs.Fault.{Outcome}
use Rattle.rpy_token.specs.Levels.{role_of, counted}
use Rattle.rpy_token.specs.Lines.{Spot, size_at, rest_at, skip}
use Rattle.rpy_token.specs.Piece.{next_piece}
use Rattle.rpy_token.specs.Indents.{blank_line, has_tab, innermost, wider, kept}
use Rattle.rpy_token.specs.Lines.{token_at, used, with_dedents}

abbrev pub HasMore : Spot → Type 0
HasMore s = 0 < length (rest_at s)

-- the place behind the bytes before a rest
abbrev pub behind : Spot → Bytes → Spot
behind s rest = skip (used (rest_at s) rest) s

-- the tokens with one more, which ends where the rest begins
abbrev pub with_token : TokenKind → Spot → Bytes → List Token → List Token
with_token kind s rest found = found ++ token_at kind (used (rest_at s) rest) s ∷ []

-- at the end of the source each open indentation gives Dedent, and then End comes
abbrev pub ended : Spot → List ℕ → List Token → List Token
ended s indents found = with_dedents (length indents) s found ++ token_at kind.End 0 s ∷ []

abbrev pub no_brackets : Levels
no_brackets = record { operators = 0; outer = [] }

-- ---- a line that has text

-- how many spaces and tabs it begins with
abbrev pub width_at : Spot → ℕ
width_at s = blank_len (rest_at s)

-- where its text begins
abbrev pub text_at : Spot → Spot
text_at s = skip (width_at s) s

pub record HasText (s : Spot) : Type 0 where
  pub more : HasMore s
  pub text : blank_line (size_at s) (rest_at s) ≡ Ok None

-- and no tab before it
pub record HasIndent (s : Spot) : Type 0 where
  pub line : HasText s
  pub no_tab : has_tab (take (width_at s) (rest_at s)) ≡ false

-- ---- how reading ends, from a place on, with these tokens read before

mutual
  -- where a logical line begins
  pub data AtLine : Spot → List ℕ → List Token → Outcome (List Token) → Type 0 where
    source_ends : {s : Spot} {indents : List ℕ} {found : List Token}
        → rest_at s ≡ []
        → AtLine s indents found (Ok (ended s indents found))
    blank : {s : Spot} {indents : List ℕ} {found : List Token} {out : Outcome (List Token)} {rest : Bytes}
        → HasMore s → blank_line (size_at s) (rest_at s) ≡ Ok (Some rest)
        → AtLine (behind s rest) indents found out
        → AtLine s indents found out
    bad_comment : {s : Spot} {indents : List ℕ} {found : List Token} {f : TokenFault}
        → HasMore s → blank_line (size_at s) (rest_at s) ≡ Err f
        → AtLine s indents found (Err f)
    tab : {s : Spot} {indents : List ℕ} {found : List Token}
        → HasText s → has_tab (take (width_at s) (rest_at s)) ≡ true
        → AtLine s indents found (Err (fault.BadIndent s.at))
    deeper : {s : Spot} {indents : List ℕ} {found : List Token} {out : Outcome (List Token)}
        → HasIndent s → innermost indents < width_at s → length indents < 32
        → InLine (text_at s) (width_at s ∷ indents) no_brackets (found ++ token_at kind.Indent 0 (text_at s) ∷ []) out
        → AtLine s indents found out
    too_deep : {s : Spot} {indents : List ℕ} {found : List Token}
        → HasIndent s → innermost indents < width_at s → 32 ≤ length indents
        → AtLine s indents found (Err (fault.Limit Blocks (s.at + width_at s)))
    no_deeper : {s : Spot} {indents : List ℕ} {found : List Token} {out : Outcome (List Token)}
        → HasIndent s → width_at s ≤ innermost indents → innermost (kept (width_at s) indents) ≡ width_at s
        → InLine (text_at s) (kept (width_at s) indents) no_brackets (with_dedents (wider (width_at s) indents) (text_at s) found) out
        → AtLine s indents found out
    bad_indent : {s : Spot} {indents : List ℕ} {found : List Token}
        → HasIndent s → width_at s ≤ innermost indents → innermost (kept (width_at s) indents) ≢ width_at s
        → AtLine s indents found (Err (fault.BadIndent s.at))

  -- inside a logical line
  pub data InLine : Spot → List ℕ → Levels → List Token → Outcome (List Token) → Type 0 where
    line_open : {s : Spot} {indents : List ℕ} {levels : Levels} {found : List Token}
        → rest_at s ≡ []
        → InLine s indents levels found (Ok (ended s indents (found ++ token_at kind.Newline 0 s ∷ [])))
    bad_piece : {s : Spot} {indents : List ℕ} {levels : Levels} {found : List Token} {f : TokenFault}
        → HasMore s → next_piece (size_at s) (rest_at s) ≡ Err f
        → InLine s indents levels found (Err f)
    nothing : {s : Spot} {indents : List ℕ} {levels : Levels} {found : List Token} {out : Outcome (List Token)} {rest : Bytes}
        → HasMore s → next_piece (size_at s) (rest_at s) ≡ Ok (p.Blank, rest)
        → InLine (behind s rest) indents levels found out
        → InLine s indents levels found out
    in_brackets : {s : Spot} {indents : List ℕ} {levels : Levels} {found : List Token} {out : Outcome (List Token)} {rest : Bytes}
        → HasMore s → next_piece (size_at s) (rest_at s) ≡ Ok (p.LineEnd, rest) → 0 < length levels.outer
        → InLine (behind s rest) indents levels found out
        → InLine s indents levels found out
    line_ends : {s : Spot} {indents : List ℕ} {levels : Levels} {found : List Token} {out : Outcome (List Token)} {rest : Bytes}
        → HasMore s → next_piece (size_at s) (rest_at s) ≡ Ok (p.LineEnd, rest) → levels.outer ≡ []
        → AtLine (behind s rest) indents (with_token kind.Newline s rest found) out
        → InLine s indents levels found out
    lexeme : {s : Spot} {indents : List ℕ} {levels after : Levels} {found : List Token} {out : Outcome (List Token)} {kind : TokenKind} {rest : Bytes}
        → HasMore s → next_piece (size_at s) (rest_at s) ≡ Ok (p.Lexeme kind, rest) → counted s.at (role_of kind) levels ≡ Ok after
        → InLine (behind s rest) indents after (with_token kind s rest found) out
        → InLine s indents levels found out
    limit : {s : Spot} {indents : List ℕ} {levels : Levels} {found : List Token} {kind : TokenKind} {rest : Bytes} {f : TokenFault}
        → HasMore s → next_piece (size_at s) (rest_at s) ≡ Ok (p.Lexeme kind, rest) → counted s.at (role_of kind) levels ≡ Err f
        → InLine s indents levels found (Err f)

-- ---- a whole source

abbrev pub start_of : Bytes → Spot
start_of source = record { source = source; at = 0 }

-- these are the tokens of a source
abbrev pub IsTokens : Bytes → List Token → Type 0
IsTokens source list = AtLine (start_of source) [] [] (Ok list)

-- a source has no tokens, and this is its first fault
abbrev pub HasFault : Bytes → TokenFault → Type 0
HasFault source f = AtLine (start_of source) [] [] (Err f)

-- why a source has no tokens, where memory is not the cause
abbrev pub IsCause : Bytes → TokenFault → Type 0
IsCause source fault.NoMem = Unit {0}
IsCause source f = HasFault source f
