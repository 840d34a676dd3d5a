-- Where the tokens of a source stand.
use Rattle.std.specs.Prelude.{◌≡◌, ℕ, ◌≤◌, List, [], ◌∷◌, length}
use Rattle.rpy_token.specs.declared.token.Token.{Token}
use Rattle.rpy_token.specs.Bytes.{Bytes}
use Rattle.rpy_token.specs.Lines.{line_of}

-- a token that begins at a place or behind it, with the line of its start
pub record IsSpan (source : Bytes) (from : ℕ) (t : Token) : Type 0 where
  pub behind : from ≤ t.start
  pub forward : t.start ≤ t.end
  pub inside : t.end ≤ length source
  pub line : t.line ≡ line_of source t.start

-- each token behind the one before
abbrev pub InOrder : Bytes → ℕ → List Token → Type 0
InOrder source from [] = Unit {0}
InOrder source from (t ∷ ts) = IsSpan source from t × InOrder source t.end ts
