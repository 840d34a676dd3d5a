-- Places and lines of a source.
use Rattle.std.specs.Prelude.{ℕ, ◌+◌, ◌-◌, ◌==◌, List, ◌++◌, length, take, drop, replicate, count_by}
use Rattle.rpy_token.specs.declared.token.Token.{Token}
use Rattle.rpy_token.specs.declared.token.TokenKind.{TokenKind}
use Rattle.rpy_token.specs.declared.token.TokenKind.TheVariants as kind
use Rattle.rpy_token.specs.Bytes.{Bytes}

-- one more than the newlines before a place
abbrev pub line_of : Bytes → ℕ → ℕ
line_of source at = 1 + count_by (λ b. b == 10) (take at source)

-- a place in a source
pub record Spot : Type 0 where
  pub source : Bytes
  pub at : ℕ

abbrev pub size_at : Spot → ℕ
size_at spot = length spot.source

-- the bytes from the place on
abbrev pub rest_at : Spot → Bytes
rest_at spot = drop spot.at spot.source

abbrev pub line_at : Spot → ℕ
line_at spot = line_of spot.source spot.at

-- so many bytes further on
abbrev pub skip : ℕ → Spot → Spot
skip n spot = record spot { at = spot.at + n }

-- how many bytes there are before a rest
abbrev pub used : Bytes → Bytes → ℕ
used bytes rest = length bytes - length rest

-- ---- tokens at a place

-- a token of so many bytes
abbrev pub token_at : TokenKind → ℕ → Spot → Token
token_at kind n spot = record { kind = kind; start = spot.at; end = spot.at + n; line = line_at spot }

-- so many Dedents more
abbrev pub with_dedents : ℕ → Spot → List Token → List Token
with_dedents n spot found = found ++ replicate n (token_at kind.Dedent 0 spot)
