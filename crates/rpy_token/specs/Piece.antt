-- The pieces of a logical line.
use Rattle.std.specs.Prelude.{ℕ, Bool, false, ◌||◌, ◌&&◌, ◌==◌, if◌then◌else◌, [], ◌∷◌, take, drop, Option, Some, None, is_some, Ok, Err}
use Rattle.rpy_token.specs.declared.fault.TokenFault.TheVariants as fault
use Rattle.rpy_token.specs.declared.token.Keyword.{Keyword}
use Rattle.rpy_token.specs.declared.token.Sign.{Sign}
use Rattle.rpy_token.specs.declared.token.TokenKind.{TokenKind}
use Rattle.rpy_token.specs.declared.token.TokenKind.TheVariants as kind
use Rattle.rpy_token.specs.declared.piece.Piece.{Piece}
use Rattle.rpy_token.specs.declared.piece.Piece.TheVariants as p
use Rattle.rpy_token.specs.Bytes.{Bytes, is_letter, is_digit, is_blank, is_quote, is_text_byte, name_len, after_newline}
use Rattle.rpy_token.specs.Fault.{Outcome, ◌>>=◌, place}
use Rattle.rpy_token.specs.Number.{number}
use Rattle.rpy_token.specs.Quoted.{quoted}
use Rattle.rpy_token.specs.Words.{keyword, longest_sign}

-- what follows a comment, which runs to the end of its line
unfoldable pub after_comment : ℕ → Bytes → Outcome Bytes
after_comment size [] = Ok []
after_comment size (b ∷ bs) =
    if is_some (after_newline (b ∷ bs)) then Ok (b ∷ bs)
    else (if is_text_byte b then after_comment size bs
    else Err (fault.BadByte (place size (b ∷ bs))))

-- ---- names and strings

-- a string may have one of these letters before its quote
abbrev pub is_prefix : ℕ → Bool
is_prefix b = b == 114 || b == 82 || b == 98 || b == 66

abbrev pub is_raw_prefix : ℕ → Bool
is_raw_prefix b = b == 114 || b == 82

abbrev pub begins_string : Bytes → Bool
begins_string (a ∷ b ∷ bs) = is_prefix a && is_quote b
begins_string _ = false

abbrev pub word_or_name : Bytes → Option Keyword → TokenKind
word_or_name text (Some k) = kind.Word k
word_or_name text None = kind.Name text

abbrev pub string_at : Bool → ℕ → ℕ → Bytes → Outcome (Piece × Bytes)
string_at raw size start bytes = quoted raw size start bytes >>= λ x. Ok (p.Lexeme (kind.Str x.0), x.1)

unfoldable pub name : Bytes → Piece × Bytes
name bytes =
    let n = name_len bytes in
    (p.Lexeme (word_or_name (take n bytes) (keyword (take n bytes))), drop n bytes)

-- ---- any piece

abbrev pub integer_at : ℕ → Bytes → Outcome (Piece × Bytes)
integer_at size bytes = number size bytes >>= λ x. Ok (p.Lexeme (kind.Int x.0), x.1)

abbrev pub sign_or_fault : ℕ → Option (Sign × Bytes) → Outcome (Piece × Bytes)
sign_or_fault at (Some x) = Ok (p.Lexeme (kind.Sign x.0), x.1)
sign_or_fault at None = Err (fault.BadByte at)

abbrev pub sign_at : ℕ → Bytes → Outcome (Piece × Bytes)
sign_at at bytes = sign_or_fault at (longest_sign bytes)

-- a token: a string, a name or a keyword, a number or a sign
unfoldable pub lexeme : ℕ → Bytes → Outcome (Piece × Bytes)
lexeme size [] = Err (fault.BadByte size)
lexeme size (b ∷ bs) =
    if begins_string (b ∷ bs) then string_at (is_raw_prefix b) size (place size (b ∷ bs)) bs
    else (if is_letter b then Ok (name (b ∷ bs))
    else (if is_digit b then integer_at size (b ∷ bs)
    else (if is_quote b then string_at false size (place size (b ∷ bs)) (b ∷ bs)
    else sign_at (place size (b ∷ bs)) (b ∷ bs))))

abbrev pub comment_at : ℕ → Bytes → Outcome (Piece × Bytes)
comment_at size bytes = after_comment size bytes >>= λ rest. Ok (p.Blank, rest)

abbrev pub blank_or_fault : ℕ → Option Bytes → Outcome (Piece × Bytes)
blank_or_fault at (Some rest) = Ok (p.Blank, rest)
blank_or_fault at None = Err (fault.BadByte at)

-- the newline after a backslash at a place, which joins two lines
abbrev pub joined_at : ℕ → Bytes → Outcome (Piece × Bytes)
joined_at at bytes = blank_or_fault at (after_newline bytes)

abbrev pub inner_piece : ℕ → Bytes → Outcome (Piece × Bytes)
inner_piece size [] = Err (fault.BadByte size)
inner_piece size (b ∷ bs) =
    if is_blank b then Ok (p.Blank, bs)
    else (if b == 35 then comment_at size bs
    else (if b == 92 then joined_at (place size (b ∷ bs)) bs
    else lexeme size (b ∷ bs)))

abbrev pub line_end_or_inner : ℕ → Bytes → Option Bytes → Outcome (Piece × Bytes)
line_end_or_inner size bytes (Some rest) = Ok (p.LineEnd, rest)
line_end_or_inner size bytes None = inner_piece size bytes

-- the piece at the front of what is left of a source of this size, and what follows it
unfoldable pub next_piece : ℕ → Bytes → Outcome (Piece × Bytes)
next_piece size bytes = line_end_or_inner size bytes (after_newline bytes)
