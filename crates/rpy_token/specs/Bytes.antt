-- The bytes of a source, and what stands at their front.
use Rattle.std.specs.Prelude.{ℕ, suc, Bool, true, ◌||◌, ◌&&◌, nat_le, ◌==◌, if◌then◌else◌, List, [], ◌∷◌, Option, Some, None, is_some}

abbrev pub Bytes : Type 0
Bytes = List ℕ

abbrev pub between : ℕ → ℕ → ℕ → Bool
between low high b = nat_le low b && nat_le b high

-- `a` to `z`, `A` to `Z` and `_`
abbrev pub is_letter : ℕ → Bool
is_letter b = between 97 122 b || between 65 90 b || b == 95

abbrev pub is_digit : ℕ → Bool
is_digit b = between 48 57 b

abbrev pub is_name_byte : ℕ → Bool
is_name_byte b = is_letter b || is_digit b

-- a space or a tab
abbrev pub is_blank : ℕ → Bool
is_blank b = b == 32 || b == 9

-- what may stand in a string or a comment
abbrev pub is_text_byte : ℕ → Bool
is_text_byte b = between 32 126 b || nat_le 128 b || b == 9

-- `'` and `"`
abbrev pub is_quote : ℕ → Bool
is_quote b = b == 39 || b == 34

-- how many bytes of a name there are at the front
unfoldable pub name_len : Bytes → ℕ
name_len [] = 0
name_len (b ∷ bs) = if is_name_byte b then suc (name_len bs) else 0

-- how many spaces and tabs there are at the front
unfoldable pub blank_len : Bytes → ℕ
blank_len [] = 0
blank_len (b ∷ bs) = if is_blank b then suc (blank_len bs) else 0

abbrev pub after_line_feed : Bytes → Option Bytes
after_line_feed [] = None
after_line_feed (b ∷ bs) = if b == 10 then Some bs else None

-- What follows the newline at the front, where there is one. A carriage return directly before a
-- newline belongs to it.
abbrev pub after_newline : Bytes → Option Bytes
after_newline [] = None
after_newline (b ∷ bs) = if b == 10 then Some bs else (if b == 13 then after_line_feed bs else None)

-- a newline, or the end of the source
abbrev pub ends_line : Bytes → Bool
ends_line [] = true
ends_line (b ∷ bs) = is_some (after_newline (b ∷ bs))
