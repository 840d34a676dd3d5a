-- The text of a word: blanks, perhaps a sign, one or more digits, blanks.
use Rattle.std.specs.Prelude.{ℕ, ℤ, List, [], ◌∷◌, Bool, cond, ◌==◌, ◌||◌, ◌&&◌, nat_le, reverse}
use Rattle.std.specs.Str.Parse.{IsNumeral, without_leading_sign, signed_digits_value}
use Rattle.rpy_base.specs.Word.{Fits}

-- a space, or one of the bytes 9 to 13
abbrev pub blank : ℕ → Bool
blank b = (b == 32) || (nat_le 9 b && nat_le b 13)

abbrev pub without_leading_blanks : List ℕ → List ℕ
without_leading_blanks [] = []
without_leading_blanks (b ∷ bs) = cond (blank b) (without_leading_blanks bs) (b ∷ bs)

abbrev pub without_trailing_blanks : List ℕ → List ℕ
without_trailing_blanks bs = reverse (without_leading_blanks (reverse bs))

abbrev pub trimmed : List ℕ → List ℕ
trimmed bs = without_trailing_blanks (without_leading_blanks bs)

-- perhaps a sign, and digits whose number is a word
abbrev pub IsWordText : List ℕ → Type 0
IsWordText bs = IsNumeral 10 (without_leading_sign bs) × Fits (signed_digits_value 10 bs)

abbrev pub word_text_value : List ℕ → ℤ
word_text_value bs = signed_digits_value 10 bs
