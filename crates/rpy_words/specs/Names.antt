-- Names and keywords.
use Rattle.std.specs.Prelude.{ℕ, zero, suc, ◌==◌, ◌||◌, ◌&&◌, nat_le, Bool, true, false, if◌then◌else◌, List, [], ◌∷◌, codes}
use Rattle.std.specs.Str.{bytes_eq}

abbrev pub Bytes : Type 0
Bytes = List ℕ

-- ---- classes of bytes

abbrev pub is_digit : ℕ → Bool
is_digit b = nat_le 48 b && nat_le b 57

abbrev pub is_letter : ℕ → Bool
is_letter b = (nat_le 97 b && nat_le b 122) || (nat_le 65 b && nat_le b 90) || b == 95

abbrev pub is_name_byte : ℕ → Bool
is_name_byte b = is_letter b || is_digit b

-- how many bytes of a name, and how many digits, stand at the front
unfoldable pub name_len : Bytes → ℕ
name_len [] = 0
name_len (b ∷ bs) = if is_name_byte b then suc (name_len bs) else 0

-- ---- words

abbrev pub among : List Bytes → Bytes → Bool
among [] name = false
among (word ∷ words) name = bytes_eq name word || among words name

abbrev pub is_keyword : Bytes → Bool
is_keyword name =
    among (codes "and" ∷ codes "as" ∷ codes "assert" ∷ codes "break" ∷ codes "class" ∷ codes "continue" ∷ codes "def" ∷ codes "del" ∷ []) name
    || among (codes "elif" ∷ codes "else" ∷ codes "except" ∷ codes "exec" ∷ codes "finally" ∷ codes "for" ∷ codes "from" ∷ codes "global" ∷ []) name
    || among (codes "if" ∷ codes "import" ∷ codes "in" ∷ codes "is" ∷ codes "lambda" ∷ codes "not" ∷ codes "or" ∷ codes "pass" ∷ []) name
    || among (codes "print" ∷ codes "raise" ∷ codes "return" ∷ codes "try" ∷ codes "while" ∷ codes "with" ∷ codes "yield" ∷ []) name
