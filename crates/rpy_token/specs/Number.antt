-- Integer literals.
use Rattle.std.specs.Prelude.{ℕ, suc, ◌+◌, ◌-◌, ◌*◌, ◌^◌, Bool, false, ◌||◌, nat_lt, ◌==◌, if◌then◌else◌, [], ◌∷◌, take, drop, Option, Some, None, Ok, Err, ℤ, pos}
use Rattle.rpy_token.specs.declared.fault.TokenFault.TheVariants as fault
use Rattle.rpy_token.specs.Bytes.{Bytes, between, is_name_byte}
use Rattle.rpy_token.specs.Fault.{Outcome, ◌>>=◌, place}

-- the value of a digit, and 16 for any other byte
abbrev pub digit : ℕ → ℕ
digit b =
    if between 48 57 b then b - 48
    else (if between 97 102 b then b - 87
    else (if between 65 70 b then b - 55
    else 16))

-- how many digits of a base there are at the front
unfoldable pub digit_len : ℕ → Bytes → ℕ
digit_len base [] = 0
digit_len base (b ∷ bs) = if nat_lt (digit b) base then suc (digit_len base bs) else 0

unfoldable pub value_from : ℕ → ℕ → Bytes → ℕ
value_from base value [] = value
value_from base value (b ∷ bs) = value_from base (value * base + digit b) bs

-- the value of digits, where it is a word
abbrev pub word : ℕ → Bytes → Option ℤ
word base digits = if nat_lt (value_from base 0 digits) (2 ^ 63) then Some (pos (value_from base 0 digits)) else None

-- The base of a number, and its digits: `0x` and `0X`, `0o` and `0O`, `0`, and none of these.
abbrev pub radix : Bytes → ℕ × Bytes
radix [] = (10, [])
radix (a ∷ []) = if a == 48 then (8, a ∷ []) else (10, a ∷ [])
radix (a ∷ b ∷ bs) =
    if a == 48 then
    (if b == 120 || b == 88 then (16, bs)
    else (if b == 111 || b == 79 then (8, bs)
    else (8, a ∷ b ∷ bs)))
    else (10, a ∷ b ∷ bs)

-- a letter, a digit, `_` or `.`, which may not follow a number
abbrev pub goes_on : Bytes → Bool
goes_on [] = false
goes_on (b ∷ bs) = is_name_byte b || b == 46

abbrev pub word_or_fault : ℕ → Option ℤ → Outcome ℤ
word_or_fault at (Some v) = Ok v
word_or_fault at None = Err (fault.BadNumber at)

-- the digits at the front, in a number that begins at a place
abbrev pub digits_at : ℕ → ℕ → Bytes → Outcome (ℤ × Bytes)
digits_at at base bytes =
    let n = digit_len base bytes in
    if n == 0 || goes_on (drop n bytes) then Err (fault.BadNumber at)
    else (word_or_fault at (word base (take n bytes)) >>= λ v. Ok (v, drop n bytes))

-- a number, and what follows it
unfoldable pub number : ℕ → Bytes → Outcome (ℤ × Bytes)
number size bytes = digits_at (place size bytes) (radix bytes).0 (radix bytes).1
