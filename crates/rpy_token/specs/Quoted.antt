-- String literals.
use Rattle.std.specs.Prelude.{ℕ, zero, suc, ◌+◌, ◌*◌, Bool, true, false, ◌||◌, ◌&&◌, nat_lt, ◌==◌, if◌then◌else◌, [], ◌∷◌, ◌++◌, take, drop, length, Option, Some, None, option_and_then, Ok, Err}
use Rattle.rpy_token.specs.declared.fault.TokenFault.TheVariants as fault
use Rattle.rpy_token.specs.declared.quoted.Form.{Form}
use Rattle.rpy_token.specs.declared.quoted.Part.{Part}
use Rattle.rpy_token.specs.declared.quoted.Part.TheVariants as p
use Rattle.rpy_token.specs.Bytes.{Bytes, is_text_byte, after_newline}
use Rattle.rpy_token.specs.Fault.{Outcome, ◌>>=◌, place}
use Rattle.rpy_token.specs.Number.{digit, digit_len, value_from}

-- ---- quotes

-- what follows a quote
abbrev pub after_one : ℕ → Bytes → Option Bytes
after_one quote [] = None
after_one quote (b ∷ bs) = if b == quote then Some bs else None

-- what follows three
abbrev pub after_three : ℕ → Bytes → Option Bytes
after_three quote bytes = option_and_then (after_one quote) (option_and_then (after_one quote) (after_one quote bytes))

-- what follows the quotes that close a string
unfoldable pub after_close : Form → Bytes → Option Bytes
after_close form bytes = if form.triple then after_three form.quote bytes else after_one form.quote bytes

-- ---- escapes, in the bytes after a backslash at a place

abbrev pub simple_escape : ℕ → Option ℕ
simple_escape c =
    if c == 92 then Some 92
    else (if c == 39 then Some 39
    else (if c == 34 then Some 34
    else (if c == 97 then Some 7
    else (if c == 98 then Some 8
    else (if c == 102 then Some 12
    else (if c == 110 then Some 10
    else (if c == 114 then Some 13
    else (if c == 116 then Some 9
    else (if c == 118 then Some 11
    else None)))))))))

-- two digits
unfoldable pub hex_escape : ℕ → Bytes → Outcome (Part × Bytes)
hex_escape at (a ∷ b ∷ rest) =
    if nat_lt (digit a) 16 && nat_lt (digit b) 16 then Ok (p.One (16 * digit a + digit b), rest)
    else Err (fault.BadNumber at)
hex_escape at _ = Err (fault.BadNumber at)

-- one to three digits, up to 377
unfoldable pub octal_escape : ℕ → Bytes → Outcome (Part × Bytes)
octal_escape at bytes =
    let n = digit_len 8 (take 3 bytes) in
    let value = value_from 8 0 (take n bytes) in
    if nat_lt value 256 then Ok (p.One value, drop n bytes) else Err (fault.BadNumber at)

-- any other escape keeps its backslash, and the byte is read by itself
abbrev pub other_escape : ℕ → ℕ → Bytes → Outcome (Part × Bytes)
other_escape at c cs =
    if c == 120 then hex_escape at cs
    else (if nat_lt (digit c) 8 then octal_escape at (c ∷ cs)
    else Ok (p.One 92, c ∷ cs))

abbrev pub escape_of : ℕ → ℕ → Bytes → Option ℕ → Outcome (Part × Bytes)
escape_of at c cs (Some b) = Ok (p.One b, cs)
escape_of at c cs None = other_escape at c cs

abbrev pub escape_byte : ℕ → Bytes → Outcome (Part × Bytes)
escape_byte at [] = Ok (p.One 92, [])
escape_byte at (c ∷ cs) = escape_of at c cs (simple_escape c)

-- a backslash and a newline stand for nothing
abbrev pub escape_or_joined : ℕ → Bytes → Option Bytes → Outcome (Part × Bytes)
escape_or_joined at bytes (Some rest) = Ok (p.Nothing, rest)
escape_or_joined at bytes None = escape_byte at bytes

unfoldable pub escape : ℕ → Bytes → Outcome (Part × Bytes)
escape at bytes = escape_or_joined at bytes (after_newline bytes)

-- In a raw string a backslash stands for itself, and so does the backslash or the quote after it.
abbrev pub raw_backslash : ℕ → Bytes → Part × Bytes
raw_backslash quote [] = (p.One 92, [])
raw_backslash quote (c ∷ cs) = if c == 92 || c == quote then (p.Two 92 c, cs) else (p.One 92, c ∷ cs)

-- ---- the parts of a string that begins at a place

abbrev pub part_of_byte : Form → ℕ → ℕ → Bytes → Outcome (Part × Bytes)
part_of_byte form size b bs =
    if b == 92 then (if form.raw then Ok (raw_backslash form.quote bs) else escape (place size (b ∷ bs)) bs)
    else Ok (p.One b, bs)

abbrev pub part_or_close : Form → ℕ → ℕ → Bytes → Option Bytes → Outcome (Part × Bytes)
part_or_close form size b bs (Some rest) = Ok (p.Close, rest)
part_or_close form size b bs None = part_of_byte form size b bs

unfoldable pub part_of_line : Form → ℕ → ℕ → Bytes → Outcome (Part × Bytes)
part_of_line form size start [] = Err (fault.OpenString start)
part_of_line form size start (b ∷ bs) =
    if is_text_byte b then part_or_close form size b bs (after_close form (b ∷ bs))
    else Err (fault.BadByte (place size (b ∷ bs)))

-- a newline stands for itself in triple quotes, and may not stand in single ones
abbrev pub part_or_newline : Form → ℕ → ℕ → Bytes → Option Bytes → Outcome (Part × Bytes)
part_or_newline form size start bytes (Some rest) = if form.triple then Ok (p.One 10, rest) else Err (fault.OpenString start)
part_or_newline form size start bytes None = part_of_line form size start bytes

unfoldable pub next_part : Form → ℕ → ℕ → Bytes → Outcome (Part × Bytes)
next_part form size start bytes = part_or_newline form size start bytes (after_newline bytes)

-- what a part stands for
abbrev pub bytes_of : Part → Bytes
bytes_of p.Close = []
bytes_of p.Nothing = []
bytes_of (p.One a) = a ∷ []
bytes_of (p.Two a b) = a ∷ b ∷ []

abbrev pub closes : Part → Bool
closes p.Close = true
closes _ = false

-- The rest of a string, in at most so many parts. Each part has a byte, so more parts than bytes
-- change nothing.
abbrev pub body_from : ℕ → Form → ℕ → ℕ → Bytes → Bytes → Outcome (Bytes × Bytes)
body_from zero form size start found bytes = Err (fault.OpenString start)
body_from (suc n) form size start found bytes =
    next_part form size start bytes >>= λ x.
    if closes x.0 then Ok (found, x.1) else body_from n form size start (found ++ bytes_of x.0) x.1

unfoldable pub body : Form → ℕ → ℕ → Bytes → Outcome (Bytes × Bytes)
body form size start bytes = body_from (length bytes) form size start [] bytes

abbrev pub body_by : ℕ → Bool → ℕ → ℕ → Bytes → Option Bytes → Outcome (Bytes × Bytes)
body_by quote raw size start bs (Some rest) = body (record { quote = quote; triple = true; raw = raw }) size start rest
body_by quote raw size start bs None = body (record { quote = quote; triple = false; raw = raw }) size start bs

-- a string from its first quote on, and what follows it
unfoldable pub quoted : Bool → ℕ → ℕ → Bytes → Outcome (Bytes × Bytes)
quoted raw size start [] = Err (fault.OpenString start)
quoted raw size start (quote ∷ bs) = body_by quote raw size start bs (after_three quote (quote ∷ bs))
