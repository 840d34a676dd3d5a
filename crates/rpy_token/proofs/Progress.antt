-- Each piece has a byte.
use Rattle.std.proofs.Common.{◌≡◌, ℕ, zero, suc, ◌+◌, ◌*◌, ◌<◌, ◌≤◌, Bool, true, false, cond, ◌||◌, ◌&&◌, eqb, ltb, [], ◌∷◌, ◌++◌, length, take, drop, Option, Some, None, is_some, option_and_then, unwrap_or, Ok, Err, refl, ap, subst, arith}
use Rattle.std.proofs.lemmas.Bool.{eqb-false}
use Rattle.std.proofs.lemmas.List.{length-drop, drop-drop}
use Rattle.rpy_token.specs.declared.fault.TokenFault.TheVariants as fault
use Rattle.rpy_token.specs.declared.piece.Piece.{Piece}
use Rattle.rpy_token.specs.declared.piece.Piece.TheVariants as p
use Rattle.rpy_token.specs.declared.quoted.Form.{Form}
use Rattle.rpy_token.specs.declared.quoted.Part.TheVariants as part
use Rattle.rpy_token.specs.declared.token.Sign.{Sign}
use Rattle.rpy_token.specs.declared.token.TokenKind.TheVariants as kind
use Rattle.rpy_token.specs.Bytes.{Bytes, after_newline, after_line_feed, is_letter, is_digit, is_blank, is_quote, is_text_byte, name_len, blank_len}
use Rattle.rpy_token.specs.Fault.{Outcome, ◌>>=◌, place}
use Rattle.rpy_token.specs.Lines.{Spot, size_at, rest_at}
use Rattle.rpy_token.specs.Number.{digit, digit_len, value_from, word, word_or_fault, radix, goes_on, digits_at, number}
use Rattle.rpy_token.specs.Piece.{after_comment, begins_string, is_raw_prefix, name, string_at, integer_at, sign_or_fault, sign_at, lexeme, comment_at, blank_or_fault, joined_at, inner_piece, line_end_or_inner, next_piece}
use Rattle.rpy_token.specs.Quoted.{after_one, after_three, after_close, simple_escape, hex_escape, octal_escape, other_escape, escape_of, escape_byte, escape_or_joined, escape, raw_backslash, part_of_byte, part_or_close, part_of_line, part_or_newline, next_part, closes, bytes_of, body_from, body, body_by, quoted}
use Rattle.rpy_token.specs.Families.{first_of_two, and_rest, doubled_assign, before_equals, doubled, operator, punctuation, sign_of_three, sign_of_two, sign_of_one, sign_of}
use Rattle.rpy_token.specs.Indents.{past_newline, blank_after, blank_line}
use Rattle.rpy_token.specs.Relation.{HasMore, HasText, text_at, width_at}
use Rattle.rpy_token.specs.Words.{longest_sign}
use Rattle.rpy_token.proofs.SignTable.{sign_is}
use Rattle.rpy_token.proofs.Outcomes.{OnRead, on_bind, on_any, on_if, on_weaker, read_is}

-- ---- what follows is shorter

abbrev Shorter : Bytes → Option Bytes → Type 0
Shorter bytes None = Unit {0}
Shorter bytes (Some rest) = length rest < length bytes

some_shorter : (bytes : Bytes) (o : Option Bytes) (rest : Bytes) → Shorter bytes o → o ≡ Some rest → length rest < length bytes
some_shorter bytes o rest h e = let q : Shorter bytes (Some rest) = subst (Shorter bytes) e h in q

line_feed_shorter : (b : ℕ) (bs : Bytes) → Shorter (b ∷ bs) (after_line_feed bs)
line_feed_shorter b [] = tt
line_feed_shorter b (c ∷ cs) = on_if (Shorter (b ∷ c ∷ cs)) (eqb c 10) (Some cs) None (λ _. omega arith) (λ _. tt)

newline_shorter : (bytes : Bytes) → Shorter bytes (after_newline bytes)
newline_shorter [] = tt
newline_shorter (b ∷ bs) =
    on_if (Shorter (b ∷ bs)) (eqb b 10) (Some bs) (cond (eqb b 13) (after_line_feed bs) None) (λ _. omega arith)
    (λ _. on_if (Shorter (b ∷ bs)) (eqb b 13) (after_line_feed bs) None (λ _. line_feed_shorter b bs) (λ _. tt))

quote_shorter : (quote : ℕ) (bytes : Bytes) → Shorter bytes (after_one quote bytes)
quote_shorter quote [] = tt
quote_shorter quote (b ∷ bs) = on_if (Shorter (b ∷ bs)) (eqb b quote) (Some bs) None (λ _. omega arith) (λ _. tt)

longer : (a b : Bytes) (o : Option Bytes) → length a ≤ length b → Shorter a o → Shorter b o
longer a b None le h = tt
longer a b (Some rest) le h = omega arith

then_shorter : (quote : ℕ) (bytes : Bytes) (o : Option Bytes) → Shorter bytes o → Shorter bytes (option_and_then (after_one quote) o)
then_shorter quote bytes None h = tt
then_shorter quote bytes (Some rest) h = longer rest bytes (after_one quote rest) (omega arith) (quote_shorter quote rest)

quotes_shorter : (quote : ℕ) (bytes : Bytes) → Shorter bytes (after_three quote bytes)
quotes_shorter quote bytes =
    then_shorter quote bytes (option_and_then (after_one quote) (after_one quote bytes)) (then_shorter quote bytes (after_one quote bytes) (quote_shorter quote bytes))

close_shorter : (form : Form) (bytes : Bytes) → Shorter bytes (after_close form bytes)
unfolding after_close
close_shorter form bytes = on_if (Shorter bytes) form.triple (after_three form.quote bytes) (after_one form.quote bytes) (λ _. quotes_shorter form.quote bytes) (λ _. quote_shorter form.quote bytes)

-- ---- strings

abbrev NoLonger : {A : Type 0} → Bytes → A × Bytes → Type 0
NoLonger bytes x = length x.1 ≤ length bytes

abbrev pub Less : {A : Type 0} → Bytes → A × Bytes → Type 0
Less bytes x = length x.1 < length bytes

hex_no_longer : (at : ℕ) (bytes : Bytes) → OnRead (NoLonger bytes) (hex_escape at bytes)
unfolding hex_escape
hex_no_longer at [] = tt
hex_no_longer at (a ∷ []) = tt
hex_no_longer at (a ∷ b ∷ rest) =
    on_if (OnRead (NoLonger (a ∷ b ∷ rest))) (ltb (digit a) 16 && ltb (digit b) 16) (Ok (part.One (16 * digit a + digit b), rest)) (Err (fault.BadNumber at)) (λ _. omega arith) (λ _. tt)

octal_no_longer : (at : ℕ) (bytes : Bytes) → OnRead (NoLonger bytes) (octal_escape at bytes)
unfolding octal_escape
octal_no_longer at bytes =
    on_if (OnRead (NoLonger bytes)) (ltb (value_from 8 0 (take (digit_len 8 (take 3 bytes)) bytes)) 256) (Ok (part.One (value_from 8 0 (take (digit_len 8 (take 3 bytes)) bytes)), drop (digit_len 8 (take 3 bytes)) bytes)) (Err (fault.BadNumber at))
    (λ _. omega (arith, length-drop (digit_len 8 (take 3 bytes)) bytes)) (λ _. tt)

more_room : {A : Type 0} (a b : Bytes) (o : Outcome (A × Bytes)) → length a ≤ length b → OnRead (NoLonger a) o → OnRead (NoLonger b) o
more_room a b (Ok x) le h = omega arith
more_room a b (Err e) le h = tt

other_no_longer : (at c : ℕ) (cs : Bytes) → OnRead (NoLonger (c ∷ cs)) (other_escape at c cs)
other_no_longer at c cs =
    on_if (OnRead (NoLonger (c ∷ cs))) (eqb c 120) (hex_escape at cs) (cond (ltb (digit c) 8) (octal_escape at (c ∷ cs)) (Ok (part.One 92, c ∷ cs)))
    (λ _. more_room cs (c ∷ cs) (hex_escape at cs) (omega arith) (hex_no_longer at cs))
    (λ _. on_if (OnRead (NoLonger (c ∷ cs))) (ltb (digit c) 8) (octal_escape at (c ∷ cs)) (Ok (part.One 92, c ∷ cs)) (λ _. octal_no_longer at (c ∷ cs)) (λ _. omega arith))

simple_no_longer : (at c : ℕ) (cs : Bytes) (o : Option ℕ) → OnRead (NoLonger (c ∷ cs)) (escape_of at c cs o)
simple_no_longer at c cs (Some b) = omega arith
simple_no_longer at c cs None = other_no_longer at c cs

byte_no_longer : (at : ℕ) (bytes : Bytes) → OnRead (NoLonger bytes) (escape_byte at bytes)
byte_no_longer at [] = omega arith
byte_no_longer at (c ∷ cs) = simple_no_longer at c cs (simple_escape c)

joined_no_longer : (at : ℕ) (bytes : Bytes) (o : Option Bytes) → Shorter bytes o → OnRead (NoLonger bytes) (escape_or_joined at bytes o)
joined_no_longer at bytes (Some rest) h = omega arith
joined_no_longer at bytes None h = byte_no_longer at bytes

escape_no_longer : (at : ℕ) (bytes : Bytes) → OnRead (NoLonger bytes) (escape at bytes)
unfolding escape
escape_no_longer at bytes = joined_no_longer at bytes (after_newline bytes) (newline_shorter bytes)

raw_no_longer : (quote : ℕ) (bytes : Bytes) → NoLonger bytes (raw_backslash quote bytes)
raw_no_longer quote [] = omega arith
raw_no_longer quote (c ∷ cs) = on_if (NoLonger (c ∷ cs)) (eqb c 92 || eqb c quote) (part.Two 92 c, cs) (part.One 92, c ∷ cs) (λ _. omega arith) (λ _. omega arith)

less_room : {A : Type 0} (a b : Bytes) (o : Outcome (A × Bytes)) → length a < length b → OnRead (NoLonger a) o → OnRead (Less b) o
less_room a b (Ok x) lt h = omega arith
less_room a b (Err e) lt h = tt

of_byte_less : (form : Form) (size b : ℕ) (bs : Bytes) → OnRead (Less (b ∷ bs)) (part_of_byte form size b bs)
of_byte_less form size b bs =
    on_if (OnRead (Less (b ∷ bs))) (eqb b 92) (cond form.raw (Ok (raw_backslash form.quote bs)) (escape (place size (b ∷ bs)) bs)) (Ok (part.One b, bs))
    (λ _. on_if (OnRead (Less (b ∷ bs))) form.raw (Ok (raw_backslash form.quote bs)) (escape (place size (b ∷ bs)) bs)
    (λ _. omega (arith, raw_no_longer form.quote bs))
    (λ _. less_room bs (b ∷ bs) (escape (place size (b ∷ bs)) bs) (omega arith) (escape_no_longer (place size (b ∷ bs)) bs)))
    (λ _. omega arith)

or_close_less : (form : Form) (size b : ℕ) (bs : Bytes) (o : Option Bytes) → Shorter (b ∷ bs) o → OnRead (Less (b ∷ bs)) (part_or_close form size b bs o)
or_close_less form size b bs (Some rest) h = omega arith
or_close_less form size b bs None h = of_byte_less form size b bs

of_line_less : (form : Form) (size start : ℕ) (bytes : Bytes) → OnRead (Less bytes) (part_of_line form size start bytes)
unfolding part_of_line
of_line_less form size start [] = tt
of_line_less form size start (b ∷ bs) =
    on_if (OnRead (Less (b ∷ bs))) (is_text_byte b) (part_or_close form size b bs (after_close form (b ∷ bs))) (Err (fault.BadByte (place size (b ∷ bs))))
    (λ _. or_close_less form size b bs (after_close form (b ∷ bs)) (close_shorter form (b ∷ bs))) (λ _. tt)

or_newline_less : (form : Form) (size start : ℕ) (bytes : Bytes) (o : Option Bytes) → Shorter bytes o → OnRead (Less bytes) (part_or_newline form size start bytes o)
or_newline_less form size start bytes (Some rest) h =
    on_if (OnRead (Less bytes)) form.triple (Ok (part.One 10, rest)) (Err (fault.OpenString start)) (λ _. omega arith) (λ _. tt)
or_newline_less form size start bytes None h = of_line_less form size start bytes

pub part_less : (form : Form) (size start : ℕ) (bytes : Bytes) → OnRead (Less bytes) (next_part form size start bytes)
unfolding next_part
part_less form size start bytes = or_newline_less form size start bytes (after_newline bytes) (newline_shorter bytes)

body_no_longer : (n : ℕ) (form : Form) (size start : ℕ) (found bytes : Bytes) → OnRead (NoLonger bytes) (body_from n form size start found bytes)
body_no_longer zero form size start found bytes = tt
body_no_longer (suc n) form size start found bytes =
    on_bind (NoLonger bytes) (NoLonger bytes) (next_part form size start bytes) (λ x. cond (closes x.0) (Ok (found, x.1)) (body_from n form size start (found ++ bytes_of x.0) x.1)) (on_weaker (Less bytes) (NoLonger bytes) (λ x h. omega arith) (next_part form size start bytes) (part_less form size start bytes))
    (λ x h. on_if (OnRead (NoLonger bytes)) (closes x.0) (Ok (found, x.1)) (body_from n form size start (found ++ bytes_of x.0) x.1) (λ _. h)
    (λ _. more_room x.1 bytes (body_from n form size start (found ++ bytes_of x.0) x.1) h (body_no_longer n form size start (found ++ bytes_of x.0) x.1)))

by_less : (quote : ℕ) (raw : Bool) (size start : ℕ) (bs : Bytes) (o : Option Bytes) → Shorter (quote ∷ bs) o → OnRead (Less (quote ∷ bs)) (body_by quote raw size start bs o)
unfolding body
by_less quote raw size start bs (Some rest) h =
    less_room rest (quote ∷ bs) (body (record { quote = quote; triple = true; raw = raw }) size start rest) h (body_no_longer (length rest) (record { quote = quote; triple = true; raw = raw }) size start [] rest)
by_less quote raw size start bs None h =
    less_room bs (quote ∷ bs) (body (record { quote = quote; triple = false; raw = raw }) size start bs) (omega arith) (body_no_longer (length bs) (record { quote = quote; triple = false; raw = raw }) size start [] bs)

quoted_less : (raw : Bool) (size start : ℕ) (bytes : Bytes) → OnRead (Less bytes) (quoted raw size start bytes)
unfolding quoted
quoted_less raw size start [] = tt
quoted_less raw size start (quote ∷ bs) = by_less quote raw size start bs (after_three quote (quote ∷ bs)) (quotes_shorter quote (quote ∷ bs))

-- ---- other pieces

comment_no_longer : (size : ℕ) (bytes : Bytes) → OnRead (λ (rest : Bytes). length rest ≤ length bytes) (after_comment size bytes)
unfolding after_comment
comment_no_longer size [] = omega arith
comment_no_longer size (b ∷ bs) =
    on_if (OnRead (λ (rest : Bytes). length rest ≤ length (b ∷ bs))) (is_some (after_newline (b ∷ bs))) (Ok (b ∷ bs)) (cond (is_text_byte b) (after_comment size bs) (Err (fault.BadByte (place size (b ∷ bs))))) (λ _. omega arith)
    (λ _. on_if (OnRead (λ (rest : Bytes). length rest ≤ length (b ∷ bs))) (is_text_byte b) (after_comment size bs) (Err (fault.BadByte (place size (b ∷ bs))))
    (λ _. on_weaker (λ (rest : Bytes). length rest ≤ length bs) (λ (rest : Bytes). length rest ≤ length (b ∷ bs)) (λ rest h. omega arith) (after_comment size bs) (comment_no_longer size bs))
    (λ _. tt))

digit_len-le : (base : ℕ) (bytes : Bytes) → digit_len base bytes ≤ length bytes
unfolding digit_len
digit_len-le base [] = omega arith
digit_len-le base (b ∷ bs) = on_if (λ n. n ≤ length (b ∷ bs)) (ltb (digit b) base) (suc (digit_len base bs)) 0 (λ _. omega (arith, digit_len-le base bs)) (λ _. omega arith)

or_false : (a b : Bool) → a || b ≡ false → a ≡ false
or_false true b e = e
or_false false b e = refl

digits_less : (at base : ℕ) (bytes : Bytes) → OnRead (Less bytes) (digits_at at base bytes)
digits_less at base bytes =
    on_if (OnRead (Less bytes)) (eqb (digit_len base bytes) 0 || goes_on (drop (digit_len base bytes) bytes)) (Err (fault.BadNumber at)) (word_or_fault at (word base (take (digit_len base bytes) bytes)) >>= λ v. Ok (v, drop (digit_len base bytes) bytes))
    (λ _. tt)
    (λ e. let some : digit_len base bytes ≡ 0 → ⊥ = eqb-false (digit_len base bytes) 0 (or_false (eqb (digit_len base bytes) 0) (goes_on (drop (digit_len base bytes) bytes)) e) in
    on_bind (λ _. Unit {0}) (Less bytes) (word_or_fault at (word base (take (digit_len base bytes) bytes))) (λ v. Ok (v, drop (digit_len base bytes) bytes)) (on_any (λ _. Unit {0}) (λ _. tt) (word_or_fault at (word base (take (digit_len base bytes) bytes))))
    (λ v _. omega (arith, length-drop (digit_len base bytes) bytes, digit_len-le base bytes, some)))

radix_no_longer : (bytes : Bytes) → NoLonger bytes (radix bytes)
radix_no_longer [] = omega arith
radix_no_longer (a ∷ []) = on_if (NoLonger (a ∷ [])) (eqb a 48) (8, a ∷ []) (10, a ∷ []) (λ _. omega arith) (λ _. omega arith)
radix_no_longer (a ∷ b ∷ bs) =
    on_if (NoLonger (a ∷ b ∷ bs)) (eqb a 48) (cond (eqb b 120 || eqb b 88) (16, bs) (cond (eqb b 111 || eqb b 79) (8, bs) (8, a ∷ b ∷ bs))) (10, a ∷ b ∷ bs)
    (λ _. on_if (NoLonger (a ∷ b ∷ bs)) (eqb b 120 || eqb b 88) (16, bs) (cond (eqb b 111 || eqb b 79) (8, bs) (8, a ∷ b ∷ bs)) (λ _. omega arith)
    (λ _. on_if (NoLonger (a ∷ b ∷ bs)) (eqb b 111 || eqb b 79) (8, bs) (8, a ∷ b ∷ bs) (λ _. omega arith) (λ _. omega arith)))
    (λ _. omega arith)

less_than : {A : Type 0} (a b : Bytes) (o : Outcome (A × Bytes)) → length a ≤ length b → OnRead (Less a) o → OnRead (Less b) o
less_than a b (Ok x) le h = omega arith
less_than a b (Err e) le h = tt

number_less : (size : ℕ) (bytes : Bytes) → OnRead (Less bytes) (number size bytes)
unfolding number
number_less size bytes = less_than (radix bytes).1 bytes (digits_at (place size bytes) (radix bytes).0 (radix bytes).1) (radix_no_longer bytes) (digits_less (place size bytes) (radix bytes).0 (radix bytes).1)

name_less : (b : ℕ) (bs : Bytes) → is_letter b ≡ true → Less (b ∷ bs) (name (b ∷ bs))
unfolding name name_len
name_less b bs e =
    let n : name_len (b ∷ bs) ≡ suc (name_len bs) = ap (λ v. cond (v || is_digit b) (suc (name_len bs)) 0) e in
    omega (arith, length-drop (name_len (b ∷ bs)) (b ∷ bs), n)

-- ---- signs

abbrev SignLess : Bytes → Option (Sign × Bytes) → Type 0
SignLess bytes None = Unit {0}
SignLess bytes (Some x) = length x.1 < length bytes

and_less : (bytes : Bytes) (o : Option Sign) (rest : Bytes) → length rest < length bytes → SignLess bytes (and_rest o rest)
and_less bytes None rest lt = tt
and_less bytes (Some sign) rest lt = lt

either_less : (bytes : Bytes) (a b : Option (Sign × Bytes)) → SignLess bytes a → SignLess bytes b → SignLess bytes (first_of_two a b)
either_less bytes None b ha hb = hb
either_less bytes (Some x) b ha hb = ha

three_less : (bytes : Bytes) → SignLess bytes (sign_of_three bytes)
unfolding sign_of_three
three_less [] = tt
three_less (a ∷ []) = tt
three_less (a ∷ b ∷ []) = tt
three_less (a ∷ b ∷ c ∷ rest) = on_if (SignLess (a ∷ b ∷ c ∷ rest)) (eqb a b && eqb c 61) (and_rest (doubled_assign a) rest) None (λ _. and_less (a ∷ b ∷ c ∷ rest) (doubled_assign a) rest (omega arith)) (λ _. tt)

two_less : (bytes : Bytes) → SignLess bytes (sign_of_two bytes)
unfolding sign_of_two
two_less [] = tt
two_less (a ∷ []) = tt
two_less (a ∷ b ∷ rest) =
    on_if (SignLess (a ∷ b ∷ rest)) (eqb b 61) (and_rest (before_equals a) rest) (cond (eqb a b) (and_rest (doubled a) rest) None) (λ _. and_less (a ∷ b ∷ rest) (before_equals a) rest (omega arith))
    (λ _. on_if (SignLess (a ∷ b ∷ rest)) (eqb a b) (and_rest (doubled a) rest) None (λ _. and_less (a ∷ b ∷ rest) (doubled a) rest (omega arith)) (λ _. tt))

one_less : (bytes : Bytes) → SignLess bytes (sign_of_one bytes)
unfolding sign_of_one
one_less [] = tt
one_less (a ∷ rest) = and_less (a ∷ rest) (first_of_two (operator a) (punctuation a)) rest (omega arith)

sign_less : (bytes : Bytes) → SignLess bytes (sign_of bytes)
unfolding sign_of
sign_less bytes = either_less bytes (sign_of_three bytes) (first_of_two (sign_of_two bytes) (sign_of_one bytes)) (three_less bytes) (either_less bytes (sign_of_two bytes) (sign_of_one bytes) (two_less bytes) (one_less bytes))

sign_or_less : (at : ℕ) (bytes : Bytes) (o : Option (Sign × Bytes)) → SignLess bytes o → OnRead (Less bytes) (sign_or_fault at o)
sign_or_less at bytes (Some x) h = h
sign_or_less at bytes None h = tt

-- ---- any piece

string_less : (raw : Bool) (size start : ℕ) (bytes : Bytes) → OnRead (Less bytes) (string_at raw size start bytes)
string_less raw size start bytes = on_bind (Less bytes) (Less bytes) (quoted raw size start bytes) (λ x. Ok (p.Lexeme (kind.Str x.0), x.1)) (quoted_less raw size start bytes) (λ x h. h)

lexeme_less : (size : ℕ) (bytes : Bytes) → OnRead (Less bytes) (lexeme size bytes)
unfolding lexeme
lexeme_less size [] = tt
lexeme_less size (b ∷ bs) =
    let at : ℕ = place size (b ∷ bs) in
    let signs = sign_or_less at (b ∷ bs) (longest_sign (b ∷ bs)) (subst (SignLess (b ∷ bs)) (sign_is (b ∷ bs)) (sign_less (b ∷ bs))) in
    on_if (OnRead (Less (b ∷ bs))) (begins_string (b ∷ bs)) (string_at (is_raw_prefix b) size at bs) (cond (is_letter b) (Ok (name (b ∷ bs))) (cond (is_digit b) (integer_at size (b ∷ bs)) (cond (is_quote b) (string_at false size at (b ∷ bs)) (sign_at at (b ∷ bs)))))
    (λ _. less_than bs (b ∷ bs) (string_at (is_raw_prefix b) size at bs) (omega arith) (string_less (is_raw_prefix b) size at bs))
    (λ _. on_if (OnRead (Less (b ∷ bs))) (is_letter b) (Ok (name (b ∷ bs))) (cond (is_digit b) (integer_at size (b ∷ bs)) (cond (is_quote b) (string_at false size at (b ∷ bs)) (sign_at at (b ∷ bs)))) (λ e. name_less b bs e)
    (λ _. on_if (OnRead (Less (b ∷ bs))) (is_digit b) (integer_at size (b ∷ bs)) (cond (is_quote b) (string_at false size at (b ∷ bs)) (sign_at at (b ∷ bs)))
    (λ _. on_bind (Less (b ∷ bs)) (Less (b ∷ bs)) (number size (b ∷ bs)) (λ x. Ok (p.Lexeme (kind.Int x.0), x.1)) (number_less size (b ∷ bs)) (λ x h. h))
    (λ _. on_if (OnRead (Less (b ∷ bs))) (is_quote b) (string_at false size at (b ∷ bs)) (sign_at at (b ∷ bs)) (λ _. string_less false size at (b ∷ bs)) (λ _. signs))))

or_fault_less : (at : ℕ) (bytes : Bytes) (o : Option Bytes) → Shorter bytes o → OnRead (Less bytes) (blank_or_fault at o)
or_fault_less at bytes (Some rest) h = h
or_fault_less at bytes None h = tt

inner_less : (size : ℕ) (bytes : Bytes) → OnRead (Less bytes) (inner_piece size bytes)
inner_less size [] = tt
inner_less size (b ∷ bs) =
    let at : ℕ = place size (b ∷ bs) in
    on_if (OnRead (Less (b ∷ bs))) (is_blank b) (Ok (p.Blank, bs)) (cond (eqb b 35) (comment_at size bs) (cond (eqb b 92) (joined_at at bs) (lexeme size (b ∷ bs)))) (λ _. omega arith)
    (λ _. on_if (OnRead (Less (b ∷ bs))) (eqb b 35) (comment_at size bs) (cond (eqb b 92) (joined_at at bs) (lexeme size (b ∷ bs)))
    (λ _. on_bind (λ (rest : Bytes). length rest ≤ length bs) (Less (b ∷ bs)) (after_comment size bs) (λ rest. Ok (p.Blank, rest)) (comment_no_longer size bs) (λ rest h. omega arith))
    (λ _. on_if (OnRead (Less (b ∷ bs))) (eqb b 92) (joined_at at bs) (lexeme size (b ∷ bs))
    (λ _. or_fault_less at (b ∷ bs) (after_newline bs) (longer bs (b ∷ bs) (after_newline bs) (omega arith) (newline_shorter bs)))
    (λ _. lexeme_less size (b ∷ bs))))

or_inner_less : (size : ℕ) (bytes : Bytes) (o : Option Bytes) → Shorter bytes o → OnRead (Less bytes) (line_end_or_inner size bytes o)
or_inner_less size bytes (Some rest) h = h
or_inner_less size bytes None h = inner_less size bytes

pub piece_shorter : (size : ℕ) (bytes : Bytes) (piece : Piece) (rest : Bytes) → next_piece size bytes ≡ Ok (piece, rest) → length rest < length bytes
unfolding next_piece
piece_shorter size bytes piece rest e = read_is (Less bytes) (next_piece size bytes) (piece, rest) (or_inner_less size bytes (after_newline bytes) (newline_shorter bytes)) e

-- ---- where a logical line begins

-- a line that is passed over is not empty, and one that is not has text
abbrev Passed : Bytes → Option Bytes → Type 0
Passed text None = 0 < length text
Passed text (Some rest) = (0 < length text → length rest < length text) × (length rest ≤ length text)

newline_passed : (text : Bytes) → 0 < length text → (o : Option Bytes) → Shorter text o → Passed text o
newline_passed text some None h = some
newline_passed text some (Some rest) h = (λ _. h, omega arith)

past_no_longer : (rest : Bytes) (o : Option Bytes) → Shorter rest o → length (unwrap_or o rest) ≤ length rest
past_no_longer rest None h = omega arith
past_no_longer rest (Some more) h = omega arith

text_passed : (size : ℕ) (text : Bytes) → OnRead (Passed text) (blank_after size text)
text_passed size [] = (λ lt. absurd (omega arith), omega arith)
text_passed size (b ∷ bs) =
    on_if (OnRead (Passed (b ∷ bs))) (eqb b 35) (after_comment size bs >>= λ rest. Ok (Some (past_newline rest))) (Ok (after_newline (b ∷ bs)))
    (λ _. on_bind (λ (rest : Bytes). length rest ≤ length bs) (Passed (b ∷ bs)) (after_comment size bs) (λ rest. Ok (Some (past_newline rest))) (comment_no_longer size bs)
    (λ rest h. let q = past_no_longer rest (after_newline rest) (newline_shorter rest) in (λ _. omega (arith, q), omega (arith, q))))
    (λ _. newline_passed (b ∷ bs) (omega arith) (after_newline (b ∷ bs)) (newline_shorter (b ∷ bs)))

of_line : (size : ℕ) (bytes : Bytes) → OnRead (Passed (drop (blank_len bytes) bytes)) (blank_line size bytes)
unfolding blank_line
of_line size bytes = text_passed size (drop (blank_len bytes) bytes)

empty_passed : (text bytes rest : Bytes) → Passed text (Some rest) → length text ≤ length bytes → 0 < length bytes → length rest < length bytes
empty_passed [] bytes rest h le some = omega (arith, h.1)
empty_passed (b ∷ bs) bytes rest h le some = omega (arith, h.0 (omega arith))

pub line_shorter : (size : ℕ) (bytes rest : Bytes) → 0 < length bytes → blank_line size bytes ≡ Ok (Some rest) → length rest < length bytes
line_shorter size bytes rest some e =
    empty_passed (drop (blank_len bytes) bytes) bytes rest (read_is (Passed (drop (blank_len bytes) bytes)) (blank_line size bytes) (Some rest) (of_line size bytes) e) (omega (arith, length-drop (blank_len bytes) bytes)) some

pub text_more : (s : Spot) → HasText s → HasMore (text_at s)
text_more s line =
    let some : 0 < length (drop (width_at s) (rest_at s)) = read_is (Passed (drop (width_at s) (rest_at s))) (blank_line (size_at s) (rest_at s)) None (of_line (size_at s) (rest_at s)) line.text in
    omega (arith, some, ap length (drop-drop (width_at s) s.at s.source))
