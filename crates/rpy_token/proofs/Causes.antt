-- Want of memory is no fault of a source.
use Rattle.std.proofs.Common.{◌≡◌, ℕ, zero, suc, ◌+◌, ◌*◌, Bool, true, false, cond, ◌||◌, ◌&&◌, eqb, ltb, List, [], ◌∷◌, ◌++◌, length, take, drop, Option, Some, None, is_some, ℤ, Ok, Err, subst}
use Rattle.rpy_token.specs.declared.fault.LimitKind.TheVariants.{Brackets, Operators}
use Rattle.rpy_token.specs.declared.fault.TokenFault.{TokenFault}
use Rattle.rpy_token.specs.declared.fault.TokenFault.TheVariants as fault
use Rattle.rpy_token.specs.declared.levels.Levels.{Levels}
use Rattle.rpy_token.specs.declared.levels.Role.{Role}
use Rattle.rpy_token.specs.declared.levels.Role.TheVariants as role
use Rattle.rpy_token.specs.declared.piece.Piece.TheVariants as p
use Rattle.rpy_token.specs.declared.quoted.Form.{Form}
use Rattle.rpy_token.specs.declared.quoted.Part.TheVariants as part
use Rattle.rpy_token.specs.declared.token.Sign.{Sign}
use Rattle.rpy_token.specs.declared.token.Token.{Token}
use Rattle.rpy_token.specs.declared.token.TokenKind.TheVariants as kind
use Rattle.rpy_token.specs.Bytes.{Bytes, after_newline, is_letter, is_digit, is_blank, is_quote, is_text_byte, blank_len}
use Rattle.rpy_token.specs.Fault.{Outcome, ◌>>=◌, place}
use Rattle.rpy_token.specs.Levels.{with_operator, opened, counted}
use Rattle.rpy_token.specs.Lines.{Spot}
use Rattle.rpy_token.specs.Number.{digit, digit_len, value_from, word, word_or_fault, radix, goes_on, digits_at, number}
use Rattle.rpy_token.specs.Piece.{after_comment, begins_string, is_raw_prefix, name, string_at, integer_at, sign_or_fault, sign_at, lexeme, comment_at, blank_or_fault, joined_at, inner_piece, line_end_or_inner, next_piece}
use Rattle.rpy_token.specs.Quoted.{after_three, after_close, simple_escape, hex_escape, octal_escape, escape_of, escape_byte, escape_or_joined, escape, raw_backslash, part_or_close, part_of_line, part_or_newline, next_part, closes, bytes_of, body_from, body, body_by, quoted}
use Rattle.rpy_token.specs.Words.{longest_sign}
use Rattle.rpy_token.specs.Indents.{past_newline, blank_after, blank_line}
use Rattle.rpy_token.specs.Relation as r
use Rattle.rpy_token.specs.Relation.{AtLine, InLine, start_of, HasFault}
use Rattle.rpy_token.proofs.Outcomes.{on_if}

NotMem : TokenFault → Type 0
NotMem fault.NoMem = ⊥
NotMem f = Unit {0}

-- an outcome that is no want of memory
abbrev Clean : {A : Type 0} → Outcome A → Type 0
Clean (Ok x) = Unit {0}
Clean (Err f) = NotMem f

then_clean : {A B : Type 0} (o : Outcome A) (f : A → Outcome B) → Clean o → ((x : A) → Clean (f x)) → Clean (o >>= f)
then_clean (Ok x) f h all = all x
then_clean (Err e) f h all = h

if_clean : {A : Type 0} (b : Bool) (x y : Outcome A) → Clean x → Clean y → Clean (cond b x y)
if_clean b x y hx hy = on_if (λ o. Clean o) b x y (λ _. hx) (λ _. hy)

comment_clean : (size : ℕ) (bytes : Bytes) → Clean (after_comment size bytes)
unfolding after_comment NotMem
comment_clean size [] = tt
comment_clean size (b ∷ bs) =
    if_clean (is_some (after_newline (b ∷ bs))) (Ok (b ∷ bs)) (cond (is_text_byte b) (after_comment size bs) (Err (fault.BadByte (place size (b ∷ bs))))) tt
    (if_clean (is_text_byte b) (after_comment size bs) (Err (fault.BadByte (place size (b ∷ bs)))) (comment_clean size bs) tt)

hex_clean : (at : ℕ) (bytes : Bytes) → Clean (hex_escape at bytes)
unfolding hex_escape NotMem
hex_clean at [] = tt
hex_clean at (a ∷ []) = tt
hex_clean at (a ∷ b ∷ rest) = if_clean (ltb (digit a) 16 && ltb (digit b) 16) (Ok (part.One (16 * digit a + digit b), rest)) (Err (fault.BadNumber at)) tt tt

octal_clean : (at : ℕ) (bytes : Bytes) → Clean (octal_escape at bytes)
unfolding octal_escape NotMem
octal_clean at bytes =
    if_clean (ltb (value_from 8 0 (take (digit_len 8 (take 3 bytes)) bytes)) 256) (Ok (part.One (value_from 8 0 (take (digit_len 8 (take 3 bytes)) bytes)), drop (digit_len 8 (take 3 bytes)) bytes)) (Err (fault.BadNumber at)) tt tt

simple_clean : (at c : ℕ) (cs : Bytes) (o : Option ℕ) → Clean (escape_of at c cs o)
simple_clean at c cs (Some b) = tt
simple_clean at c cs None =
    if_clean (eqb c 120) (hex_escape at cs) (cond (ltb (digit c) 8) (octal_escape at (c ∷ cs)) (Ok (part.One 92, c ∷ cs))) (hex_clean at cs)
    (if_clean (ltb (digit c) 8) (octal_escape at (c ∷ cs)) (Ok (part.One 92, c ∷ cs)) (octal_clean at (c ∷ cs)) tt)

byte_clean : (at : ℕ) (bytes : Bytes) → Clean (escape_byte at bytes)
byte_clean at [] = tt
byte_clean at (c ∷ cs) = simple_clean at c cs (simple_escape c)

joined_clean : (at : ℕ) (bytes : Bytes) (o : Option Bytes) → Clean (escape_or_joined at bytes o)
joined_clean at bytes (Some rest) = tt
joined_clean at bytes None = byte_clean at bytes

escape_clean : (at : ℕ) (bytes : Bytes) → Clean (escape at bytes)
unfolding escape
escape_clean at bytes = joined_clean at bytes (after_newline bytes)

or_close_clean : (form : Form) (size b : ℕ) (bs : Bytes) (o : Option Bytes) → Clean (part_or_close form size b bs o)
or_close_clean form size b bs (Some rest) = tt
or_close_clean form size b bs None =
    if_clean (eqb b 92) (cond form.raw (Ok (raw_backslash form.quote bs)) (escape (place size (b ∷ bs)) bs)) (Ok (part.One b, bs))
    (if_clean form.raw (Ok (raw_backslash form.quote bs)) (escape (place size (b ∷ bs)) bs) tt (escape_clean (place size (b ∷ bs)) bs)) tt

of_line_clean : (form : Form) (size start : ℕ) (bytes : Bytes) → Clean (part_of_line form size start bytes)
unfolding part_of_line NotMem
of_line_clean form size start [] = tt
of_line_clean form size start (b ∷ bs) =
    if_clean (is_text_byte b) (part_or_close form size b bs (after_close form (b ∷ bs))) (Err (fault.BadByte (place size (b ∷ bs)))) (or_close_clean form size b bs (after_close form (b ∷ bs))) tt

or_newline_clean : (form : Form) (size start : ℕ) (bytes : Bytes) (o : Option Bytes) → Clean (part_or_newline form size start bytes o)
unfolding NotMem
or_newline_clean form size start bytes (Some rest) = if_clean form.triple (Ok (part.One 10, rest)) (Err (fault.OpenString start)) tt tt
or_newline_clean form size start bytes None = of_line_clean form size start bytes

part_clean : (form : Form) (size start : ℕ) (bytes : Bytes) → Clean (next_part form size start bytes)
unfolding next_part
part_clean form size start bytes = or_newline_clean form size start bytes (after_newline bytes)

body_clean : (n : ℕ) (form : Form) (size start : ℕ) (found bytes : Bytes) → Clean (body_from n form size start found bytes)
unfolding NotMem
body_clean zero form size start found bytes = tt
body_clean (suc n) form size start found bytes =
    then_clean (next_part form size start bytes) (λ x. cond (closes x.0) (Ok (found, x.1)) (body_from n form size start (found ++ bytes_of x.0) x.1)) (part_clean form size start bytes)
    (λ x. if_clean (closes x.0) (Ok (found, x.1)) (body_from n form size start (found ++ bytes_of x.0) x.1) tt (body_clean n form size start (found ++ bytes_of x.0) x.1))

by_clean : (quote : ℕ) (raw : Bool) (size start : ℕ) (bs : Bytes) (o : Option Bytes) → Clean (body_by quote raw size start bs o)
unfolding body
by_clean quote raw size start bs (Some rest) = body_clean (length rest) (record { quote = quote; triple = true; raw = raw }) size start [] rest
by_clean quote raw size start bs None = body_clean (length bs) (record { quote = quote; triple = false; raw = raw }) size start [] bs

quoted_clean : (raw : Bool) (size start : ℕ) (bytes : Bytes) → Clean (quoted raw size start bytes)
unfolding quoted NotMem
quoted_clean raw size start [] = tt
quoted_clean raw size start (quote ∷ bs) = by_clean quote raw size start bs (after_three quote (quote ∷ bs))

string_clean : (raw : Bool) (size start : ℕ) (bytes : Bytes) → Clean (string_at raw size start bytes)
string_clean raw size start bytes = then_clean (quoted raw size start bytes) (λ x. Ok (p.Lexeme (kind.Str x.0), x.1)) (quoted_clean raw size start bytes) (λ _. tt)

word_clean : (at : ℕ) (o : Option ℤ) → Clean (word_or_fault at o)
unfolding NotMem
word_clean at (Some v) = tt
word_clean at None = tt

digits_clean : (at base : ℕ) (bytes : Bytes) → Clean (digits_at at base bytes)
unfolding NotMem
digits_clean at base bytes =
    let n : ℕ = digit_len base bytes in
    if_clean (eqb n 0 || goes_on (drop n bytes)) (Err (fault.BadNumber at)) (word_or_fault at (word base (take n bytes)) >>= λ v. Ok (v, drop n bytes)) tt
    (then_clean (word_or_fault at (word base (take n bytes))) (λ v. Ok (v, drop n bytes)) (word_clean at (word base (take n bytes))) (λ _. tt))

integer_clean : (size : ℕ) (bytes : Bytes) → Clean (integer_at size bytes)
unfolding number
integer_clean size bytes =
    then_clean (number size bytes) (λ x. Ok (p.Lexeme (kind.Int x.0), x.1)) (digits_clean (place size bytes) (radix bytes).0 (radix bytes).1) (λ _. tt)

or_fault_clean : (at : ℕ) (o : Option (Sign × Bytes)) → Clean (sign_or_fault at o)
unfolding NotMem
or_fault_clean at (Some x) = tt
or_fault_clean at None = tt

lexeme_clean : (size : ℕ) (bytes : Bytes) → Clean (lexeme size bytes)
unfolding lexeme NotMem
lexeme_clean size [] = tt
lexeme_clean size (b ∷ bs) =
    let at : ℕ = place size (b ∷ bs) in
    if_clean (begins_string (b ∷ bs)) (string_at (is_raw_prefix b) size at bs) (cond (is_letter b) (Ok (name (b ∷ bs))) (cond (is_digit b) (integer_at size (b ∷ bs)) (cond (is_quote b) (string_at false size at (b ∷ bs)) (sign_at at (b ∷ bs)))))
    (string_clean (is_raw_prefix b) size at bs)
    (if_clean (is_letter b) (Ok (name (b ∷ bs))) (cond (is_digit b) (integer_at size (b ∷ bs)) (cond (is_quote b) (string_at false size at (b ∷ bs)) (sign_at at (b ∷ bs)))) tt
    (if_clean (is_digit b) (integer_at size (b ∷ bs)) (cond (is_quote b) (string_at false size at (b ∷ bs)) (sign_at at (b ∷ bs))) (integer_clean size (b ∷ bs))
    (if_clean (is_quote b) (string_at false size at (b ∷ bs)) (sign_at at (b ∷ bs)) (string_clean false size at (b ∷ bs)) (or_fault_clean at (longest_sign (b ∷ bs))))))

blank_clean : (at : ℕ) (o : Option Bytes) → Clean (blank_or_fault at o)
unfolding NotMem
blank_clean at (Some rest) = tt
blank_clean at None = tt

inner_clean : (size : ℕ) (bytes : Bytes) → Clean (inner_piece size bytes)
unfolding NotMem
inner_clean size [] = tt
inner_clean size (b ∷ bs) =
    let at : ℕ = place size (b ∷ bs) in
    if_clean (is_blank b) (Ok (p.Blank, bs)) (cond (eqb b 35) (comment_at size bs) (cond (eqb b 92) (joined_at at bs) (lexeme size (b ∷ bs)))) tt
    (if_clean (eqb b 35) (comment_at size bs) (cond (eqb b 92) (joined_at at bs) (lexeme size (b ∷ bs)))
    (then_clean (after_comment size bs) (λ rest. Ok (p.Blank, rest)) (comment_clean size bs) (λ _. tt))
    (if_clean (eqb b 92) (joined_at at bs) (lexeme size (b ∷ bs)) (blank_clean at (after_newline bs)) (lexeme_clean size (b ∷ bs))))

or_inner_clean : (size : ℕ) (bytes : Bytes) (o : Option Bytes) → Clean (line_end_or_inner size bytes o)
or_inner_clean size bytes (Some rest) = tt
or_inner_clean size bytes None = inner_clean size bytes

piece_clean : (size : ℕ) (bytes : Bytes) → Clean (next_piece size bytes)
unfolding next_piece
piece_clean size bytes = or_inner_clean size bytes (after_newline bytes)

text_clean : (size : ℕ) (text : Bytes) → Clean (blank_after size text)
text_clean size [] = tt
text_clean size (b ∷ bs) =
    if_clean (eqb b 35) (after_comment size bs >>= λ rest. Ok (Some (past_newline rest))) (Ok (after_newline (b ∷ bs)))
    (then_clean (after_comment size bs) (λ rest. Ok (Some (past_newline rest))) (comment_clean size bs) (λ _. tt)) tt

line_clean : (size : ℕ) (bytes : Bytes) → Clean (blank_line size bytes)
unfolding blank_line
line_clean size bytes = text_clean size (drop (blank_len bytes) bytes)

operator_clean : (at : ℕ) (levels : Levels) → Clean (with_operator at levels)
unfolding NotMem
operator_clean at levels = if_clean (ltb levels.operators 64) (Ok (record levels { operators = levels.operators + 1 })) (Err (fault.Limit Operators at)) tt tt

counted_clean : (at : ℕ) (of : Role) (levels : Levels) → Clean (counted at of levels)
unfolding counted NotMem
counted_clean at role.Operator levels = operator_clean at levels
counted_clean at role.Open levels =
    if_clean (ltb (length levels.outer) 16) (with_operator at levels >>= λ more. Ok (opened more)) (Err (fault.Limit Brackets at)) (then_clean (with_operator at levels) (λ more. Ok (opened more)) (operator_clean at levels) (λ _. tt)) tt
counted_clean at role.Close levels = tt
counted_clean at role.Separator levels = tt
counted_clean at role.Plain levels = tt

is_clean : {A : Type 0} (o : Outcome A) (f : TokenFault) → Clean o → o ≡ Err f → NotMem f
is_clean {A = A} o f h e = let q : Clean {A = A} (Err f) = subst (λ (o : Outcome A). Clean o) e h in q

mutual
  unfolding NotMem

  at_line_clean : {s : Spot} {indents : List ℕ} {found : List Token} {out : Outcome (List Token)} → AtLine s indents found out → Clean out
  at_line_clean (r.source_ends e) = tt
  at_line_clean (r.blank more e d) = at_line_clean d
  at_line_clean (r.bad_comment {s = s} {f = f} more e) = is_clean _ f (line_clean _ _) e
  at_line_clean (r.tab line e) = tt
  at_line_clean (r.deeper line lt few d) = in_line_clean d
  at_line_clean (r.too_deep line lt many) = tt
  at_line_clean (r.no_deeper line le same d) = in_line_clean d
  at_line_clean (r.bad_indent line le other) = tt

  in_line_clean : {s : Spot} {indents : List ℕ} {levels : Levels} {found : List Token} {out : Outcome (List Token)} → InLine s indents levels found out → Clean out
  in_line_clean (r.line_open e) = tt
  in_line_clean (r.bad_piece {f = f} more e) = is_clean _ f (piece_clean _ _) e
  in_line_clean (r.nothing more e d) = in_line_clean d
  in_line_clean (r.in_brackets more e deep d) = in_line_clean d
  in_line_clean (r.line_ends more e none d) = at_line_clean d
  in_line_clean (r.lexeme more e counts d) = in_line_clean d
  in_line_clean (r.limit {f = f} more e counts) = is_clean _ f (counted_clean _ _ _) counts

pub never_memory : (source : Bytes) → HasFault source fault.NoMem → ⊥
unfolding NotMem
never_memory source d = at_line_clean d
