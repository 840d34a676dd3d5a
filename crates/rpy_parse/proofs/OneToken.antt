-- Kinds of tokens, and one token.
use Rattle.std.proofs.Common.{◌≡◌, ℕ, ◌<◌, ◌-◌, get_or, rules, inl, inr, Bool, true, false, cond, eqb, List, [], ◌∷◌, length, Option, Some, None, Ok, Err, refl, sym, ap, ◌∙◌, arith}
use Rattle.std.proofs.lemmas.Bool.{ne_eqb}
use Rattle.std.proofs.lemmas.Bool.Decides.{eqb_tells}
use denote.Enum.Bare.{sameb, true_same, false_same}
use Rattle.rpy_token.specs.contracts.token.Sign.{the_type as sign_type}
use Rattle.rpy_token.specs.contracts.token.Keyword.{the_type as word_type}
use Rattle.rpy_token.specs.declared.token.Token.{Token}
use Rattle.rpy_token.specs.declared.token.TokenKind.{TokenKind}
use Rattle.rpy_token.specs.declared.token.TokenKind.TheVariants as k
use Rattle.rpy_token.specs.declared.token.Keyword.{Keyword}
use Rattle.rpy_token.specs.declared.token.Keyword.TheVariants as word
use Rattle.rpy_token.specs.declared.token.Sign.{Sign}
use Rattle.rpy_token.specs.declared.token.Sign.TheVariants as sign
use Rattle.rpy_parse.specs.Kind.{kinds, kind, number, word_kind, sign_kind, newline_kind, indent_kind, dedent_kind, end_kind}
use Rattle.rpy_parse.specs.Input.{Input, first_kind, is_kind, sees, here, next}
use Rattle.rpy_parse.specs.Build.{text, text_of}
use Rattle.rpy_parse.specs.Rule.{Outcome, eat}

abbrev token_at : TokenKind → ℕ → ℕ → ℕ → Token
token_at x s e l = record { kind = x; start = s; end = e; line = l }

abbrev read_ok : Token → Input → Outcome Token
read_ok t i = Ok (t, i)

word_known : (w : Keyword) → word_kind w < kinds
word_known word.And = omega arith
word_known w = omega arith

sign_known : (s : Sign) → sign_kind s < kinds
sign_known sign.Plus = omega arith
sign_known s = omega arith

number_known : (x : TokenKind) → number x < kinds
number_known (k.Name x) = omega arith
number_known (k.Int n) = omega arith
number_known (k.Str x) = omega arith
number_known (k.Word w) = word_known w
number_known (k.Sign s) = sign_known s
number_known k.Newline = omega arith
number_known k.Indent = omega arith
number_known k.Dedent = omega arith
number_known k.End = omega arith

pub kind_known : (t : Token) → kind t < kinds
kind_known t = number_known t.kind

-- ---- one token

sign_high : (s : Sign) → 33 < sign_kind s
sign_high sign.Plus = omega arith
sign_high s = omega arith

sign_low : (s : Sign) → sign_kind s < 75
sign_low sign.Plus = omega arith
sign_low s = omega arith

word_high : (w : Keyword) → 2 < word_kind w
word_high word.And = omega arith
word_high w = omega arith

word_low : (w : Keyword) → word_kind w < 34
word_low word.And = omega arith
word_low w = omega arith

signs : List Sign
signs = sign.FloorDivAssign ∷ sign.ShlAssign ∷ sign.ShrAssign ∷ sign.AddAssign ∷ sign.SubAssign ∷ sign.MulAssign ∷ sign.DivAssign ∷ sign.ModAssign ∷ sign.AndAssign ∷ sign.OrAssign ∷ sign.XorAssign ∷ sign.EqualEqual ∷ sign.NotEqual ∷ sign.LessEqual ∷ sign.GreaterEqual ∷ sign.FloorDiv ∷ sign.ShiftLeft ∷ sign.ShiftRight ∷ sign.Plus ∷ sign.Minus ∷ sign.Star ∷ sign.Slash ∷ sign.Percent ∷ sign.Ampersand ∷ sign.Bar ∷ sign.Caret ∷ sign.Tilde ∷ sign.Less ∷ sign.Greater ∷ sign.Equal ∷ sign.OpenParen ∷ sign.CloseParen ∷ sign.OpenBracket ∷ sign.CloseBracket ∷ sign.OpenBrace ∷ sign.CloseBrace ∷ sign.Comma ∷ sign.Colon ∷ sign.Semicolon ∷ sign.Dot ∷ sign.At ∷ []

words : List Keyword
words = word.And ∷ word.As ∷ word.Assert ∷ word.Break ∷ word.Class ∷ word.Continue ∷ word.Def ∷ word.Del ∷ word.Elif ∷ word.Else ∷ word.Except ∷ word.Exec ∷ word.Finally ∷ word.For ∷ word.From ∷ word.Global ∷ word.If ∷ word.Import ∷ word.In ∷ word.Is ∷ word.Lambda ∷ word.Not ∷ word.Or ∷ word.Pass ∷ word.Print ∷ word.Raise ∷ word.Return ∷ word.Try ∷ word.While ∷ word.With ∷ word.Yield ∷ []

abbrev unsign : ℕ → Sign
unsign n = get_or signs (n - 34) sign.Plus

unsign_is : (a : Sign) → unsign (sign_kind a) ≡ a
unfolding signs
unsign_is sign.Plus = refl
unsign_is a = refl

abbrev unword : ℕ → Keyword
unword n = get_or words (n - 3) word.And

unword_is : (a : Keyword) → unword (word_kind a) ≡ a
unfolding words
unword_is word.And = refl
unword_is a = refl

sign_same : (a b : Sign) → sameb sign_type a b ≡ eqb (sign_kind a) (sign_kind b)
sign_same a b =
    elim (eqb_tells (sign_kind a) (sign_kind b)) as (λ _. sameb sign_type a b ≡ eqb (sign_kind a) (sign_kind b)) [
      | inl h ↦ true_same sign_type a b (sym (unsign_is a) ∙ ap unsign h.1 ∙ unsign_is b) ∙ sym h.0
      | inr h ↦ false_same sign_type (search rules) a b (λ e. h.1 (ap sign_kind e)) ∙ sym h.0
    ]

word_same : (a b : Keyword) → sameb word_type a b ≡ eqb (word_kind a) (word_kind b)
word_same a b =
    elim (eqb_tells (word_kind a) (word_kind b)) as (λ _. sameb word_type a b ≡ eqb (word_kind a) (word_kind b)) [
      | inl h ↦ true_same word_type a b (sym (unword_is a) ∙ ap unword h.1 ∙ unword_is b) ∙ sym h.0
      | inr h ↦ false_same word_type (search rules) a b (λ e. h.1 (ap word_kind e)) ∙ sym h.0
    ]

-- what a test by kinds means for a sign, and for a word
abbrev pub is_sign : Sign → Option TokenKind → Bool
is_sign s (Some (k.Sign a)) = sameb sign_type a s
is_sign s x = false

abbrev pub is_word : Keyword → Option TokenKind → Bool
is_word w (Some (k.Word a)) = sameb word_type a w
is_word w x = false

below_sign : (n : ℕ) → n < 34 → (s : Sign) → eqb n (sign_kind s) ≡ false
below_sign n lt s = ne_eqb n (sign_kind s) (λ e. let h = sign_high s in omega (arith, e, lt, h))

above_sign : (n : ℕ) → 74 < n → (s : Sign) → eqb n (sign_kind s) ≡ false
above_sign n lt s = ne_eqb n (sign_kind s) (λ e. let h = sign_low s in omega (arith, e, lt, h))

pub sees_sign : (s : Sign) (x : Option TokenKind) → is_kind (sign_kind s) x ≡ is_sign s x
sees_sign s None = refl
sees_sign s (Some (k.Name x)) = below_sign 0 (omega arith) s
sees_sign s (Some (k.Int x)) = below_sign 1 (omega arith) s
sees_sign s (Some (k.Str x)) = below_sign 2 (omega arith) s
sees_sign s (Some (k.Word w)) = below_sign (word_kind w) (word_low w) s
sees_sign s (Some (k.Sign a)) = sym (sign_same a s)
sees_sign s (Some k.Newline) = above_sign 75 (omega arith) s
sees_sign s (Some k.Indent) = above_sign 76 (omega arith) s
sees_sign s (Some k.Dedent) = above_sign 77 (omega arith) s
sees_sign s (Some k.End) = above_sign 78 (omega arith) s

below_word : (n : ℕ) → n < 3 → (w : Keyword) → eqb n (word_kind w) ≡ false
below_word n lt w = ne_eqb n (word_kind w) (λ e. let h = word_high w in omega (arith, e, lt, h))

above_word : (n : ℕ) → 33 < n → (w : Keyword) → eqb n (word_kind w) ≡ false
above_word n lt w = ne_eqb n (word_kind w) (λ e. let h = word_low w in omega (arith, e, lt, h))

pub sees_word : (w : Keyword) (x : Option TokenKind) → is_kind (word_kind w) x ≡ is_word w x
sees_word w None = refl
sees_word w (Some (k.Name x)) = below_word 0 (omega arith) w
sees_word w (Some (k.Int x)) = below_word 1 (omega arith) w
sees_word w (Some (k.Str x)) = below_word 2 (omega arith) w
sees_word w (Some (k.Word a)) = sym (word_same a w)
sees_word w (Some (k.Sign s)) = above_word (sign_kind s) (sign_high s) w
sees_word w (Some k.Newline) = above_word 75 (omega arith) w
sees_word w (Some k.Indent) = above_word 76 (omega arith) w
sees_word w (Some k.Dedent) = above_word 77 (omega arith) w
sees_word w (Some k.End) = above_word 78 (omega arith) w

-- what a test for a token without a text means
abbrev pub is_bare : TokenKind → Option TokenKind → Bool
is_bare k.Newline (Some k.Newline) = true
is_bare k.Indent (Some k.Indent) = true
is_bare k.Dedent (Some k.Dedent) = true
is_bare k.End (Some k.End) = true
is_bare y x = false

low_word : (n : ℕ) → 74 < n → (w : Keyword) → eqb (word_kind w) n ≡ false
low_word n lt w = ne_eqb (word_kind w) n (λ e. let h = word_low w in omega (arith, e, lt, h))

low_sign : (n : ℕ) → 74 < n → (s : Sign) → eqb (sign_kind s) n ≡ false
low_sign n lt s = ne_eqb (sign_kind s) n (λ e. let h = sign_low s in omega (arith, e, lt, h))

pub sees_newline : (x : Option TokenKind) → is_kind newline_kind x ≡ is_bare k.Newline x
sees_newline (Some (k.Word w)) = low_word 75 (omega arith) w
sees_newline (Some (k.Sign s)) = low_sign 75 (omega arith) s
sees_newline x = refl

pub sees_indent : (x : Option TokenKind) → is_kind indent_kind x ≡ is_bare k.Indent x
sees_indent (Some (k.Word w)) = low_word 76 (omega arith) w
sees_indent (Some (k.Sign s)) = low_sign 76 (omega arith) s
sees_indent x = refl

pub sees_dedent : (x : Option TokenKind) → is_kind dedent_kind x ≡ is_bare k.Dedent x
sees_dedent (Some (k.Word w)) = low_word 77 (omega arith) w
sees_dedent (Some (k.Sign s)) = low_sign 77 (omega arith) s
sees_dedent x = refl

pub sees_end : (x : Option TokenKind) → is_kind end_kind x ≡ is_bare k.End x
sees_end (Some (k.Word w)) = low_word 78 (omega arith) w
sees_end (Some (k.Sign s)) = low_sign 78 (omega arith) s
sees_end x = refl

-- a token that is seen is read, and one that is not is dead
pub ate : (n : ℕ) (i : Input) → sees n i ≡ true → eat n i ≡ Ok (here i, next i)
ate n [] h = absurd cc
ate n (t ∷ i) h = ap (λ (b : Bool). cond b (read_ok t i) (Err (length (t ∷ i)))) h

pub refused : (n : ℕ) (i : Input) → sees n i ≡ false → eat n i ≡ Err (length i)
refused n [] h = refl
refused n (t ∷ i) h = ap (λ (b : Bool). cond b (read_ok t i) (Err (length (t ∷ i)))) h

pub seen_shorter : (n : ℕ) (i : Input) → sees n i ≡ true → length (next i) < length i
seen_shorter n [] h = absurd cc
seen_shorter n (t ∷ i) h = omega arith

abbrev pub name_on : Option TokenKind → Input → Outcome Token
name_on (Some (k.Name x)) i = Ok (here i, next i)
name_on x i = Err (length i)

name_at : (x : TokenKind) (s e l : ℕ) (i : Input) → eat 0 (token_at x s e l ∷ i) ≡ name_on (Some x) (token_at x s e l ∷ i)
name_at (k.Word word.And) s e l i = refl
name_at (k.Sign sign.Plus) s e l i = refl
name_at x s e l i = refl

pub eat_name : (i : Input) → eat 0 i ≡ name_on (first_kind i) i
eat_name [] = refl
eat_name (t ∷ i) = name_at t.kind t.start t.end t.line i

pub name_shorter : (i : Input) (x : List ℕ) → first_kind i ≡ Some (k.Name x) → length (next i) < length i
name_shorter [] x h = absurd cc
name_shorter (t ∷ i) x h = omega arith

abbrev pub string_on : Option TokenKind → Input → Outcome Token
string_on (Some (k.Str x)) i = Ok (here i, next i)
string_on x i = Err (length i)

string_at : (x : TokenKind) (s e l : ℕ) (i : Input) → eat 2 (token_at x s e l ∷ i) ≡ string_on (Some x) (token_at x s e l ∷ i)
string_at (k.Word word.And) s e l i = refl
string_at (k.Sign sign.Plus) s e l i = refl
string_at x s e l i = refl

pub eat_string : (i : Input) → eat 2 i ≡ string_on (first_kind i) i
eat_string [] = refl
eat_string (t ∷ i) = string_at t.kind t.start t.end t.line i

pub string_shorter : (i : Input) (x : List ℕ) → first_kind i ≡ Some (k.Str x) → length (next i) < length i
string_shorter [] x h = absurd cc
string_shorter (t ∷ i) x h = omega arith

kind_is : (a b : TokenKind) → Some a ≡ Some b → a ≡ b
kind_is a b h = cc

pub name_here : (i : Input) (x : List ℕ) → first_kind i ≡ Some (k.Name x) → text (here i) ≡ x
name_here [] x h = absurd cc
name_here (t ∷ i) x h = ap text_of (kind_is t.kind (k.Name x) h)
