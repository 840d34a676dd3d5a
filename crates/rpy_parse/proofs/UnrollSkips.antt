-- What is read and skipped under `if __name__ == '__main__'`.
use Rattle.std.proofs.Common.{◌≡◌, ℕ, ◌≤◌, ◌<◌, arith, Bool, true, false, cond, List, [], ◌∷◌, length, drop, Option, Some, None, Result, Ok, Err, refl, sym, ap, subst, ◌∙◌}
use Rattle.rpy_token.specs.declared.token.Token.{Token}
use Rattle.rpy_token.specs.declared.token.TokenKind.{TokenKind}
use Rattle.rpy_token.specs.declared.token.TokenKind.TheVariants as k
use Rattle.rpy_token.specs.declared.token.Keyword.TheVariants as word
use Rattle.rpy_token.specs.declared.token.Sign.TheVariants as sign
use Rattle.rpy_parse.specs.declared.fault.Stop.{Stop}
use Rattle.rpy_parse.specs.Input.{Input, first, first_kind, here, next, sees}
use Rattle.rpy_parse.specs.Kind.{newline_kind, indent_kind, dedent_kind}
use Rattle.rpy_parse.specs.Build.{text, begins_with, is_nil, main_name, is_main_name}
use Rattle.rpy_parse.specs.Skips.{sees_string, in_line, in_block, same}
use Rattle.rpy_parse.specs.Rule.{Outcome, Parser, and_then, eat, eat_such, Reads}
use Rattle.rpy_parse.specs.Shapes.{tables, MainPiece, MainRest, Skipped, SkipLine, SkipBlock}
use Rattle.rpy_parse.specs.Rows.{reading}
use Rattle.rpy_parse.proofs.Look.{by_looks}

abbrev token_at : TokenKind → ℕ → ℕ → ℕ → Token
token_at x s e l = record { kind = x; start = s; end = e; line = l }

-- ---- __name__

abbrev pub name_by : Option TokenKind → Input → Outcome Token
name_by (Some (k.Name x)) i = cond (same x main_name) (Ok (here i, next i)) (Err (length i))
name_by x i = Err (length i)

name_same : (x : List ℕ) (s e l : ℕ) → is_main_name (token_at (k.Name x) s e l) ≡ same x main_name
name_same [] s e l = refl
name_same (a ∷ []) s e l = refl
name_same (a ∷ b ∷ []) s e l = refl
name_same (a ∷ b ∷ c ∷ []) s e l = refl
name_same (a ∷ b ∷ c ∷ d ∷ []) s e l = refl
name_same (a ∷ b ∷ c ∷ d ∷ f ∷ []) s e l = refl
name_same (a ∷ b ∷ c ∷ d ∷ f ∷ g ∷ []) s e l = refl
name_same (a ∷ b ∷ c ∷ d ∷ f ∷ g ∷ h ∷ []) s e l = refl
name_same (a ∷ b ∷ c ∷ d ∷ f ∷ g ∷ h ∷ m ∷ []) s e l = refl
name_same (a ∷ b ∷ c ∷ d ∷ f ∷ g ∷ h ∷ m ∷ n ∷ r) s e l = refl

abbrev given_token : Bool → Token → Input → Outcome Token
given_token b t i = cond b (Ok (t, i)) (Err (length (t ∷ i)))

name_cond : (b c : Bool) (t : Token) (i : Input) → b ≡ c → given_token b t i ≡ given_token c t i
name_cond b c t i h = ap (λ (x : Bool). given_token x t i) h

name_at : (x : TokenKind) (s e l : ℕ) (i : Input) → eat_such 0 is_main_name (Some (token_at x s e l)) (token_at x s e l ∷ i) ≡ name_by (Some x) (token_at x s e l ∷ i)
name_at (k.Word word.And) s e l i = refl
name_at (k.Sign sign.Plus) s e l i = refl
name_at (k.Name x) s e l i = name_cond (is_main_name (token_at (k.Name x) s e l)) (same x main_name) (token_at (k.Name x) s e l) i (name_same x s e l)
name_at x s e l i = refl

pub main_name_is : (i : Input) → eat_such 0 is_main_name (first i) i ≡ name_by (first_kind i) i
main_name_is [] = refl
main_name_is (t ∷ i) = name_at t.kind t.start t.end t.line i

-- ---- __main__

abbrev pub main_piece_by : List ℕ → Option TokenKind → Parser (List ℕ)
main_piece_by r (Some (k.Str x)) i = cond (begins_with x r) (Ok (drop (length x) r, next i)) (Err (length i))
main_piece_by r x i = Err (length i)

piece_cond : (b : Bool) (r : List ℕ) (t : Token) (i : Input) → and_then (cond b (Ok (t, i)) (Err (length (t ∷ i)))) (λ t j. Ok (drop (length (text t)) r, j)) ≡ cond b (Ok (drop (length (text t)) r, i)) (Err (length (t ∷ i)))
piece_cond true r t i = refl
piece_cond false r t i = refl

main_piece_at : (r : List ℕ) (x : TokenKind) (s e l : ℕ) (i : Input) → reading MainPiece r (token_at x s e l ∷ i) ≡ main_piece_by r (Some x) (token_at x s e l ∷ i)
main_piece_at r (k.Word word.And) s e l i = by_looks MainPiece r (token_at (k.Word word.And) s e l ∷ i)
main_piece_at r (k.Sign sign.Plus) s e l i = by_looks MainPiece r (token_at (k.Sign sign.Plus) s e l ∷ i)
main_piece_at r (k.Str x) s e l i = by_looks MainPiece r (token_at (k.Str x) s e l ∷ i) ∙ piece_cond (begins_with x r) r (token_at (k.Str x) s e l) i
main_piece_at r x s e l i = by_looks MainPiece r (token_at x s e l ∷ i)

pub main_piece_is : (r : List ℕ) (i : Input) → reading MainPiece r i ≡ main_piece_by r (first_kind i) i
main_piece_is r [] = by_looks MainPiece r []
main_piece_is r (t ∷ i) = main_piece_at r t.kind t.start t.end t.line i

pub main_piece_reads : (r : List ℕ) (i : Input) (x : Result (List ℕ) Stop) (j : Input) → Reads (main_piece_by r (first_kind i) i) x j → Reads (reading MainPiece r i) x j
main_piece_reads r i x j h = subst (λ o. Reads o x j) (sym (main_piece_is r i)) h

abbrev pub main_rest_on : List ℕ → Parser (Unit {0})
main_rest_on r i = cond (sees_string (first_kind i)) (and_then (reading MainPiece r i) (λ q. reading MainRest q)) (cond (is_nil r) (Ok (tt, i)) (Err (length i)))

main_rest_at : (r : List ℕ) (x : TokenKind) (s e l : ℕ) (i : Input) → reading MainRest r (token_at x s e l ∷ i) ≡ main_rest_on r (token_at x s e l ∷ i)
main_rest_at r (k.Word word.And) s e l i = by_looks MainRest r (token_at (k.Word word.And) s e l ∷ i)
main_rest_at r (k.Sign sign.Plus) s e l i = by_looks MainRest r (token_at (k.Sign sign.Plus) s e l ∷ i)
main_rest_at r x s e l i = by_looks MainRest r (token_at x s e l ∷ i)

pub main_rest_is : (r : List ℕ) (i : Input) → reading MainRest r i ≡ main_rest_on r i
main_rest_is r [] = by_looks MainRest r []
main_rest_is r (t ∷ i) = main_rest_at r t.kind t.start t.end t.line i

-- ---- what is skipped

abbrev pub skip_line_on : Parser (Unit {0})
skip_line_on i = cond (sees newline_kind i) (and_then (eat newline_kind i) (λ _ j. Ok (tt, j))) (cond (in_line (first_kind i)) (reading SkipLine tt (next i)) (Err (length i)))

skip_line_at : (x : TokenKind) (s e l : ℕ) (i : Input) → reading SkipLine tt (token_at x s e l ∷ i) ≡ skip_line_on (token_at x s e l ∷ i)
skip_line_at (k.Word word.And) s e l i = by_looks SkipLine tt (token_at (k.Word word.And) s e l ∷ i)
skip_line_at (k.Sign sign.Plus) s e l i = by_looks SkipLine tt (token_at (k.Sign sign.Plus) s e l ∷ i)
skip_line_at x s e l i = by_looks SkipLine tt (token_at x s e l ∷ i)

pub skip_line_is : (i : Input) → reading SkipLine tt i ≡ skip_line_on i
skip_line_is [] = by_looks SkipLine tt []
skip_line_is (t ∷ i) = skip_line_at t.kind t.start t.end t.line i

abbrev pub skip_block_on : Parser (Unit {0})
skip_block_on i = cond (sees dedent_kind i) (and_then (eat dedent_kind i) (λ _ j. Ok (tt, j))) (cond (sees indent_kind i) (and_then (eat indent_kind i) (λ _ j. and_then (reading SkipBlock tt j) (λ _. reading SkipBlock tt))) (cond (in_block (first_kind i)) (reading SkipBlock tt (next i)) (Err (length i))))

skip_block_at : (x : TokenKind) (s e l : ℕ) (i : Input) → reading SkipBlock tt (token_at x s e l ∷ i) ≡ skip_block_on (token_at x s e l ∷ i)
skip_block_at (k.Word word.And) s e l i = by_looks SkipBlock tt (token_at (k.Word word.And) s e l ∷ i)
skip_block_at (k.Sign sign.Plus) s e l i = by_looks SkipBlock tt (token_at (k.Sign sign.Plus) s e l ∷ i)
skip_block_at x s e l i = by_looks SkipBlock tt (token_at x s e l ∷ i)

pub skip_block_is : (i : Input) → reading SkipBlock tt i ≡ skip_block_on i
skip_block_is [] = by_looks SkipBlock tt []
skip_block_is (t ∷ i) = skip_block_at t.kind t.start t.end t.line i

abbrev pub skipped_on : Parser (Unit {0})
skipped_on i = cond (sees newline_kind i) (and_then (eat newline_kind i) (λ _ j. and_then (eat indent_kind j) (λ _. reading SkipBlock tt))) (cond (in_line (first_kind i)) (reading SkipLine tt (next i)) (Err (length i)))

skipped_at : (x : TokenKind) (s e l : ℕ) (i : Input) → reading Skipped tt (token_at x s e l ∷ i) ≡ skipped_on (token_at x s e l ∷ i)
skipped_at (k.Word word.And) s e l i = by_looks Skipped tt (token_at (k.Word word.And) s e l ∷ i)
skipped_at (k.Sign sign.Plus) s e l i = by_looks Skipped tt (token_at (k.Sign sign.Plus) s e l ∷ i)
skipped_at x s e l i = by_looks Skipped tt (token_at x s e l ∷ i)

pub skipped_is : (i : Input) → reading Skipped tt i ≡ skipped_on i
skipped_is [] = by_looks Skipped tt []
skipped_is (t ∷ i) = skipped_at t.kind t.start t.end t.line i

pub skipped_reads : (i : Input) (r : Result (Unit {0}) Stop) (j : Input) → Reads (skipped_on i) r j → Reads (reading Skipped tt i) r j
skipped_reads i r j h = subst (λ o. Reads o r j) (sym (skipped_is i)) h

pub line_shorter : (i : Input) → in_line (first_kind i) ≡ true → length (next i) < length i
line_shorter [] h = absurd cc
line_shorter (t ∷ i) h = omega arith

pub block_shorter : (i : Input) → in_block (first_kind i) ≡ true → length (next i) < length i
block_shorter [] h = absurd cc
block_shorter (t ∷ i) h = omega arith

pub nil_text : (r : List ℕ) → length r ≤ 0 → is_nil r ≡ true
nil_text [] h = refl
nil_text (x ∷ r) h = absurd (omega (arith, h))

pub some_text : (r : List ℕ) → 0 < length r → is_nil r ≡ false
some_text [] h = absurd (omega (arith, h))
some_text (x ∷ r) h = refl
