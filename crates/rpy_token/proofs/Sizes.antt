-- How many tokens a source has.
use Rattle.std.proofs.Common.{◌≡◌, ℕ, zero, suc, ◌+◌, ◌*◌, ◌^◌, ◌<◌, ◌≤◌, true, false, cond, eqb, ltb, List, [], ◌∷◌, ◌++◌, length, take, replicate, Option, Some, None, Ok, Err, arith, length-append}
use Rattle.std.proofs.lemmas.Bool.Decides.{nat_tests}
use Rattle.std.proofs.lemmas.List.{length-replicate}
use Rattle.rpy_token.specs.declared.fault.TokenFault.TheVariants as fault
use Rattle.rpy_token.specs.declared.piece.Piece.{Piece}
use Rattle.rpy_token.specs.declared.piece.Piece.TheVariants as p
use Rattle.rpy_token.specs.declared.scan.Scan.{Scan}
use Rattle.rpy_token.specs.declared.token.Token.{Token}
use Rattle.rpy_token.specs.declared.token.TokenKind.{TokenKind}
use Rattle.rpy_token.specs.declared.token.TokenKind.TheVariants as kind
use Rattle.rpy_token.specs.Bytes.{Bytes, blank_len}
use Rattle.rpy_token.specs.Fault.{Outcome, ◌>>=◌}
use Rattle.rpy_token.specs.Levels.{role_of, counted}
use Rattle.rpy_token.specs.Lines.{Spot, rest_at, size_at, skip}
use Rattle.rpy_token.specs.Piece.{next_piece}
use Rattle.rpy_token.specs.Indents.{innermost, wider, kept, has_tab, blank_line}
use Rattle.rpy_token.specs.Lines.{token_at, used}
use Rattle.rpy_token.specs.Scan.{put, take_token, take_piece, inside, close_indents, open_indent, set_indent, indent, begin_after, begin, turn, finish, run, token_list, first_scan}
use Rattle.rpy_token.proofs.Outcomes.{OnRead, on_bind, on_any, on_if, on_test, read_is}

-- few indentations are open, and at most k tokens are new
abbrev pub Small : ℕ → Scan → Spot × Scan → Type 0
Small k scan x = (length x.1.indents ≤ 32) × (length x.1.found ≤ length scan.found + k)

take_token_small : (n : ℕ) (kind : TokenKind) (spot : Spot) (scan : Scan) → length scan.indents ≤ 32 → OnRead (Small 1 scan) (take_token n kind spot scan)
take_token_small n kind spot scan few =
    on_bind (λ _. Unit {0}) (Small 1 scan) (counted spot.at (role_of kind) scan.levels) (λ levels. Ok (skip n spot, put kind n spot (record scan { levels = levels }))) (on_any (λ _. Unit {0}) (λ _. tt) (counted spot.at (role_of kind) scan.levels))
    (λ levels _. (few, omega (arith, length-append scan.found (token_at kind n spot ∷ []))))

take_piece_small : (n : ℕ) (spot : Spot) (scan : Scan) (piece : Piece) → length scan.indents ≤ 32 → OnRead (Small 1 scan) (take_piece n spot scan piece)
unfolding take_piece
take_piece_small n spot scan p.Blank few = (few, omega arith)
take_piece_small n spot scan (p.Lexeme kind) few = take_token_small n kind spot scan few
take_piece_small n spot scan p.LineEnd few =
    on_if (OnRead (Small 1 scan)) (ltb 0 (length scan.levels.outer)) (Ok (skip n spot, scan)) (take_token n kind.Newline spot (record scan { fresh = true }))
    (λ _. (few, omega arith)) (λ _. take_token_small n kind.Newline spot (record scan { fresh = true }) few)

inside_small : (spot : Spot) (scan : Scan) → length scan.indents ≤ 32 → OnRead (Small 1 scan) (inside spot scan)
unfolding inside
inside_small spot scan few =
    on_bind (λ _. Unit {0}) (Small 1 scan) (next_piece (size_at spot) (rest_at spot)) (λ x. take_piece (used (rest_at spot) x.1) spot scan x.0) (on_any (λ _. Unit {0}) (λ _. tt) (next_piece (size_at spot) (rest_at spot)))
    (λ x _. take_piece_small (used (rest_at spot) x.1) spot scan x.0 few)

below : (n k : ℕ) → ltb n k ≡ true → n < k
below n k e = grind (arith, nat_tests)

open_small : (width : ℕ) (spot : Spot) (scan : Scan) → OnRead (Small 32 scan) (open_indent width spot scan)
open_small width spot scan =
    on_if (OnRead (Small 32 scan)) (ltb (length scan.indents) 32) (Ok (spot, put kind.Indent 0 spot (record scan { indents = width ∷ scan.indents }))) _
    (λ e. (omega (arith, below (length scan.indents) 32 e), omega (arith, length-append scan.found (token_at kind.Indent 0 spot ∷ []))))
    (λ _. tt)

wider_few : (width : ℕ) (is : List ℕ) → (length (kept width is) ≤ length is) × (wider width is ≤ length is)
unfolding kept wider
wider_few width [] = (omega arith, omega arith)
wider_few width (i ∷ is) =
    let rest = wider_few width is in
    on_test (λ b. (length (cond b (kept width is) (i ∷ is)) ≤ length (i ∷ is)) × (cond b (suc (wider width is)) 0 ≤ length (i ∷ is))) (ltb width i) (λ _. (omega (arith, rest.0), omega (arith, rest.1))) (λ _. (omega arith, omega arith))

close_small : (width : ℕ) (spot : Spot) (scan : Scan) → length scan.indents ≤ 32 → Small 32 scan (spot, close_indents width spot scan)
close_small width spot scan few =
    let w = wider_few width scan.indents in (
      omega (arith, w.0),
      omega (arith, w.1, length-append scan.found (replicate (wider width scan.indents) (token_at kind.Dedent 0 spot)), length-replicate (wider width scan.indents) (token_at kind.Dedent 0 spot)),
    )

set_small : (start width : ℕ) (spot : Spot) (scan : Scan) → length scan.indents ≤ 32 → OnRead (Small 32 scan) (set_indent start width spot scan)
unfolding set_indent
set_small start width spot scan few =
    on_if (OnRead (Small 32 scan)) (ltb (innermost scan.indents) width) (open_indent width spot scan) _ (λ _. open_small width spot scan)
    (λ _. on_if (OnRead (Small 32 scan)) (eqb (innermost (kept width scan.indents)) width) (Ok (spot, close_indents width spot scan)) (Err (fault.BadIndent start)) (λ _. close_small width spot scan few) (λ _. tt))

indent_small : (spot : Spot) (scan : Scan) → length scan.indents ≤ 32 → OnRead (Small 32 scan) (indent spot scan)
unfolding indent
indent_small spot scan few =
    on_if (OnRead (Small 32 scan)) (has_tab (take (blank_len (rest_at spot)) (rest_at spot))) (Err (fault.BadIndent spot.at)) (set_indent spot.at (blank_len (rest_at spot)) (skip (blank_len (rest_at spot)) spot) scan) (λ _. tt)
    (λ _. set_small spot.at (blank_len (rest_at spot)) (skip (blank_len (rest_at spot)) spot) scan few)

more : (a b : Scan) (k : ℕ) → length b.found ≤ length a.found + k → (o : Outcome (Spot × Scan)) → OnRead (Small 1 b) o → OnRead (Small (k + 1) a) o
more a b k le (Ok x) h = (h.0, omega arith)
more a b k le (Err e) h = tt

begin_after_small : (spot : Spot) (scan : Scan) (o : Option Bytes) → length scan.indents ≤ 32 → OnRead (Small 33 scan) (begin_after spot scan o)
begin_after_small spot scan (Some rest) few = (few, omega arith)
begin_after_small spot scan None few =
    on_bind (Small 32 scan) (Small 33 scan) (indent spot scan) (λ x. inside x.0 (record x.1 { fresh = false })) (indent_small spot scan few)
    (λ x h. more scan x.1 32 h.1 (inside x.0 (record x.1 { fresh = false })) (inside_small x.0 (record x.1 { fresh = false }) h.0))

turn_small : (spot : Spot) (scan : Scan) → length scan.indents ≤ 32 → OnRead (Small 33 scan) (turn spot scan)
unfolding begin
turn_small spot scan few =
    on_if (OnRead (Small 33 scan)) scan.fresh (begin spot scan) (inside spot scan)
    (λ _. on_bind (λ _. Unit {0}) (Small 33 scan) (blank_line (size_at spot) (rest_at spot)) (begin_after spot scan) (on_any (λ _. Unit {0}) (λ _. tt) (blank_line (size_at spot) (rest_at spot))) (λ o _. begin_after_small spot scan o few))
    (λ _. more scan scan 32 (omega arith) (inside spot scan) (inside_small spot scan few))

finish_small : (spot : Spot) (scan : Scan) → length scan.indents ≤ 32 → length (finish spot scan) ≤ length scan.found + 34
unfolding finish
finish_small spot scan few =
    let P : Scan → Type 0 = λ s. (length s.indents ≤ 32) × (length s.found ≤ length scan.found + 1) in
    let ended : Scan = cond scan.fresh scan (put kind.Newline 0 spot scan) in
    let e : P ended = on_if P scan.fresh scan (put kind.Newline 0 spot scan) (λ _. (few, omega arith)) (λ _. (few, omega (arith, length-append scan.found (token_at kind.Newline 0 spot ∷ [])))) in
    omega (arith, e.0, e.1, length-append ended.found (replicate (length ended.indents) (token_at kind.Dedent 0 spot)), length-replicate (length ended.indents) (token_at kind.Dedent 0 spot), length-append (ended.found ++ replicate (length ended.indents) (token_at kind.Dedent 0 spot)) (token_at kind.End 0 spot ∷ []))

abbrev Short : ℕ → Scan → List Token → Type 0
Short n scan list = length list ≤ length scan.found + 33 * n + 34

shorter : (n : ℕ) (a : Scan) (x : Spot × Scan) → Small 33 a x → (o : Outcome (List Token)) → OnRead (Short n x.1) o → OnRead (Short (suc n) a) o
shorter n a x s (Ok list) h = omega (arith, s.1)
shorter n a x s (Err e) h = tt

run_short : (n : ℕ) (spot : Spot) (scan : Scan) → length scan.indents ≤ 32 → OnRead (Short n scan) (run n spot scan)
run_short zero spot scan few = omega (arith, finish_small spot scan few)
run_short (suc n) spot scan few =
    on_if (OnRead (Short (suc n) scan)) (eqb (length (rest_at spot)) 0) (Ok (finish spot scan)) (turn spot scan >>= λ x. run n x.0 x.1)
    (λ _. omega (arith, finish_small spot scan few))
    (λ _. on_bind (Small 33 scan) (Short (suc n) scan) (turn spot scan) (λ x. run n x.0 x.1) (turn_small spot scan few)
    (λ x s. shorter n scan x s (run n x.0 x.1) (run_short n x.0 x.1 s.0)))

-- so their count is a u32
pub few_tokens : (source : Bytes) (list : List Token) → length source ≤ 1048576 → token_list source ≡ Ok list → length list < 2 ^ 32
unfolding token_list
few_tokens source list small e =
    omega (arith, read_is (Short (length source) first_scan) (token_list source) list (run_short (length source) (record { source = source; at = 0 }) first_scan (omega arith)) e)
