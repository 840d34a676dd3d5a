-- Reading ends as the relation says.
use Rattle.std.proofs.Common.{◌≡◌, ℕ, zero, suc, ◌+◌, ◌<◌, ◌≤◌, Bool, true, false, cond, eqb, ltb, List, [], ◌∷◌, ◌++◌, length, take, Option, Some, None, Ok, Err, refl, sym, ap, ◌∙◌, arith}
use Rattle.std.proofs.lemmas.Bool.Decides.{nat_tests}
use Rattle.std.proofs.lemmas.List.{length-drop}
use Rattle.rpy_token.specs.declared.fault.LimitKind.TheVariants.{Blocks}
use Rattle.rpy_token.specs.declared.fault.TokenFault.{TokenFault}
use Rattle.rpy_token.specs.declared.fault.TokenFault.TheVariants as fault
use Rattle.rpy_token.specs.declared.levels.Levels.{Levels}
use Rattle.rpy_token.specs.declared.piece.Piece.{Piece}
use Rattle.rpy_token.specs.declared.piece.Piece.TheVariants as p
use Rattle.rpy_token.specs.declared.scan.Scan.{Scan}
use Rattle.rpy_token.specs.declared.token.Token.{Token}
use Rattle.rpy_token.specs.declared.token.TokenKind.{TokenKind}
use Rattle.rpy_token.specs.declared.token.TokenKind.TheVariants as kind
use Rattle.rpy_token.specs.Bytes.{Bytes}
use Rattle.rpy_token.specs.Fault.{Outcome, ◌>>=◌}
use Rattle.rpy_token.specs.Levels.{role_of, counted}
use Rattle.rpy_token.specs.Lines.{Spot, size_at, rest_at, skip}
use Rattle.rpy_token.specs.Piece.{next_piece}
use Rattle.rpy_token.specs.Indents.{innermost, wider, kept, has_tab, blank_line}
use Rattle.rpy_token.specs.Lines.{token_at, used, with_dedents}
use Rattle.rpy_token.specs.Scan.{put, take_token, take_piece, inside, close_indents, open_indent, set_indent, indent, begin_after, begin, turn, finish, run, token_list}
use Rattle.rpy_token.specs.Relation as r
use Rattle.rpy_token.specs.Relation.{HasMore, behind, with_token, ended, no_brackets, width_at, text_at, HasText, HasIndent, AtLine, InLine, start_of}
use Rattle.rpy_token.proofs.Progress.{piece_shorter, line_shorter, text_more}

abbrev pub scan_of : Bool → List ℕ → Levels → List Token → Scan
scan_of fresh indents levels found = record { fresh = fresh; indents = indents; levels = levels; found = found }

-- ---- one turn

ends : (n : ℕ) (s : Spot) (scan : Scan) → rest_at s ≡ [] → run n s scan ≡ Ok (finish s scan)
ends zero s scan e = refl
ends (suc n) s scan e = ap (λ (k : Bytes). cond (eqb (length k) 0) (Ok (finish s scan)) (turn s scan >>= λ x. run n x.0 x.1)) e

not_zero : (n : ℕ) → 0 < n → eqb n 0 ≡ false
not_zero n some = grind (arith, nat_tests)

turns : (n : ℕ) (s : Spot) (scan : Scan) → HasMore s → run (suc n) s scan ≡ (turn s scan >>= λ x. run n x.0 x.1)
turns n s scan more = ap (λ b. cond b (Ok (finish s scan)) (turn s scan >>= λ x. run n x.0 x.1)) (not_zero (length (rest_at s)) more)

-- what a turn gives decides what follows
after_turn : (n : ℕ) (s : Spot) (scan : Scan) (o : Outcome (Spot × Scan)) → HasMore s → turn s scan ≡ o → run (suc n) s scan ≡ (o >>= λ x. run n x.0 x.1)
after_turn n s scan o more e = turns n s scan more ∙ ap (λ (o : Outcome (Spot × Scan)). o >>= λ x. run n x.0 x.1) e

inside_is : (s : Spot) (scan : Scan) (o : Outcome (Piece × Bytes)) → next_piece (size_at s) (rest_at s) ≡ o → inside s scan ≡ (o >>= λ x. take_piece (used (rest_at s) x.1) s scan x.0)
unfolding inside
inside_is s scan o e = ap (λ (o : Outcome (Piece × Bytes)). o >>= λ x. take_piece (used (rest_at s) x.1) s scan x.0) e

begin_is : (s : Spot) (scan : Scan) (o : Outcome (Option Bytes)) → blank_line (size_at s) (rest_at s) ≡ o → begin s scan ≡ (o >>= begin_after s scan)
unfolding begin
begin_is s scan o e = ap (λ (o : Outcome (Option Bytes)). o >>= begin_after s scan) e

indent_is : (s : Spot) (scan : Scan) (b : Bool) → has_tab (take (width_at s) (rest_at s)) ≡ b → indent s scan ≡ cond b (Err (fault.BadIndent s.at)) (set_indent s.at (width_at s) (text_at s) scan)
unfolding indent
indent_is s scan b e = ap (λ b. cond b (Err (fault.BadIndent s.at)) (set_indent s.at (width_at s) (text_at s) scan)) e

yes_lt : (a b : ℕ) → a < b → ltb a b ≡ true
yes_lt a b h = grind (arith, nat_tests)

not_lt : (a b : ℕ) → b ≤ a → ltb a b ≡ false
not_lt a b h = grind (arith, nat_tests)

yes_eq : (a b : ℕ) → a ≡ b → eqb a b ≡ true
yes_eq a b h = grind (arith, nat_tests)

not_eq : (a b : ℕ) → (a ≡ b → ⊥) → eqb a b ≡ false
not_eq a b h = grind (arith, nat_tests)

set_deeper : (start width : ℕ) (s : Spot) (scan : Scan) → innermost scan.indents < width → set_indent start width s scan ≡ open_indent width s scan
unfolding set_indent
set_deeper start width s scan lt =
    ap (λ b. cond b (open_indent width s scan) (cond (eqb (innermost (kept width scan.indents)) width) (Ok (s, close_indents width s scan)) (Err (fault.BadIndent start)))) (yes_lt (innermost scan.indents) width lt)

set_no_deeper : (start width : ℕ) (s : Spot) (scan : Scan) (b : Bool) → width ≤ innermost scan.indents → eqb (innermost (kept width scan.indents)) width ≡ b
    → set_indent start width s scan ≡ cond b (Ok (s, close_indents width s scan)) (Err (fault.BadIndent start))
unfolding set_indent
set_no_deeper start width s scan b le e =
    ap (λ b. cond b (open_indent width s scan) (cond (eqb (innermost (kept width scan.indents)) width) (Ok (s, close_indents width s scan)) (Err (fault.BadIndent start)))) (not_lt (innermost scan.indents) width le)
    ∙ ap (λ b. cond b (Ok (s, close_indents width s scan)) (Err (fault.BadIndent start))) e

-- a line with text is read on behind its indentation
line_is : (n : ℕ) (s next : Spot) (scan after : Scan) → HasIndent s → scan.fresh ≡ true → set_indent s.at (width_at s) (text_at s) scan ≡ Ok (next, after)
    → run (suc n) s scan ≡ (inside next (record after { fresh = false }) >>= λ x. run n x.0 x.1)
line_is n s next scan after line fresh e =
    let t : turn s scan ≡ inside next (record after { fresh = false }) =
    ap (λ b. cond b (begin s scan) (inside s scan)) fresh ∙ begin_is s scan (Ok None) line.line.text
    ∙ ap (λ (o : Outcome (Spot × Scan)). o >>= λ x. inside x.0 (record x.1 { fresh = false })) (indent_is s scan false line.no_tab ∙ e) in
    after_turn n s scan (inside next (record after { fresh = false })) line.line.more t

-- less is left behind a rest that is shorter
pub behind_shorter : (s : Spot) (rest : Bytes) (n : ℕ) → length rest < length (rest_at s) → length (rest_at s) ≤ suc n → length (rest_at (behind s rest)) ≤ n
behind_shorter s rest n lt le = omega (arith, length-drop s.at s.source, length-drop (s.at + used (rest_at s) rest) s.source)

pub text_shorter : (s : Spot) (n : ℕ) → length (rest_at s) ≤ n → length (rest_at (text_at s)) ≤ n
text_shorter s n le = omega (arith, length-drop s.at s.source, length-drop (s.at + width_at s) s.source)

-- a line with text, and then what is behind its indentation
line_then : (n : ℕ) (s : Spot) (scan : Scan) (indents : List ℕ) (found : List Token) (out : Outcome (List Token)) → HasIndent s → scan.fresh ≡ true
    → set_indent s.at (width_at s) (text_at s) scan ≡ Ok (text_at s, record scan { indents = indents; found = found })
    → run (suc n) (text_at s) (scan_of false indents scan.levels found) ≡ out
    → run (suc n) s scan ≡ out
line_then n s scan indents found out line fresh e h =
    line_is n s (text_at s) scan (record scan { indents = indents; found = found }) line fresh e
    ∙ sym (turns n (text_at s) (scan_of false indents scan.levels found) (text_more s line.line)) ∙ h

-- a line without an indentation of its own
bad_line : (n : ℕ) (s : Spot) (scan : Scan) (f : TokenFault) → HasText s → scan.fresh ≡ true → indent s scan ≡ Err f → run (suc n) s scan ≡ Err f
bad_line n s scan f line fresh e =
    let t : turn s scan ≡ Err f =
    ap (λ b. cond b (begin s scan) (inside s scan)) fresh ∙ begin_is s scan (Ok None) line.text
    ∙ ap (λ (o : Outcome (Spot × Scan)). o >>= λ x. inside x.0 (record x.1 { fresh = false })) e in
    after_turn n s scan (Err f) line.more t

taken : (n : ℕ) (s : Spot) (scan : Scan) (piece : Piece) (rest : Bytes) (o : Outcome (Spot × Scan)) → HasMore s → scan.fresh ≡ false → next_piece (size_at s) (rest_at s) ≡ Ok (piece, rest)
    → take_piece (used (rest_at s) rest) s scan piece ≡ o → run (suc n) s scan ≡ (o >>= λ x. run n x.0 x.1)
taken n s scan piece rest o more fresh e t =
    after_turn n s scan o more (ap (λ b. cond b (begin s scan) (inside s scan)) fresh ∙ inside_is s scan (Ok (piece, rest)) e ∙ t)

take_is : (n : ℕ) (kind : TokenKind) (s : Spot) (scan : Scan) (o : Outcome Levels) → counted s.at (role_of kind) scan.levels ≡ o
    → take_token n kind s scan ≡ (o >>= λ levels. Ok (skip n s, put kind n s (record scan { levels = levels })))
take_is n kind s scan o e = ap (λ (o : Outcome Levels). o >>= λ levels. Ok (skip n s, put kind n s (record scan { levels = levels }))) e

lexeme_is : (n : ℕ) (kind : TokenKind) (s : Spot) (scan : Scan) → take_piece n s scan (p.Lexeme kind) ≡ take_token n kind s scan
unfolding take_piece
lexeme_is n kind s scan = refl

blank_is : (n : ℕ) (s : Spot) (scan : Scan) → take_piece n s scan p.Blank ≡ Ok (skip n s, scan)
unfolding take_piece
blank_is n s scan = refl

bracket_is : (n : ℕ) (s : Spot) (scan : Scan) → 0 < length scan.levels.outer → take_piece n s scan p.LineEnd ≡ Ok (skip n s, scan)
unfolding take_piece
bracket_is n s scan some =
    ap (λ b. cond b (Ok (skip n s, scan)) (take_token n kind.Newline s (record scan { fresh = true }))) (yes_lt 0 (length scan.levels.outer) some)

end_is : (n : ℕ) (s : Spot) (scan : Scan) → scan.levels.outer ≡ [] → take_piece n s scan p.LineEnd ≡ Ok (skip n s, put kind.Newline n s (record scan { fresh = true; levels = no_brackets }))
unfolding take_piece counted
end_is n s scan none =
    ap (λ (o : List ℕ). cond (ltb 0 (length o)) (Ok (skip n s, scan)) (take_token n kind.Newline s (record scan { fresh = true }))) none
    ∙ ap (λ (o : List ℕ). Ok (skip n s, put kind.Newline n s (record scan { fresh = true; levels = record { operators = 0; outer = o } }))) none

finish_line : (s : Spot) (indents : List ℕ) (found : List Token) → finish s (scan_of true indents no_brackets found) ≡ ended s indents found
unfolding finish
finish_line s indents found = refl

finish_open : (s : Spot) (indents : List ℕ) (levels : Levels) (found : List Token) → finish s (scan_of false indents levels found) ≡ ended s indents (found ++ token_at kind.Newline 0 s ∷ [])
unfolding finish
finish_open s indents levels found = refl

deeper_is : (s : Spot) (scan : Scan) → innermost scan.indents < width_at s → length scan.indents < 32
    → set_indent s.at (width_at s) (text_at s) scan ≡ Ok (text_at s, record scan { indents = width_at s ∷ scan.indents; found = scan.found ++ token_at kind.Indent 0 (text_at s) ∷ [] })
deeper_is s scan lt few =
    set_deeper s.at (width_at s) (text_at s) scan lt
    ∙ ap (λ b. cond b (Ok (text_at s, put kind.Indent 0 (text_at s) (record scan { indents = width_at s ∷ scan.indents }))) (Err (fault.Limit Blocks (text_at s).at))) (yes_lt (length scan.indents) 32 few)

too_deep_is : (s : Spot) (scan : Scan) → innermost scan.indents < width_at s → 32 ≤ length scan.indents
    → set_indent s.at (width_at s) (text_at s) scan ≡ Err (fault.Limit Blocks (s.at + width_at s))
too_deep_is s scan lt many =
    set_deeper s.at (width_at s) (text_at s) scan lt
    ∙ ap (λ b. cond b (Ok (text_at s, put kind.Indent 0 (text_at s) (record scan { indents = width_at s ∷ scan.indents }))) (Err (fault.Limit Blocks (text_at s).at))) (not_lt (length scan.indents) 32 many)

none_left : {A : Type 0} (s : Spot) → HasMore s → length (rest_at s) ≤ 0 → A
none_left s more le = absurd (omega arith)

-- ---- so a run is what the relation says

mutual
  at_line_run : {s : Spot} {indents : List ℕ} {found : List Token} {out : Outcome (List Token)} → AtLine s indents found out → (n : ℕ) → length (rest_at s) ≤ n → run n s (scan_of true indents no_brackets found) ≡ out
  at_line_run {s = s} {indents = indents} {found = found} (r.source_ends e) n le =
      ends n s (scan_of true indents no_brackets found) e ∙ ap (λ l. Ok l) (finish_line s indents found)
  at_line_run {s = s} (r.blank more e d) zero le = none_left s more le
  at_line_run {s = s} {indents = indents} {found = found} (r.blank {rest = rest} more e d) (suc n) le =
      after_turn n s (scan_of true indents no_brackets found) (Ok (behind s rest, scan_of true indents no_brackets found)) more (begin_is s (scan_of true indents no_brackets found) (Ok (Some rest)) e)
      ∙ at_line_run d n (behind_shorter s rest n (line_shorter (size_at s) (rest_at s) rest more e) le)
  at_line_run {s = s} (r.bad_comment more e) zero le = none_left s more le
  at_line_run {s = s} {indents = indents} {found = found} (r.bad_comment {f = f} more e) (suc n) le =
      after_turn n s (scan_of true indents no_brackets found) (Err f) more (begin_is s (scan_of true indents no_brackets found) (Err f) e)
  at_line_run {s = s} (r.tab line e) zero le = none_left s line.more le
  at_line_run {s = s} {indents = indents} {found = found} (r.tab line e) (suc n) le =
      bad_line n s (scan_of true indents no_brackets found) (fault.BadIndent s.at) line refl (indent_is s (scan_of true indents no_brackets found) true e)
  at_line_run {s = s} (r.deeper line lt few d) zero le = none_left s line.line.more le
  at_line_run {s = s} {indents = indents} {found = found} {out = out} (r.deeper line lt few d) (suc n) le =
      line_then n s (scan_of true indents no_brackets found) (width_at s ∷ indents) (found ++ token_at kind.Indent 0 (text_at s) ∷ []) out line refl
      (deeper_is s (scan_of true indents no_brackets found) lt few) (in_line_run d (suc n) (text_shorter s (suc n) le))
  at_line_run {s = s} (r.too_deep line lt many) zero le = none_left s line.line.more le
  at_line_run {s = s} {indents = indents} {found = found} (r.too_deep line lt many) (suc n) le =
      bad_line n s (scan_of true indents no_brackets found) (fault.Limit Blocks (s.at + width_at s)) line.line refl
      (indent_is s (scan_of true indents no_brackets found) false line.no_tab ∙ too_deep_is s (scan_of true indents no_brackets found) lt many)
  at_line_run {s = s} (r.no_deeper line le same d) zero none = none_left s line.line.more none
  at_line_run {s = s} {indents = indents} {found = found} {out = out} (r.no_deeper line not_more same d) (suc n) le =
      line_then n s (scan_of true indents no_brackets found) (kept (width_at s) indents) (with_dedents (wider (width_at s) indents) (text_at s) found) out line refl
      (set_no_deeper s.at (width_at s) (text_at s) (scan_of true indents no_brackets found) true not_more (yes_eq (innermost (kept (width_at s) indents)) (width_at s) same))
      (in_line_run d (suc n) (text_shorter s (suc n) le))
  at_line_run {s = s} (r.bad_indent line not_more other) zero le = none_left s line.line.more le
  at_line_run {s = s} {indents = indents} {found = found} (r.bad_indent line not_more other) (suc n) le =
      bad_line n s (scan_of true indents no_brackets found) (fault.BadIndent s.at) line.line refl
      (indent_is s (scan_of true indents no_brackets found) false line.no_tab
      ∙ set_no_deeper s.at (width_at s) (text_at s) (scan_of true indents no_brackets found) false not_more (not_eq (innermost (kept (width_at s) indents)) (width_at s) other))

  in_line_run : {s : Spot} {indents : List ℕ} {levels : Levels} {found : List Token} {out : Outcome (List Token)} → InLine s indents levels found out → (n : ℕ) → length (rest_at s) ≤ n → run n s (scan_of false indents levels found) ≡ out
  in_line_run {s = s} {indents = indents} {levels = levels} {found = found} (r.line_open e) n le =
      ends n s (scan_of false indents levels found) e ∙ ap (λ l. Ok l) (finish_open s indents levels found)
  in_line_run {s = s} (r.bad_piece more e) zero le = none_left s more le
  in_line_run {s = s} {indents = indents} {levels = levels} {found = found} (r.bad_piece {f = f} more e) (suc n) le =
      after_turn n s (scan_of false indents levels found) (Err f) more (inside_is s (scan_of false indents levels found) (Err f) e)
  in_line_run {s = s} (r.nothing more e d) zero le = none_left s more le
  in_line_run {s = s} {indents = indents} {levels = levels} {found = found} (r.nothing {rest = rest} more e d) (suc n) le =
      taken n s (scan_of false indents levels found) p.Blank rest (Ok (behind s rest, scan_of false indents levels found)) more refl e (blank_is (used (rest_at s) rest) s (scan_of false indents levels found))
      ∙ in_line_run d n (behind_shorter s rest n (piece_shorter (size_at s) (rest_at s) p.Blank rest e) le)
  in_line_run {s = s} (r.in_brackets more e deep d) zero le = none_left s more le
  in_line_run {s = s} {indents = indents} {levels = levels} {found = found} (r.in_brackets {rest = rest} more e deep d) (suc n) le =
      taken n s (scan_of false indents levels found) p.LineEnd rest (Ok (behind s rest, scan_of false indents levels found)) more refl e (bracket_is (used (rest_at s) rest) s (scan_of false indents levels found) deep)
      ∙ in_line_run d n (behind_shorter s rest n (piece_shorter (size_at s) (rest_at s) p.LineEnd rest e) le)
  in_line_run {s = s} (r.line_ends more e none d) zero le = none_left s more le
  in_line_run {s = s} {indents = indents} {levels = levels} {found = found} (r.line_ends {rest = rest} more e none d) (suc n) le =
      taken n s (scan_of false indents levels found) p.LineEnd rest (Ok (behind s rest, scan_of true indents no_brackets (with_token kind.Newline s rest found))) more refl e (end_is (used (rest_at s) rest) s (scan_of false indents levels found) none)
      ∙ at_line_run d n (behind_shorter s rest n (piece_shorter (size_at s) (rest_at s) p.LineEnd rest e) le)
  in_line_run {s = s} (r.lexeme more e counts d) zero le = none_left s more le
  in_line_run {s = s} {indents = indents} {levels = levels} {found = found} (r.lexeme {after = after} {kind = kind} {rest = rest} more e counts d) (suc n) le =
      taken n s (scan_of false indents levels found) (p.Lexeme kind) rest (Ok (behind s rest, scan_of false indents after (with_token kind s rest found))) more refl e
      (lexeme_is (used (rest_at s) rest) kind s (scan_of false indents levels found) ∙ take_is (used (rest_at s) rest) kind s (scan_of false indents levels found) (Ok after) counts)
      ∙ in_line_run d n (behind_shorter s rest n (piece_shorter (size_at s) (rest_at s) (p.Lexeme kind) rest e) le)
  in_line_run {s = s} (r.limit more e counts) zero le = none_left s more le
  in_line_run {s = s} {indents = indents} {levels = levels} {found = found} (r.limit {kind = kind} {rest = rest} {f = f} more e counts) (suc n) le =
      taken n s (scan_of false indents levels found) (p.Lexeme kind) rest (Err f) more refl e
      (lexeme_is (used (rest_at s) rest) kind s (scan_of false indents levels found) ∙ take_is (used (rest_at s) rest) kind s (scan_of false indents levels found) (Err f) counts)

-- what the relation says of a source is what the list of tokens is
pub list_is : (source : Bytes) (out : Outcome (List Token)) → AtLine (start_of source) [] [] out → token_list source ≡ out
unfolding token_list
list_is source out d = at_line_run d (length source) (omega (arith, length-drop 0 source))
