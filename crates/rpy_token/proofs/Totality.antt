-- Every source has its tokens, or its one fault.
use Rattle.std.proofs.Common.{◌≡◌, ℕ, zero, suc, ◌+◌, ◌<◌, ◌≤◌, Bool, true, false, eqb, ltb, List, [], ◌∷◌, ◌++◌, length, take, Option, Some, None, Ok, Err, ◌⊎◌, inl, inr, refl, sym, subst, arith}
use Rattle.std.proofs.lemmas.Bool.{eqb-false, eqb-true, ltb-false, ltb-true}
use Rattle.std.proofs.lemmas.List.{length-drop}
use Rattle.rpy_token.specs.declared.fault.LimitKind.TheVariants.{Blocks}
use Rattle.rpy_token.specs.declared.fault.TokenFault.TheVariants as fault
use Rattle.rpy_token.specs.declared.levels.Levels.{Levels}
use Rattle.rpy_token.specs.declared.piece.Piece.{Piece}
use Rattle.rpy_token.specs.declared.piece.Piece.TheVariants as p
use Rattle.rpy_token.specs.declared.token.Token.{Token}
use Rattle.rpy_token.specs.declared.token.TokenKind.{TokenKind}
use Rattle.rpy_token.specs.declared.token.TokenKind.TheVariants as kind
use Rattle.rpy_token.specs.Bytes.{Bytes}
use Rattle.rpy_token.specs.Fault.{Outcome}
use Rattle.rpy_token.specs.Levels.{role_of, counted}
use Rattle.rpy_token.specs.Lines.{Spot, size_at, rest_at}
use Rattle.rpy_token.specs.Piece.{next_piece}
use Rattle.rpy_token.specs.Indents.{innermost, wider, kept, has_tab, blank_line}
use Rattle.rpy_token.specs.Lines.{token_at, with_dedents}
use Rattle.rpy_token.specs.Scan.{token_list}
use Rattle.rpy_token.specs.Relation as r
use Rattle.rpy_token.specs.Relation.{HasMore, behind, with_token, ended, no_brackets, width_at, text_at, HasText, HasIndent, AtLine, InLine, start_of}
use Rattle.rpy_token.proofs.Progress.{piece_shorter, line_shorter}
use Rattle.rpy_token.proofs.Runs.{behind_shorter, text_shorter, list_is}

AtEnd : Spot → List ℕ → List Token → Type 0
AtEnd s indents found = (out : Outcome (List Token)) × AtLine s indents found out

InEnd : Spot → List ℕ → Levels → List Token → Type 0
InEnd s indents levels found = (out : Outcome (List Token)) × InLine s indents levels found out

-- from any place with at most so many bytes
AtLaw : ℕ → Type 0
AtLaw n = (s : Spot) (indents : List ℕ) (found : List Token) → length (rest_at s) ≤ n → AtEnd s indents found

InLaw : ℕ → Type 0
InLaw n = (s : Spot) (indents : List ℕ) (levels : Levels) (found : List Token) → length (rest_at s) ≤ n → InEnd s indents levels found

-- ---- cases

empty_or_more : {A : Type 0} (xs : List A) → (xs ≡ []) ⊎ (0 < length xs)
empty_or_more [] = inl refl
empty_or_more (x ∷ xs) = inr (omega arith)

lt_or_le : (a b : ℕ) → (a < b) ⊎ (b ≤ a)
lt_or_le a b = elim (ltb a b) as (λ v. ltb a b ≡ v → (a < b) ⊎ (b ≤ a)) [ true ↦ λ e. inl (ltb-true a b e) | false ↦ λ e. inr (ltb-false a b e) ] refl

same_or_not : (a b : ℕ) → (a ≡ b) ⊎ (a ≡ b → ⊥)
same_or_not a b = elim (eqb a b) as (λ v. eqb a b ≡ v → (a ≡ b) ⊎ (a ≡ b → ⊥)) [ true ↦ λ e. inl (eqb-true a b e) | false ↦ λ e. inr (eqb-false a b e) ] refl

-- ---- inside a logical line

module _ (n : ℕ) (at_next : AtLaw n) (in_next : InLaw n) (s : Spot) (indents : List ℕ) (levels : Levels) (found : List Token) (more : HasMore s) (le : length (rest_at s) ≤ suc n) where
  counts : (kind : TokenKind) (rest : Bytes) → next_piece (size_at s) (rest_at s) ≡ Ok (p.Lexeme kind, rest)
      → (o : Outcome Levels) → counted s.at (role_of kind) levels ≡ o → InEnd s indents levels found
  unfolding InEnd AtLaw InLaw
  counts kind rest e (Ok after) c =
      let d = in_next (behind s rest) indents after (with_token kind s rest found) (behind_shorter s rest n (piece_shorter (size_at s) (rest_at s) (p.Lexeme kind) rest e) le) in
      (d.0, r.lexeme more e c d.1)
  counts kind rest e (Err f) c = (Err f, r.limit more e c)

  line_end : (rest : Bytes) → next_piece (size_at s) (rest_at s) ≡ Ok (p.LineEnd, rest) → (levels.outer ≡ []) ⊎ (0 < length levels.outer) → InEnd s indents levels found
  unfolding InEnd AtEnd AtLaw InLaw
  line_end rest e (inl none) =
      let d = at_next (behind s rest) indents (with_token kind.Newline s rest found) (behind_shorter s rest n (piece_shorter (size_at s) (rest_at s) p.LineEnd rest e) le) in
      (d.0, r.line_ends more e none d.1)
  line_end rest e (inr deep) =
      let d = in_next (behind s rest) indents levels found (behind_shorter s rest n (piece_shorter (size_at s) (rest_at s) p.LineEnd rest e) le) in
      (d.0, r.in_brackets more e deep d.1)

  takes : (piece : Piece) (rest : Bytes) → next_piece (size_at s) (rest_at s) ≡ Ok (piece, rest) → InEnd s indents levels found
  unfolding InEnd InLaw
  takes p.Blank rest e =
      let d = in_next (behind s rest) indents levels found (behind_shorter s rest n (piece_shorter (size_at s) (rest_at s) p.Blank rest e) le) in
      (d.0, r.nothing more e d.1)
  takes p.LineEnd rest e = line_end rest e (empty_or_more levels.outer)
  takes (p.Lexeme kind) rest e = counts kind rest e (counted s.at (role_of kind) levels) refl

  reads_piece : (o : Outcome (Piece × Bytes)) → next_piece (size_at s) (rest_at s) ≡ o → InEnd s indents levels found
  unfolding InEnd
  reads_piece (Ok x) e = takes x.0 x.1 e
  reads_piece (Err f) e = (Err f, r.bad_piece more e)

in_step : (n : ℕ) → AtLaw n → InLaw n → InLaw (suc n)
unfolding InLaw InEnd
in_step n at_next in_next s indents levels found le =
    elim (empty_or_more (rest_at s)) [
      | inl none ↦ (Ok (ended s indents (found ++ token_at kind.Newline 0 s ∷ [])), r.line_open none)
      | inr more ↦ reads_piece n at_next in_next s indents levels found more le (next_piece (size_at s) (rest_at s)) refl
    ]

-- ---- where a logical line begins

module _ (n : ℕ) (at_next : AtLaw n) (in_here : InLaw (suc n)) (s : Spot) (indents : List ℕ) (found : List Token) (more : HasMore s) (le : length (rest_at s) ≤ suc n) where
  deeper_or : HasIndent s → innermost indents < width_at s → (length indents < 32) ⊎ (32 ≤ length indents) → AtEnd s indents found
  unfolding AtEnd InEnd InLaw
  deeper_or line lt (inl few) =
      let d = in_here (text_at s) (width_at s ∷ indents) no_brackets (found ++ token_at kind.Indent 0 (text_at s) ∷ []) (text_shorter s (suc n) le) in
      (d.0, r.deeper line lt few d.1)
  deeper_or line lt (inr many) = (Err (fault.Limit Blocks (s.at + width_at s)), r.too_deep line lt many)

  no_deeper_or : HasIndent s → width_at s ≤ innermost indents → (innermost (kept (width_at s) indents) ≡ width_at s) ⊎ (innermost (kept (width_at s) indents) ≡ width_at s → ⊥) → AtEnd s indents found
  unfolding AtEnd InEnd InLaw
  no_deeper_or line not_more (inl same) =
      let d = in_here (text_at s) (kept (width_at s) indents) no_brackets (with_dedents (wider (width_at s) indents) (text_at s) found) (text_shorter s (suc n) le) in
      (d.0, r.no_deeper line not_more same d.1)
  no_deeper_or line not_more (inr other) = (Err (fault.BadIndent s.at), r.bad_indent line not_more other)

  indents_or : HasIndent s → (innermost indents < width_at s) ⊎ (width_at s ≤ innermost indents) → AtEnd s indents found
  indents_or line (inl lt) = deeper_or line lt (lt_or_le (length indents) 32)
  indents_or line (inr not_more) = no_deeper_or line not_more (same_or_not (innermost (kept (width_at s) indents)) (width_at s))

  tab_or : HasText s → (b : Bool) → has_tab (take (width_at s) (rest_at s)) ≡ b → AtEnd s indents found
  unfolding AtEnd
  tab_or line true e = (Err (fault.BadIndent s.at), r.tab line e)
  tab_or line false e = indents_or (record { line = line; no_tab = e }) (lt_or_le (innermost indents) (width_at s))

  blank_or : (o : Option Bytes) → blank_line (size_at s) (rest_at s) ≡ Ok o → AtEnd s indents found
  unfolding AtEnd AtLaw
  blank_or (Some rest) e =
      let d = at_next (behind s rest) indents found (behind_shorter s rest n (line_shorter (size_at s) (rest_at s) rest more e) le) in
      (d.0, r.blank more e d.1)
  blank_or None e = tab_or (record { more = more; text = e }) (has_tab (take (width_at s) (rest_at s))) refl

  reads_line : (o : Outcome (Option Bytes)) → blank_line (size_at s) (rest_at s) ≡ o → AtEnd s indents found
  unfolding AtEnd
  reads_line (Ok o) e = blank_or o e
  reads_line (Err f) e = (Err f, r.bad_comment more e)

at_step : (n : ℕ) → AtLaw n → InLaw (suc n) → AtLaw (suc n)
unfolding AtLaw AtEnd
at_step n at_next in_here s indents found le =
    elim (empty_or_more (rest_at s)) [
      | inl none ↦ (Ok (ended s indents found), r.source_ends none)
      | inr more ↦ reads_line n at_next in_here s indents found more le (blank_line (size_at s) (rest_at s)) refl
    ]

-- ---- any source

is_empty : {A : Type 0} (xs : List A) → length xs ≤ 0 → xs ≡ []
is_empty [] le = refl
is_empty (x ∷ xs) le = absurd (omega arith)

both : (n : ℕ) → AtLaw n × InLaw n
unfolding AtLaw InLaw AtEnd InEnd
both zero = (
  λ s indents found le. (Ok (ended s indents found), r.source_ends (is_empty (rest_at s) le)),
  λ s indents levels found le. (Ok (ended s indents (found ++ token_at kind.Newline 0 s ∷ [])), r.line_open (is_empty (rest_at s) le)),
)
both (suc n) =
    let next = both n in
    let in_here = in_step n next.0 next.1 in
    (at_step n next.0 in_here, in_here)

pub ends_somehow : (source : Bytes) → (out : Outcome (List Token)) × AtLine (start_of source) [] [] out
unfolding AtLaw AtEnd
ends_somehow source = (both (length source)).0 (start_of source) [] [] (omega (arith, length-drop 0 source))

-- the list of tokens is what the relation says
pub is_read : (source : Bytes) → AtLine (start_of source) [] [] (token_list source)
is_read source =
    let d = ends_somehow source in
    subst (λ out. AtLine (start_of source) [] [] out) (sym (list_is source d.0 d.1)) d.1
