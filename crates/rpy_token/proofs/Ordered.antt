-- The tokens of a source stand in order.
use Rattle.std.proofs.Common.{◌≡◌, ℕ, zero, suc, ◌+◌, ◌≤◌, List, [], ◌∷◌, ◌++◌, length, replicate, refl, sym, subst, arith, append_assoc, append-nil}
use Rattle.std.proofs.lemmas.List.{length-drop}
use Rattle.rpy_token.specs.declared.levels.Levels.{Levels}
use Rattle.rpy_token.specs.declared.token.Token.{Token}
use Rattle.rpy_token.specs.declared.token.TokenKind.{TokenKind}
use Rattle.rpy_token.specs.declared.token.TokenKind.TheVariants as kind
use Rattle.rpy_token.specs.Bytes.{Bytes, blank_len, is_blank}
use Rattle.rpy_token.specs.Fault.{Outcome}
use Rattle.rpy_token.specs.Lines.{Spot, rest_at, skip}
use Rattle.rpy_token.specs.Order.{IsSpan, InOrder}
use Rattle.rpy_token.specs.Indents.{wider}
use Rattle.rpy_token.specs.Lines.{token_at, used, with_dedents}
use Rattle.rpy_token.specs.Relation as r
use Rattle.rpy_token.specs.Relation.{behind, with_token, ended, width_at, text_at, AtLine, InLine, start_of, IsTokens}
use Rattle.rpy_token.proofs.Outcomes.{OnRead, on_if}

last_end : ℕ → List Token → ℕ
last_end from [] = from
last_end from (t ∷ ts) = last_end t.end ts

order_push : (source : Bytes) (from : ℕ) (ts : List Token) (t : Token) → InOrder source from ts → IsSpan source (last_end from ts) t → InOrder source from (ts ++ t ∷ [])
unfolding last_end
order_push source from [] t order span = (span, tt)
order_push source from (x ∷ ts) t order span = (order.0, order_push source x.end ts t order.1 span)

last_push : (from : ℕ) (ts : List Token) (t : Token) → last_end from (ts ++ t ∷ []) ≡ t.end
unfolding last_end
last_push from [] t = refl
last_push from (x ∷ ts) t = last_push x.end ts t

-- what was read stands before a place of the source
record Before (s : Spot) (found : List Token) : Type 0 where
  pub order : InOrder s.source 0 found
  pub last : last_end 0 found ≤ s.at
  pub at : s.at ≤ length s.source

push_before : (kind : TokenKind) (n : ℕ) (s : Spot) (found : List Token) → Before s found → n ≤ length (rest_at s) → Before (skip n s) (found ++ token_at kind n s ∷ [])
push_before kind n s found b le =
    let end : s.at + n ≤ length s.source = omega (arith, b.at, length-drop s.at s.source) in
    record {
      order = order_push s.source 0 found (token_at kind n s) b.order (record { behind = b.last; forward = omega arith; inside = end; line = refl });
      last = omega (arith, last_push 0 found (token_at kind n s));
      at = end;
    }

skip_before : (n : ℕ) (s : Spot) (found : List Token) → Before s found → n ≤ length (rest_at s) → Before (skip n s) found
skip_before n s found b le = record { order = b.order; last = omega (arith, b.last); at = omega (arith, b.at, length-drop s.at s.source) }

stay : (s : Spot) (found : List Token) → Before (skip 0 s) found → Before s found
stay s found b = record { order = b.order; last = omega (arith, b.last); at = omega (arith, b.at) }

dedents_before : (n : ℕ) (s : Spot) (found : List Token) → Before s found → Before s (with_dedents n s found)
dedents_before zero s found b = subst (Before s) (sym (append-nil found)) b
dedents_before (suc n) s found b =
    let t : Token = token_at kind.Dedent 0 s in
    subst (Before s) (append_assoc found (t ∷ []) (replicate n t)) (dedents_before n s (found ++ t ∷ []) (stay s (found ++ t ∷ []) (push_before kind.Dedent 0 s found b (omega arith))))

ended_order : (n : ℕ) (s : Spot) (found : List Token) → Before s found → InOrder s.source 0 (with_dedents n s found ++ token_at kind.End 0 s ∷ [])
ended_order n s found b = (push_before kind.End 0 s (with_dedents n s found) (dedents_before n s found b) (omega arith)).order

blank_len-le : (bytes : Bytes) → blank_len bytes ≤ length bytes
unfolding blank_len
blank_len-le [] = omega arith
blank_len-le (b ∷ bs) = on_if (λ n. n ≤ length (b ∷ bs)) (is_blank b) (suc (blank_len bs)) 0 (λ _. omega (arith, blank_len-le bs)) (λ _. omega arith)

used-le : (bytes rest : Bytes) → used bytes rest ≤ length bytes
used-le bytes rest = omega arith

text_before : (s : Spot) (found : List Token) → Before s found → Before (text_at s) found
text_before s found b = skip_before (width_at s) s found b (blank_len-le (rest_at s))

behind_before : (s : Spot) (rest : Bytes) (found : List Token) → Before s found → Before (behind s rest) found
behind_before s rest found b = skip_before (used (rest_at s) rest) s found b (used-le (rest_at s) rest)

token_before : (kind : TokenKind) (s : Spot) (rest : Bytes) (found : List Token) → Before s found → Before (behind s rest) (with_token kind s rest found)
token_before kind s rest found b = push_before kind (used (rest_at s) rest) s found b (used-le (rest_at s) rest)

mutual
  at_line_order : {s : Spot} {indents : List ℕ} {found : List Token} {out : Outcome (List Token)} → AtLine s indents found out → Before s found → OnRead (InOrder s.source 0) out
  at_line_order {s = s} {indents = indents} {found = found} (r.source_ends e) b = ended_order (length indents) s found b
  at_line_order {s = s} {found = found} (r.blank {rest = rest} more e d) b = at_line_order d (behind_before s rest found b)
  at_line_order (r.bad_comment more e) b = tt
  at_line_order (r.tab line e) b = tt
  at_line_order {s = s} {found = found} (r.deeper line lt few d) b =
      in_line_order d (stay (text_at s) (found ++ token_at kind.Indent 0 (text_at s) ∷ []) (push_before kind.Indent 0 (text_at s) found (text_before s found b) (omega arith)))
  at_line_order (r.too_deep line lt many) b = tt
  at_line_order {s = s} {indents = indents} {found = found} (r.no_deeper line le same d) b = in_line_order d (dedents_before (wider (width_at s) indents) (text_at s) found (text_before s found b))
  at_line_order (r.bad_indent line le other) b = tt

  in_line_order : {s : Spot} {indents : List ℕ} {levels : Levels} {found : List Token} {out : Outcome (List Token)} → InLine s indents levels found out → Before s found → OnRead (InOrder s.source 0) out
  in_line_order {s = s} {indents = indents} {found = found} (r.line_open e) b =
      ended_order (length indents) s (found ++ token_at kind.Newline 0 s ∷ []) (stay s (found ++ token_at kind.Newline 0 s ∷ []) (push_before kind.Newline 0 s found b (omega arith)))
  in_line_order (r.bad_piece more e) b = tt
  in_line_order {s = s} {found = found} (r.nothing {rest = rest} more e d) b = in_line_order d (behind_before s rest found b)
  in_line_order {s = s} {found = found} (r.in_brackets {rest = rest} more e deep d) b = in_line_order d (behind_before s rest found b)
  in_line_order {s = s} {found = found} (r.line_ends {rest = rest} more e none d) b = at_line_order d (token_before kind.Newline s rest found b)
  in_line_order {s = s} {found = found} (r.lexeme {kind = kind} {rest = rest} more e counts d) b = in_line_order d (token_before kind s rest found b)
  in_line_order (r.limit more e counts) b = tt

pub tokens_order : (source : Bytes) (list : List Token) → IsTokens source list → InOrder source 0 list
unfolding last_end
tokens_order source list d = at_line_order d (record { order = tt; last = omega arith; at = omega arith })
