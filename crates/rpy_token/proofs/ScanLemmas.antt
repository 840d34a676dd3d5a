-- One more turn.
use Rattle.std.proofs.Common.{◌≡◌, ℕ, zero, suc, ◌+◌, ◌-◌, ◌<◌, true, false, cond, eqb, ltb, List, [], ◌∷◌, ◌++◌, length, replicate, Option, Some, None, MatchOption, Ok, refl, ap, ◌∙◌, sym, arith, append_assoc, append-nil}
use Rattle.std.proofs.lemmas.Bool.Decides.{nat_tests}
use Rattle.std.proofs.lemmas.List.{replicate-append-replicate}
use Rattle.rpy_token.specs.declared.fault.TokenFault.{TokenFault}
use Rattle.rpy_token.specs.declared.scan.Scan.{Scan}
use Rattle.rpy_token.specs.declared.token.Token.{Token}
use Rattle.rpy_token.specs.Fault.{Outcome, ◌>>=◌, Fails}
use Rattle.rpy_token.specs.Lines.{Spot, rest_at}
use Rattle.rpy_token.specs.declared.token.TokenKind.TheVariants as kind
use Rattle.rpy_token.specs.Indents.{wider, kept}
use Rattle.rpy_token.specs.Lines.{token_at}
use Rattle.rpy_token.specs.Scan.{turn, run, finish, put, has_wider, close_indents}
use Rattle.rpy_token.proofs.QuotedLemmas.{fails, carry}

pub one_closed : (n : ℕ) (t : Token) (found : List Token) → (found ++ replicate n t) ++ t ∷ [] ≡ found ++ replicate (n + 1) t
one_closed n t found = append_assoc found (replicate n t) (t ∷ []) ∙ ap (λ ts. found ++ ts) (replicate-append-replicate n 1 t)

not_zero : (n : ℕ) → 0 < n → eqb n 0 ≡ false
not_zero n some = grind (arith, nat_tests)

unroll : (n at : ℕ) (spot : Spot) (scan : Scan) → at < n → 0 < length (rest_at spot)
    → run (n - at) spot scan ≡ (turn spot scan >>= λ x. run (n - (at + 1)) x.0 x.1)
unroll n at spot scan lt some =
    let e : n - at ≡ suc (n - (at + 1)) = omega arith in
    ap (λ k. run k spot scan) e ∙ ap (λ b. cond b (Ok (finish spot scan)) (turn spot scan >>= λ x. run (n - (at + 1)) x.0 x.1)) (not_zero (length (rest_at spot)) some)

pub run_more : (n at : ℕ) (spot : Spot) (scan : Scan) (next : Spot) (after : Scan) → at < n → 0 < length (rest_at spot) → turn spot scan ≡ Ok (next, after)
    → run (n - at) spot scan ≡ run (n - (at + 1)) next after
run_more n at spot scan next after lt some e = unroll n at spot scan lt some ∙ ap (λ o. o >>= λ x. run (n - (at + 1)) x.0 x.1) e

pub run_done : (n : ℕ) (spot : Spot) (scan : Scan) → length (rest_at spot) ≡ 0 → run n spot scan ≡ Ok (finish spot scan)
run_done zero spot scan none = refl
run_done (suc n) spot scan none = ap (λ k. cond (eqb k 0) (Ok (finish spot scan)) (turn spot scan >>= λ x. run n x.0 x.1)) none

pub run_fails : (e : TokenFault) (n at : ℕ) (spot : Spot) (scan : Scan) (total : Outcome (List Token)) → total ≡ run (n - at) spot scan → at < n → 0 < length (rest_at spot)
    → Fails e (turn spot scan) → Fails e total
run_fails e n at spot scan total so_far lt some h =
    carry e total _ (so_far ∙ unroll n at spot scan lt some) (fails e (turn spot scan) _ h)

-- ---- one more Dedent

closes_one : (width top : ℕ) (new : List ℕ) (spot : Spot) (now after : Scan) → after ≡ put kind.Dedent 0 spot now → now.indents ≡ top ∷ new → ltb width top ≡ true
    → close_indents width spot (record after { indents = new }) ≡ close_indents width spot now
unfolding kept wider
closes_one width top new spot now after one is lt =
    let t : Token = token_at kind.Dedent 0 spot in
    let k : kept width now.indents ≡ kept width new = ap (kept width) is ∙ ap (λ b. cond b (kept width new) (top ∷ new)) lt in
    let w : wider width now.indents ≡ suc (wider width new) = ap (wider width) is ∙ ap (λ b. cond b (suc (wider width new)) 0) lt in
    let f : (now.found ++ t ∷ []) ++ replicate (wider width new) t ≡ now.found ++ replicate (wider width now.indents) t =
    append_assoc now.found (t ∷ []) (replicate (wider width new) t) ∙ ap (λ m. now.found ++ replicate m t) (sym w) in
    ap (λ (s : Scan). close_indents width spot (record s { indents = new })) one
    ∙ ap (λ (is : List ℕ). record now { indents = is; found = (now.found ++ t ∷ []) ++ replicate (wider width new) t }) (sym k)
    ∙ ap (λ (fs : List Token). record now { indents = kept width now.indents; found = fs }) f

pub one_wider : (width : ℕ) (spot : Spot) (before now after : Scan) (o : Option ℕ) (new : List ℕ)
    → close_indents width spot now ≡ close_indents width spot before → after ≡ put kind.Dedent 0 spot now → has_wider width now.indents ≡ true
    → MatchOption o ((after.indents ≡ []) × (new ≡ [])) (λ top. after.indents ≡ top ∷ new)
    → close_indents width spot (record after { indents = new }) ≡ close_indents width spot before
one_wider width spot before now after None new so_far one more pop =
    let none : now.indents ≡ [] = sym (ap (λ (s : Scan). s.indents) one) ∙ pop.0 in
    let no_more : has_wider width now.indents ≡ false = ap (has_wider width) none in
    absurd cc
one_wider width spot before now after (Some top) new so_far one more pop =
    let is : now.indents ≡ top ∷ new = sym (ap (λ (s : Scan). s.indents) one) ∙ pop in
    closes_one width top new spot now after one is (sym (ap (has_wider width) is) ∙ more) ∙ so_far

kept_same : (width : ℕ) (is : List ℕ) → has_wider width is ≡ false → (kept width is ≡ is) × (wider width is ≡ 0)
unfolding kept wider
kept_same width [] h = (refl, refl)
kept_same width (i ∷ is) h = (ap (λ b. cond b (kept width is) (i ∷ is)) h, ap (λ b. cond b (suc (wider width is)) 0) h)

pub none_wider : (width : ℕ) (spot : Spot) (scan : Scan) → has_wider width scan.indents ≡ false → close_indents width spot scan ≡ scan
none_wider width spot scan none =
    let t : Token = token_at kind.Dedent 0 spot in
    let k = kept_same width scan.indents none in
    ap (λ (is : List ℕ). record scan { indents = is; found = scan.found ++ replicate (wider width scan.indents) t }) k.0
    ∙ ap (λ (n : ℕ). record scan { found = scan.found ++ replicate n t }) k.1
    ∙ ap (λ (fs : List Token). record scan { found = fs }) (append-nil scan.found)
