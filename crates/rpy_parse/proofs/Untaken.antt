-- Rules that go on with nothing, and one that ends with a bracket: what they read is known.
use Rattle.std.proofs.Common.{◌≡◌, ℕ, Bool, true, false, cond, Ok, refl, sym, ap, ◌∙◌}
use Rattle.rpy_token.specs.declared.token.Token.{Token}
use Rattle.rpy_token.specs.declared.token.Keyword.TheVariants as word
use Rattle.rpy_token.specs.declared.token.Sign.TheVariants as sign
use Rattle.rpy_parse.specs.declared.found.Got.{Got}
use Rattle.rpy_parse.specs.declared.found.Listed.{Listed}
use Rattle.rpy_parse.specs.declared.found.Aimed.{Aimed}
use Rattle.rpy_parse.specs.Input.{Input, sees}
use Rattle.rpy_parse.specs.Kind.{sign_kind, word_kind}
use Rattle.rpy_parse.specs.Build.{Lines, bracketed}
use Rattle.rpy_parse.specs.Rule.{Outcome, Parser, and_then, eat}
use Rattle.rpy_parse.specs.Shapes.{OrRest, AndRest, BitOrRest, BitXorRest, BitAndRest, ExprsRest, ItemsRest, GoalRest, Trailers, Paren, Exprs}
use Rattle.rpy_parse.specs.Rows.{reading}
use Rattle.rpy_parse.proofs.Laws.{done}
use Rattle.rpy_parse.proofs.Look.{by_looks}

-- a choice that is not taken
other : {A : Type 0} (b : Bool) (o p r : Outcome A) → b ≡ false → p ≡ r → cond b o p ≡ r
other true o p r e h = absurd cc
other false o p r e h = h

-- nothing is read
none : {A : Type 0} (a : A) (i j : Input) → j ≡ i → done (a, i) ≡ done (a, j)
none a i j e = ap (λ (w : Input). done (a, w)) (sym e)

then_ok : {A B : Type 0} (o : Outcome A) (f : A → Parser B) (a : A) (j : Input) (r : Outcome B) → o ≡ Ok (a, j) → f a j ≡ r → and_then o f ≡ r
then_ok o f a j r e h = ap (λ w. and_then w f) e ∙ h

pub or_rest_none : (a : Got) (i j : Input) → sees (word_kind word.Or) i ≡ false → j ≡ i → reading OrRest a i ≡ Ok (a, j)
or_rest_none a i j s e = by_looks OrRest a i ∙ other (sees (word_kind word.Or) i) _ (done (a, i)) (done (a, j)) s (none a i j e)

pub and_rest_none : (a : Got) (i j : Input) → sees (word_kind word.And) i ≡ false → j ≡ i → reading AndRest a i ≡ Ok (a, j)
and_rest_none a i j s e = by_looks AndRest a i ∙ other (sees (word_kind word.And) i) _ (done (a, i)) (done (a, j)) s (none a i j e)

pub bit_or_rest_none : (a : Got) (i j : Input) → sees (sign_kind sign.Bar) i ≡ false → j ≡ i → reading BitOrRest a i ≡ Ok (a, j)
bit_or_rest_none a i j s e = by_looks BitOrRest a i ∙ other (sees (sign_kind sign.Bar) i) _ (done (a, i)) (done (a, j)) s (none a i j e)

pub bit_xor_rest_none : (a : Got) (i j : Input) → sees (sign_kind sign.Caret) i ≡ false → j ≡ i → reading BitXorRest a i ≡ Ok (a, j)
bit_xor_rest_none a i j s e = by_looks BitXorRest a i ∙ other (sees (sign_kind sign.Caret) i) _ (done (a, i)) (done (a, j)) s (none a i j e)

pub bit_and_rest_none : (a : Got) (i j : Input) → sees (sign_kind sign.Ampersand) i ≡ false → j ≡ i → reading BitAndRest a i ≡ Ok (a, j)
bit_and_rest_none a i j s e = by_looks BitAndRest a i ∙ other (sees (sign_kind sign.Ampersand) i) _ (done (a, i)) (done (a, j)) s (none a i j e)

pub exprs_rest_none : (a : Got) (i j : Input) → sees (sign_kind sign.Comma) i ≡ false → j ≡ i → reading ExprsRest a i ≡ Ok (a, j)
exprs_rest_none a i j s e = by_looks ExprsRest a i ∙ other (sees (sign_kind sign.Comma) i) _ (done (a, i)) (done (a, j)) s (none a i j e)

pub items_rest_none : (a : Listed) (i j : Input) → sees (sign_kind sign.Comma) i ≡ false → j ≡ i → reading ItemsRest a i ≡ Ok (a, j)
items_rest_none a i j s e = by_looks ItemsRest a i ∙ other (sees (sign_kind sign.Comma) i) _ (done (a, i)) (done (a, j)) s (none a i j e)

pub goal_rest_none : (a : Aimed) (i j : Input) → sees (sign_kind sign.Comma) i ≡ false → j ≡ i → reading GoalRest a i ≡ Ok (a, j)
goal_rest_none a i j s e = by_looks GoalRest a i ∙ other (sees (sign_kind sign.Comma) i) _ (done (a, i)) (done (a, j)) s (none a i j e)

pub trailers_none : (a : Got) (i i1 i2 j : Input) → sees (sign_kind sign.Dot) i ≡ false → i1 ≡ i → sees (sign_kind sign.OpenParen) i1 ≡ false → i2 ≡ i1 → sees (sign_kind sign.OpenBracket) i2 ≡ false → j ≡ i2 → reading Trailers a i ≡ Ok (a, j)
trailers_none a i i1 i2 j s1 e1 s2 e2 s3 e3 =
    by_looks Trailers a i
    ∙ other (sees (sign_kind sign.Dot) i) _ _ (done (a, j)) s1
    (other (sees (sign_kind sign.OpenParen) i) _ _ (done (a, j)) (ap (sees (sign_kind sign.OpenParen)) (sym e1) ∙ s2)
    (other (sees (sign_kind sign.OpenBracket) i) _ (done (a, i)) (done (a, j)) (ap (sees (sign_kind sign.OpenBracket)) (sym (e2 ∙ e1)) ∙ s3) (none a i j (e3 ∙ e2 ∙ e1))))

pub paren_ends : (n : Lines) (l : ℕ) (i i1 j k : Input) (a : Got) (t : Token) → sees (sign_kind sign.CloseParen) i ≡ false → i1 ≡ i → reading Exprs n i1 ≡ Ok (a, j) → eat (sign_kind sign.CloseParen) j ≡ Ok (t, k) → reading Paren (n, l) i ≡ Ok (bracketed a l, k)
paren_ends n l i i1 j k a t s e r x =
    by_looks Paren (n, l) i
    ∙ other (sees (sign_kind sign.CloseParen) i) _ _ (done (bracketed a l, k)) s
    (then_ok (reading Exprs n i) _ a j (done (bracketed a l, k)) (ap (reading Exprs n) (sym e) ∙ r) (then_ok (eat (sign_kind sign.CloseParen) j) _ t k (done (bracketed a l, k)) x refl))
