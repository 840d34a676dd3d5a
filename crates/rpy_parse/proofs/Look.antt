-- A reader that looks at the next token's kind alone.
use Rattle.std.proofs.Common.{◌≡◌, ℕ, Bool, true, false, cond, not, ◌&&◌, ◌||◌, [], ◌∷◌, length, Option, Some, None, Result, Ok, Err, refl, sym, ap, ◌∙◌, subst}
use Rattle.rpy_token.specs.declared.token.Token.{Token}
use Rattle.rpy_token.specs.declared.token.TokenKind.{TokenKind}
use Rattle.rpy_parse.specs.declared.fault.Stop.{Stop}
use Rattle.rpy_parse.specs.Input.{Input, first, first_kind, sees}
use Rattle.rpy_parse.specs.Kind.{kind, number}
use Rattle.rpy_parse.specs.Shape.{Shape, nothing, one, among, bit, both, either, only, Tables, reads_none, begins}
use Rattle.rpy_parse.specs.Shape as shape
use Rattle.rpy_parse.specs.Rule.{Outcome, Parser, and_then, eat, eat_such, eat_any, Rule, pure, tok, such, any, part, bind, choice, given, left, read, parse, Reads}
use Rattle.rpy_parse.specs.Shapes.{Part, tables}
use Rattle.rpy_parse.specs.Rows.{Arg, Val, rule, python, reading}
use Rattle.rpy_parse.proofs.Depth.{parse_is}
use Rattle.rpy_parse.proofs.Whole.{good}

abbrev pub at : (ℕ → Bool) → Option TokenKind → Bool
at f None = false
at f (Some x) = f (number x)

-- whether a shape that reads something begins with the next token
abbrev pub starts : {N : Type 0} → Tables N → Shape N → Input → Bool
starts T nothing i = false
starts T (one k) i = sees k i
starts T (among m) i = at (bit m) (first_kind i)
starts T (shape.part n) i = at (T.first n) (first_kind i)
starts T (both s u) i = cond (reads_none T s) (starts T s i || starts T u i) (starts T s i)
starts T (either s u) i = starts T s i || starts T u i
starts T (only s) i = starts T s i

or_nothing : (z : Bool) → z || false ≡ z
or_nothing true = refl
or_nothing false = refl

either_same : (b x y z w : Bool) → x ≡ z → y ≡ w → cond b (x || y) x ≡ z || (b && w)
either_same true x y z w e g = ap (λ (q : Bool). q || y) e ∙ ap (λ (q : Bool). z || q) g
either_same false x y z w e g = e ∙ sym (or_nothing z)

starts_is : {N : Type 0} (T : Tables N) (s : Shape N) (t : Token) (w : Input) → starts T s (t ∷ w) ≡ begins T s (kind t)
starts_is T nothing t w = refl
starts_is T (one k) t w = refl
starts_is T (among m) t w = refl
starts_is T (shape.part n) t w = refl
starts_is T (both s u) t w = either_same (reads_none T s) (starts T s (t ∷ w)) (starts T u (t ∷ w)) (begins T s (kind t)) (begins T u (kind t)) (starts_is T s t w) (starts_is T u t w)
starts_is T (either s u) t w = ap (λ (q : Bool). q || starts T u (t ∷ w)) (starts_is T s t w) ∙ ap (λ (q : Bool). begins T s (kind t) || q) (starts_is T u t w)
starts_is T (only s) t w = starts_is T s t w

no_more : (b x y : Bool) → x ≡ false → y ≡ false → cond b (x || y) x ≡ false
no_more true x y e g = ap (λ (q : Bool). q || y) e ∙ g
no_more false x y e g = e

starts_nil : {N : Type 0} (T : Tables N) (s : Shape N) → starts T s [] ≡ false
starts_nil T nothing = refl
starts_nil T (one k) = refl
starts_nil T (among m) = refl
starts_nil T (shape.part n) = refl
starts_nil T (both s u) = no_more (reads_none T s) (starts T s []) (starts T u []) (starts_nil T s) (starts_nil T u)
starts_nil T (either s u) = ap (λ (q : Bool). q || starts T u []) (starts_nil T s) ∙ starts_nil T u
starts_nil T (only s) = starts_nil T s

or_never : (x y z : Bool) → z ≡ false → x || (y && z) ≡ x
or_never true y z e = refl
or_never false true z e = e
or_never false false z e = refl

left_is : {N : Type 0} (T : Tables N) (s u : Shape N) → reads_none T s ≡ false → (i : Input) → left T s u i ≡ starts T s i
left_is T s u e [] = e ∙ sym (starts_nil T s)
left_is T s u e (t ∷ w) = or_never (begins T s (kind t)) (not (begins T u (kind t))) (reads_none T s) e ∙ sym (starts_is T s t w)

abbrev pub look : {N : Type 0} {Arg Val : N → Type 0} {s : Shape N} {A : Type 0} → Tables N → ((n : N) → Arg n → Parser (Val n)) → Rule Arg Val s A → Parser A
look T p (pure a) i = Ok (a, i)
look T p (tok k) i = eat k i
look T p (such k q x e) i = eat_such k q (first i) i
look T p (any m x e) i = eat_any m (first i) i
look T p (part n c) i = p n c i
look T p (bind r f) i = and_then (look T p r i) (λ a. look T p (f a))
look T p (choice {s = s} {u = u} r q) i =
    cond (reads_none T s) (cond (left T s u i) (look T p r i) (look T p q i)) (cond (starts T s i) (look T p r i) (look T p q i))
look T p (given x r) i = cond x (look T p r i) (Err (length i))

and_then_alike : {A B : Type 0} (o : Outcome A) (f g : A → Parser B) → ((a : A) (j : Input) → f a j ≡ g a j) → and_then o f ≡ and_then o g
and_then_alike (Ok p) f g h = h p.0 p.1
and_then_alike (Err n) f g h = refl

choice_alike : {A : Type 0} (b l s : Bool) (o o' q q' : Outcome A) → (b ≡ false → l ≡ s) → o ≡ o' → q ≡ q' → cond b (cond l o q) (cond s o q) ≡ cond l o' q'
choice_alike true l s o o' q q' h e g = ap (λ x. cond l x q) e ∙ ap (λ x. cond l o' x) g
choice_alike false l s o o' q q' h e g = ap (λ (x : Bool). cond x o q) (sym (h refl)) ∙ ap (λ x. cond l x q) e ∙ ap (λ x. cond l o' x) g

module _ {N : Type 0} {Arg Val : N → Type 0} (T : Tables N) (p : (n : N) → Arg n → Parser (Val n)) where
  pub look_is : {s : Shape N} {A : Type 0} (r : Rule Arg Val s A) (i : Input) → look T p r i ≡ read T p r i
  look_is (pure a) i = refl
  look_is (tok k) i = refl
  look_is (such k q x e) i = refl
  look_is (any m x e) i = refl
  look_is (part n c) i = refl
  look_is (bind r f) i =
      and_then_alike (look T p r i) (λ a. look T p (f a)) (λ a. read T p (f a)) (λ a j. look_is (f a) j)
      ∙ ap (λ o. and_then o (λ a. read T p (f a))) (look_is r i)
  look_is (choice {s = s} {u = u} r q) i =
      choice_alike (reads_none T s) (left T s u i) (starts T s i) (look T p r i) (read T p r i) (look T p q i) (read T p q i) (λ e. left_is T s u e i) (look_is r i) (look_is q i)
  look_is (given x r) i = ap (λ o. cond x o (Err (length i))) (look_is r i)

pub by_looks : (n : Part) (c : Arg n) (i : Input) → reading n c i ≡ look tables reading (rule n c) i
unfolding reading
by_looks n c i = parse_is python good n c i ∙ sym (look_is tables (parse python) (rule n c) i)

pub reads_by : (n : Part) (c : Arg n) (i : Input) (r : Result (Val n) Stop) (j : Input) → Reads (look tables reading (rule n c) i) r j → Reads (reading n c i) r j
reads_by n c i r j h = subst (λ o. Reads o r j) (sym (by_looks n c i)) h
