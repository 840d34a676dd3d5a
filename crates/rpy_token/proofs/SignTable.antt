-- The code's families of keywords and signs are the tables.
use Rattle.std.proofs.Common.{◌≡◌, ℕ, ◌&&◌, Bool, true, false, cond, eqb, List, [], ◌∷◌, ◌++◌, map, Option, Some, None, refl, sym, ap, ◌∙◌, arith}
use Rattle.std.specs.Str.{bytes_eq}
use Rattle.std.proofs.lemmas.Bool.{eqb-true, eqb-false}
use Rattle.std.proofs.lemmas.Bool.Decides.{nat_tests}
use Rattle.rpy_token.specs.declared.token.Sign.{Sign}
use Rattle.rpy_token.specs.declared.token.Sign.TheVariants as s
use Rattle.rpy_token.specs.Bytes.{Bytes}
use Rattle.rpy_token.specs.Families.{first_of_two, and_rest, doubled_assign, before_equals, doubled, operator, punctuation, sign_of_three, sign_of_two, sign_of_one, sign_of, short_keyword, middle_keyword, long_keyword, keyword_by_length}
use Rattle.rpy_token.specs.Words.{look_up, short_keywords, middle_keywords, long_keywords, keyword, after_text, row_or, first_row, signs, longest_sign}
use Rattle.rpy_token.proofs.Outcomes.{on_test}

-- ---- families

abbrev Family : Type 0
Family = List (ℕ × Sign)

abbrev chain : Family → ℕ → Option Sign
chain [] a = None
chain (p ∷ ps) a = cond (eqb a p.0) (Some p.1) (chain ps a)

abbrev threes : Family
threes = (47, s.FloorDivAssign) ∷ (60, s.ShlAssign) ∷ (62, s.ShrAssign) ∷ []

abbrev equals : Family
equals = (43, s.AddAssign) ∷ (45, s.SubAssign) ∷ (42, s.MulAssign) ∷ (47, s.DivAssign) ∷ (37, s.ModAssign) ∷ (38, s.AndAssign) ∷ (124, s.OrAssign) ∷ (94, s.XorAssign) ∷ (61, s.EqualEqual) ∷ (33, s.NotEqual) ∷ (60, s.LessEqual) ∷ (62, s.GreaterEqual) ∷ []

abbrev doubles : Family
doubles = (47, s.FloorDiv) ∷ (60, s.ShiftLeft) ∷ (62, s.ShiftRight) ∷ []

abbrev operators : Family
operators = (43, s.Plus) ∷ (45, s.Minus) ∷ (42, s.Star) ∷ (47, s.Slash) ∷ (37, s.Percent) ∷ (38, s.Ampersand) ∷ (124, s.Bar) ∷ (94, s.Caret) ∷ (126, s.Tilde) ∷ (60, s.Less) ∷ (62, s.Greater) ∷ []

abbrev marks : Family
marks = (61, s.Equal) ∷ (40, s.OpenParen) ∷ (41, s.CloseParen) ∷ (91, s.OpenBracket) ∷ (93, s.CloseBracket) ∷ (123, s.OpenBrace) ∷ (125, s.CloseBrace) ∷ (44, s.Comma) ∷ (58, s.Colon) ∷ (59, s.Semicolon) ∷ (46, s.Dot) ∷ (64, s.At) ∷ []

abbrev three : ℕ × Sign → Bytes × Sign
three p = (p.0 ∷ p.0 ∷ 61 ∷ [], p.1)

abbrev equal : ℕ × Sign → Bytes × Sign
equal p = (p.0 ∷ 61 ∷ [], p.1)

abbrev double : ℕ × Sign → Bytes × Sign
double p = (p.0 ∷ p.0 ∷ [], p.1)

abbrev one : ℕ × Sign → Bytes × Sign
one p = (p.0 ∷ [], p.1)

split : signs ≡ map three threes ++ (map equal equals ++ (map double doubles ++ map one (operators ++ marks)))
split = refl

-- ---- rows of a family

row_or-either : {A : Type 0} (x : A) (o : Option Bytes) (m n : Option (A × Bytes)) → row_or x o (first_of_two m n) ≡ first_of_two (row_or x o m) n
row_or-either x (Some rest) m n = refl
row_or-either x None m n = refl

first_row-append : (xs ys : List (Bytes × Sign)) (bytes : Bytes) → first_row (xs ++ ys) bytes ≡ first_of_two (first_row xs bytes) (first_row ys bytes)
first_row-append [] ys bytes = refl
first_row-append (row ∷ rows) ys bytes = ap (row_or row.1 (after_text row.0 bytes)) (first_row-append rows ys bytes) ∙ row_or-either row.1 (after_text row.0 bytes) (first_row rows bytes) (first_row ys bytes)

chain-append : (ps qs : Family) (a : ℕ) → chain (ps ++ qs) a ≡ first_of_two (chain ps a) (chain qs a)
chain-append [] qs a = refl
chain-append (p ∷ ps) qs a =
    on_test (λ b. cond b (Some p.1) (chain (ps ++ qs) a) ≡ first_of_two (cond b (Some p.1) (chain ps a)) (chain qs a)) (eqb a p.0) (λ _. refl) (λ _. chain-append ps qs a)

no_eqb : (a b : ℕ) → ¬ (a ≡ b) → eqb a b ≡ false
no_eqb a b h = grind (arith, nat_tests)

eqb-swap : (a b : ℕ) → eqb a b ≡ eqb b a
eqb-swap a b =
    elim (eqb a b) as (λ t. eqb a b ≡ t → t ≡ eqb b a) [
      | true ↦ λ e. sym (ap (λ x. eqb x a) (sym (eqb-true a b e)) ∙ ap (eqb a) (eqb-true a b e) ∙ e)
      | false ↦ λ e. sym (no_eqb b a (λ q. eqb-false a b e (sym q)))
    ] refl

flipped : (a b k : ℕ) → a ≡ k → eqb b k ≡ eqb a b
flipped a b k e = ap (eqb b) (sym e) ∙ eqb-swap b a

-- where one byte is known, another equals it as it equals the known one
same_as : (a b k : ℕ) (x y : Option Bytes) → cond (eqb a k) (cond (eqb b k) x y) None ≡ cond (eqb a k) (cond (eqb a b) x y) None
same_as a b k x y =
    elim (eqb a k) as (λ t. eqb a k ≡ t → cond t (cond (eqb b k) x y) None ≡ cond t (cond (eqb a b) x y) None) [
      | true ↦ λ e. let q : eqb b k ≡ eqb a b = flipped a b k (eqb-true a k e) in ap (λ t. cond t x y) q
      | false ↦ λ e. refl
    ] refl

step_three : (x y z : Bool) (sign : Sign) (rest : Bytes) (more : Option Sign) (f : Option (Sign × Bytes)) → f ≡ cond (y && z) (and_rest more rest) None
    → row_or sign (cond x (cond y (cond z (Some rest) None) None) None) f ≡ cond (y && z) (and_rest (cond x (Some sign) more) rest) None
step_three true true true sign rest more f h = refl
step_three true true false sign rest more f h = h
step_three true false z sign rest more f h = h
step_three false y z sign rest more f h = h

step_two : (x y : Bool) (sign : Sign) (rest : Bytes) (more : Option Sign) (f : Option (Sign × Bytes)) → f ≡ cond y (and_rest more rest) None
    → row_or sign (cond x (cond y (Some rest) None) None) f ≡ cond y (and_rest (cond x (Some sign) more) rest) None
step_two true true sign rest more f h = refl
step_two true false sign rest more f h = h
step_two false y sign rest more f h = h

step_one : (x : Bool) (sign : Sign) (rest : Bytes) (more : Option Sign) (f : Option (Sign × Bytes)) → f ≡ and_rest more rest
    → row_or sign (cond x (Some rest) None) f ≡ and_rest (cond x (Some sign) more) rest
step_one true sign rest more f h = refl
step_one false sign rest more f h = h

none_either_way : {A : Type 0} (b : Bool) → cond {A = Option A} b None None ≡ None
none_either_way true = refl
none_either_way false = refl

three_rows : (ps : Family) (a b c : ℕ) (rest : Bytes) → first_row (map three ps) (a ∷ b ∷ c ∷ rest) ≡ cond (eqb a b && eqb c 61) (and_rest (chain ps a) rest) None
three_rows [] a b c rest = sym (none_either_way (eqb a b && eqb c 61))
three_rows (p ∷ ps) a b c rest =
    ap (λ o. row_or p.1 o (first_row (map three ps) (a ∷ b ∷ c ∷ rest))) (same_as a b p.0 (cond (eqb c 61) (Some rest) None) None)
    ∙ step_three (eqb a p.0) (eqb a b) (eqb c 61) p.1 rest (chain ps a) (first_row (map three ps) (a ∷ b ∷ c ∷ rest)) (three_rows ps a b c rest)

equal_rows : (ps : Family) (a b : ℕ) (rest : Bytes) → first_row (map equal ps) (a ∷ b ∷ rest) ≡ cond (eqb b 61) (and_rest (chain ps a) rest) None
equal_rows [] a b rest = sym (none_either_way (eqb b 61))
equal_rows (p ∷ ps) a b rest = step_two (eqb a p.0) (eqb b 61) p.1 rest (chain ps a) (first_row (map equal ps) (a ∷ b ∷ rest)) (equal_rows ps a b rest)

double_rows : (ps : Family) (a b : ℕ) (rest : Bytes) → first_row (map double ps) (a ∷ b ∷ rest) ≡ cond (eqb a b) (and_rest (chain ps a) rest) None
double_rows [] a b rest = sym (none_either_way (eqb a b))
double_rows (p ∷ ps) a b rest =
    ap (λ o. row_or p.1 o (first_row (map double ps) (a ∷ b ∷ rest))) (same_as a b p.0 (Some rest) None)
    ∙ step_two (eqb a p.0) (eqb a b) p.1 rest (chain ps a) (first_row (map double ps) (a ∷ b ∷ rest)) (double_rows ps a b rest)

one_rows : (ps : Family) (a : ℕ) (rest : Bytes) → first_row (map one ps) (a ∷ rest) ≡ and_rest (chain ps a) rest
one_rows [] a rest = refl
one_rows (p ∷ ps) a rest = step_one (eqb a p.0) p.1 rest (chain ps a) (first_row (map one ps) (a ∷ rest)) (one_rows ps a rest)

-- ---- all of the table

-- a family of longer texts has none in a short one
no_three : (ps : Family) → first_row (map three ps) [] ≡ None
no_three [] = refl
no_three (p ∷ ps) = no_three ps

no_three_one : (ps : Family) (a : ℕ) → first_row (map three ps) (a ∷ []) ≡ None
no_three_one [] a = refl
no_three_one (p ∷ ps) a = ap (λ o. row_or p.1 o (first_row (map three ps) (a ∷ []))) (none_either_way (eqb a p.0)) ∙ no_three_one ps a

none_inside : {A : Type 0} (x y : Bool) → cond {A = Option A} x (cond y None None) None ≡ None
none_inside true y = none_either_way y
none_inside false y = refl

no_three_two : (ps : Family) (a b : ℕ) → first_row (map three ps) (a ∷ b ∷ []) ≡ None
no_three_two [] a b = refl
no_three_two (p ∷ ps) a b = ap (λ o. row_or p.1 o (first_row (map three ps) (a ∷ b ∷ []))) (none_inside (eqb a p.0) (eqb b p.0)) ∙ no_three_two ps a b

no_equal_one : (ps : Family) (a : ℕ) → first_row (map equal ps) (a ∷ []) ≡ None
no_equal_one [] a = refl
no_equal_one (p ∷ ps) a = ap (λ o. row_or p.1 o (first_row (map equal ps) (a ∷ []))) (none_either_way (eqb a p.0)) ∙ no_equal_one ps a

no_double_one : (ps : Family) (a : ℕ) → first_row (map double ps) (a ∷ []) ≡ None
no_double_one [] a = refl
no_double_one (p ∷ ps) a = ap (λ o. row_or p.1 o (first_row (map double ps) (a ∷ []))) (none_either_way (eqb a p.0)) ∙ no_double_one ps a

-- the table, family by family
families : (bytes : Bytes) → first_row signs bytes
    ≡ first_of_two (first_row (map three threes) bytes) (first_of_two (first_row (map equal equals) bytes) (first_of_two (first_row (map double doubles) bytes) (first_row (map one (operators ++ marks)) bytes)))
families bytes =
    first_row-append (map three threes) (map equal equals ++ (map double doubles ++ map one (operators ++ marks))) bytes
    ∙ ap (first_of_two (first_row (map three threes) bytes)) (first_row-append (map equal equals) (map double doubles ++ map one (operators ++ marks)) bytes
    ∙ ap (first_of_two (first_row (map equal equals) bytes)) (first_row-append (map double doubles) (map one (operators ++ marks)) bytes))

single : (a : ℕ) (rest : Bytes) → first_row (map one (operators ++ marks)) (a ∷ rest) ≡ and_rest (first_of_two (operator a) (punctuation a)) rest
single a rest = one_rows (operators ++ marks) a rest ∙ ap (λ o. and_rest o rest) (chain-append operators marks a)

either_nothing : {A : Type 0} (o : Option A) → first_of_two o None ≡ o
either_nothing None = refl
either_nothing (Some x) = refl

either-assoc : {A : Type 0} (x y z : Option A) → first_of_two (first_of_two x y) z ≡ first_of_two x (first_of_two y z)
either-assoc None y z = refl
either-assoc (Some x) y z = refl

at_equals : (a b : ℕ) (rest : Bytes) → b ≡ 61 → (t : Bool) → eqb a b ≡ t → first_of_two (and_rest (before_equals a) rest) (cond t (and_rest (doubled a) rest) None) ≡ and_rest (before_equals a) rest
at_equals a b rest is false e = either_nothing (and_rest (before_equals a) rest)
at_equals a b rest is true e =
    let q : a ≡ 61 = eqb-true a b e ∙ is in
    ap (λ x. first_of_two (and_rest (before_equals a) rest) (and_rest (doubled x) rest)) q ∙ either_nothing (and_rest (before_equals a) rest)

-- no sign is a doubled `=` but `==`
two_families : (a b : ℕ) (rest : Bytes) → first_of_two (cond (eqb b 61) (and_rest (before_equals a) rest) None) (cond (eqb a b) (and_rest (doubled a) rest) None)
    ≡ cond (eqb b 61) (and_rest (before_equals a) rest) (cond (eqb a b) (and_rest (doubled a) rest) None)
two_families a b rest =
    elim (eqb b 61) as (λ t. eqb b 61 ≡ t → first_of_two (cond t (and_rest (before_equals a) rest) None) (cond (eqb a b) (and_rest (doubled a) rest) None) ≡ cond t (and_rest (before_equals a) rest) (cond (eqb a b) (and_rest (doubled a) rest) None)) [
      | true ↦ λ e. at_equals a b rest (eqb-true b 61 e) (eqb a b) refl
      | false ↦ λ e. refl
    ] refl

-- the signs of one and two bytes
shorter : (a b : ℕ) (rest : Bytes) → first_of_two (first_row (map equal equals) (a ∷ b ∷ rest)) (first_of_two (first_row (map double doubles) (a ∷ b ∷ rest)) (first_row (map one (operators ++ marks)) (a ∷ b ∷ rest)))
    ≡ first_of_two (cond (eqb b 61) (and_rest (before_equals a) rest) (cond (eqb a b) (and_rest (doubled a) rest) None)) (and_rest (first_of_two (operator a) (punctuation a)) (b ∷ rest))
shorter a b rest =
    ap (λ o. first_of_two o (first_of_two (first_row (map double doubles) (a ∷ b ∷ rest)) (first_row (map one (operators ++ marks)) (a ∷ b ∷ rest)))) (equal_rows equals a b rest)
    ∙ ap (λ o. first_of_two (cond (eqb b 61) (and_rest (before_equals a) rest) None) (first_of_two o (first_row (map one (operators ++ marks)) (a ∷ b ∷ rest)))) (double_rows doubles a b rest)
    ∙ ap (λ o. first_of_two (cond (eqb b 61) (and_rest (before_equals a) rest) None) (first_of_two (cond (eqb a b) (and_rest (doubled a) rest) None) o)) (single a (b ∷ rest))
    ∙ sym (either-assoc (cond (eqb b 61) (and_rest (before_equals a) rest) None) (cond (eqb a b) (and_rest (doubled a) rest) None) (and_rest (first_of_two (operator a) (punctuation a)) (b ∷ rest)))
    ∙ ap (λ o. first_of_two o (and_rest (first_of_two (operator a) (punctuation a)) (b ∷ rest))) (two_families a b rest)

pub sign_is : (bytes : Bytes) → sign_of bytes ≡ longest_sign bytes
unfolding sign_of sign_of_three sign_of_two sign_of_one longest_sign
sign_is [] = refl
sign_is (a ∷ []) =
    sym (families (a ∷ [])
    ∙ ap (λ o. first_of_two o (first_of_two (first_row (map equal equals) (a ∷ [])) (first_of_two (first_row (map double doubles) (a ∷ [])) (first_row (map one (operators ++ marks)) (a ∷ []))))) (no_three_one threes a)
    ∙ ap (λ o. first_of_two o (first_of_two (first_row (map double doubles) (a ∷ [])) (first_row (map one (operators ++ marks)) (a ∷ [])))) (no_equal_one equals a)
    ∙ ap (λ o. first_of_two o (first_row (map one (operators ++ marks)) (a ∷ []))) (no_double_one doubles a)
    ∙ single a [])
sign_is (a ∷ b ∷ []) =
    sym (families (a ∷ b ∷ [])
    ∙ ap (λ o. first_of_two o (first_of_two (first_row (map equal equals) (a ∷ b ∷ [])) (first_of_two (first_row (map double doubles) (a ∷ b ∷ [])) (first_row (map one (operators ++ marks)) (a ∷ b ∷ []))))) (no_three_two threes a b)
    ∙ shorter a b [])
sign_is (a ∷ b ∷ c ∷ rest) =
    sym (families (a ∷ b ∷ c ∷ rest)
    ∙ ap (λ o. first_of_two o (first_of_two (first_row (map equal equals) (a ∷ b ∷ c ∷ rest)) (first_of_two (first_row (map double doubles) (a ∷ b ∷ c ∷ rest)) (first_row (map one (operators ++ marks)) (a ∷ b ∷ c ∷ rest))))) (three_rows threes a b c rest)
    ∙ ap (first_of_two (cond (eqb a b && eqb c 61) (and_rest (doubled_assign a) rest) None)) (shorter a b (c ∷ rest)))

-- ---- keywords

look_up-append : {A : Type 0} (text : Bytes) (xs ys : List (Bytes × A)) → look_up text (xs ++ ys) ≡ first_of_two (look_up text xs) (look_up text ys)
look_up-append text [] ys = refl
look_up-append text (row ∷ rows) ys =
    on_test (λ b. cond b (Some row.1) (look_up text (rows ++ ys)) ≡ first_of_two (cond b (Some row.1) (look_up text rows)) (look_up text ys)) (bytes_eq text row.0) (λ _. refl) (λ _. look_up-append text rows ys)

pub keyword_is : (text : Bytes) → keyword_by_length text ≡ keyword text
unfolding keyword_by_length keyword short_keyword middle_keyword long_keyword
keyword_is text =
    sym (look_up-append text short_keywords (middle_keywords ++ long_keywords) ∙ ap (first_of_two (look_up text short_keywords)) (look_up-append text middle_keywords long_keywords))
