-- What a reader answers hangs only on the tokens up to and with the one where it stops.
use Rattle.std.proofs.Common.{◌≡◌, ℕ, zero, suc, ◌<◌, ◌+◌, Bool, true, false, cond, ◌&&◌, eqb, [], ◌∷◌, ◌++◌, length, Ok, Err, refl, sym, ap, ◌∙◌, subst, arith, length-append}
use Rattle.rpy_token.specs.declared.token.Token.{Token}
use Rattle.rpy_parse.specs.Input.{Input, first}
use Rattle.rpy_parse.specs.Kind.{kind}
use Rattle.rpy_parse.specs.Shape.{Shape, bit, Tables, reads_none}
use Rattle.rpy_parse.specs.Rule.{Outcome, Parser, and_then, eat, eat_such, eat_any, Rule, pure, tok, such, any, part, bind, choice, given, left, read, Grammar, Good, Lang, reader, room, parse}
use Rattle.rpy_parse.proofs.Laws.{done, parts, Follows}
use Rattle.rpy_parse.proofs.Viable.{Took, fail, read_took, reader_took}
use Rattle.rpy_parse.proofs.Depth.{parse_at, parse_reads}

-- Two outcomes, of inputs that end in x and in y: they are alike, or the first is past the beginning of x.
data Keeps {A : Type 0} (x y : Input) : Outcome A → Outcome A → Type 0 where
  same_ok : (a : A) (s : Input) → Keeps x y (Ok (a, s ++ x)) (Ok (a, s ++ y))
  same_err : (s : Input) → Keeps x y (Err (length (s ++ x))) (Err (length (s ++ y)))
  past_ok : (a : A) (i : Input) (o : Outcome A) → length i < length x → Keeps x y (Ok (a, i)) o
  past_err : (n : ℕ) (o : Outcome A) → n < length x → Keeps x y (Err n) o

past : {A : Type 0} (b : Bool) (x y : Input) (n : ℕ) (o q : Outcome A) → n < length x → Took b n o → Keeps x y o q
past true x y n (Ok p) q lt w = past_ok p.0 p.1 q (omega (arith, lt, w))
past false x y n (Ok p) q lt w = past_ok p.0 p.1 q (omega (arith, lt, w))
past true x y n (Err m) q lt w = past_err m q (omega (arith, lt, w))
past false x y n (Err m) q lt w = past_err m q (omega (arith, lt, w))

keeps_bind : {A B : Type 0} (b : Bool) (t : Token) (x y : Input) (o q : Outcome A) (f : A → Parser B) → ((a : A) (i : Input) → Took b (length i) (f a i)) → ((a : A) (s : Input) → Keeps (t ∷ x) (t ∷ y) (f a (s ++ t ∷ x)) (f a (s ++ t ∷ y)))
    → Keeps (t ∷ x) (t ∷ y) o q → Keeps (t ∷ x) (t ∷ y) (and_then o f) (and_then q f)
keeps_bind b t x y o q f w h (same_ok a s) = h a s
keeps_bind b t x y o q f w h (same_err s) = same_err s
keeps_bind b t x y o q f w h (past_ok a i r lt) = past b (t ∷ x) (t ∷ y) (length i) (f a i) (and_then r f) lt (w a i)
keeps_bind b t x y o q f w h (past_err n r lt) = past_err n (and_then r f) lt

keeps_one : (b : Bool) (t : Token) (x y s : Input) (u : Token) → Keeps (t ∷ x) (t ∷ y) (cond b (done (u, s ++ t ∷ x)) (Err (length (u ∷ (s ++ t ∷ x))))) (cond b (done (u, s ++ t ∷ y)) (Err (length (u ∷ (s ++ t ∷ y)))))
keeps_one true t x y s u = same_ok u s
keeps_one false t x y s u = same_err (u ∷ s)

keeps_first : (b : Bool) (t : Token) (x y : Input) → Keeps (t ∷ x) (t ∷ y) (cond b (done (t, x)) (Err (length (t ∷ x)))) (cond b (done (t, y)) (Err (length (t ∷ y))))
keeps_first true t x y = past_ok t x (done (t, y)) (omega arith)
keeps_first false t x y = same_err []

keeps_eat : (k : ℕ) (t : Token) (x y s : Input) → Keeps (t ∷ x) (t ∷ y) (eat k (s ++ t ∷ x)) (eat k (s ++ t ∷ y))
keeps_eat k t x y [] = keeps_first (eqb (kind t) k) t x y
keeps_eat k t x y (u ∷ s) = keeps_one (eqb (kind u) k) t x y s u

keeps_such : (k : ℕ) (q : Token → Bool) (t : Token) (x y s : Input) → Keeps (t ∷ x) (t ∷ y) (eat_such k q (first (s ++ t ∷ x)) (s ++ t ∷ x)) (eat_such k q (first (s ++ t ∷ y)) (s ++ t ∷ y))
keeps_such k q t x y [] = keeps_first (eqb (kind t) k && q t) t x y
keeps_such k q t x y (u ∷ s) = keeps_one (eqb (kind u) k && q u) t x y s u

keeps_any : (m : ℕ) (t : Token) (x y s : Input) → Keeps (t ∷ x) (t ∷ y) (eat_any m (first (s ++ t ∷ x)) (s ++ t ∷ x)) (eat_any m (first (s ++ t ∷ y)) (s ++ t ∷ y))
keeps_any m t x y [] = keeps_first (bit m (kind t)) t x y
keeps_any m t x y (u ∷ s) = keeps_one (bit m (kind u)) t x y s u

keeps_if : {A : Type 0} (b : Bool) (x y : Input) (o q o' q' : Outcome A) → Keeps x y o o' → Keeps x y q q' → Keeps x y (cond b o q) (cond b o' q')
keeps_if true x y o q o' q' h g = h
keeps_if false x y o q o' q' h g = g

left_alike : {N : Type 0} (T : Tables N) (s u : Shape N) (t : Token) (x y k : Input) → left T s u (k ++ t ∷ x) ≡ left T s u (k ++ t ∷ y)
left_alike T s u t x y [] = refl
left_alike T s u t x y (v ∷ k) = refl

module _ {N : Type 0} {Arg Val : N → Type 0} (T : Tables N) (p : (n : N) → Arg n → Parser (Val n)) (t : Token) (x y : Input)
    (hk : (n : N) (c : Arg n) (s : Input) → Keeps (t ∷ x) (t ∷ y) (p n c (s ++ t ∷ x)) (p n c (s ++ t ∷ y)))
    (ht : (n : N) (c : Arg n) (i : Input) → Took (T.null n) (length i) (p n c i)) where
  keeps : {s : Shape N} {A : Type 0} (r : Rule Arg Val s A) (k : Input) → Keeps (t ∷ x) (t ∷ y) (read T p r (k ++ t ∷ x)) (read T p r (k ++ t ∷ y))
  keeps (pure a) k = same_ok a k
  keeps (tok c) k = keeps_eat c t x y k
  keeps (such c q z e) k = keeps_such c q t x y k
  keeps (any m z e) k = keeps_any m t x y k
  keeps (part n c) k = hk n c k
  keeps (bind {s = s} {u = u} r f) k =
      keeps_bind (reads_none T u) t x y (read T p r (k ++ t ∷ x)) (read T p r (k ++ t ∷ y)) (λ a. read T p (f a)) (λ a i. read_took T p ht (f a) i) (λ a s2. keeps (f a) s2) (keeps r k)
  keeps {A = A} (choice {s = s} {u = u} r q) k =
      subst (λ b. Keeps {A = A} (t ∷ x) (t ∷ y) (cond (left T s u (k ++ t ∷ x)) (read T p r (k ++ t ∷ x)) (read T p q (k ++ t ∷ x))) (cond b (read T p r (k ++ t ∷ y)) (read T p q (k ++ t ∷ y)))) (left_alike T s u t x y k)
      (keeps_if (left T s u (k ++ t ∷ x)) (t ∷ x) (t ∷ y) (read T p r (k ++ t ∷ x)) (read T p q (k ++ t ∷ x)) (read T p r (k ++ t ∷ y)) (read T p q (k ++ t ∷ y)) (keeps r k) (keeps q k))
  keeps {A = A} (given b r) k =
      keeps_if b (t ∷ x) (t ∷ y) (read T p r (k ++ t ∷ x)) (fail A (length (k ++ t ∷ x))) (read T p r (k ++ t ∷ y)) (fail A (length (k ++ t ∷ y))) (keeps r k) (same_err k)

reader_keeps : {N : Type 0} (G : Grammar N) (good : Good G) (t : Token) (x y : Input) (d : ℕ) (n : N) (c : G.Arg n) (s : Input) → Keeps (t ∷ x) (t ∷ y) (reader G d n c (s ++ t ∷ x)) (reader G d n c (s ++ t ∷ y))
reader_keeps G good t x y zero n c s = same_err s
reader_keeps G good t x y (suc d) n c s = keeps G.tables (reader G d) t x y (reader_keeps G good t x y d) (reader_took G good d) (G.rule n c) s

-- an outcome that stops at x keeps to stop, and is no tree
stopped : {A : Type 0} (t : Token) (x y : Input) (o q : Outcome A) (a : A) (j : Input) (n : ℕ) → n ≡ length (t ∷ x) → o ≡ Err n → q ≡ Ok (a, j) → Keeps (t ∷ x) (t ∷ y) o q → ⊥
stopped t x y o q a j n e h g (same_ok b s) = absurd cc
stopped t x y o q a j n e h g (same_err s) = absurd cc
stopped t x y o q a j n e h g (past_ok b i r lt) = absurd cc
stopped t x y o q a j n e h g (past_err b r lt) = let same : b ≡ n = cc in omega (arith, same, lt, e)

-- law 4: where a parse stops at t, no text of the grammar goes on with t, whatever follows
pub parse_dead : {N : Type 0} (G : Grammar N) (good : Good G) (n : N) (c : G.Arg n) (t : Token) (x s : Input) → parse G n c (s ++ t ∷ x) ≡ fail (G.Val n) (length (t ∷ x))
    → (y : Input) (a : G.Val n) (j : Input) → Follows G.tables (G.tables.follow n) j → Lang G n c (s ++ t ∷ y) a j → ⊥
parse_dead G good n c t x s h y a j f l =
    let d = suc (room G.tables n (s ++ t ∷ x)) + room G.tables n (s ++ t ∷ y) in
    stopped t x y (reader G d n c (s ++ t ∷ x)) (reader G d n c (s ++ t ∷ y)) a j (length (t ∷ x)) refl
    (parse_at G good d n c (s ++ t ∷ x) (omega arith) ∙ h)
    (parse_at G good d n c (s ++ t ∷ y) (omega arith) ∙ parse_reads G good n c (s ++ t ∷ y) a j l f)
    (reader_keeps G good t x y d n c s)

-- what is read before t is read whatever follows t
-- a list behind which t and x stand, and which is no longer, is empty
same_end : {A : Type 0} (t : Token) (x y s : Input) (a b : A) → (b ≡ a) × (s ++ t ∷ x ≡ t ∷ x) → done (b, s ++ t ∷ y) ≡ done (a, t ∷ y)
same_end t x y [] a b e = ap (λ c. done (c, t ∷ y)) e.0
same_end t x y (u ∷ s) a b e = absurd (omega (arith, ap length e.1, length-append (u ∷ s) (t ∷ x)))

kept : {A : Type 0} (t : Token) (x y : Input) (o q : Outcome A) (a : A) → o ≡ done (a, t ∷ x) → Keeps (t ∷ x) (t ∷ y) o q → q ≡ done (a, t ∷ y)
kept t x y o q a h (same_ok b s) = same_end t x y s a b (parts b a (s ++ t ∷ x) (t ∷ x) h)
kept t x y o q a h (same_err s) = absurd cc
kept t x y o q a h (past_ok b i r lt) = absurd (omega (arith, ap length (parts b a i (t ∷ x) h).1, lt))
kept t x y o q a h (past_err b r lt) = absurd cc

pub parse_kept : {N : Type 0} (G : Grammar N) (good : Good G) (n : N) (c : G.Arg n) (t : Token) (x y s : Input) (a : G.Val n) → parse G n c (s ++ t ∷ x) ≡ done (a, t ∷ x) → parse G n c (s ++ t ∷ y) ≡ done (a, t ∷ y)
parse_kept G good n c t x y s a h =
    let d = suc (room G.tables n (s ++ t ∷ x)) + room G.tables n (s ++ t ∷ y) in
    sym (parse_at G good d n c (s ++ t ∷ y) (omega arith))
    ∙ kept t x y (reader G d n c (s ++ t ∷ x)) (reader G d n c (s ++ t ∷ y)) a (parse_at G good d n c (s ++ t ∷ x) (omega arith) ∙ h) (reader_keeps G good t x y d n c s)
