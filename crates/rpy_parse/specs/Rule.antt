-- Rules with values, their relation, and their reader.
use Rattle.std.specs.Prelude.{◌≡◌, ℕ, zero, suc, ◌+◌, Bool, true, false, cond, not, eqb, ltb, ◌&&◌, ◌||◌, ◌∷◌, ◌++◌, length, Option, Some, None, Result, Ok, Err, ◌⊎◌}
use Rattle.rpy_token.specs.declared.token.Token.{Token}
use Rattle.rpy_parse.specs.declared.fault.Stop.{Stop}
use Rattle.rpy_parse.specs.declared.fault.Stop.TheVariants.{NoMem, Dead}
use Rattle.rpy_parse.specs.Input.{Input, first, here, next}
use Rattle.rpy_parse.specs.Kind.{kinds, kind}
use Rattle.rpy_parse.specs.Shape.{Shape, nothing, one, among, bit, both, either, only, Tables, reads_none, begins, known, decides, implies, every, ranked, easy, finishes}
use Rattle.rpy_parse.specs.Shape as shape

abbrev pub Outcome : Type 0 → Type 0
Outcome A = Result (A × Input) ℕ

abbrev pub Parser : Type 0 → Type 0
Parser A = Input → Outcome A

abbrev pub and_then : {A B : Type 0} → Outcome A → (A → Parser B) → Outcome B
and_then (Ok p) f = f p.0 p.1
and_then (Err e) f = Err e

abbrev pub eat_at : ℕ → Option Token → Parser Token
eat_at k None i = Err (length i)
eat_at k (Some t) i = cond (eqb (kind t) k) (Ok (t, next i)) (Err (length i))

abbrev pub eat : ℕ → Parser Token
eat k i = eat_at k (first i) i

abbrev pub eat_any : ℕ → Option Token → Parser Token
eat_any m None i = Err (length i)
eat_any m (Some t) i = cond (bit m (kind t)) (Ok (t, next i)) (Err (length i))

abbrev pub eat_such : ℕ → (Token → Bool) → Option Token → Parser Token
eat_such k q None i = Err (length i)
eat_such k q (Some t) i = cond (eqb (kind t) k && q t) (Ok (t, next i)) (Err (length i))

-- A rule of this shape, which gives a value. Its parts are rules by number, with an argument.
pub data Rule {N : Type 0} (Arg Val : N → Type 0) : Shape N → Type 0 → Type 1 where
  pure : {A : Type 0} → A → Rule Arg Val nothing A
  tok : (k : ℕ) → Rule Arg Val (one k) Token
  -- a token that passes a test, and one that does
  such : (k : ℕ) (p : Token → Bool) (x : Token) → eqb (kind x) k && p x ≡ true → Rule Arg Val (one k) Token
  -- a token of some kinds, with one that is
  any : (m : ℕ) (x : Token) → bit m (kind x) ≡ true → Rule Arg Val (among m) Token
  part : (n : N) → Arg n → Rule Arg Val (shape.part n) (Val n)
  bind : {s u : Shape N} {A B : Type 0} → Rule Arg Val s A → (A → Rule Arg Val u B) → Rule Arg Val (both s u) B
  choice : {s u : Shape N} {A : Type 0} → Rule Arg Val s A → Rule Arg Val u A → Rule Arg Val (either s u) A
  given : {s : Shape N} {A : Type 0} → Bool → Rule Arg Val s A → Rule Arg Val (only s) A

-- the relation: the tokens, the value, and the tokens after it, where R is that of the parts
abbrev pub Derives : {N : Type 0} {Arg Val : N → Type 0} {s : Shape N} {A : Type 0} → ((n : N) → Arg n → Input → Val n → Input → Type 0) → Rule Arg Val s A → Input → A → Input → Type 0
Derives R (pure a) i b j = (a ≡ b) × (i ≡ j)
Derives R (tok k) i b j = (eqb (kind b) k ≡ true) × (i ≡ b ∷ j)
Derives R (such k p x e) i b j = (eqb (kind b) k && p b ≡ true) × (i ≡ b ∷ j)
Derives R (any m x e) i b j = (bit m (kind b) ≡ true) × (i ≡ b ∷ j)
Derives R (part n c) i b j = R n c i b j
Derives R (bind {A = A} r f) i b k = (a : A) × (j : Input) × (Derives R r i a j) × (Derives R (f a) j b k)
Derives R (choice r q) i b j = Derives R r i b j ⊎ Derives R q i b j
Derives R (given x r) i b j = (x ≡ true) × Derives R r i b j

-- whether the first of two is read
abbrev pub left_at : {N : Type 0} → Tables N → Shape N → Shape N → Option Token → Bool
left_at T s u None = reads_none T s
left_at T s u (Some t) = begins T s (kind t) || (not (begins T u (kind t)) && reads_none T s)

abbrev pub left : {N : Type 0} → Tables N → Shape N → Shape N → Input → Bool
left T s u i = left_at T s u (first i)

abbrev pub read : {N : Type 0} {Arg Val : N → Type 0} {s : Shape N} {A : Type 0} → Tables N → ((n : N) → Arg n → Parser (Val n)) → Rule Arg Val s A → Parser A
read T p (pure a) i = Ok (a, i)
read T p (tok k) i = eat k i
read T p (such k q x e) i = eat_such k q (first i) i
read T p (any m x e) i = eat_any m (first i) i
read T p (part n c) i = p n c i
read T p (bind r f) i = and_then (read T p r i) (λ a. read T p (f a))
read T p (choice {s = s} {u = u} r q) i = cond (left T s u i) (read T p r i) (read T p q i)
read T p (given x r) i = cond x (read T p r i) (Err (length i))

-- ---- a grammar

-- N names its rules. The tables are claims about them, which `Good` tests.
pub record Grammar (N : Type 0) : Type 1 where
  pub Arg : N → Type 0
  pub Val : N → Type 0
  pub shape : N → Shape N
  pub rule : (n : N) → Arg n → Rule Arg Val (shape n) (Val n)
  pub tables : Tables N

-- a tree of less than this height
abbrev pub lang : {N : Type 0} (G : Grammar N) → ℕ → (n : N) → G.Arg n → Input → G.Val n → Input → Type 0
lang G zero n c i a j = ⊥
lang G (suc d) n c i a j = Derives (lang G d) (G.rule n c) i a j

-- the grammar's relation
abbrev pub Lang : {N : Type 0} (G : Grammar N) → (n : N) → G.Arg n → Input → G.Val n → Input → Type 0
Lang G n c i a j = (d : ℕ) × lang G d n c i a j

abbrev pub reader : {N : Type 0} (G : Grammar N) → ℕ → (n : N) → G.Arg n → Parser (G.Val n)
reader G zero n c i = Err (length i)
reader G (suc d) n c i = read G.tables (reader G d) (G.rule n c) i

-- The test of one rule.
abbrev pub fits : {N : Type 0} → Tables N → N → Shape N → Bool
fits T n s = known T s && (decides T s (T.follow n) && (implies (reads_none T s) (T.null n) && (every kinds (λ c. implies (begins T s c) (T.first n c)) && (ranked T s (T.rank n) && ((T.by_hand n || easy T s (T.height n)) && (finishes T s && (ltb (T.height n) T.heights && ltb (T.rank n) T.ranks)))))))

-- some tokens of a rule, whatever follows
abbrev pub Short : {A : Type 0} → (Input → A → Input → Type 0) → Type 0
Short {A} R = (c : Input) × (a : A) × ((z : Input) → R (c ++ z) a z)

pub record Good {N : Type 0} (G : Grammar N) : Type 0 where
  pub each : (n : N) → fits G.tables n (G.shape n) ≡ true
  pub hand : (n : N) → G.tables.by_hand n ≡ true → (c : G.Arg n) → Short (Lang G n c)

-- n times m
abbrev pub times : ℕ → ℕ → ℕ
times zero m = 0
times (suc n) m = m + times n m

-- how high a tree of these tokens may be
abbrev pub room : {N : Type 0} → Tables N → N → Input → ℕ
room T n i = times (length i) T.ranks + T.rank n

-- The reader of a grammar.
unfoldable pub parse : {N : Type 0} (G : Grammar N) → (n : N) → G.Arg n → Parser (G.Val n)
parse G n c i = reader G (suc (room G.tables n i)) n c i

-- what a function that parses ensures: the reader's outcome, unless memory fails
abbrev pub Fails : {A : Type 0} → Stop → Outcome A → Type 0
Fails NoMem outcome = Unit {0}
Fails (Dead n) outcome = outcome ≡ Err n

abbrev pub Reads : {A : Type 0} → Outcome A → Result A Stop → Input → Type 0
Reads outcome (Ok a) new = outcome ≡ Ok (a, new)
Reads outcome (Err e) new = Fails e outcome

-- what a function ensures that reads a token of this kind
abbrev pub Ate : ℕ → Bool → Input → Input → Type 0
Ate k true old new = eat k old ≡ Ok (here old, new)
Ate k false old new = new ≡ old

abbrev pub Refused : ℕ → Stop → Input → Type 0
Refused k e old = (e ≡ Dead (length old)) × (eat k old ≡ Err (length old))
