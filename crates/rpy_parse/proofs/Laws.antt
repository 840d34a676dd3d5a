use Rattle.std.proofs.Common.{◌≡◌, ℕ, zero, suc, ◌<◌, Bool, true, false, cond, not, ◌&&◌, ◌||◌, eqb, ltb, [], ◌∷◌, length, Ok, Err, refl, sym, ap, ◌∙◌, subst, arith, ◌⊎◌, inl, inr, eqb-true, ltb-true}
use Rattle.std.proofs.lemmas.Bool.{eqb-false}
use Rattle.rpy_token.specs.declared.token.Token.{Token}
use Rattle.rpy_parse.specs.Input.{Input, first}
use Rattle.rpy_parse.specs.Kind.{kinds, kind}
use Rattle.rpy_parse.specs.Shape.{Shape, nothing, one, among, bit, both, either, only, Tables, reads_none, begins, chosen, every, implies, decides, ranked, easy, known, finishes}
use Rattle.rpy_parse.specs.Shape as shape
use Rattle.rpy_parse.proofs.OneToken.{kind_known}
use Rattle.rpy_parse.specs.Rule.{Outcome, Parser, and_then, eat, eat_such, eat_any, Rule, pure, tok, such, any, part, bind, choice, given, Derives, left, read, Grammar, Good, lang, reader}

abbrev pub done : {A : Type 0} → A × Input → Outcome A
done x = Ok x

pub ok_is : {A : Type 0} (x y : A × Input) → done x ≡ done y → x ≡ y
ok_is x y h = cc

pub bind_ok : {A B : Type 0} (o : Outcome A) (f : A → Parser B) (y : B × Input) → and_then o f ≡ done y → (x : A × Input) × (o ≡ done x) × (f x.0 x.1 ≡ done y)
bind_ok (Ok x) f y h = (x, refl, h)
bind_ok (Err n) f y h = absurd cc

pub if_ok : {A : Type 0} (b : Bool) (o : Outcome A) (y : A × Input) (n : ℕ) → cond b o (Err n) ≡ done y → (b ≡ true) × (o ≡ done y)
if_ok true o y n h = (refl, h)
if_ok false o y n h = absurd cc

pub parts : {A : Type 0} (a b : A) (i j : Input) → done (a, i) ≡ done (b, j) → (a ≡ b) × (i ≡ j)
parts a b i j h = let e = ok_is (a, i) (b, j) h in (ap (λ (p : _ × Input). p.0) e, ap (λ (p : _ × Input). p.1) e)

one_ok : (k : ℕ) (i : Input) (b : Token) (j : Input) → eat k i ≡ done (b, j) → (eqb (kind b) k ≡ true) × (i ≡ b ∷ j)
one_ok k [] b j h = absurd cc
one_ok k (t ∷ i) b j h =
    let g = if_ok (eqb (kind t) k) (Ok (t, i)) (b, j) (length (t ∷ i)) h in
    let e = parts t b i j g.1 in
    (subst (λ (u : Token). eqb (kind u) k ≡ true) e.0 g.0, ap (λ (u : Token). u ∷ i) e.0 ∙ ap (λ (w : Input). b ∷ w) e.1)

such_ok : (k : ℕ) (q : Token → Bool) (i : Input) (b : Token) (j : Input) → eat_such k q (first i) i ≡ done (b, j) → (eqb (kind b) k && q b ≡ true) × (i ≡ b ∷ j)
such_ok k q [] b j h = absurd cc
such_ok k q (t ∷ i) b j h =
    let g = if_ok (eqb (kind t) k && q t) (Ok (t, i)) (b, j) (length (t ∷ i)) h in
    let e = parts t b i j g.1 in
    (subst (λ (u : Token). eqb (kind u) k && q u ≡ true) e.0 g.0, ap (λ (u : Token). u ∷ i) e.0 ∙ ap (λ (w : Input). b ∷ w) e.1)

any_ok : (m : ℕ) (i : Input) (b : Token) (j : Input) → eat_any m (first i) i ≡ done (b, j) → (bit m (kind b) ≡ true) × (i ≡ b ∷ j)
any_ok m [] b j h = absurd cc
any_ok m (t ∷ i) b j h =
    let g = if_ok (bit m (kind t)) (Ok (t, i)) (b, j) (length (t ∷ i)) h in
    let e = parts t b i j g.1 in
    (subst (λ (u : Token). bit m (kind u) ≡ true) e.0 g.0, ap (λ (u : Token). u ∷ i) e.0 ∙ ap (λ (w : Input). b ∷ w) e.1)

-- ---- law 1: what is read is in the grammar

module _ {N : Type 0} {Arg Val : N → Type 0} (T : Tables N) (p : (n : N) → Arg n → Parser (Val n)) (R : (n : N) → Arg n → Input → Val n → Input → Type 0)
    (hp : (n : N) (c : Arg n) (i : Input) (a : Val n) (j : Input) → p n c i ≡ done (a, j) → R n c i a j) where
  choice_sound : {s u : Shape N} {A : Type 0} (x : Bool) (r : Rule Arg Val s A) (q : Rule Arg Val u A) (i : Input) (a : A) (j : Input)
      → (read T p r i ≡ done (a, j) → Derives R r i a j) → (read T p q i ≡ done (a, j) → Derives R q i a j)
      → cond x (read T p r i) (read T p q i) ≡ done (a, j) → Derives R r i a j ⊎ Derives R q i a j
  choice_sound true r q i a j f g h = inl (f h)
  choice_sound false r q i a j f g h = inr (g h)

  pub read_sound : {s : Shape N} {A : Type 0} (r : Rule Arg Val s A) (i : Input) (a : A) (j : Input) → read T p r i ≡ done (a, j) → Derives R r i a j
  read_sound (pure x) i a j h = parts x a i j h
  read_sound (tok k) i a j h = one_ok k i a j h
  read_sound (such k q x e) i a j h = such_ok k q i a j h
  read_sound (any m x e) i a j h = any_ok m i a j h
  read_sound (part n c) i a j h = hp n c i a j h
  read_sound (bind r f) i a j h =
      let b = bind_ok (read T p r i) (λ x. read T p (f x)) (a, j) h in
      (b.0.0, b.0.1, read_sound r i b.0.0 b.0.1 b.1, read_sound (f b.0.0) b.0.1 a j b.2)
  read_sound (choice {s = s} {u = u} r q) i a j h = choice_sound (left T s u i) r q i a j (read_sound r i a j) (read_sound q i a j) h
  read_sound (given x r) i a j h =
      let g = if_ok x (read T p r i) (a, j) (length i) h in
      (g.0, read_sound r i a j g.1)

pub reader_sound : {N : Type 0} (G : Grammar N) (d : ℕ) (n : N) (c : G.Arg n) (i : Input) (a : G.Val n) (j : Input) → reader G d n c i ≡ done (a, j) → lang G d n c i a j
reader_sound G zero n c i a j h = absurd cc
reader_sound G (suc d) n c i a j h = read_sound G.tables (reader G d) (lang G d) (reader_sound G d) (G.rule n c) i a j h

-- ---- tests

pub and_left : (a b : Bool) → a && b ≡ true → a ≡ true
and_left true b h = refl
and_left false b h = absurd cc

pub and_right : (a b : Bool) → a && b ≡ true → b ≡ true
and_right true b h = h
and_right false b h = absurd cc

pub or_left : (a b : Bool) → a ≡ true → a || b ≡ true
or_left true b h = refl
or_left false b h = absurd cc

pub or_right : (a b : Bool) → b ≡ true → a || b ≡ true
or_right true b h = refl
or_right false b h = h

pub both_true : (a b : Bool) → a ≡ true → b ≡ true → a && b ≡ true
both_true true b h g = g
both_true false b h g = absurd cc

pub implied : (a b : Bool) → implies a b ≡ true → a ≡ true → b ≡ true
implied true b h g = h
implied false b h g = absurd cc

not_both : (a b : Bool) → not (a && b) ≡ true → a ≡ true → b ≡ false
not_both true true h g = absurd cc
not_both true false h g = refl
not_both false b h g = absurd cc

not_both_left : (a b : Bool) → not (a && b) ≡ true → b ≡ true → a ≡ false
not_both_left true true h g = absurd cc
not_both_left true false h g = absurd cc
not_both_left false b h g = refl

pub every_at : (m : ℕ) (p : ℕ → Bool) (c : ℕ) → every m p ≡ true → c < m → p c ≡ true
every_at zero p c h lt = absurd (omega (arith, lt))
every_at (suc n) p c h lt =
    elim (eqb c n) as (λ b. eqb c n ≡ b → p c ≡ true) [
      | true ↦ λ e. subst (λ (x : ℕ). p x ≡ true) (sym (eqb-true c n e)) (and_left (p n) (every n p) h)
      | false ↦ λ e. every_at n p c (and_right (p n) (every n p) h) (let ne = eqb-false c n e in omega (arith, lt, ne))
    ] refl

-- ---- law 2: what is in the grammar is read

-- what was read begins as its shape says
abbrev pub Begun : {N : Type 0} → Tables N → Shape N → Input → Input → Type 0
Begun T s i j = ((reads_none T s ≡ true) × (i ≡ j)) ⊎ ((t : Token) × (w : Input) × (i ≡ t ∷ w) × (begins T s (kind t) ≡ true) × ((kind t) < kinds))

-- what follows is of a kind of f
abbrev pub Follows : {N : Type 0} → Tables N → (ℕ → Bool) → Input → Type 0
Follows T f j = (j ≡ []) ⊎ ((t : Token) × (w : Input) × (j ≡ t ∷ w) × (f (kind t) ≡ true) × ((kind t) < kinds))

begun_both : {N : Type 0} (T : Tables N) (s u : Shape N) (i j k : Input) → Begun T s i j → Begun T u j k → Begun T (both s u) i k
begun_both T s u i j k (inl b) (inl d) = inl (both_true (reads_none T s) (reads_none T u) b.0 d.0, b.1 ∙ d.1)
begun_both T s u i j k (inl b) (inr d) = inr (d.0, d.1, b.1 ∙ d.2, or_right (begins T s (kind d.0)) (reads_none T s && begins T u (kind d.0)) (both_true (reads_none T s) (begins T u (kind d.0)) b.0 d.3), d.4)
begun_both T s u i j k (inr b) d = inr (b.0, b.1, b.2, or_left (begins T s (kind b.0)) (reads_none T s && begins T u (kind b.0)) b.3, b.4)

begun_left : {N : Type 0} (T : Tables N) (s u : Shape N) (i j : Input) → Begun T s i j → Begun T (either s u) i j
begun_left T s u i j (inl b) = inl (or_left (reads_none T s) (reads_none T u) b.0, b.1)
begun_left T s u i j (inr b) = inr (b.0, b.1, b.2, or_left (begins T s (kind b.0)) (begins T u (kind b.0)) b.3, b.4)

begun_right : {N : Type 0} (T : Tables N) (s u : Shape N) (i j : Input) → Begun T u i j → Begun T (either s u) i j
begun_right T s u i j (inl b) = inl (or_right (reads_none T s) (reads_none T u) b.0, b.1)
begun_right T s u i j (inr b) = inr (b.0, b.1, b.2, or_right (begins T s (kind b.0)) (begins T u (kind b.0)) b.3, b.4)

-- a part that may be followed by f is chosen at what it begins with or at what follows
follows_begun : {N : Type 0} (T : Tables N) (s : Shape N) (f : ℕ → Bool) (i j : Input) → Begun T s i j → Follows T f j → Follows T (chosen T s f) i
follows_begun T s f i j (inl b) (inl e) = inl (b.1 ∙ e)
follows_begun T s f i j (inl b) (inr d) = inr (d.0, d.1, b.1 ∙ d.2, or_right (begins T s (kind d.0)) (reads_none T s && f (kind d.0)) (both_true (reads_none T s) (f (kind d.0)) b.0 d.3), d.4)
follows_begun T s f i j (inr b) g = inr (b.0, b.1, b.2, or_left (begins T s (kind b.0)) (reads_none T s && f (kind b.0)) b.3, b.4)

follows_weaker : {N : Type 0} (T : Tables N) (f g : ℕ → Bool) (j : Input) → every kinds (λ c. implies (f c) (g c)) ≡ true → Follows T f j → Follows T g j
follows_weaker T f g j h (inl e) = inl e
follows_weaker T f g j h (inr d) = inr (d.0, d.1, d.2, implied (f (kind d.0)) (g (kind d.0)) (every_at kinds (λ c. implies (f c) (g c)) (kind d.0) h d.4) d.3, d.4)

-- the choice is the first, or it is the second
left_begins : (x y z : Bool) → x ≡ true → x || (not y && z) ≡ true
left_begins x y z e = or_left x (not y && z) e

left_none : (x y z : Bool) → y ≡ false → z ≡ true → x || (not y && z) ≡ true
left_none x true z e g = absurd cc
left_none x false z e g = or_right x z g

right_begins : (x y z : Bool) → x ≡ false → y ≡ true → x || (not y && z) ≡ false
right_begins false true z e g = refl
right_begins true y z e g = absurd cc
right_begins false false z e g = absurd cc

right_none : (x y z : Bool) → x ≡ false → z ≡ false → x || (not y && z) ≡ false
right_none false true false e g = refl
right_none false false false e g = refl
right_none true y z e g = absurd cc
right_none false y true e g = absurd cc

or_false : (a b : Bool) → a || b ≡ false → a ≡ false
or_false true b h = absurd cc
or_false false b h = refl

module _ {N : Type 0} (T : Tables N) (s u : Shape N) (f : ℕ → Bool) (apart : every kinds (λ c. not (chosen T s f c && chosen T u f c)) ≡ true) (one_none : not (reads_none T s && reads_none T u) ≡ true) where
  left_at : (i j : Input) → Begun T s i j → Follows T f j → left T s u i ≡ true
  left_at i j (inl b) (inl e) = subst (λ k. left T s u k ≡ true) (sym (b.1 ∙ e)) b.0
  left_at i j (inl b) (inr d) = subst (λ k. left T s u k ≡ true) (sym (b.1 ∙ d.2))
      (left_none (begins T s (kind d.0)) (begins T u (kind d.0)) (reads_none T s)
      (or_false (begins T u (kind d.0)) (reads_none T u && f (kind d.0)) (not_both (chosen T s f (kind d.0)) (chosen T u f (kind d.0)) (every_at kinds (λ c. not (chosen T s f c && chosen T u f c)) (kind d.0) apart d.4)
      (or_right (begins T s (kind d.0)) (reads_none T s && f (kind d.0)) (both_true (reads_none T s) (f (kind d.0)) b.0 d.3)))) b.0)
  left_at i j (inr b) g = subst (λ k. left T s u k ≡ true) (sym b.2) (left_begins (begins T s (kind b.0)) (begins T u (kind b.0)) (reads_none T s) b.3)

  right_at : (i j : Input) → Begun T u i j → Follows T f j → left T s u i ≡ false
  right_at i j (inl b) (inl e) = subst (λ k. left T s u k ≡ false) (sym (b.1 ∙ e)) (not_both_left (reads_none T s) (reads_none T u) one_none b.0)
  right_at i j (inl b) (inr d) = subst (λ k. left T s u k ≡ false) (sym (b.1 ∙ d.2))
      (right_none (begins T s (kind d.0)) (begins T u (kind d.0)) (reads_none T s)
      (or_false (begins T s (kind d.0)) (reads_none T s && f (kind d.0)) (not_both_left (chosen T s f (kind d.0)) (chosen T u f (kind d.0)) (every_at kinds (λ c. not (chosen T s f c && chosen T u f c)) (kind d.0) apart d.4)
      (or_right (begins T u (kind d.0)) (reads_none T u && f (kind d.0)) (both_true (reads_none T u) (f (kind d.0)) b.0 d.3))))
      (not_both_left (reads_none T s) (reads_none T u) one_none b.0))
  right_at i j (inr b) g = subst (λ k. left T s u k ≡ false) (sym b.2)
      (right_begins (begins T s (kind b.0)) (begins T u (kind b.0)) (reads_none T s)
      (or_false (begins T s (kind b.0)) (reads_none T s && f (kind b.0)) (not_both_left (chosen T s f (kind b.0)) (chosen T u f (kind b.0)) (every_at kinds (λ c. not (chosen T s f c && chosen T u f c)) (kind b.0) apart b.4)
      (or_left (begins T u (kind b.0)) (reads_none T u && f (kind b.0)) b.3))) b.3)

module _ {N : Type 0} {Arg Val : N → Type 0} (T : Tables N) (R : (n : N) → Arg n → Input → Val n → Input → Type 0)
    (hb : (n : N) (c : Arg n) (i : Input) (a : Val n) (j : Input) → R n c i a j → Begun T (shape.part n) i j) where
  pub begun : {s : Shape N} {A : Type 0} (r : Rule Arg Val s A) (i : Input) (a : A) (j : Input) → known T s ≡ true → Derives R r i a j → Begun T s i j
  begun (pure x) i a j h d = inl (refl, d.1)
  begun (tok k) i a j h d = inr (a, j, d.1, d.0, let e = eqb-true (kind a) k d.0 in let lt = ltb-true k kinds h in omega (arith, e, lt))
  begun (such k q x y) i a j h d = inr (a, j, d.1, and_left (eqb (kind a) k) (q a) d.0, let e = eqb-true (kind a) k (and_left (eqb (kind a) k) (q a) d.0) in let lt = ltb-true k kinds h in omega (arith, e, lt))
  begun (any m x e) i a j h d = inr (a, j, d.1, d.0, kind_known a)
  begun (part n c) i a j h d = hb n c i a j d
  begun (bind {s = s} {u = u} r f) i a j h d =
      begun_both T s u i d.1 j (begun r i d.0 d.1 (and_left (known T s) (known T u) h) d.2) (begun (f d.0) d.1 a j (and_right (known T s) (known T u) h) d.3)
  begun (choice {s = s} {u = u} r q) i a j h (inl d) = begun_left T s u i j (begun r i a j (and_left (known T s) (known T u) h) d)
  begun (choice {s = s} {u = u} r q) i a j h (inr d) = begun_right T s u i j (begun q i a j (and_right (known T s) (known T u) h) d)
  begun (given {s = s} x r) i a j h d = begun r i a j h d.1

  module _ (p : (n : N) → Arg n → Parser (Val n))
      (hp : (n : N) (c : Arg n) (i : Input) (a : Val n) (j : Input) → R n c i a j → Follows T (T.follow n) j → p n c i ≡ done (a, j)) where
    pub reads : {s : Shape N} {A : Type 0} (r : Rule Arg Val s A) (f : ℕ → Bool) (i : Input) (a : A) (j : Input) → known T s ≡ true → decides T s f ≡ true → Follows T f j → Derives R r i a j → read T p r i ≡ done (a, j)
    reads (pure x) f i a j k h g d = cc
    reads (tok k) f i a j kn h g d = subst (λ w. eat k w ≡ done (a, j)) (sym d.1) (rw d.0 refl)
    reads (such k q x e) f i a j kn h g d = subst (λ w. eat_such k q (first w) w ≡ done (a, j)) (sym d.1) (rw d.0 refl)
    reads (any m x e) f i a j kn h g d = subst (λ w. eat_any m (first w) w ≡ done (a, j)) (sym d.1) (rw d.0 refl)
    reads (part n c) f i a j k h g d = hp n c i a j d (follows_weaker T f (T.follow n) j h g)
    reads (bind {s = s} {u = u} r q) f i a j k h g d =
        let ku = and_right (known T s) (known T u) k in
        let d2 = begun (q d.0) d.1 a j ku d.3 in
        rw (reads r (chosen T u f) i d.0 d.1 (and_left (known T s) (known T u) k) (and_right (decides T u f) (decides T s (chosen T u f)) h) (follows_begun T u f d.1 j d2 g) d.2)
        (reads (q d.0) f d.1 a j ku (and_left (decides T u f) (decides T s (chosen T u f)) h) g d.3)
    reads (choice {s = s} {u = u} r q) f i a j k h g (inl d) =
        let ks = and_left (known T s) (known T u) k in
        let h1 = and_right (decides T s f) _ h in
        let h2 = and_right (decides T u f) _ h1 in
        rw (left_at T s u f (and_right (not (reads_none T s && reads_none T u)) _ h2) (and_left (not (reads_none T s && reads_none T u)) _ h2) i j (begun r i a j ks d) g)
        (reads r f i a j ks (and_left (decides T s f) _ h) g d)
    reads (choice {s = s} {u = u} r q) f i a j k h g (inr d) =
        let ku = and_right (known T s) (known T u) k in
        let h1 = and_right (decides T s f) _ h in
        let h2 = and_right (decides T u f) _ h1 in
        rw (right_at T s u f (and_right (not (reads_none T s && reads_none T u)) _ h2) (and_left (not (reads_none T s && reads_none T u)) _ h2) i j (begun q i a j ku d) g)
        (reads q f i a j ku (and_left (decides T u f) _ h1) g d)
    reads (given {s = s} x r) f i a j k h g d = rw d.0 (reads r f i a j k h g d.1)

-- ---- a good grammar

module _ {N : Type 0} (G : Grammar N) (good : Good G) where
  pub fit0 : (n : N) → known G.tables (G.shape n) ≡ true
  fit0 n = and_left (known G.tables (G.shape n)) _ (good.each n)

  pub fit1 : (n : N) → decides G.tables (G.shape n) (G.tables.follow n) ≡ true
  fit1 n = and_left (decides G.tables (G.shape n) (G.tables.follow n)) _ (and_right (known G.tables (G.shape n)) _ (good.each n))

  pub rest1 : (n : N) → (implies (reads_none G.tables (G.shape n)) (G.tables.null n) && (every kinds (λ c. implies (begins G.tables (G.shape n) c) (G.tables.first n c)) && (ranked G.tables (G.shape n) (G.tables.rank n) && ((G.tables.by_hand n || easy G.tables (G.shape n) (G.tables.height n)) && (finishes G.tables (G.shape n) && (ltb (G.tables.height n) G.tables.heights && ltb (G.tables.rank n) G.tables.ranks)))))) ≡ true
  rest1 n = and_right (decides G.tables (G.shape n) (G.tables.follow n)) _ (and_right (known G.tables (G.shape n)) _ (good.each n))

  pub fit2 : (n : N) → implies (reads_none G.tables (G.shape n)) (G.tables.null n) ≡ true
  fit2 n = and_left (implies (reads_none G.tables (G.shape n)) (G.tables.null n)) _ (rest1 n)

  pub fit3 : (n : N) → every kinds (λ c. implies (begins G.tables (G.shape n) c) (G.tables.first n c)) ≡ true
  fit3 n = and_left (every kinds (λ c. implies (begins G.tables (G.shape n) c) (G.tables.first n c))) _ (and_right (implies (reads_none G.tables (G.shape n)) (G.tables.null n)) _ (rest1 n))

  pub rest2 : (n : N) → (ranked G.tables (G.shape n) (G.tables.rank n) && ((G.tables.by_hand n || easy G.tables (G.shape n) (G.tables.height n)) && (finishes G.tables (G.shape n) && (ltb (G.tables.height n) G.tables.heights && ltb (G.tables.rank n) G.tables.ranks)))) ≡ true
  rest2 n = and_right (every kinds (λ c. implies (begins G.tables (G.shape n) c) (G.tables.first n c))) _ (and_right (implies (reads_none G.tables (G.shape n)) (G.tables.null n)) _ (rest1 n))

  pub fit4 : (n : N) → ranked G.tables (G.shape n) (G.tables.rank n) ≡ true
  fit4 n = and_left (ranked G.tables (G.shape n) (G.tables.rank n)) _ (rest2 n)

  pub fit5 : (n : N) → G.tables.by_hand n || easy G.tables (G.shape n) (G.tables.height n) ≡ true
  fit5 n = and_left (G.tables.by_hand n || easy G.tables (G.shape n) (G.tables.height n)) _ (and_right (ranked G.tables (G.shape n) (G.tables.rank n)) _ (rest2 n))

  pub rest3 : (n : N) → finishes G.tables (G.shape n) && (ltb (G.tables.height n) G.tables.heights && ltb (G.tables.rank n) G.tables.ranks) ≡ true
  rest3 n = and_right (G.tables.by_hand n || easy G.tables (G.shape n) (G.tables.height n)) _ (and_right (ranked G.tables (G.shape n) (G.tables.rank n)) _ (rest2 n))

  pub fit6 : (n : N) → finishes G.tables (G.shape n) ≡ true
  fit6 n = and_left (finishes G.tables (G.shape n)) _ (rest3 n)

  pub fit7 : (n : N) → ltb (G.tables.height n) G.tables.heights ≡ true
  fit7 n = and_left (ltb (G.tables.height n) G.tables.heights) _ (and_right (finishes G.tables (G.shape n)) _ (rest3 n))

  pub fit8 : (n : N) → ltb (G.tables.rank n) G.tables.ranks ≡ true
  fit8 n = and_right (ltb (G.tables.height n) G.tables.heights) _ (and_right (finishes G.tables (G.shape n)) _ (rest3 n))

  begun_part : (n : N) (i j : Input) → Begun G.tables (G.shape n) i j → Begun G.tables (shape.part n) i j
  begun_part n i j (inl b) = inl (implied (reads_none G.tables (G.shape n)) (G.tables.null n) (fit2 n) b.0, b.1)
  begun_part n i j (inr b) = inr (b.0, b.1, b.2, implied (begins G.tables (G.shape n) (kind b.0)) (G.tables.first n (kind b.0)) (every_at kinds (λ c. implies (begins G.tables (G.shape n) c) (G.tables.first n c)) (kind b.0) (fit3 n) b.4) b.3, b.4)

  pub lang_begun : (d : ℕ) (n : N) (c : G.Arg n) (i : Input) (a : G.Val n) (j : Input) → lang G d n c i a j → Begun G.tables (shape.part n) i j
  lang_begun zero n c i a j d = absurd d
  lang_begun (suc h) n c i a j d = begun_part n i j (begun G.tables (lang G h) (lang_begun h) (G.rule n c) i a j (fit0 n) d)

  pub reader_reads : (d : ℕ) (n : N) (c : G.Arg n) (i : Input) (a : G.Val n) (j : Input) → lang G d n c i a j → Follows G.tables (G.tables.follow n) j → reader G d n c i ≡ done (a, j)
  reader_reads zero n c i a j d f = absurd d
  reader_reads (suc h) n c i a j d f = reads G.tables (lang G h) (lang_begun h) (reader G h) (reader_reads h) (G.rule n c) (G.tables.follow n) i a j (fit0 n) (fit1 n) f d
