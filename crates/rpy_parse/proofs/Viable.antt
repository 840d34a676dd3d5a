-- What was read before the dead token can be completed.
use Rattle.std.proofs.Common.{◌≡◌, ℕ, zero, suc, ◌<◌, ◌≤◌, ◌+◌, Bool, true, false, cond, ◌&&◌, ◌||◌, eqb, ltb, [], ◌∷◌, ◌++◌, length, Ok, Err, refl, sym, ap, ◌∙◌, subst, arith, append_assoc, length-append, ◌⊎◌, inl, inr, ltb-true}
use Rattle.rpy_token.specs.declared.token.Token.{Token}
use Rattle.rpy_parse.specs.Input.{Input, first}
use Rattle.rpy_parse.specs.Kind.{kinds, kind, token_of}
use Rattle.rpy_parse.specs.Shape.{Shape, bit, Tables, reads_none, implies, easy, finishes}
use Rattle.rpy_parse.specs.Rule.{Outcome, Parser, and_then, eat, eat_such, eat_any, Rule, pure, tok, such, any, part, bind, choice, given, Derives, left, read, Grammar, Good, Short, lang, Lang, reader}
use Rattle.rpy_parse.proofs.Laws.{done, every_at, and_left, and_right, read_sound, reader_sound, fit2, fit5, fit6}

abbrev pub fail : (A : Type 0) → ℕ → Outcome A
fail A n = Err n

-- ---- a parser leaves no more than there was, and less where it must read something

abbrev pub Took : {A : Type 0} → Bool → ℕ → Outcome A → Type 0
Took true n (Ok p) = length p.1 ≤ n
Took false n (Ok p) = length p.1 < n
Took b n (Err m) = m ≤ n

pub took_weaker : {A : Type 0} (a b : Bool) (n : ℕ) (o : Outcome A) → implies a b ≡ true → Took a n o → Took b n o
took_weaker true true n o h w = w
took_weaker true false n o h w = absurd cc
took_weaker false false n o h w = w
took_weaker false true n (Ok p) h w = omega (arith, w)
took_weaker false true n (Err m) h w = w

took_more : {A : Type 0} (b : Bool) (m n : ℕ) (o : Outcome A) → m ≤ n → Took b m o → Took b n o
took_more true m n (Ok p) le w = omega (arith, le, w)
took_more false m n (Ok p) le w = omega (arith, le, w)
took_more true m n (Err k) le w = omega (arith, le, w)
took_more false m n (Err k) le w = omega (arith, le, w)

took_less : {A : Type 0} (b : Bool) (m n : ℕ) (o : Outcome A) → m < n → Took b m o → Took false n o
took_less true m n (Ok p) le w = omega (arith, le, w)
took_less false m n (Ok p) le w = omega (arith, le, w)
took_less true m n (Err k) le w = omega (arith, le, w)
took_less false m n (Err k) le w = omega (arith, le, w)

took_bind : {A B : Type 0} (a b : Bool) (n : ℕ) (o : Outcome A) (f : A → Parser B) → Took a n o → ((x : A) (i : Input) → Took b (length i) (f x i)) → Took (a && b) n (and_then o f)
took_bind true b n (Ok p) f w h = took_more b (length p.1) n (f p.0 p.1) w (h p.0 p.1)
took_bind false b n (Ok p) f w h = took_less b (length p.1) n (f p.0 p.1) w (h p.0 p.1)
took_bind true true n (Err m) f w h = w
took_bind true false n (Err m) f w h = w
took_bind false b n (Err m) f w h = w

took_choice : {A : Type 0} (x a b : Bool) (n : ℕ) (o q : Outcome A) → Took a n o → Took b n q → Took (a || b) n (cond x o q)
took_choice true true b n o q w v = w
took_choice true false b n o q w v = took_weaker false b n o refl w
took_choice false true true n o q w v = v
took_choice false true false n o q w v = took_weaker false true n q refl v
took_choice false false b n o q w v = v

took_given : {A : Type 0} (x b : Bool) (n : ℕ) (o : Outcome A) → Took b n o → Took b n (cond x o (Err n))
took_given true b n o w = w
took_given false true n o w = omega arith
took_given false false n o w = omega arith

took_one : (k : ℕ) (i : Input) → Took false (length i) (eat k i)
took_one k [] = omega arith
took_one k (t ∷ i) = took_given (eqb (kind t) k) false (length (t ∷ i)) (Ok (t, i)) (omega arith)

took_such : (k : ℕ) (q : Token → Bool) (i : Input) → Took false (length i) (eat_such k q (first i) i)
took_such k q [] = omega arith
took_such k q (t ∷ i) = took_given (eqb (kind t) k && q t) false (length (t ∷ i)) (Ok (t, i)) (omega arith)

took_any : (m : ℕ) (i : Input) → Took false (length i) (eat_any m (first i) i)
took_any m [] = omega arith
took_any m (t ∷ i) = took_given (bit m (kind t)) false (length (t ∷ i)) (Ok (t, i)) (omega arith)

module _ {N : Type 0} {Arg Val : N → Type 0} (T : Tables N) (p : (n : N) → Arg n → Parser (Val n)) (hp : (n : N) (c : Arg n) (i : Input) → Took (T.null n) (length i) (p n c i)) where
  pub read_took : {s : Shape N} {A : Type 0} (r : Rule Arg Val s A) (i : Input) → Took (reads_none T s) (length i) (read T p r i)
  read_took (pure x) i = omega arith
  read_took (tok k) i = took_one k i
  read_took (such k q x e) i = took_such k q i
  read_took (any m x e) i = took_any m i
  read_took (part n c) i = hp n c i
  read_took (bind {s = s} {u = u} r f) i = took_bind (reads_none T s) (reads_none T u) (length i) (read T p r i) (λ a. read T p (f a)) (read_took r i) (λ a j. read_took (f a) j)
  read_took (choice {s = s} {u = u} r q) i = took_choice (left T s u i) (reads_none T s) (reads_none T u) (length i) (read T p r i) (read T p q i) (read_took r i) (read_took q i)
  read_took (given {s = s} x r) i = took_given x (reads_none T s) (length i) (read T p r i) (read_took r i)

none_left : (A : Type 0) (b : Bool) (n : ℕ) → Took b n (fail A n)
none_left A true n = omega arith
none_left A false n = omega arith

pub reader_took : {N : Type 0} (G : Grammar N) (good : Good G) (d : ℕ) (n : N) (c : G.Arg n) (i : Input) → Took (G.tables.null n) (length i) (reader G d n c i)
reader_took G good zero n c i = none_left (G.Val n) (G.tables.null n) (length i)
reader_took G good (suc d) n c i =
    took_weaker (reads_none G.tables (G.shape n)) (G.tables.null n) (length i) (read G.tables (reader G d) (G.rule n c) i) (fit2 G good n)
    (read_took G.tables (reader G d) (reader_took G good d) (G.rule n c) i)

took_err : {A : Type 0} (b : Bool) (n m : ℕ) (o : Outcome A) → Took b n o → o ≡ Err m → m ≤ n
took_err true n m (Ok x) w e = absurd cc
took_err false n m (Ok x) w e = absurd cc
took_err true n m (Err k) w e = let same : k ≡ m = cc in omega (arith, w, same)
took_err false n m (Err k) w e = let same : k ≡ m = cc in omega (arith, w, same)

-- ---- trees of any height

pub derives_up : {N : Type 0} {Arg Val : N → Type 0} (R S : (n : N) → Arg n → Input → Val n → Input → Type 0) → ((n : N) (c : Arg n) (i : Input) (a : Val n) (j : Input) → R n c i a j → S n c i a j)
    → {s : Shape N} {A : Type 0} (r : Rule Arg Val s A) (i : Input) (a : A) (j : Input) → Derives R r i a j → Derives S r i a j
derives_up R S h (pure x) i a j d = d
derives_up R S h (tok k) i a j d = d
derives_up R S h (such k q x e) i a j d = d
derives_up R S h (any m x e) i a j d = d
derives_up R S h (part n c) i a j d = h n c i a j d
derives_up R S h (bind r f) i a j d = (d.0, d.1, derives_up R S h r i d.0 d.1 d.2, derives_up R S h (f d.0) d.1 a j d.3)
derives_up R S h (choice r q) i a j (inl d) = inl (derives_up R S h r i a j d)
derives_up R S h (choice r q) i a j (inr d) = inr (derives_up R S h q i a j d)
derives_up R S h (given x r) i a j d = (d.0, derives_up R S h r i a j d.1)

pub lang_le : {N : Type 0} (G : Grammar N) (d e : ℕ) → d ≤ e → (n : N) (c : G.Arg n) (i : Input) (a : G.Val n) (j : Input) → lang G d n c i a j → lang G e n c i a j
lang_le G zero e le n c i a j x = absurd x
lang_le G (suc d) zero le n c i a j x = absurd (omega (arith, le))
lang_le G (suc d) (suc e) le n c i a j x = derives_up (lang G d) (lang G e) (lang_le G d e (omega (arith, le))) (G.rule n c) i a j x

module _ {N : Type 0} (G : Grammar N) where
  pub collect : {s : Shape N} {A : Type 0} (r : Rule G.Arg G.Val s A) (i : Input) (a : A) (j : Input) → Derives (Lang G) r i a j → (d : ℕ) × Derives (lang G d) r i a j
  collect (pure x) i a j d = (0, d)
  collect (tok k) i a j d = (0, d)
  collect (such k q x e) i a j d = (0, d)
  collect (any m x e) i a j d = (0, d)
  collect (part n c) i a j d = d
  collect (bind r f) i a j d =
      let x = collect r i d.0 d.1 d.2 in
      let y = collect (f d.0) d.1 a j d.3 in
      (x.0 + y.0, (d.0, d.1, derives_up (lang G x.0) (lang G (x.0 + y.0)) (lang_le G x.0 (x.0 + y.0) (omega arith)) r i d.0 d.1 x.1, derives_up (lang G y.0) (lang G (x.0 + y.0)) (lang_le G y.0 (x.0 + y.0) (omega arith)) (f d.0) d.1 a j y.1))
  collect (choice r q) i a j (inl d) = let x = collect r i a j d in (x.0, inl x.1)
  collect (choice r q) i a j (inr d) = let x = collect q i a j d in (x.0, inr x.1)
  collect (given x r) i a j d = let y = collect r i a j d.1 in (y.0, (d.0, y.1))

  -- the relation of a rule by its parts, and back
  pub lang_of : (n : N) (c : G.Arg n) (i : Input) (a : G.Val n) (j : Input) → Derives (Lang G) (G.rule n c) i a j → Lang G n c i a j
  lang_of n c i a j d = let x = collect (G.rule n c) i a j d in (suc x.0, x.1)

  lang_by_of : (d : ℕ) (n : N) (c : G.Arg n) (i : Input) (a : G.Val n) (j : Input) → lang G d n c i a j → Derives (Lang G) (G.rule n c) i a j
  lang_by_of zero n c i a j x = absurd x
  lang_by_of (suc d) n c i a j x = derives_up (lang G d) (Lang G) (λ m e k b l y. (d, y)) (G.rule n c) i a j x

  pub lang_by : (n : N) (c : G.Arg n) (i : Input) (a : G.Val n) (j : Input) → Lang G n c i a j → Derives (Lang G) (G.rule n c) i a j
  lang_by n c i a j x = lang_by_of x.0 n c i a j x.1

-- ---- a derivation does not look at what follows it

abbrev pub Fronted : {A : Type 0} → (Input → A → Input → Type 0) → Input → A → Input → Type 0
Fronted R i a j = (s : Input) × (i ≡ s ++ j) × ((z : Input) → R (s ++ z) a z)

module _ {N : Type 0} {Arg Val : N → Type 0} (R : (n : N) → Arg n → Input → Val n → Input → Type 0)
    (hf : (n : N) (c : Arg n) (i : Input) (a : Val n) (j : Input) → R n c i a j → Fronted (R n c) i a j) where
  pub front : {s : Shape N} {A : Type 0} (r : Rule Arg Val s A) (i : Input) (a : A) (j : Input) → Derives R r i a j → Fronted (Derives R r) i a j
  front (pure x) i a j d = ([], d.1, λ z. (d.0, refl))
  front (tok k) i a j d = (a ∷ [], d.1, λ z. (d.0, refl))
  front (such k q x e) i a j d = (a ∷ [], d.1, λ z. (d.0, refl))
  front (any m x e) i a j d = (a ∷ [], d.1, λ z. (d.0, refl))
  front (part n c) i a j d = hf n c i a j d
  front (bind r f) i a j d =
      let x = front r i d.0 d.1 d.2 in
      let y = front (f d.0) d.1 a j d.3 in (
        x.0 ++ y.0,
        x.1 ∙ ap (λ (w : Input). x.0 ++ w) y.1 ∙ sym (append_assoc x.0 y.0 j),
        λ z. (d.0, y.0 ++ z, subst (λ (w : Input). Derives R r w d.0 (y.0 ++ z)) (sym (append_assoc x.0 y.0 z)) (x.2 (y.0 ++ z)), y.2 z),
      )
  front (choice r q) i a j (inl d) = let x = front r i a j d in (x.0, x.1, λ z. inl (x.2 z))
  front (choice r q) i a j (inr d) = let x = front q i a j d in (x.0, x.1, λ z. inr (x.2 z))
  front (given b r) i a j d = let x = front r i a j d.1 in (x.0, x.1, λ z. (d.0, x.2 z))

lang_front_at : {N : Type 0} (G : Grammar N) (d : ℕ) (n : N) (c : G.Arg n) (i : Input) (a : G.Val n) (j : Input) → lang G d n c i a j → Fronted (lang G d n c) i a j
lang_front_at G zero n c i a j x = absurd x
lang_front_at G (suc d) n c i a j x = front (lang G d) (lang_front_at G d) (G.rule n c) i a j x

pub lang_front : {N : Type 0} (G : Grammar N) (n : N) (c : G.Arg n) (i : Input) (a : G.Val n) (j : Input) → Lang G n c i a j → Fronted (Lang G n c) i a j
lang_front G n c i a j x = let f = lang_front_at G x.0 n c i a j x.1 in (f.0, f.1, λ z. (x.0, f.2 z))

-- ---- each rule has a text

kind_of : (k : ℕ) → ltb k kinds ≡ true → eqb (kind (token_of k)) k ≡ true
kind_of k e = every_at kinds (λ c. eqb (kind (token_of c)) c) k refl (ltb-true k kinds e)

abbrev pub Completed : {A : Type 0} → (Input → A → Input → Type 0) → Input → Type 0
Completed {A} R s = (c : Input) × (a : A) × ((z : Input) → R (s ++ (c ++ z)) a z)

one_of : {A : Type 0} (x y : Bool) → x || y ≡ true → (x ≡ true → A) → (y ≡ true → A) → A
one_of true y e f g = f refl
one_of false y e f g = g e

module _ {N : Type 0} {Arg Val : N → Type 0} (T : Tables N) (R : (n : N) → Arg n → Input → Val n → Input → Type 0) (h : ℕ)
    (hs : (n : N) (c : Arg n) → T.height n < h → Short (R n c)) where
  short_choice : {s u : Shape N} {A : Type 0} (x y : Bool) (r : Rule Arg Val s A) (q : Rule Arg Val u A) → x || y ≡ true → (x ≡ true → Short (Derives R r)) → (y ≡ true → Short (Derives R q)) → Short (Derives R (choice r q))
  short_choice true y r q e f g = let w = f refl in (w.0, w.1, λ z. inl (w.2 z))
  short_choice false y r q e f g = let w = g e in (w.0, w.1, λ z. inr (w.2 z))

  pub short : {s : Shape N} {A : Type 0} (r : Rule Arg Val s A) → easy T s h ≡ true → Short (Derives R r)
  short (pure x) e = ([], x, λ z. (refl, refl))
  short (tok k) e = (token_of k ∷ [], token_of k, λ z. (kind_of k e, refl))
  short (such k q x y) e = (x ∷ [], x, λ z. (y, refl))
  short (any m x y) e = (x ∷ [], x, λ z. (y, refl))
  short (part n c) e = hs n c (ltb-true (T.height n) h e)
  short (bind {s = s} {u = u} r f) e =
      let x = short r (and_left (easy T s h) (easy T u h) e) in
      let y = short (f x.1) (and_right (easy T s h) (easy T u h) e) in
      (x.0 ++ y.0, y.1, λ z. (x.1, y.0 ++ z, subst (λ (w : Input). Derives R r w x.1 (y.0 ++ z)) (sym (append_assoc x.0 y.0 z)) (x.2 (y.0 ++ z)), y.2 z))
  short (choice {s = s} {u = u} r q) e = short_choice (easy T s h) (easy T u h) r q e (short r) (short q)
  short (given x r) e = absurd cc

module _ {N : Type 0} (G : Grammar N) (good : Good G) where
  lang_short_below : (h : ℕ) (n : N) (c : G.Arg n) → G.tables.height n < h → Short (Lang G n c)
  lang_short_below zero n c lt = absurd (omega (arith, lt))
  lang_short_below (suc h) n c lt =
      one_of (G.tables.by_hand n) (easy G.tables (G.shape n) (G.tables.height n)) (fit5 G good n) (λ e. good.hand n e c)
      (λ e.
      let x = short G.tables (Lang G) (G.tables.height n) (λ m b l. lang_short_below h m b (omega (arith, l, lt))) (G.rule n c) e in
      (x.0, x.1, λ z. lang_of G n c (x.0 ++ z) x.1 z (x.2 z)))

  pub lang_short : (n : N) (c : G.Arg n) → Short (Lang G n c)
  lang_short n c = lang_short_below (suc (G.tables.height n)) n c (omega arith)

-- ---- law 3: what was read before the dead token can be completed

-- which part failed
bind_err : {A B : Type 0} (o : Outcome A) (f : A → Parser B) (n : ℕ) → and_then o f ≡ Err n → (o ≡ Err n) ⊎ ((x : A × Input) × (o ≡ done x) × (f x.0 x.1 ≡ Err n))
bind_err (Ok x) f n h = inr (x, refl, h)
bind_err (Err m) f n h = inl cc

tails : (u v : Token) (s i : Input) → u ∷ s ≡ v ∷ i → (u ≡ v) × (s ≡ i)
tails u v s i h = (cc, cc)

-- a front that ends before another's end
pub cut : (s x s1 k : Input) → s ++ x ≡ s1 ++ k → length x ≤ length k → (s2 : Input) × (k ≡ s2 ++ x) × (s ≡ s1 ++ s2)
cut s x [] k e le = (s, sym e, refl)
cut [] x (u ∷ s1) k e le = absurd (omega (arith, ap length e, length-append s1 k))
cut (v ∷ s) x (u ∷ s1) k e le =
    let p = tails v u (s ++ x) (s1 ++ k) e in
    let r = cut s x s1 k p.1 le in
    (r.0, r.1, ap (λ (w : Token). w ∷ s) p.0 ∙ ap (λ (w : Input). u ∷ w) r.2)

err_is : (A : Type 0) (m n : ℕ) → fail A m ≡ fail A n → m ≡ n
err_is A m n h = cc

-- a failure at the beginning is none behind it
stuck : (A : Type 0) (v : Token) (w x : Input) → fail A (length (v ∷ (w ++ x))) ≡ fail A (length x) → ⊥
stuck A v w x h = let e = err_is A (length (v ∷ (w ++ x))) (length x) h in omega (arith, e, length-append w x)

module _ {N : Type 0} {Arg Val : N → Type 0} (T : Tables N) (p : (n : N) → Arg n → Parser (Val n)) (R : (n : N) → Arg n → Input → Val n → Input → Type 0)
    (hp : (n : N) (c : Arg n) (i : Input) (a : Val n) (j : Input) → p n c i ≡ done (a, j) → R n c i a j)
    (hf : (n : N) (c : Arg n) (i : Input) (a : Val n) (j : Input) → R n c i a j → Fronted (R n c) i a j)
    (ht : (n : N) (c : Arg n) (i : Input) → Took (T.null n) (length i) (p n c i))
    (hs : (n : N) (c : Arg n) → T.height n < T.heights → Short (R n c))
    (hv : (n : N) (c : Arg n) (v : Token) (w x : Input) → p n c (v ∷ (w ++ x)) ≡ fail (Val n) (length x) → Completed (R n c) (v ∷ w)) where
  stuck_given : {A : Type 0} (b : Bool) (o : Outcome A) (v : Token) (w x : Input) → cond b o (fail A (length (v ∷ (w ++ x)))) ≡ fail A (length x) → (b ≡ true) × (o ≡ fail A (length x))
  stuck_given true o v w x h = (refl, h)
  stuck_given {A = A} false o v w x h = absurd (stuck A v w x h)

  viable_choice : {s u : Shape N} {A : Type 0} (b : Bool) (r : Rule Arg Val s A) (q : Rule Arg Val u A) (i k : Input) (n : ℕ) → cond b (read T p r i) (read T p q i) ≡ fail A n
      → (read T p r i ≡ fail A n → Completed (Derives R r) k) → (read T p q i ≡ fail A n → Completed (Derives R q) k) → Completed (Derives R (choice r q)) k
  viable_choice true r q i k n h f g = let c = f h in (c.0, c.1, λ z. inl (c.2 z))
  viable_choice false r q i k n h f g = let c = g h in (c.0, c.1, λ z. inr (c.2 z))

  -- what comes behind a part that was read
  behind : {s u : Shape N} {A B : Type 0} (r : Rule Arg Val s A) (f : A → Rule Arg Val u B) (k s1 s2 : Input) (a : A) → k ≡ s1 ++ s2 → ((z : Input) → Derives R r (s1 ++ z) a z) → Completed (Derives R (f a)) s2 → Completed (Derives R (bind r f)) k
  behind r f k s1 s2 a e d c = (
    c.0,
    c.1,
    λ z. (
      a,
      s2 ++ (c.0 ++ z),
      subst (λ (w : Input). Derives R r w a (s2 ++ (c.0 ++ z))) (sym (ap (λ (w : Input). w ++ (c.0 ++ z)) e ∙ append_assoc s1 s2 (c.0 ++ z))) (d (s2 ++ (c.0 ++ z))),
      c.2 z,
    ),
  )

  -- what comes behind a part that is completed
  then_short : {s u : Shape N} {A B : Type 0} (r : Rule Arg Val s A) (f : A → Rule Arg Val u B) (k : Input) → (c : Completed (Derives R r) k) → Short (Derives R (f c.1)) → Completed (Derives R (bind r f)) k
  then_short r f k c y = (c.0 ++ y.0, y.1, λ z. (c.1, y.0 ++ z, subst (λ (w : Input). Derives R r (k ++ w) c.1 (y.0 ++ z)) (sym (append_assoc c.0 y.0 z)) (c.2 (y.0 ++ z)), y.2 z))

  -- a part of which nothing may have been read
  viable_from : {s : Shape N} {A : Type 0} (r : Rule Arg Val s A) → ((v : Token) (w x : Input) → read T p r (v ∷ (w ++ x)) ≡ fail A (length x) → Completed (Derives R r) (v ∷ w))
      → easy T s T.heights ≡ true → (w x : Input) → read T p r (w ++ x) ≡ fail A (length x) → Completed (Derives R r) w
  viable_from r ih e [] x g = short T R T.heights hs r e
  viable_from r ih e (v ∷ w) x g = ih v w x g

  pub viable : {s : Shape N} {A : Type 0} (r : Rule Arg Val s A) → finishes T s ≡ true → (v : Token) (w x : Input) → read T p r (v ∷ (w ++ x)) ≡ fail A (length x) → Completed (Derives R r) (v ∷ w)
  viable (pure a) h v w x e = absurd cc
  viable (tok k) h v w x e = let g = stuck_given (eqb (kind v) k) (Ok (v, w ++ x)) v w x e in absurd cc
  viable (such k q y f) h v w x e = let g = stuck_given (eqb (kind v) k && q v) (Ok (v, w ++ x)) v w x e in absurd cc
  viable (any m y f) h v w x e = let g = stuck_given (bit m (kind v)) (Ok (v, w ++ x)) v w x e in absurd cc
  viable (part n c) h v w x e = hv n c v w x e
  viable (bind {s = s} {u = u} r f) h v w x e =
      elim (bind_err (read T p r (v ∷ (w ++ x))) (λ a. read T p (f a)) (length x) e) as (λ _. Completed (Derives R (bind r f)) (v ∷ w)) [
        | inl g ↦
            let c = viable r (and_left (finishes T s) _ h) v w x g in
            then_short r f (v ∷ w) c (short T R T.heights hs (f c.1) (and_right (finishes T u) _ (and_right (finishes T s) _ h)))
        | inr g ↦
            let d = front R hf r (v ∷ (w ++ x)) g.0.0 g.0.1 (read_sound T p R hp r (v ∷ (w ++ x)) g.0.0 g.0.1 g.1) in
            let le = took_err (reads_none T u) (length g.0.1) (length x) (read T p (f g.0.0) g.0.1) (read_took T p ht (f g.0.0) g.0.1) g.2 in
            let k = cut (v ∷ w) x d.0 g.0.1 d.1 le in
            behind r f (v ∷ w) d.0 k.0 g.0.0 k.2 d.2
            (viable_from (f g.0.0) (viable (f g.0.0) (and_left (finishes T u) _ (and_right (finishes T s) _ h))) (and_right (finishes T u) _ (and_right (finishes T s) _ h)) k.0 x (subst (λ (y : Input). read T p (f g.0.0) y ≡ fail _ (length x)) k.1 g.2))
      ]
  viable (choice {s = s} {u = u} r q) h v w x e =
      viable_choice (left T s u (v ∷ (w ++ x))) r q (v ∷ (w ++ x)) (v ∷ w) (length x) e (viable r (and_left (finishes T s) _ h) v w x) (viable q (and_right (finishes T s) _ h) v w x)
  viable (given b r) h v w x e =
      let g = stuck_given b (read T p r (v ∷ (w ++ x))) v w x e in
      let c = viable r h v w x g.1 in
      (c.0, c.1, λ z. (g.0, c.2 z))

module _ {N : Type 0} (G : Grammar N) (good : Good G) where
  reader_viable : (d : ℕ) (n : N) (c : G.Arg n) (v : Token) (w x : Input) → reader G d n c (v ∷ (w ++ x)) ≡ fail (G.Val n) (length x) → Completed (Lang G n c) (v ∷ w)
  reader_viable zero n c v w x e = absurd (stuck (G.Val n) v w x e)
  reader_viable (suc d) n c v w x e =
      let k = viable G.tables (reader G d) (Lang G) (λ m b i a j h. (d, reader_sound G d m b i a j h)) (lang_front G) (reader_took G good d) (λ m b lt. lang_short G good m b) (reader_viable d) (G.rule n c) (fit6 G good n) v w x e in
      (k.0, k.1, λ z. lang_of G n c (v ∷ (w ++ (k.0 ++ z))) k.1 z (k.2 z))

  pub reader_completes : (d : ℕ) (n : N) (c : G.Arg n) (s x : Input) → reader G d n c (s ++ x) ≡ fail (G.Val n) (length x) → Completed (Lang G n c) s
  reader_completes d n c [] x e = lang_short G good n c
  reader_completes d n c (v ∷ w) x e = reader_viable d n c v w x e
