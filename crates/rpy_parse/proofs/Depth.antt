-- The reader needs no count: it is the rule read by the reader.
use Rattle.std.proofs.Common.{◌≡◌, ℕ, zero, suc, ◌<◌, ◌≤◌, ◌+◌, Bool, true, false, ltb, ◌++◌, length, Ok, Err, refl, sym, ap, ◌∙◌, arith, ltb-true}
use Rattle.rpy_parse.specs.Input.{Input}
use Rattle.rpy_parse.specs.Shape.{Shape, nothing, one, among, bit, both, either, only, Tables, reads_none, implies, ranked}
use Rattle.rpy_parse.specs.Shape as shape
use Rattle.rpy_parse.specs.Rule.{Outcome, Parser, and_then, Rule, pure, tok, such, any, part, bind, choice, given, read, Grammar, Good, Lang, reader, times, room, parse}
use Rattle.rpy_parse.proofs.Laws.{done, and_left, and_right, both_true, Follows, reader_sound, reader_reads, fit4, fit8}
use Rattle.rpy_parse.proofs.Viable.{Took, fail, read_took, reader_took, lang_le, Completed, reader_completes}

pub times_less : (a b m : ℕ) → a < b → times a m + m ≤ times b m
times_less a zero m lt = absurd (omega (arith, lt))
times_less zero (suc b) m lt = omega arith
times_less (suc a) (suc b) m lt = let h = times_less a b m (omega (arith, lt)) in omega (arith, h)

times_le : (a b m : ℕ) → a ≤ b → times a m ≤ times b m
times_le zero b m le = omega arith
times_le (suc a) zero m le = absurd (omega (arith, le))
times_le (suc a) (suc b) m le = let h = times_le a b m (omega (arith, le)) in omega (arith, h)

implied_by : (a b : Bool) → b ≡ true → implies a b ≡ true
implied_by true b h = h
implied_by false b h = refl

ranked_all : {N : Type 0} (T : Tables N) → ((n : N) → ltb (T.rank n) T.ranks ≡ true) → (s : Shape N) → ranked T s T.ranks ≡ true
ranked_all T h nothing = refl
ranked_all T h (one k) = refl
ranked_all T h (among k) = refl
ranked_all T h (shape.part n) = h n
ranked_all T h (both s u) = both_true (ranked T s T.ranks) _ (ranked_all T h s) (implied_by (reads_none T s) (ranked T u T.ranks) (ranked_all T h u))
ranked_all T h (either s u) = both_true (ranked T s T.ranks) _ (ranked_all T h s) (ranked_all T h u)
ranked_all T h (only s) = ranked_all T h s

and_then_same : {A B : Type 0} (b : Bool) (n : ℕ) (o : Outcome A) (f g : A → Parser B) → Took b n o → ((x : A) (j : Input) → Took b n (done (x, j)) → f x j ≡ g x j) → and_then o f ≡ and_then o g
and_then_same b n (Ok p) f g w h = h p.0 p.1 w
and_then_same b n (Err m) f g w h = refl

module _ {N : Type 0} {Arg Val : N → Type 0} (T : Tables N) (all : (n : N) → ltb (T.rank n) T.ranks ≡ true) (p q : (n : N) → Arg n → Parser (Val n)) (k : ℕ)
    (same : (n : N) (c : Arg n) (i : Input) → room T n i < k → p n c i ≡ q n c i)
    (ht : (n : N) (c : Arg n) (i : Input) → Took (T.null n) (length i) (p n c i)) where
  -- the rank and the room that are left behind a part
  later : {A : Type 0} (b : Bool) (u : Shape N) (r : ℕ) (i : Input) (x : A) (j : Input) → implies b (ranked T u r) ≡ true → times (length i) T.ranks + r ≤ k → Took b (length i) (done (x, j)) → (l : ℕ) × (ranked T u l ≡ true) × (times (length j) T.ranks + l ≤ k)
  later true u r i x j h le w = (r, h, let t = times_le (length j) (length i) T.ranks w in omega (arith, t, le))
  later false u r i x j h le w = (T.ranks, ranked_all T all u, let t = times_less (length j) (length i) T.ranks w in omega (arith, t, le))

  pub read_same : {s : Shape N} {A : Type 0} (r : Rule Arg Val s A) (l : ℕ) (i : Input) → ranked T s l ≡ true → times (length i) T.ranks + l ≤ k → read T p r i ≡ read T q r i
  read_same (pure x) l i h le = refl
  read_same (tok c) l i h le = refl
  read_same (such c q x e) l i h le = refl
  read_same (any m x e) l i h le = refl
  read_same (part n c) l i h le = same n c i (let lt = ltb-true (T.rank n) l h in omega (arith, lt, le))
  read_same (bind {s = s} {u = u} r f) l i h le =
      and_then_same (reads_none T s) (length i) (read T p r i) (λ a. read T p (f a)) (λ a. read T q (f a)) (read_took T p ht r i)
      (λ x j w. let m = later (reads_none T s) u l i x j (and_right (ranked T s l) _ h) le w in read_same (f x) m.0 j m.1 m.2)
      ∙ ap (λ o. and_then o (λ a. read T q (f a))) (read_same r l i (and_left (ranked T s l) _ h) le)
  read_same (choice {s = s} {u = u} r q2) l i h le =
      rw (read_same r l i (and_left (ranked T s l) _ h) le, read_same q2 l i (and_right (ranked T s l) _ h) le) refl
  read_same (given x r) l i h le = rw (read_same r l i h le) refl

module _ {N : Type 0} (G : Grammar N) (good : Good G) where
  pub same_depth : (k d e : ℕ) → k ≤ d → k ≤ e → (n : N) (c : G.Arg n) (i : Input) → room G.tables n i < k → reader G d n c i ≡ reader G e n c i
  same_depth zero d e kd ke n c i lt = absurd (omega (arith, lt))
  same_depth (suc k) zero e kd ke n c i lt = absurd (omega (arith, kd))
  same_depth (suc k) (suc d) zero kd ke n c i lt = absurd (omega (arith, ke))
  same_depth (suc k) (suc d) (suc e) kd ke n c i lt =
      read_same G.tables (fit8 G good) (reader G d) (reader G e) k (same_depth k d e (omega (arith, kd)) (omega (arith, ke))) (reader_took G good d) (G.rule n c) (G.tables.rank n) i (fit4 G good n) (omega (arith, lt))

  pub parse_at : (d : ℕ) (n : N) (c : G.Arg n) (i : Input) → room G.tables n i < d → reader G d n c i ≡ parse G n c i
  unfolding parse
  parse_at d n c i lt = same_depth (suc (room G.tables n i)) d (suc (room G.tables n i)) (omega (arith, lt)) (omega arith) n c i (omega arith)

  -- the reader is the rule read by the reader
  pub parse_is : (n : N) (c : G.Arg n) (i : Input) → parse G n c i ≡ read G.tables (parse G) (G.rule n c) i
  parse_is n c i =
      let d = room G.tables n i in
      sym (parse_at (suc d) n c i (omega arith)) ∙ read_same G.tables (fit8 G good) (reader G d) (parse G) d (λ m b j lt. parse_at d m b j lt) (reader_took G good d) (G.rule n c) (G.tables.rank n) i (fit4 G good n) (omega arith)

  -- law 1
  pub parse_sound : (n : N) (c : G.Arg n) (i : Input) (a : G.Val n) (j : Input) → parse G n c i ≡ done (a, j) → Lang G n c i a j
  parse_sound n c i a j h = let d = suc (room G.tables n i) in (d, reader_sound G d n c i a j (parse_at d n c i (omega arith) ∙ h))

  -- law 2
  pub parse_reads : (n : N) (c : G.Arg n) (i : Input) (a : G.Val n) (j : Input) → Lang G n c i a j → Follows G.tables (G.tables.follow n) j → parse G n c i ≡ done (a, j)
  parse_reads n c i a j x f =
      let d = x.0 + suc (room G.tables n i) in
      sym (parse_at d n c i (omega arith)) ∙ reader_reads G good d n c i a j (lang_le G x.0 d (omega arith) n c i a j x.1) f

  -- law 3
  pub parse_completes : (n : N) (c : G.Arg n) (s x : Input) → parse G n c (s ++ x) ≡ fail (G.Val n) (length x) → Completed (Lang G n c) s
  parse_completes n c s x h = let d = suc (room G.tables n (s ++ x)) in reader_completes G good d n c s x (parse_at d n c (s ++ x) (omega arith) ∙ h)
