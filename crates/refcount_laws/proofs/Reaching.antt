-- A block that is there is a root, on a cycle, or reached from one; counts have room where few references stand; and where no roots
-- and no cycles are, no block is there.
use Rattle.std.proofs.Common.{◌≡◌, ℕ, zero, suc, ◌+◌, ◌<◌, ◌≤◌, Bool, true, false, ◌&&◌, ◌==◌, List, [], ◌∷◌, Option, refl, sym, ap, ◌∙◌, subst, arith, ◌⊎◌, inl, inr, ⊎_elim}
use Rattle.std.specs.Prelude.{not}
use Rattle.csub_tree.specs.State.{Value, Ptr, Block}
use Rattle.ll_held.specs.Held.{times, references as references_of, references_in, cells_at, is_new, are_distinct, AllHeld, Refers, Reaches, Next, Then, Held, Root, Cycle, From, IsBelow}
use Rattle.refcount_laws.specs.Graphs.{Counts}
use Rattle.refcount_laws.specs.Ghost.{Slot, S, count, bare_at, occurs, references, inner}
use Rattle.refcount_laws.specs.Reach.{Mirrors, Owns}

-- ---- paths

longer : {blocks : List (Option Block)} {a b e : ℕ} → Reaches blocks a b → Refers blocks b e → Reaches blocks a e
longer (Next r) s = Then r (Next s)
longer (Then r p) s = Then r (longer p s)

-- ---- a reference from a block that is there has such a block

record Before (c : Counts) (g : List Slot) (b : ℕ) : Type 0 where
  a : ℕ
  there : 0 < count g a
  refers : 0 < occurs (Ptr b) (references c (bare_at g a))

before_later : (c : Counts) (s : Slot) (g : List Slot) (b : ℕ) → Before c g b → Before c (s ∷ g) b
before_later c s g b r = record { a = suc r.a; there = r.there; refers = r.refers }

before : (c : Counts) (g : List Slot) (b : ℕ) → 0 < inner c g (Ptr b) → Before c g b
before c [] b h = absurd (omega (arith, h))
before c (S zero kind fields items ∷ g) b h = before_later c (S zero kind fields items) g b (before c g b (omega (arith, h)))
before c (S (suc n) kind fields items ∷ g) b h =
    let d : (0 < occurs (Ptr b) (references c (record { kind = kind; fields = fields; items = items }))) ⊎ (0 < inner c g (Ptr b)) = grind (arith, h) in
    ⊎_elim (λ h. record { a = 0; there = omega arith; refers = h }) (λ h. before_later c (S (suc n) kind fields items) g b (before c g b h)) d

-- ---- the blocks that were passed

abbrev Fits : List Slot → List Bool → Type 0
Fits [] [] = Unit {0}
Fits [] (f ∷ fl) = ⊥
Fits (s ∷ g) [] = ⊥
Fits (s ∷ g) (f ∷ fl) = Fits g fl

abbrev passed : List Bool → ℕ → Bool
passed [] a = false
passed (f ∷ fl) zero = f
passed (f ∷ fl) (suc a) = passed fl a

abbrev pass : List Bool → ℕ → List Bool
pass [] a = []
pass (f ∷ fl) zero = true ∷ fl
pass (f ∷ fl) (suc a) = f ∷ pass fl a

abbrev to_pass : List Bool → ℕ
to_pass [] = 0
to_pass (true ∷ fl) = to_pass fl
to_pass (false ∷ fl) = suc (to_pass fl)

fewer : (g : List Slot) (fl : List Bool) (a : ℕ) → Fits g fl → 0 < count g a → passed fl a ≡ false → suc (to_pass (pass fl a)) ≡ to_pass fl
fewer [] fl a w h e = absurd (omega (arith, h))
fewer (s ∷ g) [] a w h e = absurd w
fewer (s ∷ g) (true ∷ fl) zero w h e = absurd (cc)
fewer (s ∷ g) (false ∷ fl) zero w h e = refl
fewer (s ∷ g) (true ∷ fl) (suc a) w h e = fewer g fl a w h e
fewer (s ∷ g) (false ∷ fl) (suc a) w h e = ap suc (fewer g fl a w h e)

still_fits : (g : List Slot) (fl : List Bool) (a : ℕ) → Fits g fl → Fits g (pass fl a)
still_fits [] [] a w = tt
still_fits [] (f ∷ fl) a w = absurd w
still_fits (s ∷ g) [] a w = absurd w
still_fits (s ∷ g) (f ∷ fl) zero w = w
still_fits (s ∷ g) (f ∷ fl) (suc a) w = still_fits g fl a w

passed_then : (fl : List Bool) (a x : ℕ) → passed (pass fl a) x ≡ true → (a ≡ x) ⊎ (passed fl x ≡ true)
passed_then [] a x e = inr e
passed_then (f ∷ fl) zero zero e = inl refl
passed_then (f ∷ fl) zero (suc x) e = inr e
passed_then (f ∷ fl) (suc a) zero e = inr e
passed_then (f ∷ fl) (suc a) (suc x) e = ⊎_elim (λ q. inl (ap suc q)) (λ q. inr q) (passed_then fl a x e)

abbrev none_passed : List Slot → List Bool
none_passed [] = []
none_passed (s ∷ g) = false ∷ none_passed g

none_fits : (g : List Slot) → Fits g (none_passed g)
none_fits [] = tt
none_fits (s ∷ g) = none_fits g

none_of : (g : List Slot) (x : ℕ) → passed (none_passed g) x ≡ true → ⊥
none_of [] x e = cc
none_of (s ∷ g) zero e = cc
none_of (s ∷ g) (suc x) e = none_of g x e

-- ---- a block that is there is held

module _ (c : Counts) (g : List Slot) (blocks : List (Option Block)) (own : Value → ℕ) (roots : List Value) (edges : (a b : ℕ) → 0 < count g a → 0 < occurs (Ptr b) (references c (bare_at g a)) → Refers blocks a b) (named : (b : ℕ) → 0 < own (Ptr b) → 0 < times b roots) (counts : (b : ℕ) → count g b ≡ inner c g (Ptr b) + own (Ptr b)) where
  -- b is held if a block before it is, unless that one was passed
  held_step : (fl : List Bool) (b : ℕ) → ((x : ℕ) → passed fl x ≡ true → (b ≡ x) ⊎ Reaches blocks b x) → 0 < count g b → ((r : Before c g b) → passed fl r.a ≡ false → Held blocks roots r.a) → Held blocks roots b
  held_step fl b seen h rec =
      let e : count g b ≡ inner c g (Ptr b) + own (Ptr b) = counts b in
      let d : (0 < own (Ptr b)) ⊎ (0 < inner c g (Ptr b)) = grind (arith, e, h) in
      ⊎_elim (λ r. Root {b = b} (named b r)) (λ i. by_before (before c g b i)) d
    where
      by_flag : (r : Before c g b) (f : Bool) → passed fl r.a ≡ f → Held blocks roots b
      by_flag r true e =
          let s : Refers blocks r.a b = edges r.a b r.there r.refers in
          ⊎_elim (λ q. Cycle (Next (subst (λ a. Refers blocks a b) (sym q) s))) (λ p. Cycle (longer p s)) (seen r.a e)
      by_flag r false e = From (rec r e) (edges r.a b r.there r.refers)

      by_before : Before c g b → Held blocks roots b
      by_before r = by_flag r (passed fl r.a) refl

  seen_more : (fl : List Bool) (b a : ℕ) → Refers blocks a b → ((x : ℕ) → passed fl x ≡ true → (b ≡ x) ⊎ Reaches blocks b x) → (x : ℕ) → passed (pass fl a) x ≡ true → (a ≡ x) ⊎ Reaches blocks a x
  seen_more fl b a r seen x e =
      ⊎_elim (λ q. inl q)
      (λ f. ⊎_elim (λ q. inr (Next (subst (λ y. Refers blocks a y) q r))) (λ p. inr (Then r p)) (seen x f))
      (passed_then fl a x e)

  -- from b backwards: each block that was passed is b or is reached from it
  walk : (k : ℕ) (fl : List Bool) (b : ℕ) → to_pass fl ≤ k → Fits g fl → ((x : ℕ) → passed fl x ≡ true → (b ≡ x) ⊎ Reaches blocks b x) → 0 < count g b → Held blocks roots b
  walk zero fl b le w seen h = held_step fl b seen h (λ r e. absurd (let f : suc (to_pass (pass fl r.a)) ≡ to_pass fl = fewer g fl r.a w r.there e in omega (arith, f, le)))
  walk (suc k) fl b le w seen h =
      held_step fl b seen h
      (λ r e. (let f : suc (to_pass (pass fl r.a)) ≡ to_pass fl = fewer g fl r.a w r.there e in walk k (pass fl r.a) r.a (omega (arith, f, le)) (still_fits g fl r.a w) (seen_more fl b r.a (edges r.a b r.there r.refers) seen) r.there))

  pub there_held : (b : ℕ) → 0 < count g b → Held blocks roots b
  there_held b h = walk (to_pass (none_passed g)) (none_passed g) b (omega arith) (none_fits g) (λ x e. absurd (none_of g x e)) h

  -- ---- where nothing is a root and nothing lies on a cycle

  none_held : ((b : ℕ) → times b roots ≡ 0) → ((b : ℕ) → Reaches blocks b b → ⊥) → (b : ℕ) → Held blocks roots b → ⊥
  none_held empty apart b (Root h) = let e : times b roots ≡ 0 = empty b in absurd (omega (arith, e, h))
  none_held empty apart b (Cycle p) = apart b p
  none_held empty apart b (From h r) = none_held empty apart _ h

  pub all_gone : ((b : ℕ) → times b roots ≡ 0) → ((b : ℕ) → Reaches blocks b b → ⊥) → (b : ℕ) → count g b ≡ 0
  all_gone empty apart b = one (count g b) refl
    where
      one : (n : ℕ) → count g b ≡ n → n ≡ 0
      one zero e = refl
      one (suc n) e = absurd (none_held empty apart b (there_held b (omega (arith, e))))

-- ---- the blocks that are there, each once

abbrev deeper : List ℕ → List ℕ
deeper [] = []
deeper (a ∷ l) = suc a ∷ deeper l

abbrev with_first : Slot → List ℕ → List ℕ
with_first (S zero kind fields items) l = deeper l
with_first (S (suc n) kind fields items) l = 0 ∷ deeper l

abbrev there : List Slot → List ℕ
there [] = []
there (d ∷ g) = with_first d (there g)

new_deeper : (a : ℕ) (l : List ℕ) → is_new a l ≡ true → is_new (suc a) (deeper l) ≡ true
new_deeper a [] h = refl
new_deeper a (b ∷ l) h = one (a == b) refl (new_deeper a l) h
  where
    apart : (suc a == suc b) ≡ (a == b)
    apart = grind arith

    one : (e : Bool) → (a == b) ≡ e → (is_new a l ≡ true → is_new (suc a) (deeper l) ≡ true) → (not e && is_new a l) ≡ true → (not (suc a == suc b) && is_new (suc a) (deeper l)) ≡ true
    one true f go h = absurd (cc)
    one false f go h = ap (λ e. not e && is_new (suc a) (deeper l)) (apart ∙ f) ∙ go h

zero_new : (l : List ℕ) → is_new 0 (deeper l) ≡ true
zero_new [] = refl
zero_new (b ∷ l) = one (0 == suc b) (grind arith) (zero_new l)
  where
    one : (e : Bool) → e ≡ false → is_new 0 (deeper l) ≡ true → (not e && is_new 0 (deeper l)) ≡ true
    one true f h = absurd (cc)
    one false f h = h

distinct_deeper : (l : List ℕ) → are_distinct l ≡ true → are_distinct (deeper l) ≡ true
distinct_deeper [] h = refl
distinct_deeper (a ∷ l) h = both (λ k. distinct_deeper l k) (is_new a l) refl h
  where
    second : (x y : Bool) → x ≡ true → y ≡ true → (x && y) ≡ true
    second true y e f = f
    second false y e f = absurd (cc)

    both : (are_distinct l ≡ true → are_distinct (deeper l) ≡ true) → (x : Bool) → is_new a l ≡ x → (x && are_distinct l) ≡ true → (is_new (suc a) (deeper l) && are_distinct (deeper l)) ≡ true
    both go true f h = second (is_new (suc a) (deeper l)) (are_distinct (deeper l)) (new_deeper a l f) (go h)
    both go false f h = absurd (cc)

distinct_first : (d : Slot) (l : List ℕ) → are_distinct l ≡ true → are_distinct (with_first d l) ≡ true
distinct_first (S zero kind fields items) l h = distinct_deeper l h
distinct_first (S (suc n) kind fields items) l h = ap (λ e. e && are_distinct (deeper l)) (zero_new l) ∙ distinct_deeper l h

distinct : (g : List Slot) → are_distinct (there g) ≡ true
distinct [] = refl
distinct (d ∷ g) = distinct_first d (there g) (distinct g)

abbrev AllThere : List Slot → List ℕ → Type 0
AllThere g [] = Unit {0}
AllThere g (a ∷ l) = (0 < count g a) × AllThere g l

there_deeper : (d : Slot) (g : List Slot) (l : List ℕ) → AllThere g l → AllThere (d ∷ g) (deeper l)
there_deeper d g [] w = tt
there_deeper d g (a ∷ l) w = (w.0, there_deeper d g l w.1)

there_first : (d : Slot) (g : List Slot) (l : List ℕ) → AllThere g l → AllThere (d ∷ g) (with_first d l)
there_first (S zero kind fields items) g l w = there_deeper (S zero kind fields items) g l w
there_first (S (suc n) kind fields items) g l w = (omega arith, there_deeper (S (suc n) kind fields items) g l w)

all_there : (g : List Slot) → AllThere g (there g)
all_there [] = tt
all_there (d ∷ g) = there_first d g (there g) (all_there g)

-- ---- counts have room

-- how many references blocks that are there have to one
abbrev told : Counts → List Slot → Value → List ℕ → ℕ
told c g r [] = 0
told c g r (a ∷ l) = occurs r (references c (bare_at g a)) + told c g r l

told_deeper : (c : Counts) (d : Slot) (g : List Slot) (r : Value) (l : List ℕ) → told c (d ∷ g) r (deeper l) ≡ told c g r l
told_deeper c d g r [] = refl
told_deeper c d g r (a ∷ l) = ap (λ n. occurs r (references c (bare_at g a)) + n) (told_deeper c d g r l)

inner_told : (c : Counts) (g : List Slot) (r : Value) → inner c g r ≤ told c g r (there g)
inner_told c [] r = omega arith
inner_told c (S zero kind fields items ∷ g) r = let a : inner c g r ≤ told c g r (there g) = inner_told c g r in let e : told c (S zero kind fields items ∷ g) r (deeper (there g)) ≡ told c g r (there g) = told_deeper c (S zero kind fields items) g r (there g) in omega (arith, a, e)
inner_told c (S (suc n) kind fields items ∷ g) r =
    let a : inner c g r ≤ told c g r (there g) = inner_told c g r in
    let e : told c (S (suc n) kind fields items ∷ g) r (deeper (there g)) ≡ told c g r (there g) = told_deeper c (S (suc n) kind fields items) g r (there g) in
    omega (arith, a, e)

told_fewer : (c : Counts) (g : List Slot) (blocks : List (Option Block)) → Mirrors c g blocks → (r : Value) (l : List ℕ) → AllThere g l → told c g r l ≤ references_in blocks l
told_fewer c g blocks m r [] w = omega arith
told_fewer c g blocks m r (a ∷ l) w = let x : occurs r (references c (bare_at g a)) ≤ references_of (cells_at blocks a) = m.fewer a r w.0 in let y : told c g r l ≤ references_in blocks l = told_fewer c g blocks m r l w.1 in omega (arith, x, y)

module _ (c : Counts) (g : List Slot) (blocks : List (Option Block)) (own : Value → ℕ) (roots : List Value) (mirrors : Mirrors c g blocks) (owns : Owns own roots) (counts : (b : ℕ) → count g b ≡ inner c g (Ptr b) + own (Ptr b)) where
  held_all : (l : List ℕ) → AllThere g l → AllHeld blocks roots l
  held_all [] w = tt
  held_all (a ∷ l) w = (there_held c g blocks own roots mirrors.edges owns.named counts a w.0, held_all l w.1)

  -- references that are in blocks which are there, and those that are owned, are fewer than so many
  pub has_room : (most : ℕ) → IsBelow most blocks roots → (r : Value) → inner c g r + own r < most
  has_room most few r =
      let a : references_of roots + references_in blocks (there g) < most = few (there g) (distinct g) (held_all (there g) (all_there g)) in
      let b : inner c g r ≤ told c g r (there g) = inner_told c g r in
      let d : told c g r (there g) ≤ references_in blocks (there g) = told_fewer c g blocks mirrors r (there g) (all_there g) in
      let e : own r ≤ references_of roots = owns.fewer r in
      omega (arith, a, b, d, e)
