-- Where a part stands, with an environment and what is held behind the locals; and ways on from there.
use Rattle.std.proofs.Common.{◌≡◌, ℕ, zero, suc, ◌+◌, ◌-◌, ◌<◌, ◌≤◌, ◌≢◌, inl, inr, Bool, true, false, List, [], ◌∷◌, ◌++◌, length, get_or, refl, sym, ap, ◌∙◌, subst, arith}
use Rattle.std.specs.Prelude.{nat_lt, ◌&&◌, not, slice_set, if◌then◌else◌}
use Rattle.std.proofs.lemmas.Bool.{cases_lt, eq-eqb, ne_eqb, false≢true}
use Rattle.flow_stands.specs.Places.{range, first, first_and, stored}
use Rattle.ann_lattice.specs.Shape.{Shape, Nothing}
use Rattle.ann_lattice.specs.Laws.{IsTree}
use Rattle.ann_lattice.proofs.Ordered.{below_self, below_on}
use Rattle.ann_rules.specs.Program.{Whole}
use Rattle.ann_tree.specs.Annotation.{Annotation, Environment, Point, Never, With, Passes, elements_with, bind, IsBelow}
use Rattle.ann_lift.specs.Spots.{Spot, Spots, Pass, Carries, Goes}
use Rattle.ann_lift.proofs.Lists.{is_less, not_less, get_here, get_left, one_more, range_count}

-- what is held is bound
abbrev pub bound : ℕ → Bool
bound j = false

-- ---- of n locals

module _ (n : ℕ) where
  -- the element at a place
  abbrev pub held_at : Environment → List Shape → ℕ → Shape
  held_at e held j = if nat_lt j n then e.element j else get_or held (j - n) Nothing

  -- whether the local at a place may be unbound; what is held is bound, but where that is said
  abbrev pub loose_at : Environment → (ℕ → Bool) → ℕ → Bool
  loose_at e u j = if nat_lt j n then e.unbound j else u j

  -- a reached block with this environment, and this held
  abbrev pub spot : Environment → List Shape → (ℕ → Bool) → Spot
  spot e held u = record { reached = true; element = held_at e held; unbound = loose_at e u }

  pub at_local : (e : Environment) (held : List Shape) (j : ℕ) → j < n → held_at e held j ≡ e.element j
  at_local e held j lt = ap (λ t. if t then e.element j else get_or held (j - n) Nothing) (is_less j n lt)

  pub loose_local : (e : Environment) (u : ℕ → Bool) (j : ℕ) → j < n → loose_at e u j ≡ e.unbound j
  loose_local e u j lt = ap (λ t. if t then e.unbound j else u j) (is_less j n lt)

  pub loose_held : (e : Environment) (u : ℕ → Bool) (j : ℕ) → n ≤ j → loose_at e u j ≡ u j
  loose_held e u j le = ap (λ t. if t then e.unbound j else u j) (not_less j n le)

  pub at_held : (e : Environment) (held : List Shape) (j : ℕ) → n ≤ j → held_at e held j ≡ get_or held (j - n) Nothing
  at_held e held j le = ap (λ t. if t then e.element j else get_or held (j - n) Nothing) (not_less j n le)

  -- one of those that are held
  pub at_in : (e : Environment) (before : List Shape) (x : Shape) (behind all : List Shape) (j : ℕ) → all ≡ before ++ x ∷ behind → j ≡ n + length before → held_at e all j ≡ x
  at_in e before x behind all j is at =
      let d : j - n ≡ length before = omega (arith, at) in
      at_held e all j (omega (arith, at)) ∙ ap (λ (l : List Shape). get_or l (j - n) Nothing) is ∙ ap (λ i. get_or (before ++ x ∷ behind) i Nothing) d ∙ get_here before x behind Nothing

  -- what is held besides stands behind
  pub at_more : (e : Environment) (held more : List Shape) (j : ℕ) → j < n + length held → held_at e (held ++ more) j ≡ held_at e held j
  at_more e held more j lt = elim (cases_lt j n) [ inl less ↦ at_local e (held ++ more) j less ∙ sym (at_local e held j less) | inr le ↦ at_held e (held ++ more) j le ∙ (get_left held more Nothing (j - n) (omega (arith, lt, le)) ∙ sym (at_held e held j le)) ]

  -- another element for one local
  pub set_other : (e : Environment) (u : ℕ → Bool) (l : ℕ) (x : Shape) (held : List Shape) (j : ℕ) → j ≢ l → held_at (record { element = elements_with e.element l x; unbound = u }) held j ≡ held_at e held j
  set_other e u l x held j ne = ap (λ (y : Shape). if nat_lt j n then y else get_or held (j - n) Nothing) (ap (λ t. if t then x else e.element j) (ne_eqb j l ne))

  pub set_here : (e : Environment) (u : ℕ → Bool) (l : ℕ) (x : Shape) (held : List Shape) → l < n → held_at (record { element = elements_with e.element l x; unbound = u }) held l ≡ x
  set_here e u l x held lt = at_local (record { element = elements_with e.element l x; unbound = u }) held l lt ∙ ap (λ t. if t then x else e.element l) (eq-eqb l l refl)

  pub bind_other : (e : Environment) (l : ℕ) (x : Shape) (j : ℕ) → j ≢ l → loose_at (bind e l x) bound j ≡ loose_at e bound j
  bind_other e l x j ne = ap (λ t. if nat_lt j n then (not t && e.unbound j) else false) (ne_eqb j l ne)

module _ (p : Whole) (a : Annotation) (f n : ℕ) (tree : IsTree p.tables.classes) where
  abbrev pub Lower : Shape → Shape → Type 0
  Lower x y = Passes p.tables.classes a.parts.same x y

  pub self : (x : Shape) → Lower x x
  self x = (below_self p.tables.classes tree a.parts.same x, λ h. h)

  pub trans : (x y z : Shape) → Lower x y → Lower y z → Lower x z
  trans x y z g h = (below_on p.tables.classes tree a.parts.same x y g.0 z h.0, λ f. h.1 (g.1 f))

  -- the block is reached, above the environment and what is held
  abbrev pub Enters : Spots → ℕ → Environment → List Shape → Type 0
  Enters at b e held = ((at b).reached ≡ true) × ((j : ℕ) → j < n + length held → Pass p a f (spot n e held bound) j (at b) j)

  abbrev pub Leads : Spots → ℕ → Point → List Shape → Type 0
  Leads at b Never held = Unit {0}
  Leads at b (With g) held = Enters at b g held

  -- what stands there is as it stands
  pub stands : (at : Spots) (b : ℕ) (e : Environment) (held more : List Shape) (u : ℕ → Bool) → at b ≡ spot n e (held ++ more) u → Enters at b e held
  stands at b e held more u is = (
    ap (λ (s : Spot). s.reached) is,
    λ j lt. subst (λ (s : Spot). Pass p a f (spot n e held bound) j s j) (sym is) (
      subst (λ x. Lower (held_at n e held j) x) (sym (at_more n e held more j lt)) (self (held_at n e held j)),
      λ h. elim (cases_lt j n) [ inl less ↦ loose_local n e u j less ∙ (sym (loose_local n e bound j less) ∙ h) | inr le ↦ absurd (false≢true (sym (loose_held n e bound j le) ∙ h)) ],
    ),
  )

  -- ---- environments, and what is held

  abbrev pub Under : Environment → Environment → Type 0
  Under e g = IsBelow p.tables.classes a.parts.same n e g

  -- place by place
  pub data Lowers : List Shape → List Shape → Type 0 where
    no_more : Lowers [] []
    one_lower : (x y : Shape) (xs ys : List Shape) → Lower x y → Lowers xs ys → Lowers (x ∷ xs) (y ∷ ys)

  pub all_self : (xs : List Shape) → Lowers xs xs
  all_self [] = no_more
  all_self (x ∷ xs) = one_lower x x xs xs (self x) (all_self xs)

  pub with_last : (xs : List Shape) (x y : Shape) → Lower x y → Lowers (xs ++ x ∷ []) (xs ++ y ∷ [])
  with_last [] x y h = one_lower x y [] [] h no_more
  with_last (z ∷ xs) x y h = one_lower z z (xs ++ x ∷ []) (xs ++ y ∷ []) (self z) (with_last xs x y h)

  lowers_at : (xs ys : List Shape) (i : ℕ) → Lowers xs ys → Lower (get_or xs i Nothing) (get_or ys i Nothing)
  lowers_at _ _ i no_more = self Nothing
  lowers_at _ _ zero (one_lower x y xs ys h hs) = h
  lowers_at _ _ (suc i) (one_lower x y xs ys h hs) = lowers_at xs ys i hs

  pub lowers_count : (xs ys : List Shape) → Lowers xs ys → length xs ≡ length ys
  lowers_count _ _ no_more = refl
  lowers_count _ _ (one_lower x y xs ys h hs) = ap suc (lowers_count xs ys hs)

  -- from a lower state
  pub enters_from : (at : Spots) (b : ℕ) (e g : Environment) (xs ys : List Shape) → Under e g → Lowers xs ys → Enters at b g ys → Enters at b e xs
  enters_from at b e g xs ys h l enters = (
    enters.0,
    λ j lt.
        let below = enters.1 j (omega (arith, lt, lowers_count xs ys l)) in
        elim (cases_lt j n) [ inl less ↦ (trans (held_at n e xs j) (held_at n g ys j) ((at b).element j) (subst (λ x. Lower x (held_at n g ys j)) (sym (at_local n e xs j less)) (subst (λ x. Lower (e.element j) x) (sym (at_local n g ys j less)) (h j less).0)) below.0, λ u. below.1 (loose_local n g bound j less ∙ (h j less).1 (sym (loose_local n e bound j less) ∙ u))) | inr le ↦ (trans (held_at n e xs j) (held_at n g ys j) ((at b).element j) (subst (λ x. Lower x (held_at n g ys j)) (sym (at_held n e xs j le)) (subst (λ x. Lower (get_or xs (j - n) Nothing) x) (sym (at_held n g ys j le)) (lowers_at xs ys (j - n) l))) below.0, λ u. below.1 (loose_held n g bound j le ∙ (sym (loose_held n e bound j le) ∙ u))) ],
  )

  -- ---- ways on

  carries_range : (s t : Spot) (i k : ℕ) → ((j : ℕ) → i ≤ j → j < i + k → Pass p a f s j t j) → Carries p a f s t i (range i k)
  carries_range s t i zero h = tt
  carries_range s t i (suc k) h = (h i (omega arith) (omega arith), subst (λ l. Carries p a f s t (suc i) (range l k)) (suc_is i) (carries_range s t (suc i) k (λ j l r. h j (omega (arith, l)) (omega (arith, r)))))
    where
      suc_is : (i : ℕ) → suc i ≡ i + 1
      suc_is i = omega arith

  carries_append : (s t : Spot) (i : ℕ) (ps qs : List ℕ) → Carries p a f s t i ps → Carries p a f s t (i + length ps) qs → Carries p a f s t i (ps ++ qs)
  carries_append s t i [] qs h g = subst (λ l. Carries p a f s t l qs) (zero_is i) g
    where
      zero_is : (i : ℕ) → i + 0 ≡ i
      zero_is i = omega arith
  carries_append s t i (q ∷ ps) qs h g = (h.0, carries_append s t (suc i) ps qs h.1 (subst (λ l. Carries p a f s t l qs) (suc_is i (length ps)) g))
    where
      suc_is : (i k : ℕ) → i + suc k ≡ suc i + k
      suc_is i k = omega arith

  pub goes_first : (at : Spots) (s : Spot) (q m : ℕ) → (at q).reached ≡ true → ((j : ℕ) → j < m → Pass p a f s j (at q) j) → Goes p a f at s (first q m)
  goes_first at s q m reached h = (reached, carries_range s (at q) 0 m (λ j l r. h j (omega (arith, r))))

  count_is : (m : ℕ) → m ≡ 0 + length (range 0 m)
  count_is m = omega (arith, range_count 0 m)

  pub goes_and : (at : Spots) (s : Spot) (q m last : ℕ) → (at q).reached ≡ true → ((j : ℕ) → j < m → Pass p a f s j (at q) j) → Pass p a f s last (at q) m → Goes p a f at s (first_and q m last)
  goes_and at s q m last reached h g =
      (reached, carries_append s (at q) 0 (range 0 m) (last ∷ []) (carries_range s (at q) 0 m (λ j l r. h j (omega (arith, r)))) (subst (λ i. Pass p a f s last (at q) i) (count_is m) g, tt))

  zero_add : (i : ℕ) → i ≡ 0 + i
  zero_add i = omega arith

  -- one place is another then
  carries_set : (s t : Spot) (i k local place : ℕ) → ((j : ℕ) → i ≤ j → j < i + k → j ≢ i + local → Pass p a f s j t j) → (local < k → Pass p a f s place t (i + local)) → Carries p a f s t i (slice_set (range i k) local place)
  carries_set s t i zero local place h g = tt
  carries_set s t i (suc k) zero place h g =
      (subst (λ j. Pass p a f s place t j) (zero_is i) (g (omega arith)), subst (λ l. Carries p a f s t (suc i) (range l k)) (suc_is i) (carries_range s t (suc i) k (λ j l r. h j (omega (arith, l)) (omega (arith, r)) (λ e. absurd (omega (arith, l, e))))))
    where
      zero_is : (i : ℕ) → i + 0 ≡ i
      zero_is i = omega arith

      suc_is : (i : ℕ) → suc i ≡ i + 1
      suc_is i = omega arith
  carries_set s t i (suc k) (suc local) place h g = (
    h i (omega arith) (omega arith) (λ e. absurd (omega (arith, e))),
    subst (λ l. Carries p a f s t (suc i) (slice_set (range l k) local place)) (suc_is i)
        (carries_set s t (suc i) k local place (λ j l r e. h j (omega (arith, l)) (omega (arith, r)) (λ u. e (omega (arith, u)))) (λ lt. subst (λ j. Pass p a f s place t j) (add_is i local) (g (omega (arith, lt))))),
  )
    where
      suc_is : (i : ℕ) → suc i ≡ i + 1
      suc_is i = omega arith

      add_is : (i l : ℕ) → i + suc l ≡ suc i + l
      add_is i l = omega arith

  pub goes_stored : (at : Spots) (s : Spot) (q m local place : ℕ) → (at q).reached ≡ true → ((j : ℕ) → j < m → j ≢ local → Pass p a f s j (at q) j) → (local < m → Pass p a f s place (at q) local) → Goes p a f at s (stored q m local place)
  goes_stored at s q m local place reached h g = (reached, carries_set s (at q) 0 m local place (λ j l r e. h j (omega (arith, r)) (λ u. e (omega (arith, u)))) (λ lt. subst (λ i. Pass p a f s place (at q) i) (zero_add local) (g lt)))

  -- two more, in this order
  pub goes_two : (at : Spots) (s : Spot) (q m i j : ℕ) → (at q).reached ≡ true → ((k : ℕ) → k < m → Pass p a f s k (at q) k) → Pass p a f s i (at q) m → Pass p a f s j (at q) (m + 1) → Goes p a f at s (record { to = q; places = (range 0 m ++ i ∷ []) ++ j ∷ [] })
  goes_two at s q m i j reached h g k =
      let first_part = carries_append s (at q) 0 (range 0 m) (i ∷ []) (carries_range s (at q) 0 m (λ l x y. h l (omega (arith, y)))) (subst (λ l. Pass p a f s i (at q) l) (count_is m) g, tt) in
      (reached, carries_append s (at q) 0 (range 0 m ++ i ∷ []) (j ∷ []) first_part (subst (λ l. Pass p a f s j (at q) l) (next_is m i) k, tt))
    where
      next_is : (m i : ℕ) → m + 1 ≡ 0 + length (range 0 m ++ i ∷ [])
      next_is m i = omega (arith, one_more (range 0 m) i, range_count 0 m)

  pub with_two : (xs : List Shape) (x y v w : Shape) → Lower x v → Lower y w → Lowers (xs ++ x ∷ y ∷ []) (xs ++ v ∷ w ∷ [])
  with_two [] x y v w g h = one_lower x v (y ∷ []) (w ∷ []) g (one_lower y w [] [] h no_more)
  with_two (z ∷ xs) x y v w g h = one_lower z z (xs ++ x ∷ y ∷ []) (xs ++ v ∷ w ∷ []) (self z) (with_two xs x y v w g h)
