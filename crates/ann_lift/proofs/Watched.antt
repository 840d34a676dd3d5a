-- Exceptions go where handlers stand.
use Rattle.std.proofs.Common.{◌≡◌, ℕ, ◌+◌, ◌<◌, ◌≤◌, ◌≢◌, ◌⊎◌, inl, inr, Bool, true, false, List, [], ◌∷◌, ◌++◌, length, Option, Some, None, refl, sym, ap, ◌∙◌, subst, arith, append_assoc, length-append}
use Rattle.std.specs.Prelude.{if◌then◌else◌}
use Rattle.std.proofs.lemmas.Bool.{cases_lt, eq-eqb, ne_eqb, false≢true}
use Rattle.flow_stands.specs.Places.{Aim, Hand, first_and, stored_if_any, hand_jumps}
use Rattle.flow_stands.specs.Stands.{raise_block, LocalIn}
use Rattle.ann_lattice.specs.Shape.{Shape, Inst}
use Rattle.ann_lattice.specs.Laws.{IsTree}
use Rattle.ann_rules.specs.Program.{Whole}
use Rattle.ann_tree.specs.Annotation.{Annotation, Environment, Point, Never, With, Handler, bind, caught, with_class, Seen, Leads as LeadsOn}
use Rattle.ann_lift.specs.Spots.{Spot, Spots, as_class, Pass, Goes, Catches}
use Rattle.ann_lift.proofs.Lists.{one_more}
use Rattle.ann_lift.proofs.States.{held_at, loose_at, bound, spot, at_in, at_more, set_other, set_here, bind_other, loose_local, loose_held, Lower, Enters, Leads, enters_from, all_self, goes_first, goes_and, goes_stored}

module _ (p : Whole) (a : Annotation) (f n : ℕ) (tree : IsTree p.tables.classes) where
  abbrev exception : ℕ → Shape
  exception c = Inst c false

  -- Hands, and the way of other exceptions, lead to the handlers: with the variables that were there when they were made, which are among
  -- those that are held.
  abbrev pub Watched : Spots → List Shape → List Handler → List Hand → Aim → Type 0
  Watched at held hs [] default =
      ((hs ≡ []) × (default ≡ record { to = raise_block; keep = 0 }) × ((at raise_block).reached ≡ true) × Lower p a f n tree (exception 0) ((at raise_block).element 0))
      ⊎ ((tried rest : List Shape) × (point : Point)
      × (held ≡ tried ++ rest) × (default.keep ≡ n + length tried)
      × (hs ≡ record { point = point; bound = None } ∷ [])
      × Leads p a f n tree at default.to point (tried ++ exception 0 ∷ []))
  Watched at held hs (hand ∷ hands) default =
      (tried rest : List Shape) × (point : Point) × (others : List Handler)
      × (held ≡ tried ++ rest) × (hand.aim.keep ≡ n + length tried) × LocalIn n hand.local
      × (hs ≡ record { point = point; bound = with_class hand.local hand.class } ∷ others)
      × Leads p a f n tree at hand.aim.to point tried
      × Watched at held others hands default

  pub watched_more : (at : Spots) (held more : List Shape) (hs : List Handler) (hands : List Hand) (default : Aim) → Watched at held hs hands default → Watched at (held ++ more) hs hands default
  watched_more at held more hs [] default (inl h) = inl h
  watched_more at held more hs [] default (inr h) = inr (h.0, h.1 ++ more, h.2, ap (λ (l : List Shape). l ++ more) h.3 ∙ append_assoc h.0 h.1 more, h.4, h.5, h.6)
  watched_more at held more hs (hand ∷ hands) default h =
      (h.0, h.1 ++ more, h.2, h.3, ap (λ (l : List Shape). l ++ more) h.4 ∙ append_assoc h.0 h.1 more, h.5, h.6, h.7, h.8, watched_more at held more h.3 hands default h.9)

  -- ---- an exception at a place behind what is held

  module _ (at : Spots) (e : Environment) (u : ℕ → Bool) (m c : ℕ) where
    abbrev thrown : List Shape → Spot
    thrown all = as_class (spot n e all u) m c

    thrown_element : (all : List Shape) (j : ℕ) → j ≢ m → (thrown all).element j ≡ held_at n e all j
    thrown_element all j ne = ap (λ t. if t then exception c else held_at n e all j) (ne_eqb j m ne)

    thrown_unbound : (all : List Shape) (j : ℕ) → j ≢ m → (thrown all).unbound j ≡ loose_at n e u j
    thrown_unbound all j ne = ap (λ t. if t then false else loose_at n e u j) (ne_eqb j m ne)

    there : (all : List Shape) → (thrown all).element m ≡ exception c
    there all = ap (λ t. if t then exception c else held_at n e all m) (eq-eqb m m refl)

    bound_there : (all : List Shape) → (thrown all).unbound m ≡ false
    bound_there all = ap (λ t. if t then false else loose_at n e u m) (eq-eqb m m refl)

    module _ (all tried rest : List Shape) (is : all ≡ tried ++ rest) (within : n + length tried ≤ m) (quiet : (j : ℕ) → j < m → n ≤ j → u j ≡ false) where
      not_it : (j : ℕ) → j < n + length tried → j ≢ m
      not_it j lt e = omega (arith, lt, e, within)

      element_is : (j : ℕ) → j < n + length tried → (thrown all).element j ≡ held_at n e tried j
      element_is j lt = thrown_element all j (not_it j lt) ∙ (ap (λ (l : List Shape). held_at n e l j) is ∙ at_more n e tried rest j lt)

      loose_is : (j : ℕ) → j < n + length tried → (thrown all).unbound j ≡ loose_at n e bound j
      loose_is j lt = thrown_unbound all j (not_it j lt) ∙ elim (cases_lt j n) [ inl less ↦ loose_local n e u j less ∙ sym (loose_local n e bound j less) | inr le ↦ loose_held n e u j le ∙ (quiet j (omega (arith, lt, within)) le ∙ sym (loose_held n e bound j le)) ]

      -- what was there goes to the block that was entered so
      pass_first : (q : ℕ) → Enters p a f n tree at q e tried → (j : ℕ) → j < n + length tried → Pass p a f (thrown all) j (at q) j
      pass_first q enters j lt =
          (subst (λ x. Lower p a f n tree x ((at q).element j)) (sym (element_is j lt)) (enters.1 j lt).0, λ h. (enters.1 j lt).1 (sym (loose_is j lt) ∙ h))

      pass_thrown : (q i : ℕ) → Lower p a f n tree (exception c) ((at q).element i) → Pass p a f (thrown all) m (at q) i
      pass_thrown q i below = (subst (λ x. Lower p a f n tree x ((at q).element i)) (sym (there all)) below, λ h. absurd (false≢true (sym (bound_there all) ∙ h)))

      -- on to a handler
      hand_goes : (aim : Aim) (local : Option ℕ) (point : Point) → aim.keep ≡ n + length tried → LocalIn n local → Leads p a f n tree at aim.to point tried
          → LeadsOn p.tables.classes a.parts.same n (caught (with_class local c) e) point → Goes p a f at (thrown all) (stored_if_any aim local m)
      hand_goes aim None Never keep inside leads below = absurd below
      hand_goes aim None (With g) keep inside leads below =
          let enters = enters_from p a f n tree at aim.to e g tried tried below (all_self p a f n tree tried) leads in
          goes_first p a f n tree at (thrown all) aim.to aim.keep enters.0 (λ j lt. pass_first aim.to enters j (omega (arith, lt, keep)))
      hand_goes aim (Some l) Never keep inside leads below = absurd below
      hand_goes aim (Some l) (With g) keep inside leads below =
          let enters = enters_from p a f n tree at aim.to (bind e l (exception c)) g tried tried below (all_self p a f n tree tried) leads in
          goes_stored p a f n tree at (thrown all) aim.to aim.keep l m enters.0
          (λ j lt ne.
          let less : j < n + length tried = omega (arith, lt, keep) in
          let pass = enters.1 j less in (
            subst (λ x. Lower p a f n tree x ((at aim.to).element j)) (set_other n e (bind e l (exception c)).unbound l (exception c) tried j ne ∙ sym (element_is j less)) pass.0,
            λ h. pass.1 (bind_other n e l (exception c) j ne ∙ (sym (loose_is j less) ∙ h)),
          ))
          (λ lt. pass_thrown aim.to l (subst (λ x. Lower p a f n tree x ((at aim.to).element l)) (set_here n e (bind e l (exception c)).unbound l (exception c) tried inside) (enters.1 l (omega (arith, inside))).0))

      default_goes : (default : Aim) (point : Point) → c ≡ 0 → default.keep ≡ n + length tried → Leads p a f n tree at default.to point (tried ++ exception 0 ∷ []) → LeadsOn p.tables.classes a.parts.same n e point
          → Goes p a f at (thrown all) (first_and default.to default.keep m)
      default_goes default Never zero_is keep leads below = absurd below
      default_goes default (With g) zero_is keep leads below =
          let both = tried ++ exception 0 ∷ [] in
          let enters = enters_from p a f n tree at default.to e g both both below (all_self p a f n tree both) leads in
          let count : length both ≡ length tried + 1 = one_more tried (exception 0) in
          let first_of : (j : ℕ) → j < n + length tried → Pass p a f (spot n e tried bound) j (at default.to) j =
          λ j lt. (subst (λ x. Lower p a f n tree x ((at default.to).element j)) (at_more n e tried (exception 0 ∷ []) j lt) (enters.1 j (omega (arith, lt, count))).0, (enters.1 j (omega (arith, lt, count))).1) in
          let last : held_at n e both default.keep ≡ exception 0 = at_in n e tried (exception 0) [] both default.keep refl keep in
          goes_and p a f n tree at (thrown all) default.to default.keep m enters.0
          (λ j lt. pass_first default.to (enters.0, first_of) j (omega (arith, lt, keep)))
          (pass_thrown default.to default.keep (subst (λ k. Lower p a f n tree (exception k) ((at default.to).element default.keep)) (sym zero_is) (subst (λ x. Lower p a f n tree x ((at default.to).element default.keep)) last (enters.1 default.keep (omega (arith, keep, count))).0)))

  -- ---- all exceptions of an operation at a place behind what is held

  module _ (at : Spots) (e : Environment) (u : ℕ → Bool) (m : ℕ) (held more : List Shape) (within : n + length held ≤ m) (quiet : (j : ℕ) → j < m → n ≤ j → u j ≡ false) where
    abbrev here : Spot
    here = spot n e (held ++ more) u

    before : (tried rest : List Shape) → held ≡ tried ++ rest → held ++ more ≡ tried ++ (rest ++ more)
    before tried rest is = ap (λ (l : List Shape). l ++ more) is ∙ append_assoc tried rest more

    inside : (tried rest : List Shape) → held ≡ tried ++ rest → n + length tried ≤ m
    inside tried rest is = omega (arith, within, ap length is, length-append tried rest)

    pub caught_all : (hs : List Handler) (hands : List Hand) (default : Aim) → Watched at held hs hands default → Seen p.tables.classes a.parts.same n hs e → Catches p a f at here m (hand_jumps m hands) × Goes p a f at (as_class here m 0) (first_and default.to default.keep m)
    caught_all hs [] default (inl h) seen = (
      tt,
      subst (λ (d : Aim). Goes p a f at (as_class here m 0) (first_and d.to d.keep m)) (sym h.1)
          (h.2, ((subst (λ x. Lower p a f n tree x ((at raise_block).element 0)) (sym (there at e u m 0 (held ++ more))) h.3, λ k. absurd (false≢true (sym (bound_there at e u m 0 (held ++ more)) ∙ k))), tt)),
    )
    caught_all hs [] default (inr h) seen =
        let only = subst (λ l. Seen p.tables.classes a.parts.same n l e) h.5 seen in
        (tt, default_goes at e u m 0 (held ++ more) h.0 (h.1 ++ more) (before h.0 h.1 h.3) (inside h.0 h.1 h.3) quiet default h.2 refl h.4 h.6 only.0)
    caught_all hs (hand ∷ hands) default h seen =
        let both = subst (λ l. Seen p.tables.classes a.parts.same n l e) h.7 seen in
        let rest = caught_all h.3 hands default h.9 both.1 in
        ((hand_goes at e u m hand.class (held ++ more) h.0 (h.1 ++ more) (before h.0 h.1 h.4) (inside h.0 h.1 h.4) quiet hand.aim hand.local h.2 h.5 h.6 h.8 both.0, rest.0), rest.1)
