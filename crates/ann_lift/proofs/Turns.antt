-- Turns of walks: comprehensions.
use Rattle.std.proofs.Common.{◌≡◌, ℕ, ◌+◌, inl, ℤ, true, false, List, [], ◌∷◌, ◌++◌, length, Option, refl, sym, ap, ◌∙◌, arith, append_assoc, append-nil, length-append}
use Rattle.rpy_tree.specs.Value.{Object}
use Rattle.rpy_meaning.specs.declared.row.RowOp.TheVariants as row
use Rattle.rpy_meaning.specs.Tree as meaning
use Rattle.flow_graph.specs.declared.graph.Graphs.{Graphs}
use Rattle.flow_stands.specs.Places.{Scope, Go, first, first_and}
use Rattle.flow_trees.specs.Marks as marks
use Rattle.flow_trees.specs.Marks.{Path, Place, Choice}
use Rattle.ann_lattice.specs.Shape.{Shape}
use Rattle.ann_lattice.specs.Laws.{IsTree}
use Rattle.ann_rules.specs.Program.{Whole}
use Rattle.ann_rules.specs.Rules.{goes}
use Rattle.ann_tree.specs.Annotation.{Annotation, Environment, Point, Never, With, Handler, At}
use Rattle.ann_tree.specs.Gives as part
use Rattle.ann_tree.specs.Gives.{Giving, Testing}
use Rattle.ann_lift.specs.Spots.{Spot, Spots}
use Rattle.ann_lift.proofs.Lists.{one_more, push}
use Rattle.ann_lift.proofs.Lifted.{under, so, seq, head}
use Rattle.ann_lift.proofs.States.{held_at, bound, spot, at_in, stands}
use Rattle.ann_lift.proofs.Ways.{LeadsTo, led, goes_keeping}
use Rattle.ann_lift.proofs.Acting.{from_point}
use Rattle.ann_lift.proofs.Exprs.{Sees}
use Rattle.ann_lift.proofs.Forms.{Lf, I, T, A, OfOne, OfTest, leaf, meet}
use Rattle.ann_lift.proofs.Walks.{more_around, advance_at, step_of as turn_of, bound_at, turn_at, gather_at}
use Rattle.ann_lift.proofs.Taking.{itself}
use Rattle.ann_lift.proofs.Targets.{OfBind, env_self}
use Rattle.ann_lift.proofs.Idle as idle

module _ (p : Whole) (sites : List (Option Object)) (a : Annotation) (f n : ℕ) (gs : Graphs) (classes : IsTree p.tables.classes) (meant : meaning.Program) where
  abbrev S : ℕ → ℕ → (Spots → Type 0) → (Spots → Type 0) → Type 0
  S lo hi C E = Lf p sites a f n gs classes meant lo hi C E

  abbrev Idle : ℕ → ℕ → Type 0
  Idle lo hi = idle.Idle p sites a f n gs classes meant lo hi

  abbrev E : Spots → ℕ → Environment → List Shape → Type 0
  E at b e held = I p sites a f n gs classes meant at b e held

  abbrev Q : Spots → ℕ → Point → List Shape → Type 0
  Q at b r held = T p sites a f n gs classes meant at b r held

  abbrev R : Scope → List Handler → List Shape → Spots → Type 0
  R sc hs held at = A p sites a f n gs classes meant sc hs held at

  abbrev pub OfSubject : Scope → List Handler → Place → (Environment → Shape → Shape → Point → Type 0) → Type 0
  OfSubject sc hs B G = (b m q lo hi : ℕ) → B b m q lo hi → (held : List Shape) → m ≡ n + length held → (e : Environment) (over place : Shape) (r : Point) → G e over place r → S lo hi (λ k. R sc hs held k × Q k q r (held ++ over ∷ place ∷ [])) (λ k. E k b e held)

  walk_count : (held : List Shape) (over place : Shape) → length (held ++ over ∷ place ∷ []) ≡ length held + 2
  walk_count held over place = length-append held (over ∷ place ∷ [])

  -- what stands there stands
  pub stands_there : (k : Spots) (b : ℕ) (e : Environment) (held : List Shape) → k b ≡ spot n e held bound → E k b e held
  stands_there k b e held is = stands p a f n classes k b e held [] bound (is ∙ ap (λ (l : List Shape). spot n e l bound) (sym (append-nil held)))

  -- the targets of a walk take an item
  pub bind_turn : {lo hi : ℕ} (sc : Scope) (hs : List Handler) (B : Path → ℕ → ℕ → ℕ → ℕ → ℕ → ℕ → ℕ → Type 0) (G : Environment → Shape → Point → Type 0) → OfBind p sites a f n gs classes meant sc hs B G → (w turn q : ℕ) → B [] w (w + 1) w turn q lo hi
      → (all : List Shape) → w ≡ n + length all → (g : Environment) (y : Shape) (r : Point) → G g y r → S lo hi (λ k. R sc hs all k × Q k q r all) (λ k. E k turn g (all ++ y ∷ []))
  bind_turn sc hs B G binds w turn q h all wide g y r j =
      under p a f gs (λ k c. (more_around p sites a f n gs classes meant sc hs all (y ∷ []) k c.0, c.1))
      (binds [] w (w + 1) w turn q _ _ h (all ++ y ∷ []) all (y ∷ []) all [] (omega (arith, wide, one_more all y)) refl wide y y refl wide g (inl refl) (itself y) (With g) r (λ ok. env_self p sites a f n gs classes meant g) j)

  abbrev pub OfTurn : Scope → List Handler → (ℕ → ℕ → ℕ → ℕ → ℕ → ℕ → ℕ → Type 0) → (Environment → Shape → Point → Type 0) → Type 0
  OfTurn sc hs Bind G = (w turn q lo hi : ℕ) → Bind w (w + 1) w turn q lo hi → (all : List Shape) → w ≡ n + length all → (g : Environment) (y : Shape) (r : Point) → G g y r → S lo hi (λ k. R sc hs all k × Q k q r all) (λ k. E k turn g (all ++ y ∷ []))

  module _ (sc : Scope) (hs : List Handler) (node site : ℕ) (step : Option ℤ) (Begin : Place) (Bind : ℕ → ℕ → ℕ → ℕ → ℕ → ℕ → ℕ → Type 0) (Tst : Choice) (El : Place) (GB : Environment → Shape → Shape → Point → Type 0) (GT : Environment → Shape → Point → Type 0) (GC : Testing) (GE : Giving)
      (begins : OfSubject sc hs Begin GB) (binds : OfTurn sc hs Bind GT) (tests : OfTest p sites a f n gs classes meant sc hs Tst GC) (one_of : OfOne p sites a f n gs classes meant sc hs El GE)
      (no_begin : (b m q lo hi : ℕ) → Begin b m q lo hi → Idle lo hi) (no_bind : (at m keep b q lo hi : ℕ) → Bind at m keep b q lo hi → Idle lo hi) (no_test : (b m so_way other lo hi : ℕ) → Tst b m so_way other lo hi → Idle lo hi) (no_one : (b m q lo hi : ℕ) → El b m q lo hi → Idle lo hi) where
    pub comprehension_at : OfOne p sites a f n gs classes meant sc hs (marks.ComprehensionAt meant gs f n sc node site step Begin Bind Tst El) (part.ComprehensionAt p sites a n hs node site step GB GT GC GE)
    comprehension_at b m q lo hi h held count e x r j =
        so p a f gs (λ k c i. i.1.1)
        (seq p a f gs (turns j.4 j.10.0 j.10.1)
        (seq p a f gs (from_point p sites a f n gs classes meant h.0 (held ++ j.0 ∷ []) (λ g. GB g j.1 j.2 j.4) j.3 j.9 (no_begin h.0 (m + 1) h.1 h.12 h.13 h.20)
        (λ g u. under p a f gs (λ k c. (more_around p sites a f n gs classes meant sc hs held (j.0 ∷ []) k c.0.0, c.1)) (begins h.0 (m + 1) h.1 h.12 h.13 h.20 (held ++ j.0 ∷ []) (omega (arith, count, one_more held j.0)) g j.1 j.2 j.4 u)))
        (leaf p sites a f n gs classes meant sc hs b node false (row.Comprehension site) m h.0 h.21 held count e j.0 j.3 refl j.8 (λ k c. c.0.0.0) (λ k c. c.1))))
      where
        Head : Environment → Type 0
        Head v = Sees p sites a f n gs classes meant hs v
            × (t : Shape) × part.Operates p sites a n (row.HasItem step) node (j.1 ∷ j.2 ∷ []) t
            × (goes true t ≡ true → (y : Shape) × (taken : Point) × part.Acts p sites a n hs node false (row.Item step) (j.1 ∷ j.2 ∷ []) v y taken × At taken (λ g. GT g y j.5))
            × (goes false t ≡ true → LeadsTo p a f n classes v j.7)

        turns : (top : Point) → At top Head → At j.6 (λ g. part.Acts p sites a n hs node false (row.Advance step) (j.1 ∷ j.2 ∷ []) g j.2 top) → S lo h.12 (λ k. R sc hs held k × Q k q r (held ++ x ∷ [])) (λ k. Q k h.1 top ((held ++ j.0 ∷ []) ++ j.1 ∷ j.2 ∷ []))
        turns Never i on =
            so p a f gs (λ k c u. tt) (under p a f gs (λ k c. tt)
            (idle.both_of p sites a f n gs classes meant (idle.block p sites a f n gs classes meant h.1 (m + 1 + 2) (Go (first h.2 (m + 1 + 2))) h.14)
            (idle.both_of p sites a f n gs classes meant (idle.op p sites a f n gs classes meant sc h.3 node false (row.Advance step) ((m + 1) ∷ (m + 1 + 1) ∷ []) (m + 1 + 2) (first_and h.1 (m + 1 + 1) (m + 1 + 2)) h.15)
            (idle.both_of p sites a f n gs classes meant (idle.both_of p sites a f n gs classes meant (idle.op p sites a f n gs classes meant sc h.16.1 node false row.AddItem (m ∷ (m + 1 + 2) ∷ []) (m + 1 + 2 + 1) (first h.3 (m + 1 + 2)) h.16.4) (idle.both_of p sites a f n gs classes meant (no_one h.16.0 (m + 1 + 2) h.16.1 h.16.2 h.16.3 h.16.5) (no_test h.4 (m + 1 + 2) h.16.0 h.3 h.16.3 h.9 h.16.6)))
            (idle.both_of p sites a f n gs classes meant (no_bind (m + 1 + 2) (m + 1 + 2 + 1) (m + 1 + 2) h.5 h.4 h.9 h.10 h.17)
            (idle.both_of p sites a f n gs classes meant (idle.meets p sites a f n gs classes meant sc node h.6 m q h.18) (idle.one_turn p sites a f n gs classes meant sc node step (m + 1) h.5 (first h.6 (m + 1)) h.2 h.11 h.12 h.19)))))))
        turns (With v) i on =
            let D = held ++ j.0 ∷ [] in
            let all = D ++ j.1 ∷ j.2 ∷ [] in
            let next : m + 1 ≡ n + length D = omega (arith, count, one_more held j.0) in
            let wide : m + 1 + 2 ≡ n + length all = omega (arith, next, walk_count D j.1 j.2) in
            let here : Spot = spot n v all bound in
            let s = turn_of p sites a f n gs classes meant hs node step GT j.1 j.2 v j.5 i.1 i.3 in
            let C : Spots → Type 0 = λ k. (R sc hs held k × Q k q r (held ++ x ∷ [])) × (k h.1 ≡ here) in
            let around : (k : Spots) → C k → R sc hs all k = λ k c. more_around p sites a f n gs classes meant sc hs D (j.1 ∷ j.2 ∷ []) k (more_around p sites a f n gs classes meant sc hs held (j.0 ∷ []) k c.0.0) in
            so p a f gs (λ k c u. stands_there k h.1 v all u.0)
            (head p a f gs h.1 h.14.0.0 (m + 1 + 2) h.14.0.1 h.14.0.2 (Go (first h.2 (m + 1 + 2))) h.14.1 h.14.0.3 here tt
            (seq p a f gs (advance_at p sites a f n gs classes meant sc hs node step (m + 1) h.1 h.3 h.15 D next j.1 j.2 j.6 (With v) on (λ k c. more_around p sites a f n gs classes meant sc hs held (j.0 ∷ []) k c.0.0) (λ k c. stands_there k h.1 v all c.1))
            (seq p a f gs (from_point p sites a f n gs classes meant h.4 all (λ g. GC g j.11.0 j.6) j.5 j.11.1
            (idle.both_of p sites a f n gs classes meant (idle.op p sites a f n gs classes meant sc h.16.1 node false row.AddItem (m ∷ (m + 1 + 2) ∷ []) (m + 1 + 2 + 1) (first h.3 (m + 1 + 2)) h.16.4) (idle.both_of p sites a f n gs classes meant (no_one h.16.0 (m + 1 + 2) h.16.1 h.16.2 h.16.3 h.16.5) (no_test h.4 (m + 1 + 2) h.16.0 h.3 h.16.3 h.9 h.16.6)))
            (λ g u. under p a f gs (λ k c. (around k c.0, c.1)) (gather_at p sites a f n gs classes meant sc hs node El Tst GE GC one_of tests no_one m h.4 (m + 1 + 2) h.3 h.16 all wide j.0
            (λ w y z.
            let first_is = at_in n w held j.0 ((j.1 ∷ j.2 ∷ []) ++ (y ∷ z ∷ [])) ((all ++ y ∷ []) ++ z ∷ []) m (push all y (z ∷ []) ∙ (append_assoc D (j.1 ∷ j.2 ∷ []) (y ∷ z ∷ []) ∙ push held j.0 (j.1 ∷ j.2 ∷ y ∷ z ∷ []))) count in
            let last_is = at_in n w all y (z ∷ []) ((all ++ y ∷ []) ++ z ∷ []) (m + 1 + 2) (push all y (z ∷ [])) wide in
            ap (λ l. l ∷ held_at n w ((all ++ y ∷ []) ++ z ∷ []) (m + 1 + 2) ∷ []) first_is ∙ ap (λ l. j.0 ∷ l ∷ []) last_is)
            (omega (arith, count)) j.5 j.6 g (j.11.0, u, j.11.2))))
            (seq p a f gs (bound_at p sites a f n gs classes meant hs node step GT j.1 j.2 v j.5 i.1 h.5 D s (no_bind (m + 1 + 2) (m + 1 + 2 + 1) (m + 1 + 2) h.5 h.4 h.9 h.10 h.17)
            (λ g y u. under p a f gs (λ k c. (around k c.0.0, c.1)) (binds (m + 1 + 2) h.5 h.4 h.9 h.10 h.17 all wide g y j.5 u)))
            (seq p a f gs (from_point p sites a f n gs classes meant h.6 D (λ g. part.Acts p sites a n hs node true row.Copy (j.0 ∷ []) g x r) j.7 j.12 (idle.meets p sites a f n gs classes meant sc node h.6 m q h.18)
            (λ g u. meet p sites a f n gs classes meant sc hs h.6 node m q h.18 held count j.0 g x r u (λ k c. c.0.0.0.0.0) (λ k c. c.0.0.0.0.1)))
            (turn_at p sites a f n gs classes meant hs node step GT j.1 j.2 v j.5 i.1 sc (m + 1) h.5 (first h.6 (m + 1)) h.2 h.19 D next i.0 i.2 s (λ k c. more_around p sites a f n gs classes meant sc hs held (j.0 ∷ []) k c.0.0.0.0.0.0) (λ k c. c.0.1)
            (λ k c go. goes_keeping p a f n classes k h.6 (m + 1) v D ((j.1 ∷ j.2 ∷ []) ++ i.1 ∷ []) (all ++ i.1 ∷ []) (append_assoc D (j.1 ∷ j.2 ∷ []) (i.1 ∷ [])) next (led p a f n classes k h.6 j.7 v D (i.4 go) c.1)))))))
            (λ k c u reached. goes_keeping p a f n classes k h.2 (m + 1 + 2) v all [] all (sym (append-nil all)) wide u.1.1.1.1))
