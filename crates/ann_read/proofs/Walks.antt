-- Dicts, what is walked, loops over it and comprehensions, by the places of their parts.
use Rattle.std.proofs.Common.{◌≡◌, ◌+◌, ◌<◌, ◌≤◌, ℕ, pos, Bool, true, false, List, [], ◌∷◌, ◌++◌, length, get_or, None, refl, sym, ap, ◌∙◌, arith, subst}
use Rattle.std.proofs.lemmas.Bool.{false_from_ne_true}
use Rattle.rpy_meaning.specs.declared.row.RowOp.{RowOp}
use Rattle.rpy_meaning.specs.declared.row.RowOp.TheVariants as row
use Rattle.flow_stands.specs.Places.{range, Scope, Jump, Go, first, first_and}
use Rattle.flow_trees.specs.Marks as marks
use Rattle.flow_trees.specs.Marks.{Place, Choice}
use Rattle.ann_lattice.specs.Shape.{Shape as Element, Nothing, NoneOnly}
use Rattle.ann_lattice.specs.Assign.{Under}
use Rattle.ann_lattice.specs.Kind.{is_nothing}
use Rattle.ann_laws.proofs.Equal.{nothing_down}
use Rattle.ann_rules.specs.Rules as rule
use Rattle.ann_tree.specs.Annotation.{Environment, Point, Handler, At, elements_with}
use Rattle.ann_tree.specs.Gives as part
use Rattle.ann_tree.specs.Gives.{Giving, Testing}
use Rattle.ann_read.proofs.Places.{with_cases, with_at, with_before, and_at, and_last, and_length, last_length, before_last, at_last}
use Rattle.ann_read.proofs.Links.{Known, k, u, Fits, self, var, loose, in_at, front, Enters, Wide, Linked, go, passes_on, formed_at, Onward}
use Rattle.ann_read.proofs.Points.{agree_before, agree_on, agree_self, enters_less, LeadsTo, point, at_point, to_point, with_input, Towards, towards_point, onto_point}
use Rattle.ann_read.proofs.Acts.{annotation, Acted, acted, Given, asked_of, seen, live, acts_onto, acts_towards, no}
use Rattle.ann_read.proofs.Held.{extend_agree, given_range, wide_as, acts_wide, is_wide, goes_on}
use Rattle.ann_read.proofs.Values.{InGraph, InTree, Caught, caught_more, ValueSim, alone_sim, meets_sim}

goes_some : (way : Bool) (x : Element) → rule.goes way x ≡ true → is_nothing x ≡ false
goes_some way Nothing e = absurd (no e)
goes_some way x e = refl

module _ (c : Known) (sc : Scope) (hs : List Handler) where
  -- what always gives `None` never stops its block
  pub never_stops : (base m node : ℕ) (value : Bool) (o : RowOp) (norm : Jump) (e : Environment) (h : ℕ → Element) → Acted c sc base m node value o [] norm e h
      → rule.asked c.p c.w 0 o [] node ≡ NoneOnly ∷ [] → Linked c None base norm
  never_stops base m node value o norm e h does is =
      let low : Under (k c) (u c) (NoneOnly ∷ []) (var c (base + m)) = subst (λ l. Under (k c) (u c) l (var c (base + m))) is (asked_of c sc base m node value o [] norm e h does [] tt refl) in
      let there : is_nothing (var c (base + m)) ≡ false = false_from_ne_true (is_nothing (var c (base + m))) (λ t. no (nothing_down (k c) (u c) NoneOnly (var c (base + m)) low.0 t)) in
      live c sc base m node value o [] norm e h does (var c (base + m)) there (self c (var c (base + m)))

  -- ---- pairs that are stored to a dict, which is held

  pub record PairsSim (Stores : Place) (P : Element → Environment → Point → Type 0) : Type 0 where
    pub wide : (b m q lo hi : ℕ) → Stores b m q lo hi → Wide c q (m + 1) → Wide c b (m + 1)
    pub sim : (b m q lo hi : ℕ) (e : Environment) (h : ℕ → Element) (dict : Element) → Stores b m q lo hi → c.n ≤ m → Wide c q (m + 1) → Enters c b (m + 1) e (elements_with h m dict)
        → Caught c sc hs m h → (s : Point) → Towards c q (m + 1) (elements_with h m dict) s → P dict e s

  pub pair_sim : (node : ℕ) (K E Stores : Place) (GK GE : Giving) (P PM : Element → Environment → Point → Type 0) → ValueSim c sc hs K GK → ValueSim c sc hs E GE → PairsSim Stores P
      → ((dict : Element) (e : Environment) (q : Point)
      → ((x y stored : Element) × (first second next : Point) × GK e x first × At first (λ g. GE g y second) × At second (λ g. InTree c sc hs node false row.StoreIndex (dict ∷ x ∷ y ∷ []) g stored next) × At next (λ g. P dict g q))
      → PM dict e q)
      → PairsSim
      (λ b m q lo hi.
      (k l next l1 l2 l3 : ℕ)
      × Stores next m q lo l1
      × InGraph c sc hs l node false row.StoreIndex (m ∷ (m + 1) ∷ (m + 2) ∷ []) (m + 3) (first next (m + 1)) l1 l2
      × E k (m + 1 + 1) l l2 l3
      × K b (m + 1) k l3 hi)
      PM
  pair_sim node K E Stores GK GE P PM key value rest join = record {
    wide = λ b m q lo hi has w. key.wide b (m + 1) has.0 has.5 hi has.9;
    sim = λ b m q lo hi e h dict has le w enters catches s to.
        let mid : ℕ = has.0 in
        let last : ℕ = has.1 in
        let next : ℕ = has.2 in
        let there = acts_wide c sc last node false row.StoreIndex (m ∷ (m + 1) ∷ (m + 2) ∷ []) (m + 3) (first next (m + 1)) has.3 has.4 has.7 in
        let at_next = rest.wide next m q lo has.3 has.6 w in
        let at_mid = value.wide mid (m + 1 + 1) last has.4 has.5 has.8 in
        let at_last_one = wide_as c last (m + 3) (m + 1 + 1 + 1) (omega arith) there in
        let h1 : ℕ → Element = elements_with h m dict in
        let x : Element = in_at c mid (m + 1) in
        let h2 : ℕ → Element = elements_with h1 (m + 1) x in
        let y : Element = in_at c last (m + 1 + 1) in
        let h3 : ℕ → Element = elements_with h2 (m + 1 + 1) y in
        let base : ℕ = has.7.0.0 in
        let norm = first next (m + 1) in
        let c1 = caught_more c sc hs m h dict catches in
        let c2 = caught_more c sc hs (m + 1) h1 x c1 in
        join dict e s (
          x,
          y,
          var c (base + (m + 3)),
          point c mid h1 (m + 1),
          point c last h2 (m + 1 + 1),
          point c next h1 (m + 1),
          key.sim b (m + 1) mid has.5 hi e h1 has.9 (omega (arith, le)) enters c1 x (point c mid h1 (m + 1)) (onto_point c mid (m + 1) h1 at_mid (omega (arith, le))),
          at_point c mid (m + 1) h1 (λ g. GE g y (point c last h2 (m + 1 + 1)))
              (λ i. value.sim mid (m + 1 + 1) last has.4 has.5 (front c mid) h2 has.8 (omega (arith, le)) (with_input c mid (m + 1) (front c mid) h1 i) c2 y (point c last h2 (m + 1 + 1))
              (onto_point c last (m + 1 + 1) h2 at_last_one (omega (arith, le)))),
          at_point c last (m + 1 + 1) h2 (λ g. InTree c sc hs node false row.StoreIndex (dict ∷ x ∷ y ∷ []) g (var c (base + (m + 3))) (point c next h1 (m + 1)))
              (λ i.
              let inside = enters_less c last (m + 1 + 1 + 1) (m + 3) (front c last) h3 h3 (omega arith) (agree_self (m + 3) h3) (with_input c last (m + 1 + 1) (front c last) h2 i) in
              let does = acted c sc last node false row.StoreIndex (m ∷ (m + 1) ∷ (m + 2) ∷ []) (m + 3) norm has.3 has.4 (front c last) h3 has.7 (omega (arith, le)) inside in
              let places : m + 1 + 1 ≡ m + 2 = omega arith in
              let given : Given c base (m ∷ (m + 1) ∷ (m + 2) ∷ []) (dict ∷ x ∷ y ∷ []) =
              subst (λ p. Given c base (m ∷ (m + 1) ∷ p ∷ []) (dict ∷ x ∷ y ∷ [])) places (given_range c base (m + 3) (front c last) h m (dict ∷ x ∷ y ∷ []) does.around le (omega arith)) in
              acts_towards c sc base (m + 3) node false row.StoreIndex (m ∷ (m + 1) ∷ (m + 2) ∷ []) norm (front c last) h3 does hs
              (seen c sc base (m + 3) node false row.StoreIndex (m ∷ (m + 1) ∷ (m + 2) ∷ []) norm (front c last) h3 does hs m h (omega arith) (extend_agree c h m (dict ∷ x ∷ y ∷ [])) catches)
              (dict ∷ x ∷ y ∷ []) given next (m + 1) h1 (point c next h1 (m + 1)) (omega (arith, le)) (omega arith)
              (agree_on (m + 1 + 1) (m + 1) h3 h2 h1 (omega arith) (agree_before (m + 1 + 1) (m + 1 + 1) h2 y (omega arith)) (agree_before (m + 1) (m + 1) h1 x (omega arith))) refl
              (towards_point c next (m + 1) (m + 1) h1 at_next (omega arith) (omega (arith, le)))),
          at_point c next (m + 1) h1 (λ g. P dict g s) (λ i. rest.sim next m q lo has.3 (front c next) h dict has.6 le w i catches s to),
        );
  }

  pub display_sim : (node site : ℕ) (Stores : Place) (P : Element → Environment → Point → Type 0) → PairsSim Stores P
      → ValueSim c sc hs (marks.DisplayAt c.program c.graphs c.f c.n sc node site Stores) (part.DisplayAt c.p c.program.sites (annotation c) c.n hs node site P)
  display_sim node site Stores P pairs = record {
    wide = λ b m q lo hi has. acts_wide c sc b node false (row.Dict site) [] m (first_and has.0 m m) has.3 hi has.6;
    sim = λ b m q lo hi e h has le enters catches x s onto.
        let mid : ℕ = has.0 in
        let last : ℕ = has.1 in
        let at_last_one = acts_wide c sc last node true row.Copy (m ∷ []) (m + 1) (first_and q m (m + 1)) lo has.2 has.4 in
        let at_mid = pairs.wide mid m last has.2 has.3 has.5 at_last_one in
        let dict : Element = in_at c mid m in
        let h1 : ℕ → Element = elements_with h m dict in (
          dict,
          point c mid h m,
          point c last h1 (m + 1),
          alone_sim c sc hs node false (row.Dict site) b m mid has.3 hi e h has.6 le enters catches dict (point c mid h m) (onto_point c mid m h at_mid le),
          at_point c mid m h (λ g. P dict g (point c last h1 (m + 1)))
              (λ i. pairs.sim mid m last has.2 has.3 (front c mid) h dict has.5 le at_last_one (with_input c mid m (front c mid) h i) catches (point c last h1 (m + 1))
              (towards_point c last (m + 1) (m + 1) h1 at_last_one (omega arith) (omega (arith, le)))),
          at_point c last (m + 1) h1 (λ g. InTree c sc hs node true row.Copy (dict ∷ []) g x s) (λ i. meets_sim c sc hs node last m q lo has.2 (front c last) h dict has.4 le i catches x s onto),
        );
  }

  -- ---- what is walked

  -- each way to the head leads to the point, with what is walked and the place in it
  abbrev pub Walked : ℕ → ℕ → (ℕ → Element) → Element → Element → Point → Type 0
  Walked q m h over place s = (g : Environment) (y z : Element) → Enters c q (m + 2) g (elements_with (elements_with h m y) (m + 1) z) → Onward c y over × Onward c z place × LeadsTo c g s

  pub walked_point : (q m : ℕ) (h : ℕ → Element) → Wide c q (m + 2) → c.n ≤ m → Walked q m h (in_at c q m) (in_at c q (m + 1)) (point c q h m)
  walked_point q m h w le g y z enters =
      let l = w.long in
      let h1 : ℕ → Element = elements_with h m y in
      let h2 : ℕ → Element = elements_with h1 (m + 1) z in (
        passes_on c y (in_at c q m) (formed_at c q m) (subst (λ v. Fits c v (in_at c q m)) (with_before h1 (m + 1) z m (omega arith) ∙ with_at h m y) (enters.held m le (omega arith) (omega (arith, l)))),
        passes_on c z (in_at c q (m + 1)) (formed_at c q (m + 1)) (subst (λ v. Fits c v (in_at c q (m + 1))) (with_at h1 (m + 1) z) (enters.held (m + 1) (omega (arith, le)) (omega arith) (omega (arith, l)))),
        to_point c q m (m + 2) g h w (omega arith) le
            (enters_less c q (m + 2) m g h2 h (omega arith) (agree_on (m + 1) m h2 h1 h (omega arith) (agree_before (m + 1) (m + 1) h1 z (omega arith)) (agree_before m m h y (omega arith))) enters),
      )

  pub record SubjectSim (Begin : Place) (S : Environment → Element → Element → Point → Type 0) : Type 0 where
    pub wide : (b m q lo hi : ℕ) → Begin b m q lo hi → Wide c b m
    pub sim : (b m q lo hi : ℕ) (e : Environment) (h : ℕ → Element) → Begin b m q lo hi → c.n ≤ m → Wide c q (m + 2) → Enters c b m e h → Caught c sc hs m h
        → (over place : Element) (s : Point) → Walked q m h over place s → S e over place s

  -- the first place is none
  from_none : (node zero_at m q lo hi : ℕ) (h : ℕ → Element) (y : Element) (e : Environment) → InGraph c sc hs zero_at node false (row.Word (pos 0)) [] (m + 1) (first_and q (m + 1) (m + 1)) lo hi → c.n ≤ m → Wide c q (m + 2)
      → Enters c zero_at (m + 1) e (elements_with h m y) → Caught c sc hs m h
      → InTree c sc hs node false (row.Word (pos 0)) [] e (in_at c q (m + 1)) (point c q (elements_with h m y) (m + 1))
  from_none node zero_at m q lo hi h y e has le w enters catches =
      alone_sim c sc hs node false (row.Word (pos 0)) zero_at (m + 1) q lo hi e (elements_with h m y) has (omega (arith, le)) enters (caught_more c sc hs m h y catches) (in_at c q (m + 1)) (point c q (elements_with h m y) (m + 1))
      (onto_point c q (m + 1) (elements_with h m y) (wide_as c q (m + 2) (m + 1 + 1) (omega arith) w) (omega (arith, le)))

  starts : (m q : ℕ) (h : ℕ → Element) (y over place : Element) (s : Point) → Walked q m h over place s
      → At (point c q (elements_with h m y) (m + 1)) (λ g. part.Starts c.p c.program.sites (annotation c) c.n y (in_at c q (m + 1)) g over place s)
  starts m q h y over place s walked =
      let h1 : ℕ → Element = elements_with h m y in
      let z : Element = in_at c q (m + 1) in
      let h2 : ℕ → Element = elements_with h1 (m + 1) z in
      at_point c q (m + 1) h1 (λ g. part.Starts c.p c.program.sites (annotation c) c.n y z g over place s)
      (λ i. walked (front c q) y z (enters_less c q (m + 1 + 1) (m + 2) (front c q) h2 h2 (omega arith) (agree_self (m + 2) h2) (with_input c q (m + 1) (front c q) h1 i)))

  pub over_sim : (node site : ℕ) (E : Place) (G : Giving) (SM : Environment → Element → Element → Point → Type 0) → ValueSim c sc hs E G
      → ((e : Environment) (over place : Element) (q : Point)
      → ((x y z : Element) × (behind walked last : Point)
      × G e x behind
      × At behind (λ g. InTree c sc hs node false (row.Walk site) (x ∷ []) g y walked)
      × At walked (λ g. InTree c sc hs node false (row.Word (pos 0)) [] g z last)
      × At last (λ g. part.Starts c.p c.program.sites (annotation c) c.n y z g over place q))
      → SM e over place q)
      → SubjectSim
      (λ b m q lo hi.
      (k zero_at l1 l2 : ℕ)
      × InGraph c sc hs zero_at node false (row.Word (pos 0)) [] (m + 1) (first_and q (m + 1) (m + 1)) lo l1
      × InGraph c sc hs k node false (row.Walk site) (m ∷ []) (m + 1) (first_and zero_at m (m + 1)) l1 l2
      × E b m k l2 hi)
      SM
  over_sim node site E G SM value join = record {
    wide = λ b m q lo hi has. value.wide b m has.0 has.3 hi has.6;
    sim = λ b m q lo hi e h has le w enters catches over place s walked.
        let mid : ℕ = has.0 in
        let zero_at : ℕ = has.1 in
        let norm = first_and zero_at m (m + 1) in
        let at_mid = acts_wide c sc mid node false (row.Walk site) (m ∷ []) (m + 1) norm has.2 has.3 has.5 in
        let at_zero = acts_wide c sc zero_at node false (row.Word (pos 0)) [] (m + 1) (first_and q (m + 1) (m + 1)) lo has.2 has.4 in
        let x : Element = in_at c mid m in
        let y : Element = in_at c zero_at m in
        let h1 : ℕ → Element = elements_with h m x in
        let base : ℕ = has.5.0.0 in
        let agree = agree_before m m h x (omega arith) in
        join e over place s (
          x,
          y,
          in_at c q (m + 1),
          point c mid h m,
          point c zero_at h m,
          point c q (elements_with h m y) (m + 1),
          value.sim b m mid has.3 hi e h has.6 le enters catches x (point c mid h m) (onto_point c mid m h at_mid le),
          at_point c mid m h (λ g. InTree c sc hs node false (row.Walk site) (x ∷ []) g y (point c zero_at h m))
              (λ i.
              let does = acted c sc mid node false (row.Walk site) (m ∷ []) (m + 1) norm has.2 has.3 (front c mid) h1 has.5 (omega (arith, le)) (with_input c mid m (front c mid) h i) in
              acts_onto c sc base (m + 1) node false (row.Walk site) (m ∷ []) norm (front c mid) h1 does hs
              (seen c sc base (m + 1) node false (row.Walk site) (m ∷ []) norm (front c mid) h1 does hs m h (omega arith) agree catches) (x ∷ [])
              (subst (λ v. Fits c v (var c (base + m))) (with_at h m x) (does.around.held m le (omega arith)), tt) zero_at m h y (point c zero_at h m) le (omega arith) agree (λ r. refl)
              (onto_point c zero_at m h at_zero le)),
          at_point c zero_at m h (λ g. InTree c sc hs node false (row.Word (pos 0)) [] g (in_at c q (m + 1)) (point c q (elements_with h m y) (m + 1)))
              (λ i. from_none node zero_at m q lo has.2 h y (front c zero_at) has.4 le w (with_input c zero_at m (front c zero_at) h i) catches),
          starts m q h y over place s walked,
        );
  }

  pub up_to_sim : (node : ℕ) (E : Place) (G : Giving) (SM : Environment → Element → Element → Point → Type 0) → ValueSim c sc hs E G
      → ((e : Environment) (over place : Element) (q : Point)
      → ((y z : Element) × (behind last : Point)
      × G e y behind
      × At behind (λ g. InTree c sc hs node false (row.Word (pos 0)) [] g z last)
      × At last (λ g. part.Starts c.p c.program.sites (annotation c) c.n y z g over place q))
      → SM e over place q)
      → SubjectSim
      (λ b m q lo hi. (zero_at l1 : ℕ) × InGraph c sc hs zero_at node false (row.Word (pos 0)) [] (m + 1) (first_and q (m + 1) (m + 1)) lo l1 × E b m zero_at l1 hi)
      SM
  up_to_sim node E G SM value join = record {
    wide = λ b m q lo hi has. value.wide b m has.0 has.1 hi has.3;
    sim = λ b m q lo hi e h has le w enters catches over place s walked.
        let zero_at : ℕ = has.0 in
        let at_zero = acts_wide c sc zero_at node false (row.Word (pos 0)) [] (m + 1) (first_and q (m + 1) (m + 1)) lo has.1 has.2 in
        let y : Element = in_at c zero_at m in
        join e over place s (
          y,
          in_at c q (m + 1),
          point c zero_at h m,
          point c q (elements_with h m y) (m + 1),
          value.sim b m zero_at has.1 hi e h has.3 le enters catches y (point c zero_at h m) (onto_point c zero_at m h at_zero le),
          at_point c zero_at m h (λ g. InTree c sc hs node false (row.Word (pos 0)) [] g (in_at c q (m + 1)) (point c q (elements_with h m y) (m + 1)))
              (λ i. from_none node zero_at m q lo has.1 h y (front c zero_at) has.2 le w (with_input c zero_at m (front c zero_at) h i) catches),
          starts m q h y over place s walked,
        );
  }

  -- two variables change places
  swapped : (l m q lo hi : ℕ) (e : Environment) (h : ℕ → Element) (z y : Element) → marks.Is c.program c.graphs c.f c.n l (m + 2) (Go (record { to = q; places = (range 0 m ++ (m + 1) ∷ []) ++ m ∷ [] })) lo hi → c.n ≤ m
      → Enters c l (m + 2) e (elements_with (elements_with h m z) (m + 1) y) → Enters c q (m + 2) e (elements_with (elements_with h m y) (m + 1) z)
  swapped l m q lo hi e h z y has le enters =
      let ps = range 0 m ++ (m + 1) ∷ [] in
      let jump : Jump = record { to = q; places = ps ++ m ∷ [] } in
      let h1 : ℕ → Element = elements_with h m z in
      let h2 : ℕ → Element = elements_with h1 (m + 1) y in
      let h3 : ℕ → Element = elements_with h m y in
      let went = goes_on c l (m + 2) jump lo hi e h2 has (omega (arith, le)) enters in
      let base : ℕ = has.0.0 in
      let long : length ps ≡ m + 1 = and_length m (m + 1) in
      let few : (j : ℕ) → j < m → get_or (ps ++ m ∷ []) j 0 ≡ j = λ j lt. before_last ps m j (omega (arith, lt, long)) ∙ and_at m (m + 1) j lt in
      let at_m : get_or (ps ++ m ∷ []) m 0 ≡ m + 1 = before_last ps m m (omega (arith, long)) ∙ and_last m (m + 1) in
      let at_more : get_or (ps ++ m ∷ []) (m + 1) 0 ≡ m = at_last ps m (m + 1) (sym long) in
      go c None base jump went.linked (m + 2) e (elements_with h3 (m + 1) z) (omega (arith, le)) (last_length ps m ∙ (omega (arith, long)))
      (λ i lt. subst (λ (v : ℕ). Fits c (e.element i) (var c (base + v)) × (e.unbound i ≡ true → loose c (base + v) ≡ true)) (sym (few i (omega (arith, lt, le)))) (went.around.locals i lt))
      (λ j ge lt.
      with_cases (λ x. Fits c x (var c (base + get_or (ps ++ m ∷ []) j 0)) × (false ≡ true → loose c (base + get_or (ps ++ m ∷ []) j 0) ≡ true)) h3 (m + 1) z j
      (λ is. (
        subst (λ (v : ℕ). Fits c z (var c (base + v))) (sym (ap (λ (q : ℕ). get_or (ps ++ m ∷ []) q 0) is ∙ at_more))
            (subst (λ x. Fits c x (var c (base + m))) (with_before h1 (m + 1) y m (omega arith) ∙ with_at h m z) (went.around.held m le (omega arith))),
        λ t. cc,
      ))
      (λ other.
      with_cases (λ x. Fits c x (var c (base + get_or (ps ++ m ∷ []) j 0)) × (false ≡ true → loose c (base + get_or (ps ++ m ∷ []) j 0) ≡ true)) h m y j
      (λ is. (
        subst (λ (v : ℕ). Fits c y (var c (base + v))) (sym (ap (λ (q : ℕ). get_or (ps ++ m ∷ []) q 0) is ∙ at_m))
            (subst (λ x. Fits c x (var c (base + (m + 1)))) (with_at h1 (m + 1) y) (went.around.held (m + 1) (omega (arith, le)) (omega arith))),
        λ t. cc,
      ))
      (λ another.
      let lt2 : j < m = omega (arith, lt, other, another) in (
        subst (λ (v : ℕ). Fits c (h j) (var c (base + v))) (sym (few j lt2))
            (subst (λ x. Fits c x (var c (base + j))) (with_before h1 (m + 1) y j (omega (arith, lt2)) ∙ with_before h m z j lt2) (went.around.held j ge (omega (arith, lt2)))),
        λ t. cc,
      ))))

  pub from_to_sim : (E F : Place) (G H : Giving) (SM : Environment → Element → Element → Point → Type 0) → ValueSim c sc hs E G → ValueSim c sc hs F H
      → ((e : Environment) (over place : Element) (q : Point)
      → ((y z : Element) × (behind last : Point) × G e z behind × At behind (λ g. H g y last) × At last (λ g. part.Starts c.p c.program.sites (annotation c) c.n y z g over place q))
      → SM e over place q)
      → SubjectSim
      (λ b m q lo hi.
      (k l l1 l2 : ℕ)
      × marks.Is c.program c.graphs c.f c.n l (m + 2) (Go (record { to = q; places = (range 0 m ++ (m + 1) ∷ []) ++ m ∷ [] })) lo l1
      × F k (m + 1) l l1 l2
      × E b m k l2 hi)
      SM
  from_to_sim E F G H SM left right join = record {
    wide = λ b m q lo hi has. left.wide b m has.0 has.3 hi has.6;
    sim = λ b m q lo hi e h has le w enters catches over place s walked.
        let mid : ℕ = has.0 in
        let last : ℕ = has.1 in
        let at_last_one = is_wide c last (m + 2) (Go (record { to = q; places = (range 0 m ++ (m + 1) ∷ []) ++ m ∷ [] })) lo has.2 has.4 in
        let at_mid = right.wide mid (m + 1) last has.2 has.3 has.5 in
        let z : Element = in_at c mid m in
        let h1 : ℕ → Element = elements_with h m z in
        let y : Element = in_at c last (m + 1) in
        let h2 : ℕ → Element = elements_with h1 (m + 1) y in
        join e over place s (
          y,
          z,
          point c mid h m,
          point c last h1 (m + 1),
          left.sim b m mid has.3 hi e h has.6 le enters catches z (point c mid h m) (onto_point c mid m h at_mid le),
          at_point c mid m h (λ g. H g y (point c last h1 (m + 1)))
              (λ i. right.sim mid (m + 1) last has.2 has.3 (front c mid) h1 has.5 (omega (arith, le)) (with_input c mid m (front c mid) h i) (caught_more c sc hs m h z catches) y (point c last h1 (m + 1))
              (onto_point c last (m + 1) h1 (wide_as c last (m + 2) (m + 1 + 1) (omega arith) at_last_one) (omega (arith, le)))),
          at_point c last (m + 1) h1 (λ g. part.Starts c.p c.program.sites (annotation c) c.n y z g over place s)
              (λ i. walked (front c last) y z
              (swapped last m q lo has.2 (front c last) h z y has.4 le (enters_less c last (m + 1 + 1) (m + 2) (front c last) h2 h2 (omega arith) (agree_self (m + 2) h2) (with_input c last (m + 1) (front c last) h1 i)))),
        );
  }
