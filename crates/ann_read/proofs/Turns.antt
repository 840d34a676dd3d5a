-- The turns of a walk, and comprehensions, by the places of their parts.
use Rattle.std.proofs.Common.{◌≡◌, ◌+◌, ◌<◌, ◌≤◌, ℕ, ℤ, Bool, true, false, List, [], ◌∷◌, Option, refl, ◌∙◌, arith, subst}
use Rattle.rpy_meaning.specs.declared.row.RowOp.TheVariants as row
use Rattle.flow_stands.specs.Places.{Scope, Go, first, first_and}
use Rattle.flow_trees.specs.Marks as marks
use Rattle.flow_trees.specs.Marks.{Place, Choice}
use Rattle.ann_lattice.specs.Shape.{Shape as Element, Nothing}
use Rattle.ann_lattice.specs.Kind.{is_nothing}
use Rattle.ann_rules.specs.Rules as rule
use Rattle.ann_tree.specs.Annotation.{Environment, Point, Handler, At, elements_with}
use Rattle.ann_tree.specs.Gives as part
use Rattle.ann_tree.specs.Gives.{Giving, Testing}
use Rattle.ann_read.proofs.Places.{with_at, with_before}
use Rattle.ann_read.proofs.Links.{Known, Fits, self, var, in_at, front, Enters, Inside, Wide, go_first, go_and, formed_var, passes_on, formed_at}
use Rattle.ann_read.proofs.Points.{Agree, agree_before, agree_on, agree_self, enters_less, LeadsTo, point, at_point, to_point, with_input, Towards, towards_point, onto_point}
use Rattle.ann_read.proofs.Acts.{annotation, catches_on, acted, Given, operates, seen, live, acts_onto, acts_towards, no}
use Rattle.ann_read.proofs.Held.{given_range, acts_wide, is_wide, goes_up, goes_on, Forked, forks}
use Rattle.ann_read.proofs.Values.{InTree, Caught, caught_more, ValueSim, alone_sim, meets_sim}
use Rattle.ann_read.proofs.Walks.{never_stops, SubjectSim, walked_point}

goes_some : (way : Bool) (x : Element) → rule.goes way x ≡ true → is_nothing x ≡ false
goes_some way Nothing e = absurd (no e)
goes_some way x e = refl

module _ (c : Known) (sc : Scope) (hs : List Handler) where
  -- a target takes the value at a place, where there is one
  pub record TakeSim (Take : ℕ → ℕ → ℕ → ℕ → ℕ → ℕ → ℕ → Type 0) (S : Environment → Element → Point → Type 0) : Type 0 where
    pub wide : (at m keep b q lo hi : ℕ) → Take at m keep b q lo hi → Wide c b m
    pub sim : (at m keep b q lo hi : ℕ) (e : Environment) (h : ℕ → Element) → Take at m keep b q lo hi → c.n ≤ at → at < m → c.n ≤ keep → keep ≤ m → Enters c b m e h → Caught c sc hs m h
        → (s : Point) → Towards c q keep h s → S e (h at) s

  -- what is walked and the place, both held
  abbrev pub Pair : ℕ → (ℕ → Element) → ℕ → ℕ → Element
  Pair m h head = elements_with (elements_with h m (in_at c head m)) (m + 1) (in_at c head (m + 1))

  pub pair_agree : (m : ℕ) (h : ℕ → Element) (head : ℕ) → Agree m (Pair m h head) h
  pair_agree m h head =
      agree_on (m + 1) m (Pair m h head) (elements_with h m (in_at c head m)) h (omega arith) (agree_before (m + 1) (m + 1) (elements_with h m (in_at c head m)) (in_at c head (m + 1)) (omega arith))
      (agree_before m m h (in_at c head m) (omega arith))

  pub caught_pair : (m : ℕ) (h : ℕ → Element) (head : ℕ) → Caught c sc hs m h → Caught c sc hs (m + 2) (Pair m h head)
  caught_pair m h head catches = catches_on c sc hs m (m + 2) (Pair m h head) h (omega arith) (pair_agree m h head) catches

  pub pair_given : (base top m : ℕ) (e : Environment) (h : ℕ → Element) (head : ℕ) → Inside c base top e (Pair m h head) → c.n ≤ m → m + 2 ≤ top → Given c base (m ∷ (m + 1) ∷ []) (in_at c head m ∷ in_at c head (m + 1) ∷ [])
  pair_given base top m e h head around le lu = given_range c base top e h m (in_at c head m ∷ in_at c head (m + 1) ∷ []) around le (omega (arith, lu))

  pub at_head : (m : ℕ) (h : ℕ → Element) (head : ℕ) → Enters c head m (front c head) h → Enters c head (m + 2) (front c head) (Pair m h head)
  at_head m h head i =
      enters_less c head (m + 1 + 1) (m + 2) (front c head) (Pair m h head) (Pair m h head) (omega arith) (agree_self (m + 2) (Pair m h head))
      (with_input c head (m + 1) (front c head) (elements_with h m (in_at c head m)) (with_input c head m (front c head) h i))

  abbrev pair_args : ℕ → List ℕ
  pair_args m = m ∷ (m + 1) ∷ []

  pub turns_sim : (node : ℕ) (step : Option ℤ) (m head begin advance bound turn to l0 l1 l2 l3 l4 l5 l6 l7 : ℕ) (Take : ℕ → ℕ → ℕ → ℕ → ℕ → ℕ → ℕ → Type 0) (S : Environment → Element → Point → Type 0) → TakeSim Take S
      → marks.HeadAt c.program c.graphs c.f c.n m head begin l0 l1 → marks.AdvanceAt c.program c.graphs c.f c.n sc node step m head advance l2 l3
      → marks.TurnAt c.program c.graphs c.f c.n sc node step m turn (first to m) begin l4 l5 → Take (m + 2) (m + 2 + 1) (m + 2) turn bound l6 l7
      → c.n ≤ m → Wide c bound (m + 2) → (h : ℕ → Element) → Caught c sc hs m h → (after : Point) → Towards c to m h after
      → part.Walks c.p c.program.sites (annotation c) c.n hs node step S (in_at c head m) (in_at c head (m + 1)) (point c head h m) (point c bound (Pair m h head) (m + 2)) (point c advance (Pair m h head) (m + 2)) after
  turns_sim node step m head begin advance bound turn to l0 l1 l2 l3 l4 l5 l6 l7 Take S take has_head has_advance has_turn has_take le at_bound h catches after to_after =
      let over : Element = in_at c head m in
      let place : Element = in_at c head (m + 1) in
      let g : ℕ → Element = Pair m h head in
      let agree : Agree m g h = pair_agree m h head in
      let pair_caught = caught_pair m h head catches in
      let at_head_one = is_wide c head (m + 2) (Go (first begin (m + 2))) l0 l1 has_head in
      let at_turn = take.wide (m + 2) (m + 2 + 1) (m + 2) turn bound l6 l7 has_take in (
        at_point c head m h
            (λ e.
            part.SeenBy c.p c.program.sites (annotation c) c.n hs e
            × (t : Element) × part.Operates c.p c.program.sites (annotation c) c.n (row.HasItem step) node (over ∷ place ∷ []) t
            × (rule.goes true t ≡ true → (y : Element) × (taken : Point) × InTree c sc hs node false (row.Item step) (over ∷ place ∷ []) e y taken × At taken (λ i. S i y (point c bound g (m + 2))))
            × (rule.goes false t ≡ true → LeadsTo c e after))
            (λ i. heads i),
        at_point c advance (m + 2) g (λ e. InTree c sc hs node false (row.Advance step) (over ∷ place ∷ []) e place (point c head h m)) (λ i. advances at_head_one i),
      )
    where
      advances : Wide c head (m + 2) → Enters c advance (m + 2) (front c advance) (Pair m h head)
          → InTree c sc hs node false (row.Advance step) (in_at c head m ∷ in_at c head (m + 1) ∷ []) (front c advance) (in_at c head (m + 1)) (point c head h m)
      advances at_head_one i =
          let g : ℕ → Element = Pair m h head in
          let h1 : ℕ → Element = elements_with h m (in_at c head m) in
          let norm = first_and head (m + 1) (m + 2) in
          let does = acted c sc advance node false (row.Advance step) (pair_args m) (m + 2) norm l2 l3 (front c advance) g has_advance (omega (arith, le)) i in
          let base : ℕ = has_advance.0.0 in
          acts_onto c sc base (m + 2) node false (row.Advance step) (pair_args m) norm (front c advance) g does hs
          (seen c sc base (m + 2) node false (row.Advance step) (pair_args m) norm (front c advance) g does hs m h (omega arith) (pair_agree m h head) catches)
          (in_at c head m ∷ in_at c head (m + 1) ∷ []) (pair_given base (m + 2) m (front c advance) h head does.around le (omega arith)) head (m + 1) h1 (in_at c head (m + 1)) (point c head h m) (omega (arith, le)) (omega arith)
          (agree_before (m + 1) (m + 1) h1 (in_at c head (m + 1)) (omega arith)) (λ r. refl)
          (λ e y enters.
          let l = at_head_one.long in (
            passes_on c y (in_at c head (m + 1)) (formed_at c head (m + 1)) (subst (λ v. Fits c v (in_at c head (m + 1))) (with_at h1 (m + 1) y) (enters.held (m + 1) (omega (arith, le)) (omega arith) (omega (arith, l)))),
            to_point c head m (m + 2) e h at_head_one (omega arith) le
                (enters_less c head (m + 1 + 1) m e (elements_with h1 (m + 1) y) h (omega arith)
                (agree_on (m + 1) m (elements_with h1 (m + 1) y) h1 h (omega arith) (agree_before (m + 1) (m + 1) h1 y (omega arith)) (agree_before m m h (in_at c head m) (omega arith))) enters),
          ))

      heads : Enters c head m (front c head) h
          → part.SeenBy c.p c.program.sites (annotation c) c.n hs (front c head)
          × (t : Element) × part.Operates c.p c.program.sites (annotation c) c.n (row.HasItem step) node (in_at c head m ∷ in_at c head (m + 1) ∷ []) t
          × (rule.goes true t ≡ true
          → (y : Element) × (taken : Point) × InTree c sc hs node false (row.Item step) (in_at c head m ∷ in_at c head (m + 1) ∷ []) (front c head) y taken × At taken (λ i. S i y (point c bound (Pair m h head) (m + 2))))
          × (rule.goes false t ≡ true → LeadsTo c (front c head) after)
      heads i =
          let e : Environment = front c head in
          let g : ℕ → Element = Pair m h head in
          let xs : List Element = in_at c head m ∷ in_at c head (m + 1) ∷ [] in
          let agree : Agree m g h = pair_agree m h head in
          let le2 : c.n ≤ m + 2 = omega (arith, le) in
          let at_turn = take.wide (m + 2) (m + 2 + 1) (m + 2) turn bound l6 l7 has_take in
          let went = goes_on c head (m + 2) (first begin (m + 2)) l0 l1 e g has_head le2 (at_head m h head i) in
          let at_begin = go_first c has_head.0.0 (m + 2) e g went.around begin (m + 2) le2 (omega arith) went.linked in
          let fork : ℕ = has_turn.0 in
          let paid : ℕ = has_turn.1 in
          let item : ℕ = has_turn.2 in
          let norm = first_and fork (m + 2) (m + 2) in
          let does = acted c sc begin node false (row.HasItem step) (pair_args m) (m + 2) norm has_turn.5 l5 e g has_turn.9 le2 at_begin in
          let base : ℕ = has_turn.9.0.0 in
          let t : Element = var c (base + (m + 2)) in
          let g2 : ℕ → Element = elements_with g (m + 2) t in
          let agree2 : Agree (m + 2) g2 g = agree_before (m + 2) (m + 2) g t (omega arith) in
          let at_fork : (way : Bool) → rule.goes way t ≡ true → Forked c has_turn.8.0.0 (m + 2 + 1) (m + 2) (first paid (m + 2)) (first to m) e g2 =
          λ way goes. forks c fork (m + 2 + 1) (m + 2) (first paid (m + 2)) (first to m) has_turn.4 has_turn.5 e g2 has_turn.8 (omega (arith, le))
          (go_and c base (m + 2) e g does.around fork (m + 2) (m + 2) t le2 (omega arith) (self c t) (live c sc base (m + 2) node false (row.HasItem step) (pair_args m) norm e g does t (goes_some way t goes) (self c t))) in
          let at_test : Inside c has_turn.8.0.0 (m + 2 + 1) e g2 → Fits c t (var c (has_turn.8.0.0 + (m + 2))) =
          λ around. subst (λ y. Fits c y (var c (has_turn.8.0.0 + (m + 2)))) (with_at g (m + 2) t) (around.held (m + 2) le2 (omega arith)) in (
            seen c sc base (m + 2) node false (row.HasItem step) (pair_args m) norm e g does hs m h (omega arith) agree catches,
            t,
            operates c sc base (m + 2) node false (row.HasItem step) (pair_args m) norm e g does xs t (pair_given base (m + 2) m e h head does.around le (omega arith)) does.kept.free (formed_var c (base + (m + 2))) (self c t),
            (λ goes.
                let fk = at_fork true goes in
                let in_paid = enters_less c paid (m + 2) (m + 2) e g2 g (omega arith) agree2
                (go_first c has_turn.8.0.0 (m + 2 + 1) e g2 fk.around paid (m + 2) le2 (omega arith) (fk.so_linked (goes_up c true t (var c (has_turn.8.0.0 + (m + 2))) (at_test fk.around) goes))) in
                let pays = acted c sc paid node false row.Turn [] (m + 2) (first item (m + 2)) has_turn.3 has_turn.4 e g has_turn.7 le2 in_paid in
                let in_item = go_first c has_turn.7.0.0 (m + 2) e g pays.around item (m + 2) le2 (omega arith) (never_stops c sc hs has_turn.7.0.0 (m + 2) node false row.Turn (first item (m + 2)) e g pays refl) in
                let item_norm = first_and turn (m + 2) (m + 2) in
                let takes = acted c sc item node false (row.Item step) (pair_args m) (m + 2) item_norm l4 has_turn.3 e g has_turn.6 le2 in_item in
                let low : ℕ = has_turn.6.0.0 in
                let y : Element = in_at c turn (m + 2) in (
                  y,
                  point c turn g (m + 2),
                  acts_onto c sc low (m + 2) node false (row.Item step) (pair_args m) item_norm e g takes hs
                      (seen c sc low (m + 2) node false (row.Item step) (pair_args m) item_norm e g takes hs m h (omega arith) agree catches) xs (pair_given low (m + 2) m e h head takes.around le (omega arith)) turn (m + 2) g y
                      (point c turn g (m + 2)) le2 (omega arith) (agree_self (m + 2) g) (λ r. refl) (onto_point c turn (m + 2) g at_turn le2),
                  at_point c turn (m + 2) g (λ i. S i y (point c bound g (m + 2)))
                      (λ j.
                      let g3 : ℕ → Element = elements_with g (m + 2) y in
                      let here : g3 (m + 2) ≡ y = with_at g (m + 2) y in
                      let agree3 : Agree (m + 2) g3 g = agree_before (m + 2) (m + 2) g y (omega arith) in
                      subst (λ x. S (front c turn) x (point c bound g (m + 2))) here
                      (take.sim (m + 2) (m + 2 + 1) (m + 2) turn bound l6 l7 (front c turn) g3 has_take le2 (omega arith) le2 (omega arith) (with_input c turn (m + 2) (front c turn) g j) (caught_more c sc hs (m + 2) g y (caught_pair m h head catches)) (point c bound g (m + 2))
                      (λ env j2. towards_point c bound (m + 2) (m + 2) g at_bound (omega arith) le2 env (enters_less c bound (m + 2) (m + 2) env g3 g (omega arith) agree3 j2)))),
                )),
            (λ goes.
                let fk = at_fork false goes in
                to_after e
                (enters_less c to m m e g2 h (omega arith) (agree_on (m + 2) m g2 g h (omega arith) agree2 agree)
                (go_first c has_turn.8.0.0 (m + 2 + 1) e g2 fk.around to m le (omega arith) (fk.other_linked (goes_up c false t (var c (has_turn.8.0.0 + (m + 2))) (at_test fk.around) goes))))),
          )

  -- ---- comprehensions

  -- what is perhaps tested goes on at once where it is not
  pub record ConditionSim (E : Choice) (T : Testing) : Type 0 where
    pub wide : (b m so other_way lo hi : ℕ) → E b m so other_way lo hi → Wide c so m → Wide c b m
    pub sim : (b m so other_way lo hi : ℕ) (e : Environment) (h : ℕ → Element) → E b m so other_way lo hi → c.n ≤ m → Enters c b m e h → Caught c sc hs m h
        → (s t : Point) → Towards c so m h s → Towards c other_way m h t → T e s t

  gathers_sim : (node m l bound advance lo hi : ℕ) (E : Place) (Test : Choice) (G : Giving) (T : Testing) → ValueSim c sc hs E G → ConditionSim Test T → (has : marks.GatherAt c.program c.graphs c.f c.n sc node E Test m bound l advance lo hi)
      → c.n ≤ m → m < l → (g : ℕ → Element) → Caught c sc hs l g → Wide c advance l → part.Gathers c.p c.program.sites (annotation c) c.n hs node T G (g m) (point c bound g l) (point c advance g l)
  gathers_sim node m l bound advance lo hi E Test G T item test has le lt g catches at_advance =
      let begin : ℕ = has.0 in
      let add : ℕ = has.1 in
      let ge : c.n ≤ l = omega (arith, le, lt) in
      let norm = first advance l in
      let at_begin = item.wide begin l add has.2 has.3 has.5 in
      let at_add = acts_wide c sc add node false row.AddItem (m ∷ l ∷ []) (l + 1) norm lo has.2 has.4 in
      let y : Element = in_at c add l in
      let g1 : ℕ → Element = elements_with g l y in
      let base : ℕ = has.4.0.0 in
      let agree : Agree l g1 g = agree_before l l g y (omega arith) in (
        point c begin g l,
        at_point c bound l g (λ e. T e (point c begin g l) (point c advance g l))
            (λ i. test.sim bound l begin advance has.3 hi (front c bound) g has.6 ge i catches (point c begin g l) (point c advance g l)
            (towards_point c begin l l g at_begin (omega arith) ge) (towards_point c advance l l g at_advance (omega arith) ge)),
        at_point c begin l g (λ e. (y added : Element) × (behind : Point) × G e y behind × At behind (λ i. InTree c sc hs node false row.AddItem (g m ∷ y ∷ []) i added (point c advance g l)))
            (λ i. (
              y,
              var c (base + (l + 1)),
              point c add g l,
              item.sim begin l add has.2 has.3 (front c begin) g has.5 ge i catches y (point c add g l) (onto_point c add l g at_add ge),
              at_point c add l g (λ e. InTree c sc hs node false row.AddItem (g m ∷ y ∷ []) e (var c (base + (l + 1))) (point c advance g l))
                  (λ j.
                  let does = acted c sc add node false row.AddItem (m ∷ l ∷ []) (l + 1) norm lo has.2 (front c add) g1 has.4 (omega (arith, ge)) (with_input c add l (front c add) g j) in
                  acts_towards c sc base (l + 1) node false row.AddItem (m ∷ l ∷ []) norm (front c add) g1 does hs
                  (seen c sc base (l + 1) node false row.AddItem (m ∷ l ∷ []) norm (front c add) g1 does hs l g (omega arith) agree catches) (g m ∷ y ∷ []) (
                    subst (λ x. Fits c x (var c (base + m))) (with_before g l y m lt) (does.around.held m le (omega (arith, lt))),
                    (subst (λ x. Fits c x (var c (base + l))) (with_at g l y) (does.around.held l ge (omega arith)), tt),
                  ) advance l g (point c advance g l) ge (omega arith) agree refl
                  (towards_point c advance l l g at_advance (omega arith) ge)),
            )),
      )

  pub comprehension_sim : (node site : ℕ) (step : Option ℤ) (Begin : Place) (Take : ℕ → ℕ → ℕ → ℕ → ℕ → ℕ → ℕ → Type 0) (Test : Choice) (E : Place)
      (B : Environment → Element → Element → Point → Type 0) (S : Environment → Element → Point → Type 0) (T : Testing) (G : Giving)
      → SubjectSim c sc hs Begin B → TakeSim Take S → ConditionSim Test T → ValueSim c sc hs E G
      → ValueSim c sc hs (marks.ComprehensionAt c.program c.graphs c.f c.n sc node site step Begin Take Test E) (part.ComprehensionAt c.p c.program.sites (annotation c) c.n hs node site step B S T G)
  comprehension_sim node site step Begin Take Test E B S T G subject take test item = record {
    wide = λ b m q lo hi has. acts_wide c sc b node false (row.Comprehension site) [] m (first_and has.0 m m) has.13 hi has.21;
    sim = λ b m q lo hi e h has le enters catches x s onto.
        let mid : ℕ = has.0 in
        let head : ℕ = has.1 in
        let begin : ℕ = has.2 in
        let advance : ℕ = has.3 in
        let bound : ℕ = has.4 in
        let turn : ℕ = has.5 in
        let whole : ℕ = has.6 in
        let l : ℕ = m + 1 in
        let le1 : c.n ≤ l = omega (arith, le) in
        let at_mid = subject.wide mid l head has.12 has.13 has.20 in
        let at_head_one = is_wide c head (l + 2) (Go (first begin (l + 2))) lo has.7 has.14 in
        let at_whole = acts_wide c sc whole node true row.Copy (m ∷ []) (m + 1) (first_and q m (m + 1)) has.10 has.11 has.18 in
        let at_advance = acts_wide c sc advance node false (row.Advance step) (l ∷ (l + 1) ∷ []) (l + 2) (first_and head (l + 1) (l + 2)) has.7 has.8 has.15 in
        let gather = has.16 in
        let at_bound = test.wide bound (l + 2) gather.0 advance gather.3 has.9 gather.6 (item.wide gather.0 (l + 2) gather.1 gather.2 gather.3 gather.5) in
        let made : Element = in_at c mid m in
        let h1 : ℕ → Element = elements_with h m made in
        let c1 = caught_more c sc hs m h made catches in
        let over : Element = in_at c head l in
        let place : Element = in_at c head (l + 1) in
        let g : ℕ → Element = Pair l h1 head in
        let here : g m ≡ made = pair_agree l h1 head m (omega arith) ∙ with_at h m made in (
          made,
          over,
          place,
          point c mid h m,
          point c head h1 l,
          point c bound g (l + 2),
          point c advance g (l + 2),
          point c whole h1 l,
          alone_sim c sc hs node false (row.Comprehension site) b m mid has.13 hi e h has.21 le enters catches made (point c mid h m) (onto_point c mid m h at_mid le),
          at_point c mid m h (λ i. B i over place (point c head h1 l))
              (λ i. subject.sim mid l head has.12 has.13 (front c mid) h1 has.20 le1 at_head_one (with_input c mid m (front c mid) h i) c1 over place (point c head h1 l) (walked_point c sc hs head l h1 at_head_one le1)),
          turns_sim node step l head begin advance bound turn whole lo has.7 has.7 has.8 has.11 has.12 has.9 has.10 Take S take has.14 has.15 has.19 has.17 le1 at_bound h1 c1 (point c whole h1 l)
              (towards_point c whole l l h1 at_whole (omega arith) le1),
          subst (λ y. part.Gathers c.p c.program.sites (annotation c) c.n hs node T G y (point c bound g (l + 2)) (point c advance g (l + 2))) here
              (gathers_sim node m (l + 2) bound advance has.8 has.9 E Test G T item test gather le (omega arith) g (caught_pair l h1 head c1) at_advance),
          at_point c whole l h1 (λ i. InTree c sc hs node true row.Copy (made ∷ []) i x s) (λ i. meets_sim c sc hs node whole m q has.10 has.11 (front c whole) h made has.18 le i catches x s onto),
        );
  }
