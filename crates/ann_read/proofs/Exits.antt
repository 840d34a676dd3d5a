-- Where statements lead to, and what stands between them.
use Rattle.std.proofs.Common.{◌≡◌, ◌+◌, ◌<◌, ◌≤◌, ℕ, Bool, true, false, List, [], ◌∷◌, ◌++◌, ◌⊎◌, inl, inr, length, Some, None, refl, sym, ap, ◌∙◌, arith, subst}
use Rattle.std.specs.Prelude.{not, ◌||◌, if◌then◌else◌}
use Rattle.std.proofs.lemmas.Bool.{false_from_ne_true, ne_eqb}
use Rattle.rpy_meaning.specs.declared.row.RowOp.TheVariants as row
use Rattle.flow_stands.specs.Places.{Aim, Scope, Ways, onto, Does, GiveBack, first, first_and, act, link, numbered}
use Rattle.flow_stands.specs.Stands.{return_block}
use Rattle.flow_trees.specs.Marks as marks
use Rattle.ann_lattice.specs.Shape.{Shape as Element, Nothing, Clash}
use Rattle.ann_lattice.specs.Assign.{at, mark, Up, Under, Holds}
use Rattle.ann_lattice.specs.Kind.{misfit, is_nothing, some_nothing}
use Rattle.ann_laws.proofs.Equal.{nothing_down}
use Rattle.ann_rules.specs.Asks.{when}
use Rattle.ann_rules.specs.Rules as rule
use Rattle.ann_rules.specs.Hold.{AllHold}
use Rattle.ann_rules.proofs.Facts.{hold_left, hold_right}
use Rattle.ann_tree.specs.Annotation.{Environment, Point, Never, With, Goal, LeavesFor, Exits, Handler, At, elements_with}
use Rattle.ann_tree.specs.Leaves as leaves
use Rattle.ann_read.proofs.Places.{with_at}
use Rattle.ann_read.proofs.Links.{Known, k, u, Fits, on, self, var, in_at, inputs, front, Enters, Inside, inside, Wide, Linked, stands, input_at, needs_of, Comes, arrives, go_first, go_and}
use Rattle.ann_read.proofs.Points.{Agree, agree_with, agree_before, agree_self, enters_less, LeadsTo, Towards}
use Rattle.ann_read.proofs.Acts.{annotation, Catches, acted, SeenBy, seen, no}
use Rattle.ann_read.proofs.Held.{acts_wide, is_wide, goes_on}
use Rattle.ann_read.proofs.Walks.{never_stops}
use Rattle.ann_read.proofs.Targets.{fewer}

module _ (c : Known) where
  abbrev pub GoesTo : Environment → Goal → Type 0
  GoesTo e q = LeavesFor (k c) (u c) c.n e q

  -- a way with the first variables
  pub record Heading (aim : Aim) (m : ℕ) (h : ℕ → Element) (goal : Goal) : Type 0 where
    pub low : c.n ≤ aim.keep
    pub high : aim.keep ≤ m
    pub leads : (g : Environment) → Enters c aim.to aim.keep g h → GoesTo g goal

  -- with a value besides: out of the function, or to where it is held
  pub record Held (aim : Aim) (m : ℕ) (h : ℕ → Element) (goal : Goal) : Type 0 where
    pub low : c.n ≤ aim.keep
    pub high : aim.keep ≤ m
    pub wide : Wide c aim.to (aim.keep + 1)
    pub leads : (g : Environment) (y : Element) → Enters c aim.to (aim.keep + 1) g (elements_with h aim.keep y) → GoesTo g goal

  abbrev pub Returning : Aim → ℕ → (ℕ → Element) → Goal → Type 0
  Returning aim m h goal = ((aim.to ≡ return_block) × (aim.keep ≡ 0) × ((g : Environment) → GoesTo g goal)) ⊎ Held aim m h goal

  pub record ExitsFor (t : Ways) (m : ℕ) (h : ℕ → Element) (x : Exits) : Type 0 where
    pub wide : Wide c t.norm m
    pub next : Towards c t.norm m h x.next
    pub broken : Heading t.brk m h x.broken
    pub continued : Heading t.cont m h x.continued
    pub returned : Returning t.ret m h x.returned

  pub heading_more : (aim : Aim) (m l : ℕ) (g h : ℕ → Element) (goal : Goal) → m ≤ l → Agree m g h → Heading aim m h goal → Heading aim l g goal
  heading_more aim m l g h goal le a x =
      let high = x.high in
      record { low = x.low; high = omega (arith, high, le); leads = λ e i. x.leads e (enters_less c aim.to aim.keep aim.keep e g h (omega arith) (fewer m aim.keep g h high a) i) }

  pub returning_more : (aim : Aim) (m l : ℕ) (g h : ℕ → Element) (goal : Goal) → m ≤ l → Agree m g h → Returning aim m h goal → Returning aim l g goal
  returning_more aim m l g h goal le a (inl x) = inl x
  returning_more aim m l g h goal le a (inr x) =
      let high = x.high in
      inr (record {
        low = x.low;
        high = omega (arith, high, le);
        wide = x.wide;
        leads = λ e y i. x.leads e y
            (enters_less c aim.to (aim.keep + 1) (aim.keep + 1) e (elements_with g aim.keep y) (elements_with h aim.keep y) (omega arith) (agree_with aim.keep g h y (fewer m aim.keep g h high a)) i);
      })

  pub exits_onto : (t : Ways) (m l to : ℕ) (g h : ℕ → Element) (x : Exits) (q : Point) → m ≤ l → Agree m g h → ExitsFor t m h x → Wide c to l → Towards c to l g q → ExitsFor (onto t to) l g (record x { next = q })
  exits_onto t m l to g h x q le a exits wide next = record {
    wide = wide;
    next = next;
    broken = heading_more t.brk m l g h x.broken le a exits.broken;
    continued = heading_more t.cont m l g h x.continued le a exits.continued;
    returned = returning_more t.ret m l g h x.returned le a exits.returned;
  }

  pub at_itself : (s : Point) → At s (λ g. LeadsTo c g s)
  at_itself Never = tt
  at_itself (With e) = λ i lt. ((self c (e.element i), λ t. t), λ t. t)

  -- ---- between statements

  pub record Marked (hs : List Handler) (q m : ℕ) (e : Environment) (h : ℕ → Element) : Type 0 where
    pub seen_by : SeenBy c hs e
    pub enters : Enters c q m e h

  mark_if : (t : Bool) (sc : Scope) (hs : List Handler) (node b m q lo hi : ℕ) (e : Environment) (h : ℕ → Element) → sc.tried ≡ t → marks.MarkIf c.program c.graphs c.f c.n t sc node b m q lo hi → c.n ≤ m → Enters c b m e h
      → Catches c sc hs m h → Marked hs q m e h
  mark_if false sc hs node b m q lo hi e h is has le enters catches = record { seen_by = catches.quiet is e; enters = subst (λ t. Enters c t m e h) has.0 enters }
  mark_if true sc hs node b m q lo hi e h is has le enters catches =
      let does = acted c sc b node false row.None [] m (first q m) lo hi e h has le enters in
      let base : ℕ = has.0.0 in
      record {
        seen_by = seen c sc base m node false row.None [] (first q m) e h does hs m h (omega arith) (agree_self m h) catches;
        enters = go_first c base m e h does.around q m le (omega arith) (never_stops c sc hs base m node false row.None (first q m) e h does refl);
      }

  pub mark_sim : (sc : Scope) (hs : List Handler) (node b m q lo hi : ℕ) (e : Environment) (h : ℕ → Element) → marks.Mark c.program c.graphs c.f c.n sc node b m q lo hi → c.n ≤ m → Enters c b m e h → Catches c sc hs m h → Marked hs q m e h
  mark_sim sc hs node b m q lo hi e h has le enters catches = mark_if sc.tried sc hs node b m q lo hi e h refl has le enters catches

  mark_if_wide : (t : Bool) (sc : Scope) (node b m q lo hi : ℕ) → marks.MarkIf c.program c.graphs c.f c.n t sc node b m q lo hi → Wide c q m → Wide c b m
  mark_if_wide false sc node b m q lo hi has there = subst (λ t. Wide c t m) (sym has.0) there
  mark_if_wide true sc node b m q lo hi has there = acts_wide c sc b node false row.None [] m (first q m) lo hi has

  pub mark_wide : (sc : Scope) (node b m q lo hi : ℕ) → marks.Mark c.program c.graphs c.f c.n sc node b m q lo hi → Wide c q m → Wide c b m
  mark_wide sc node b m q lo hi has there = mark_if_wide sc.tried sc node b m q lo hi has there

  -- ---- values that go back

  copy_some : (x r : Element) (node : ℕ) → is_nothing x ≡ false → Under (k c) (u c) (rule.asked c.p c.w 0 row.Copy (x ∷ []) node) r → is_nothing r ≡ false
  copy_some Nothing r node some h = absurd (no (sym some))
  copy_some (Clash o p) r node some h = false_from_ne_true (is_nothing r) (λ t. no (nothing_down (k c) (u c) misfit r h.0 t))
  copy_some x r node some h = false_from_ne_true (is_nothing r) (λ t. no (nothing_down (k c) (u c) x r h.0 t))

  module _ (lo1 hi1 : ℕ) (block : marks.Is c.program c.graphs c.f c.n return_block 1 GiveBack lo1 hi1) where
    abbrev pub Returns : Element → Type 0
    Returns x = leaves.Returns c.p c.program.sites (annotation c) c.f c.n x

    abbrev low : ℕ
    low = block.0.0

    -- what comes to the block that returns is below the result
    pub returns : (x : Element) → (c.p.places.block c.f return_block < length c.w.marks → mark c.w (c.p.places.block c.f return_block) ≡ true) → Fits c x (in_at c return_block 0) → Returns x
    returns x reached fits =
        let is = stands c return_block low 1 block.0.1 block.0.2 GiveBack block.0.3 in
        let none_held : ℕ → Element = λ j. Nothing in
        let needs = needs_of c return_block 0 (front c return_block) none_held (numbered low 1 block.0.1 block.0.2 GiveBack) is
        (record { reached = reached; locals = λ i lt lu. (self c (in_at c return_block i), λ t. t); held = λ j ge lt lu. absurd (omega (arith, lt)) }) in
        let same : in_at c return_block 0 ≡ var c (low + 0) = ap (λ (v : ℕ). var c v) (input_at c return_block low 1 block.0.1 block.0.2 GiveBack is 0 (omega arith)) in
        subst (λ f. Holds (k c) c.w (Up (c.p.places.result f) (x ∷ []))) c.function
        (λ lt. (on c x (var c (low + 0)) (at c.w (c.p.places.result c.graph.function)) (subst (λ y. Fits c x y) same fits) (needs.0 lt).0, tt))

    back_wide : Wide c return_block 1
    back_wide = is_wide c return_block 1 GiveBack lo1 hi1 block

    no_keep : (ret : Aim) (m : ℕ) (h : ℕ → Element) (goal : Goal) → ret.to ≡ return_block → Returning ret m h goal → ret.keep ≡ 0
    no_keep ret m h goal is (inl r) = r.1
    no_keep ret m h goal is (inr r) =
        let one = r.wide.long in
        let two = back_wide.long in
        let same : length (inputs c ret.to) ≡ length (inputs c return_block) = ap (λ (b : ℕ). length (inputs c b)) is in
        omega (arith, one, two, same)

    on_with : (ret : Aim) (base m : ℕ) (e : Environment) (h : ℕ → Element) (x : Element) (goal : Goal) → c.n ≤ m → Inside c base (m + 1) e (elements_with h m x) → Returning ret m h goal → Linked c None base (first_and ret.to ret.keep m)
        → GoesTo e goal
    on_with ret base m e h x goal le around (inl r) linked = r.2 e
    on_with ret base m e h x goal le around (inr r) linked =
        let high = r.high in
        let low = r.low in
        let fits : Fits c x (var c (base + m)) = subst (λ y. Fits c y (var c (base + m))) (with_at h m x) (around.held m le (omega arith)) in
        r.leads e x
        (enters_less c ret.to (ret.keep + 1) (ret.keep + 1) e (elements_with (elements_with h m x) ret.keep x) (elements_with h ret.keep x) (omega arith)
        (agree_with ret.keep (elements_with h m x) h x (agree_before m ret.keep h x high)) (go_and c base (m + 1) e (elements_with h m x) around ret.to ret.keep m x low (omega (arith, high)) fits linked))

    pub gives_back : (sc : Scope) (node b m : ℕ) (ret : Aim) (lo hi : ℕ) (e : Environment) (h : ℕ → Element) (x : Element) (goal : Goal) → marks.GivesBack c.program c.graphs c.f c.n sc node b m ret lo hi → c.n ≤ m
        → Enters c b (m + 1) e (elements_with h m x) → Returning ret m h goal → Returns x × (is_nothing x ≡ false → GoesTo e goal)
    gives_back sc node b m ret lo hi e h x goal (inl has) le enters returning =
        let went = goes_on c b (m + 1) (first_and ret.to ret.keep m) lo hi e (elements_with h m x) has.1 (omega (arith, le)) enters in
        let base : ℕ = has.1.0.0 in
        let fits : Fits c x (var c (base + m)) = subst (λ y. Fits c y (var c (base + m))) (with_at h m x) (went.around.held m le (omega arith)) in
        let l = back_wide.long in
        let linked : Linked c None base (first_and return_block 0 m) =
        subst (λ (t : ℕ). Linked c None base (first_and t 0 m)) has.0 (subst (λ (i : ℕ). Linked c None base (first_and ret.to i m)) (no_keep ret m h goal has.0 returning) went.linked) in
        let there = arrives c None base (first_and return_block 0 m) linked 0 x false (omega arith) (omega (arith, l)) (fits, λ t. cc) in
        (returns x (λ lt. linked.0 lt) there.0, λ some. on_with ret base m e h x goal le went.around returning went.linked)
    gives_back sc node b m ret lo hi e h x goal (inr has) le enters returning =
        let base : ℕ = has.0.0 in
        let norm = first_and ret.to ret.keep m in
        let shape = Does row.Copy (m ∷ []) sc.covers [] (first_and return_block 0 m) norm in
        let g : ℕ → Element = elements_with h m x in
        let is = stands c b base (m + 1) node false shape has.0.1 in
        let around = inside c b base (m + 1) node false shape e g is (omega (arith, le)) enters in
        let needs = needs_of c b (m + 1) e g (numbered base (m + 1) node false shape) is enters in
        let operation = act base (m + 1) node false row.Copy (m ∷ []) sc.covers in
        let caught : Linked c (Some (base + (m + 1), 0)) base (first_and return_block 0 m) =
        hold_left (k c) c.w (rule.link_needs c.p c.w c.f c.graph (Some (base + (m + 1), 0)) (link base (first_and return_block 0 m)))
        (rule.op_needs c.p c.w c.f operation ++ when (rule.goes_on c.p c.w c.f operation) (rule.link_needs c.p c.w c.f c.graph None (link base norm))) needs in
        let does = hold_right (k c) c.w (rule.link_needs c.p c.w c.f c.graph (Some (base + (m + 1), 0)) (link base (first_and return_block 0 m)))
        (rule.op_needs c.p c.w c.f operation ++ when (rule.goes_on c.p c.w c.f operation) (rule.link_needs c.p c.w c.f c.graph None (link base norm))) needs in
        let fits : Fits c x (var c (base + m)) = subst (λ y. Fits c y (var c (base + m))) (with_at h m x) (around.held m le (omega arith)) in
        let l = back_wide.long in
        let kept = c.kept b (numbered base (m + 1) node false shape) operation [] is refl in
        let given : Element = var c (base + m) in
        let live : is_nothing x ≡ false → is_nothing given ≡ false = λ some. false_from_ne_true (is_nothing given) (λ t. no (sym some ∙ nothing_down (k c) (u c) x given fits t)) in
        let reached = hold_right (k c) c.w (rule.loose_needs c.p c.w c.f operation) (when (not (some_nothing (given ∷ []))) (rule.reached_needs c.p c.w c.f operation (given ∷ [])))
        (hold_left (k c) c.w (rule.op_needs c.p c.w c.f operation) (when (rule.goes_on c.p c.w c.f operation) (rule.link_needs c.p c.w c.f c.graph None (link base norm))) does) in
        let asked : is_nothing x ≡ false → Under (k c) (u c) (rule.asked c.p c.w 0 row.Copy (given ∷ []) node) (var c (base + (m + 1))) =
        λ some. (subst (λ t. AllHold (k c) c.w (when (not t) (rule.reached_needs c.p c.w c.f operation (given ∷ [])))) (ap (λ t. t || false) (live some)) reached).0 kept.cell in
        let result_live : is_nothing x ≡ false → is_nothing (var c (base + (m + 1))) ≡ false = λ some. copy_some given (var c (base + (m + 1))) node (live some) (asked some) in
        let linked : is_nothing x ≡ false → Linked c None base norm =
        λ some. subst (λ t. AllHold (k c) c.w (when (not t) (rule.link_needs c.p c.w c.f c.graph None (link base norm)))) (result_live some)
        (hold_right (k c) c.w (rule.op_needs c.p c.w c.f operation) (when (rule.goes_on c.p c.w c.f operation) (rule.link_needs c.p c.w c.f c.graph None (link base norm))) does) in
        let there = arrives c (Some (base + (m + 1), 0)) base (first_and return_block 0 m) caught 0 x false (omega arith) (omega (arith, l))
        (subst (λ t. Comes c (if t then Some 0 else None) (base + m) x false) (sym (ne_eqb (base + (m + 1)) (base + m) (λ z. omega (arith, z)))) (fits, λ t. cc)) in
        (returns x (λ lt. caught.0 lt) there.0, λ some. on_with ret base m e h x goal le around returning (linked some))
