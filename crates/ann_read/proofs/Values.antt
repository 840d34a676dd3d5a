-- Expressions and tests, by the places of their parts: in the environment before a reached block they give what the trees ask.
use Rattle.std.proofs.Common.{◌≡◌, ◌+◌, ◌≤◌, ℕ, suc, Bool, true, false, List, [], ◌∷◌, length, refl, ap, arith, subst}
use Rattle.rpy_tree.specs.declared.program.Const.{Const}
use Rattle.rpy_tree.specs.Value.{Value}
use Rattle.rpy_meaning.specs.declared.row.RowOp.{RowOp}
use Rattle.rpy_meaning.specs.declared.row.RowOp.TheVariants as row
use Rattle.flow_stands.specs.Places.{range, Scope, Jump, first_and}
use Rattle.flow_stands.specs.Stands.{onward}
use Rattle.flow_trees.specs.Marks as marks
use Rattle.flow_trees.specs.Marks.{Place, Choice, beside_place, operands}
use Rattle.ann_lattice.specs.Shape.{Shape as Element, Nothing}
use Rattle.ann_lattice.specs.Kind.{is_nothing}
use Rattle.ann_rules.specs.Rules as rule
use Rattle.ann_tree.specs.Annotation.{Environment, Point, Handler, At, elements_with}
use Rattle.ann_tree.specs.Gives as part
use Rattle.ann_tree.specs.Gives.{Giving, GivingAll, Weighing, Testing, Way, plainly, with_value, beside}
use Rattle.ann_read.proofs.Places.{with_at}
use Rattle.ann_read.proofs.Links.{Known, Fits, var, in_at, front, Enters, Wide}
use Rattle.ann_read.proofs.Points.{agree_before, agree_self, enters_less, point, at_point, with_input, Towards, Onto, towards_point, onto_point}
use Rattle.ann_read.proofs.Acts.{annotation, Catches, catches_on, acted, Given, seen, acts_onto, onward_is, marks_read, no}
use Rattle.ann_read.proofs.Held.{extend, extend_agree, given_range, wide_as, acts_wide}

goes_some : (way : Bool) (x : Element) → rule.goes way x ≡ true → is_nothing x ≡ false
goes_some way Nothing e = absurd (no e)
goes_some way x e = refl

module _ (c : Known) (sc : Scope) (hs : List Handler) where
  abbrev pub InGraph : ℕ → ℕ → Bool → RowOp → List ℕ → ℕ → Jump → ℕ → ℕ → Type 0
  InGraph = marks.Acts c.program c.graphs c.f c.n sc

  abbrev pub InTree : ℕ → Bool → RowOp → List Element → Giving
  InTree = part.Acts c.p c.program.sites (annotation c) c.n hs

  abbrev pub Caught : ℕ → (ℕ → Element) → Type 0
  Caught m h = Catches c sc hs m h

  pub caught_more : (m : ℕ) (h : ℕ → Element) (x : Element) → Caught m h → Caught (m + 1) (elements_with h m x)
  caught_more m h x catches = catches_on c sc hs m (m + 1) (elements_with h m x) h (omega arith) (agree_before m m h x (omega arith)) catches

  pub caught_all : (m : ℕ) (h : ℕ → Element) (xs : List Element) (l : ℕ) → m ≤ l → Caught m h → Caught l (extend h m xs)
  caught_all m h xs l le catches = catches_on c sc hs m l (extend h m xs) h le (extend_agree c h m xs) catches

  -- ---- one expression

  pub record ValueSim (E : Place) (G : Giving) : Type 0 where
    pub wide : (b m q lo hi : ℕ) → E b m q lo hi → Wide c b m
    pub sim : (b m q lo hi : ℕ) (e : Environment) (h : ℕ → Element) → E b m q lo hi → c.n ≤ m → Enters c b m e h → Caught m h → (x : Element) (s : Point) → Onto c q m h x s → G e x s

  pub local_sim : (node i : ℕ) → ValueSim (marks.LocalAt c.program c.graphs c.f c.n sc node i) (part.LocalAt c.p c.program.sites (annotation c) c.n hs node i)
  local_sim node i = record {
    wide = λ b m q lo hi has. acts_wide c sc b node true row.Copy (i ∷ []) m (first_and q m m) lo hi has.1;
    sim = λ b m q lo hi e h has le enters catches x s onto.
        let does = acted c sc b node true row.Copy (i ∷ []) m (first_and q m m) lo hi e h has.1 le enters in
        let base : ℕ = has.1.0.0 in (
          marks_read c sc base m node true i (first_and q m m) e h does has.0,
          acts_onto c sc base m node true row.Copy (i ∷ []) (first_and q m m) e h does hs
              (seen c sc base m node true row.Copy (i ∷ []) (first_and q m m) e h does hs m h (omega arith) (agree_self m h) catches) (e.element i ∷ []) ((does.around.locals i has.0).0, tt) q m h x s le
              (omega arith) (agree_self m h) (λ r. refl) onto,
        );
  }

  -- an operation without operands
  pub alone_sim : (node : ℕ) (value : Bool) (o : RowOp) (b m q lo hi : ℕ) (e : Environment) (h : ℕ → Element) → InGraph b node value o [] m (first_and q m m) lo hi → c.n ≤ m → Enters c b m e h → Caught m h
      → (x : Element) (s : Point) → Onto c q m h x s → InTree node value o [] e x s
  alone_sim node value o b m q lo hi e h has le enters catches x s onto =
      let does = acted c sc b node value o [] m (first_and q m m) lo hi e h has le enters in
      let base : ℕ = has.0.0 in
      acts_onto c sc base m node value o [] (first_and q m m) e h does hs (seen c sc base m node value o [] (first_and q m m) e h does hs m h (omega arith) (agree_self m h) catches) [] tt q m h x s le (omega arith)
      (agree_self m h) (λ r. refl) onto

  pub constant_sim : (node : ℕ) (d : Const) (v : Value) → ValueSim (marks.ConstantAt c.program c.graphs c.f c.n sc node d v) (part.ConstantAt c.p c.program.sites (annotation c) c.n hs node d)
  constant_sim node d v = record {
    wide = λ b m q lo hi has. acts_wide c sc b node true (row.Constant d) [] m (first_and q m m) lo hi has.1;
    sim = λ b m q lo hi e h has le enters catches x s onto. alone_sim node true (row.Constant d) b m q lo hi e h has.1 le enters catches x s onto;
  }

  -- the block where ways meet
  pub meets_sim : (node b m q lo hi : ℕ) (e : Environment) (h : ℕ → Element) (y : Element) → marks.Meets c.program c.graphs c.f c.n sc node b m q lo hi → c.n ≤ m → Enters c b (m + 1) e (elements_with h m y) → Caught m h
      → (x : Element) (s : Point) → Onto c q m h x s → InTree node true row.Copy (y ∷ []) e x s
  meets_sim node b m q lo hi e h y has le enters catches x s onto =
      let g : ℕ → Element = elements_with h m y in
      let does = acted c sc b node true row.Copy (m ∷ []) (m + 1) (first_and q m (m + 1)) lo hi e g has (omega (arith, le)) enters in
      let base : ℕ = has.0.0 in
      let agree = agree_before m m h y (omega arith) in
      acts_onto c sc base (m + 1) node true row.Copy (m ∷ []) (first_and q m (m + 1)) e g does hs
      (seen c sc base (m + 1) node true row.Copy (m ∷ []) (first_and q m (m + 1)) e g does hs m h (omega arith) agree catches) (y ∷ [])
      (subst (λ z. Fits c z (var c (base + m))) (with_at h m y) (does.around.held m le (omega arith)), tt) q m h x s le (omega arith) agree (λ r. refl) onto

  -- ---- operands

  pub record ValuesSim (count : ℕ) (Es : Place) (Gs : GivingAll) : Type 0 where
    pub wide : (b m q lo hi : ℕ) → Es b m q lo hi → Wide c q (m + count) → Wide c b m
    pub given : (b m q lo hi : ℕ) → Es b m q lo hi → List Element
    pub counted : (b m q lo hi : ℕ) (has : Es b m q lo hi) → length (given b m q lo hi has) ≡ count
    pub sim : (b m q lo hi : ℕ) (e : Environment) (h : ℕ → Element) → (has : Es b m q lo hi) → c.n ≤ m → Wide c q (m + count) → Enters c b m e h → Caught m h
        → (s : Point) → Towards c q (m + count) (extend h m (given b m q lo hi has)) s → Gs e (given b m q lo hi has) s

  pub values_sim : (count : ℕ) (E Es : Place) (G : Giving) (Gs : GivingAll) (Gm : GivingAll) → ValueSim E G → ValuesSim count Es Gs
      → ((e : Environment) (x : Element) (xs : List Element) (s : Point) → ((behind : Point) × G e x behind × At behind (λ g. Gs g xs s)) → Gm e (x ∷ xs) s)
      → ValuesSim (suc count) (λ b m q lo hi. (k l : ℕ) × Es k (m + 1) q lo l × E b m k l hi) Gm
  values_sim count E Es G Gs Gm one more join = record {
    wide = λ b m q lo hi has w. one.wide b m has.0 has.1 hi has.3;
    given = λ b m q lo hi has. in_at c has.0 m ∷ more.given has.0 (m + 1) q lo has.1 has.2;
    counted = λ b m q lo hi has. ap suc (more.counted has.0 (m + 1) q lo has.1 has.2);
    sim = λ b m q lo hi e h has le w enters catches s to.
        let mid : ℕ = has.0 in
        let x : Element = in_at c mid m in
        let xs : List Element = more.given mid (m + 1) q lo has.1 has.2 in
        let after = wide_as c q (m + suc count) (m + 1 + count) (omega arith) w in
        let there = more.wide mid (m + 1) q lo has.1 has.2 after in
        join e x xs s (
          point c mid h m,
          one.sim b m mid has.1 hi e h has.3 le enters catches x (point c mid h m) (onto_point c mid m h there le),
          at_point c mid m h (λ g. Gs g xs s)
              (λ enters2.
              more.sim mid (m + 1) q lo has.1 (front c mid) (elements_with h m x) has.2 (omega (arith, le)) after (with_input c mid m (front c mid) h enters2) (caught_more m h x catches) s
              (λ g enters3. to g (enters_less c q (m + 1 + count) (m + suc count) g (extend h m (x ∷ xs)) (extend h m (x ∷ xs)) (omega arith) (agree_self (m + suc count) (extend h m (x ∷ xs))) enters3))),
        );
  }

  pub applied_sim : (node : ℕ) (value : Bool) (o : RowOp) (count : ℕ) (Es : Place) (Gs : GivingAll) → ValuesSim count Es Gs
      → (b m q lo hi : ℕ) (e : Environment) (h : ℕ → Element) → (has : marks.AppliedAt c.program c.graphs c.f c.n sc node value o count Es b m q lo hi) → c.n ≤ m → Enters c b m e h → Caught m h
      → (x : Element) (s : Point) → Onto c q m h x s → (xs : List Element) × part.AppliedAt c.p c.program.sites (annotation c) c.n hs node value o Gs e xs x s
  applied_sim node value o count Es Gs values b m q lo hi e h has le enters catches x s onto =
      let mid : ℕ = has.0 in
      let xs : List Element = values.given b m mid has.1 hi has.3 in
      let long : length xs ≡ count = values.counted b m mid has.1 hi has.3 in
      let g : ℕ → Element = extend h m xs in
      let there = acts_wide c sc mid node value o (range m count) (m + count) (onward o q m (m + count)) lo has.1 has.2 in (
        xs,
        (
          point c mid g (m + count),
          values.sim b m mid has.1 hi e h has.3 le there enters catches (point c mid g (m + count)) (towards_point c mid (m + count) (m + count) g there (omega arith) (omega (arith, le))),
          at_point c mid (m + count) g (λ env. InTree node value o xs env x s)
              (λ enters2.
              let does = acted c sc mid node value o (range m count) (m + count) (onward o q m (m + count)) lo has.1 (front c mid) g has.2 (omega (arith, le)) enters2 in
              let base : ℕ = has.2.0.0 in
              acts_onto c sc base (m + count) node value o (range m count) (onward o q m (m + count)) (front c mid) g does hs
              (seen c sc base (m + count) node value o (range m count) (onward o q m (m + count)) (front c mid) g does hs m h (omega arith) (extend_agree c h m xs) catches) xs
              (subst (λ n. Given c base (range m n) xs) long (given_range c base (m + count) (front c mid) h m xs does.around le (omega (arith, long)))) q m h x s le (omega arith) (extend_agree c h m xs)
              (λ r. onward_is c o q m (m + count) r) onto),
        ),
      )

  -- ---- tests

  pub record TestSim (E : Choice) (T : Testing) : Type 0 where
    pub wide : (b m so other_way lo hi : ℕ) → E b m so other_way lo hi → Wide c b m
    pub sim : (b m so other_way lo hi : ℕ) (e : Environment) (h : ℕ → Element) → E b m so other_way lo hi → c.n ≤ m → Enters c b m e h → Caught m h
        → (s t : Point) → Towards c so m h s → Towards c other_way m h t → T e s t

  pub not_sim : (node : ℕ) (E : Choice) (T : Testing) → TestSim E T → ValueSim (marks.NotAt c.program c.graphs c.f c.n sc node E) (part.NotAt c.p c.program.sites (annotation c) c.n hs node T)
  not_sim node E T test = record {
    wide = λ b m q lo hi has. test.wide b m has.1 has.2 has.5 hi has.9;
    sim = λ b m q lo hi e h has le enters catches x s onto.
        let meet : ℕ = has.0 in
        let so : ℕ = has.1 in
        let other_way : ℕ = has.2 in
        let at_meet = acts_wide c sc meet node true row.Copy (m ∷ []) (m + 1) (first_and q m (m + 1)) lo has.3 has.6 in
        let at_other = acts_wide c sc other_way node false (row.Bool true) [] m (first_and meet m m) has.3 has.4 has.7 in
        let at_so = acts_wide c sc so node false (row.Bool false) [] m (first_and meet m m) has.4 has.5 has.8 in
        let y : Element = in_at c meet m in (
          y,
          point c so h m,
          point c other_way h m,
          point c meet h m,
          test.sim b m so other_way has.5 hi e h has.9 le enters catches (point c so h m) (point c other_way h m)
              (towards_point c so m m h at_so (omega arith) le) (towards_point c other_way m m h at_other (omega arith) le),
          at_point c so m h (λ g. InTree node false (row.Bool false) [] g y (point c meet h m))
              (λ i. alone_sim node false (row.Bool false) so m meet has.4 has.5 (front c so) h has.8 le i catches y (point c meet h m) (onto_point c meet m h at_meet le)),
          at_point c other_way m h (λ g. InTree node false (row.Bool true) [] g y (point c meet h m))
              (λ i. alone_sim node false (row.Bool true) other_way m meet has.3 has.4 (front c other_way) h has.7 le i catches y (point c meet h m) (onto_point c meet m h at_meet le)),
          at_point c meet m h (λ g. InTree node true row.Copy (y ∷ []) g x s)
              (λ i. meets_sim node meet m q lo has.3 (front c meet) h y has.6 le (with_input c meet m (front c meet) h i) catches x s onto),
        );
  }
