-- Statements, by their parts.
use Rattle.std.proofs.Common.{◌≡◌, ◌+◌, ◌≤◌, ℕ, false, List, [], ◌∷◌, inl, inr, sym, arith, subst, Bool, true, refl}
use Rattle.rpy_meaning.specs.declared.row.RowOp.{RowOp}
use Rattle.rpy_meaning.specs.declared.row.RowOp.TheVariants as row
use Rattle.flow_stands.specs.Places.{Aim, Scope, Ways, Go, Does, GiveBack, first, first_and, on_to}
use Rattle.flow_stands.specs.Stands.{return_block}
use Rattle.flow_trees.specs.Tree.{Expr, Target, Targets, Stmt, Pass, Break, Continue, Return, Do, Assign, Augment, If, Block}
use Rattle.flow_trees.specs.Marks as marks
use Rattle.ann_lattice.specs.Shape.{Shape as Element}
use Rattle.ann_lattice.specs.Kind.{is_nothing}
use Rattle.ann_tree.specs.Annotation.{Environment, Goal, Exits, Handler, elements_with, Point, Never, At}
use Rattle.ann_tree.specs.Gives as part
use Rattle.ann_tree.specs.Leaves as leaves
use Rattle.ann_read.proofs.Places.{with_at}
use Rattle.ann_read.proofs.Links.{Known, Fits, in_at, front, Enters, Wide, go_first, passes_on, formed_at}
use Rattle.ann_read.proofs.Points.{agree_before, enters_less, point, at_point, with_input, towards_point, onto_point}
use Rattle.ann_read.proofs.Acts.{annotation, Catches}
use Rattle.ann_read.proofs.Held.{is_wide, marked_wide, goes_on}
use Rattle.ann_read.proofs.Values.{caught_more}
use Rattle.ann_read.proofs.Trees.{expr_sims}
use Rattle.ann_read.proofs.Exits.{GoesTo, Heading, ExitsFor, gives_back}
use Rattle.ann_read.proofs.Augments.{targets_wide, targets_sim, augment_wide, augment_sim}
use Rattle.ann_read.specs.Plain.{IsPlain}
use Rattle.ann_read.proofs.Plains.{at_on, plain_stops}

module _ (c : Known) (lo1 hi1 : ℕ) (back : marks.Is c.program c.graphs c.f c.n return_block 1 GiveBack lo1 hi1) where
  abbrev pub HasStmt : Scope → Stmt → ℕ → ℕ → Ways → ℕ → ℕ → Type 0
  HasStmt = marks.HasStmt c.program c.graphs c.f c.n

  abbrev pub HasBlock : Scope → Block → ℕ → ℕ → Ways → ℕ → ℕ → Type 0
  HasBlock = marks.HasBlock c.program c.graphs c.f c.n

  abbrev pub Leaves : List Handler → Stmt → Environment → Exits → Type 0
  Leaves = leaves.Leaves c.p c.program.sites (annotation c) c.f c.n

  abbrev pub LeavesAll : List Handler → Block → Environment → Exits → Type 0
  LeavesAll = leaves.LeavesAll c.p c.program.sites (annotation c) c.f c.n

  pub record StmtSim (s : Stmt) : Type 0 where
    pub wide : (sc : Scope) (b m : ℕ) (t : Ways) (lo hi : ℕ) → HasStmt sc s b m t lo hi → Wide c t.norm m → Wide c b m
    pub sim : (sc : Scope) (hs : List Handler) (b m : ℕ) (t : Ways) (lo hi : ℕ) (e : Environment) (h : ℕ → Element) (x : Exits) → HasStmt sc s b m t lo hi → c.n ≤ m → Enters c b m e h → Catches c sc hs m h
        → ExitsFor c t m h x → Leaves hs s e x

  pub record BlockSim (bl : Block) : Type 0 where
    pub wide : (sc : Scope) (b m : ℕ) (t : Ways) (lo hi : ℕ) → HasBlock sc bl b m t lo hi → Wide c t.norm m → Wide c b m
    pub sim : (sc : Scope) (hs : List Handler) (b m : ℕ) (t : Ways) (lo hi : ℕ) (e : Environment) (h : ℕ → Element) (x : Exits) → HasBlock sc bl b m t lo hi → c.n ≤ m → Enters c b m e h → Catches c sc hs m h
        → ExitsFor c t m h x → LeavesAll hs bl e x

  -- ---- simple statements

  pub pass_sim : (node : ℕ) → StmtSim (Pass node)
  pass_sim node = record {
    wide = λ sc b m t lo hi has w. subst (λ q. Wide c q m) (sym has.0) w;
    sim = λ sc hs b m t lo hi e h x has le enters catches exits. exits.next e (subst (λ q. Enters c q m e h) has.0 enters);
  }

  leaves_by : (aim : Aim) (goal : Goal) (b m lo hi : ℕ) (e : Environment) (h : ℕ → Element) → marks.Is c.program c.graphs c.f c.n b m (Go (on_to aim)) lo hi → c.n ≤ m → Enters c b m e h → Heading c aim m h goal → GoesTo c e goal
  leaves_by aim goal b m lo hi e h has le enters heading =
      let went = goes_on c b m (on_to aim) lo hi e h has le enters in
      heading.leads e (go_first c has.0.0 m e h went.around aim.to aim.keep heading.low heading.high went.linked)

  pub break_sim : (node : ℕ) → StmtSim (Break node)
  break_sim node = record {
    wide = λ sc b m t lo hi has w. is_wide c b m (Go (on_to t.brk)) lo hi has;
    sim = λ sc hs b m t lo hi e h x has le enters catches exits. leaves_by t.brk x.broken b m lo hi e h has le enters exits.broken;
  }

  pub continue_sim : (node : ℕ) → StmtSim (Continue node)
  continue_sim node = record {
    wide = λ sc b m t lo hi has w. is_wide c b m (Go (on_to t.cont)) lo hi has;
    sim = λ sc hs b m t lo hi e h x has le enters catches exits. leaves_by t.cont x.continued b m lo hi e h has le enters exits.continued;
  }

  back_wide : (sc : Scope) (node b m : ℕ) (ret : Aim) (lo hi : ℕ) → marks.GivesBack c.program c.graphs c.f c.n sc node b m ret lo hi → Wide c b (m + 1)
  back_wide sc node b m ret lo hi (inl has) = is_wide c b (m + 1) (Go (first_and ret.to ret.keep m)) lo hi has.1
  back_wide sc node b m ret lo hi (inr has) = marked_wide c b (m + 1) node false (Does row.Copy (m ∷ []) sc.covers [] (first_and return_block 0 m) (first_and ret.to ret.keep m)) lo hi has

  -- where the value is unreached evaluation stops before it is given back
  pub return_sim : (node : ℕ) (l : Expr) → IsPlain l → StmtSim (Return node l)
  return_sim node l plain = record {
    wide = λ sc b m t lo hi has w. (expr_sims c sc [] l).value.wide b m has.0 has.1 hi has.3;
    sim = λ sc hs b m t lo hi e h x has le enters catches exits.
        let mid : ℕ = has.0 in
        let there = back_wide sc node mid m t.ret lo has.1 has.2 in
        let y : Element = in_at c mid m in
        by_test hs e x y (point c mid h m) ((expr_sims c sc hs l).value.sim b m mid has.1 hi e h has.3 le enters catches y (point c mid h m) (onto_point c mid m h there le))
        (at_point c mid m h (λ g. leaves.Returns c.p c.program.sites (annotation c) c.f c.n y × (is_nothing y ≡ false → GoesTo c g x.returned))
        (λ i. gives_back c lo1 hi1 back sc node mid m t.ret lo has.1 (front c mid) h y x.returned has.2 le (with_input c mid m (front c mid) h i) exits.returned)) (is_nothing y) refl;
  }
    where
      by_test : (hs : List Handler) (e : Environment) (x : Exits) (y : Element) (q : Point) → part.Gives c.p c.program.sites (annotation c) c.n hs l e y q
          → At q (λ g. leaves.Returns c.p c.program.sites (annotation c) c.f c.n y × (is_nothing y ≡ false → GoesTo c g x.returned)) → (b : Bool) → is_nothing y ≡ b → Leaves hs (Return node l) e x
      by_test hs e x y q gives at true none = (y, Never, plain_stops c hs l e y q plain none gives, tt)
      by_test hs e x y q gives at false some = (
        y,
        q,
        gives,
        at_on q (λ g. leaves.Returns c.p c.program.sites (annotation c) c.f c.n y × (is_nothing y ≡ false → GoesTo c g x.returned))
            (λ g. leaves.Returns c.p c.program.sites (annotation c) c.f c.n y × GoesTo c g x.returned) (λ g r. (r.0, r.1 some)) at,
      )

  pub do_sim : (node : ℕ) (l : Expr) → StmtSim (Do node l)
  do_sim node l = record {
    wide = λ sc b m t lo hi has w. (expr_sims c sc [] l).value.wide b m has.0 has.1 hi has.3;
    sim = λ sc hs b m t lo hi e h x has le enters catches exits.
        let mid : ℕ = has.0 in
        let y : Element = in_at c mid m in (
          y,
          (expr_sims c sc hs l).value.sim b m mid has.1 hi e h has.3 le enters catches y x.next
              (λ g z i.
              let went = goes_on c mid (m + 1) (first t.norm m) lo has.1 g (elements_with h m z) has.2 (omega (arith, le)) i in
              let long = (is_wide c mid (m + 1) (Go (first t.norm m)) lo has.1 has.2).long in (
                passes_on c z (in_at c has.0 m) (formed_at c has.0 m) (subst (λ v. Fits c v y) (with_at h m z) (i.held m le (omega arith) (omega (arith, long)))),
                exits.next g
                    (enters_less c t.norm m m g (elements_with h m z) h (omega arith) (agree_before m m h z (omega arith)) (go_first c has.2.0.0 (m + 1) g (elements_with h m z) went.around t.norm m le (omega arith) went.linked)),
              )),
        );
  }

  pub assign_sim : (node : ℕ) (ts : Targets) (l : Expr) → StmtSim (Assign node ts l)
  assign_sim node ts l = record {
    wide = λ sc b m t lo hi has w. (expr_sims c sc [] l).value.wide b m has.0 has.1 hi has.3;
    sim = λ sc hs b m t lo hi e h x has le enters catches exits.
        let mid : ℕ = has.0 in
        let there = targets_wide c sc hs ts mid m t.norm lo has.1 has.2 in
        let y : Element = in_at c mid m in
        let g1 : ℕ → Element = elements_with h m y in (
          y,
          point c mid h m,
          (expr_sims c sc hs l).value.sim b m mid has.1 hi e h has.3 le enters catches y (point c mid h m) (onto_point c mid m h there le),
          at_point c mid m h (λ g. leaves.BindsEach c.p c.program.sites (annotation c) c.f c.n hs ts g y x.next)
              (λ i.
              subst (λ v. leaves.BindsEach c.p c.program.sites (annotation c) c.f c.n hs ts (front c mid) v x.next) (with_at h m y)
              (targets_sim c sc hs ts mid m t.norm lo has.1 (front c mid) g1 has.2 le (with_input c mid m (front c mid) h i) (caught_more c sc hs m h y catches) x.next
              (λ g j. exits.next g (enters_less c t.norm m m g g1 h (omega arith) (agree_before m m h y (omega arith)) j)))),
        );
  }

  pub augment_stmt : (node : ℕ) (target : Target) (o : RowOp) (l : Expr) → StmtSim (Augment node target o l)
  augment_stmt node target o l = record {
    wide = λ sc b m t lo hi has w. augment_wide c sc [] node target o l b m t.norm lo hi has;
    sim = λ sc hs b m t lo hi e h x has le enters catches exits. augment_sim c sc hs node target o l b m t.norm lo hi e h has le enters catches x.next exits.next;
  }

  -- ---- branches and loops

  pub if_sim : (node : ℕ) (l : Expr) (so other : Block) → BlockSim so → BlockSim other → StmtSim (If node l so other)
  if_sim node l so other of_so of_other = record {
    wide = λ sc b m t lo hi has w. ((expr_sims c sc [] l).test node).wide b m has.0 has.1 has.3 hi has.6;
    sim = λ sc hs b m t lo hi e h x has le enters catches exits.
        let yes_block : ℕ = has.0 in
        let no_block : ℕ = has.1 in
        let at_yes = of_so.wide sc yes_block m t has.2 has.3 has.5 exits.wide in
        let at_no = of_other.wide sc no_block m t lo has.2 has.4 exits.wide in (
          point c yes_block h m,
          point c no_block h m,
          ((expr_sims c sc hs l).test node).sim b m yes_block no_block has.3 hi e h has.6 le enters catches (point c yes_block h m) (point c no_block h m)
              (towards_point c yes_block m m h at_yes (omega arith) le) (towards_point c no_block m m h at_no (omega arith) le),
          at_point c yes_block m h (λ g. LeavesAll hs so g x) (λ i. of_so.sim sc hs yes_block m t has.2 has.3 (front c yes_block) h x has.5 le i catches exits),
          at_point c no_block m h (λ g. LeavesAll hs other g x) (λ i. of_other.sim sc hs no_block m t lo has.2 (front c no_block) h x has.4 le i catches exits),
        );
  }
