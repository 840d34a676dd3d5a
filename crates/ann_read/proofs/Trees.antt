-- Each expression and each target.
use Rattle.std.proofs.Common.{◌≡◌, ◌+◌, ℕ, Bool, false, List, [], refl, sym, arith, subst}
use Rattle.rpy_tree.specs.declared.program.Const.{Const}
use Rattle.rpy_tree.specs.Value.{Value}
use Rattle.rpy_meaning.specs.declared.row.RowOp.{RowOp}
use Rattle.rpy_meaning.specs.declared.row.RowOp.TheVariants as row
use Rattle.rpy_meaning.specs.Meaning.{target_count}
use Rattle.flow_stands.specs.Places.{Scope}
use Rattle.flow_stands.specs.Stands.{IsComparison, count, step_of}
use Rattle.flow_trees.specs.Tree.{Expr, Local, Constant, Apply, And, Or, Display, Comprehension, Exprs, none, more, Pairs, no_pairs, pair, Subject, Over, UpTo, FromTo, Condition, Always, Where, Target, Name, Attribute, Item, Parts, Targets, no_targets, more_targets, plain_exprs, plain_subject, plain_targets}
use Rattle.flow_trees.specs.Tells.{negates, by_ways}
use Rattle.flow_trees.specs.Marks as marks
use Rattle.flow_trees.specs.Marks.{Place, Choice, Path}
use Rattle.ann_lattice.specs.Shape.{Shape as Element}
use Rattle.ann_tree.specs.Annotation.{Environment, Point, Handler, elements_with}
use Rattle.ann_tree.specs.Gives as part
use Rattle.ann_tree.specs.Gives.{Giving, Weighing, Testing}
use Rattle.ann_read.proofs.Links.{Known, Enters, Wide}
use Rattle.ann_read.proofs.Points.{agree_self, enters_less}
use Rattle.ann_read.proofs.Acts.{annotation}
use Rattle.ann_read.proofs.Held.{wide_as}
use Rattle.ann_read.proofs.Values.{ValueSim, ValuesSim, TestSim, local_sim, constant_sim, values_sim}
use Rattle.ann_read.proofs.Truths.{WeighSim, apply_sim, and_sim, or_sim, asks_sim, only_sim, sides_sim, asked_sim, and_test, or_test, either_test}
use Rattle.ann_read.proofs.Walks.{PairsSim, pair_sim, display_sim, SubjectSim, over_sim, up_to_sim, from_to_sim}
use Rattle.ann_read.proofs.Turns.{TakeSim, ConditionSim, comprehension_sim}
use Rattle.ann_read.proofs.Targets.{BindSim, name_sim, attribute_sim, item_sim, ItemsSim, items_sim, parts_sim}

module _ (c : Known) (sc : Scope) (hs : List Handler) where
  abbrev HasExpr : Expr → Place
  HasExpr = marks.HasExpr c.program c.graphs c.f c.n sc

  abbrev Gives : Expr → Giving
  Gives = part.Gives c.p c.program.sites (annotation c) c.n hs

  pub record ExprSims (l : Expr) : Type 0 where
    pub value : ValueSim c sc hs (HasExpr l) (Gives l)
    pub weigh : WeighSim c sc hs (HasExpr l) (marks.HasSides c.program c.graphs c.f c.n sc l) (part.Weighs c.p c.program.sites (annotation c) c.n hs l)
    pub test : (node : ℕ) → TestSim c sc hs (marks.HasTest c.program c.graphs c.f c.n sc node l) (part.Test c.p c.program.sites (annotation c) c.n hs node l)

  pub record ExprsSims (es : Exprs) : Type 0 where
    pub values : ValuesSim c sc hs (count (plain_exprs es)) (marks.HasExprs c.program c.graphs c.f c.n sc es) (part.GivesAll c.p c.program.sites (annotation c) c.n hs es)
    pub negated : (node : ℕ) → TestSim c sc hs (marks.HasNegated c.program c.graphs c.f c.n sc node es) (part.Negated c.p c.program.sites (annotation c) c.n hs node es)

  no_test : (T : Testing) → TestSim c sc hs (λ b m so other_way lo hi. ⊥) T
  no_test T = record { wide = λ b m so other_way lo hi has. absurd has; sim = λ b m so other_way lo hi e h has le enters catches s t to_so to_other. absurd has }

  no_values : ValuesSim c sc hs 0 (marks.HasExprs c.program c.graphs c.f c.n sc none) (part.GivesAll c.p c.program.sites (annotation c) c.n hs none)
  no_values = record {
    wide = λ b m q lo hi has w. subst (λ t. Wide c t m) (sym has.0) (wide_as c q (m + 0) m (omega arith) w);
    given = λ b m q lo hi has. [];
    counted = λ b m q lo hi has. refl;
    sim = λ b m q lo hi e h has le w enters catches s to. to e (enters_less c q m (m + 0) e h h (omega arith) (agree_self (m + 0) h) (subst (λ t. Enters c t m e h) has.0 enters));
  }

  negated_more : (a : Expr) (es : Exprs) → ExprSims a → (node : ℕ)
      → TestSim c sc hs (marks.HasNegated c.program c.graphs c.f c.n sc node (more a es)) (part.Negated c.p c.program.sites (annotation c) c.n hs node (more a es))
  negated_more a none sims node = sims.test node
  negated_more a (more e es) sims node = no_test (part.Negated c.p c.program.sites (annotation c) c.n hs node (more a (more e es)))

  -- what is no operation
  alone_sims : (l : Expr) → ValueSim c sc hs (HasExpr l) (Gives l)
      → WeighSim c sc hs (HasExpr l) (λ b m n q lo hi. ⊥) (part.Alone c.p c.program.sites (annotation c) c.n (Gives l))
  alone_sims l value = only_sim c sc hs (HasExpr l) (Gives l) value

  leaf_test : (node : ℕ) (l : Expr) → ValueSim c sc hs (HasExpr l) (Gives l)
      → TestSim c sc hs
      (λ b m so other_way lo hi. marks.Asks c.program c.graphs c.f c.n sc node l (HasExpr l) (λ b m n q lo hi. ⊥) b m (record { to = so; value = false }) (record { to = other_way; value = false }) lo hi)
      (part.Tests c.p c.program.sites (annotation c) c.n hs node l (part.Alone c.p c.program.sites (annotation c) c.n (Gives l)))
  leaf_test node l value =
      asked_sim c sc hs node l (HasExpr l) (λ b m n q lo hi. ⊥) (part.Alone c.p c.program.sites (annotation c) c.n (Gives l)) (alone_sims l value)

  local_case : (node i : ℕ) → ExprSims (Local node i)
  local_case node i = record {
    value = local_sim c sc hs node i;
    weigh = alone_sims (Local node i) (local_sim c sc hs node i);
    test = λ at. leaf_test at (Local node i) (local_sim c sc hs node i);
  }

  constant_case : (node : ℕ) (d : Const) (v : Value) → ExprSims (Constant node d v)
  constant_case node d v = record {
    value = constant_sim c sc hs node d v;
    weigh = alone_sims (Constant node d v) (constant_sim c sc hs node d v);
    test = λ at. leaf_test at (Constant node d v) (constant_sim c sc hs node d v);
  }

  abbrev HasExprs : Exprs → Place
  HasExprs = marks.HasExprs c.program c.graphs c.f c.n sc

  abbrev GivesAll : Exprs → part.GivingAll
  GivesAll = part.GivesAll c.p c.program.sites (annotation c) c.n hs

  not_by_ways : (o : RowOp) (es : Exprs) → IsComparison o → by_ways o es ≡ false
  not_by_ways (row.Compare f) es h = refl
  not_by_ways o es h = absurd h

  apply_case : (node : ℕ) (value : Bool) (o : RowOp) (es : Exprs) → ExprsSims es → ExprSims (Apply node value o es)
  apply_case node value o es sims =
      let E = marks.HasNegated c.program c.graphs c.f c.n sc node es in
      let T = part.Negated c.p c.program.sites (annotation c) c.n hs node es in
      let of_sides = sides_sim c sc hs node value o (by_ways o es) (not_by_ways o es) (count (plain_exprs es)) (HasExprs es) (GivesAll es) E T sims.values (sims.negated node) in
      record {
        value = apply_sim c sc hs node value o (by_ways o es) (count (plain_exprs es)) (HasExprs es) (GivesAll es) E T sims.values (sims.negated node);
        weigh = of_sides;
        test = λ at.
            either_test c sc hs o (negates o es)
            (λ b m so other_way lo hi.
            marks.Asks c.program c.graphs c.f c.n sc at (Apply node value o es) (HasExpr (Apply node value o es)) (marks.HasSides c.program c.graphs c.f c.n sc (Apply node value o es)) b m (record { to = so; value = false })
            (record { to = other_way; value = false }) lo hi)
            E (part.Tests c.p c.program.sites (annotation c) c.n hs at (Apply node value o es) (part.Weighs c.p c.program.sites (annotation c) c.n hs (Apply node value o es))) T
            (asked_sim c sc hs at (Apply node value o es) (HasExpr (Apply node value o es)) (marks.HasSides c.program c.graphs c.f c.n sc (Apply node value o es))
            (part.Weighs c.p c.program.sites (annotation c) c.n hs (Apply node value o es)) of_sides) (sims.negated node);
      }

  abbrev HasSides : Expr → Choice
  HasSides = marks.HasSides c.program c.graphs c.f c.n sc

  abbrev Weighs : Expr → Weighing
  Weighs = part.Weighs c.p c.program.sites (annotation c) c.n hs

  and_case : (node : ℕ) (a e : Expr) → ExprSims a → ExprSims e → ExprSims (And node a e)
  and_case node a e left right =
      let value = and_sim c sc hs node (marks.Asks c.program c.graphs c.f c.n sc node a (HasExpr a) (HasSides a)) (HasExpr e) (part.Asks c.p c.program.sites (annotation c) c.n hs node a (Weighs a)) (Gives e)
      (asks_sim c sc hs node a (HasExpr a) (HasSides a) (Weighs a) left.weigh) right.value in
      record {
        value = value;
        weigh = alone_sims (And node a e) value;
        test = λ at. and_test c sc hs (marks.HasTest c.program c.graphs c.f c.n sc node a) (marks.HasTest c.program c.graphs c.f c.n sc node e) (part.Test c.p c.program.sites (annotation c) c.n hs node a)
            (part.Test c.p c.program.sites (annotation c) c.n hs node e) (left.test node) (right.test node);
      }

  or_case : (node : ℕ) (a e : Expr) → ExprSims a → ExprSims e → ExprSims (Or node a e)
  or_case node a e left right =
      let value = or_sim c sc hs node (marks.Asks c.program c.graphs c.f c.n sc node a (HasExpr a) (HasSides a)) (HasExpr e) (part.Asks c.p c.program.sites (annotation c) c.n hs node a (Weighs a)) (Gives e)
      (asks_sim c sc hs node a (HasExpr a) (HasSides a) (Weighs a) left.weigh) right.value in
      record {
        value = value;
        weigh = alone_sims (Or node a e) value;
        test = λ at. or_test c sc hs (marks.HasTest c.program c.graphs c.f c.n sc node a) (marks.HasTest c.program c.graphs c.f c.n sc node e) (part.Test c.p c.program.sites (annotation c) c.n hs node a)
            (part.Test c.p c.program.sites (annotation c) c.n hs node e) (left.test node) (right.test node);
      }

  abbrev Stores : ℕ → Pairs → Place
  Stores node ps = marks.HasPairs c.program c.graphs c.f c.n sc node ps

  abbrev Puts : ℕ → Pairs → Element → Environment → Point → Type 0
  Puts node ps = part.Puts c.p c.program.sites (annotation c) c.n hs node ps

  display_case : (node site : ℕ) (ps : Pairs) → PairsSim c sc hs (Stores node ps) (Puts node ps) → ExprSims (Display node site ps)
  display_case node site ps pairs =
      let value = display_sim c sc hs node site (Stores node ps) (Puts node ps) pairs in
      record { value = value; weigh = alone_sims (Display node site ps) value; test = λ at. leaf_test at (Display node site ps) value }

  no_pairs_case : (node : ℕ) → PairsSim c sc hs (Stores node no_pairs) (Puts node no_pairs)
  no_pairs_case node = record {
    wide = λ b m q lo hi has w. subst (λ t. Wide c t (m + 1)) (sym has.0) w;
    sim = λ b m q lo hi e h dict has le w enters catches s to. to e (subst (λ t. Enters c t (m + 1) e (elements_with h m dict)) has.0 enters);
  }

  abbrev Begin : ℕ → Subject → Place
  Begin node subject = marks.HasSubject c.program c.graphs c.f c.n sc node subject

  abbrev Begins : ℕ → Subject → Environment → Element → Element → Point → Type 0
  Begins node subject = part.Begins c.p c.program.sites (annotation c) c.n hs node subject

  abbrev Tested : ℕ → Condition → Choice
  Tested node condition = marks.HasCondition c.program c.graphs c.f c.n sc node condition

  abbrev Guards : ℕ → Condition → Testing
  Guards node condition = part.Guards c.p c.program.sites (annotation c) c.n hs node condition

  always_case : (node : ℕ) → ConditionSim c sc hs (Tested node Always) (Guards node Always)
  always_case node = record {
    wide = λ b m so other_way lo hi has w. subst (λ t. Wide c t m) (sym has.0) w;
    sim = λ b m so other_way lo hi e h has le enters catches s t to_so to_other. to_so e (subst (λ t. Enters c t m e h) has.0 enters);
  }

  where_case : (node : ℕ) (l : Expr) → ExprSims l → ConditionSim c sc hs (Tested node (Where l)) (Guards node (Where l))
  where_case node l sims = record { wide = λ b m so other_way lo hi has w. (sims.test node).wide b m so other_way lo hi has; sim = (sims.test node).sim }

  abbrev Has : Target → Path → ℕ → ℕ → ℕ → ℕ → ℕ → ℕ → ℕ → Type 0
  Has t = marks.HasBind c.program c.graphs c.f c.n sc t

  abbrev Binds : Target → Environment → Element → Point → Type 0
  Binds t = part.Binds c.p c.program.sites (annotation c) c.n hs t

  pub take_of : (t : Target) → BindSim c sc hs (Has t) (Binds t) → TakeSim c sc hs (Has t []) (Binds t)
  take_of t one = record {
    wide = λ at m keep b q lo hi has. one.wide [] at m keep b q lo hi has;
    sim = λ at m keep b q lo hi e h has ge lt le lu enters catches s to. one.sim [] at m keep b q lo hi e h has ge lt le lu enters catches tt s to;
  }

  comprehension_case : (node site : ℕ) (item : Expr) (target : Target) (subject : Subject) (condition : Condition) → ExprSims item → BindSim c sc hs (Has target) (Binds target)
      → SubjectSim c sc hs (Begin node subject) (Begins node subject) → ConditionSim c sc hs (Tested node condition) (Guards node condition) → ExprSims (Comprehension node site item target subject condition)
  comprehension_case node site item target subject condition of_item of_target of_subject of_condition =
      let value = comprehension_sim c sc hs node site (step_of (plain_subject subject)) (Begin node subject) (Has target []) (Tested node condition) (HasExpr item) (Begins node subject) (Binds target) (Guards node condition)
      (Gives item) of_subject (take_of target of_target) of_condition of_item.value in
      record {
        value = value;
        weigh = alone_sims (Comprehension node site item target subject condition) value;
        test = λ at. leaf_test at (Comprehension node site item target subject condition) value;
      }

  abbrev HasItems : ℕ → ℕ → Targets → ℕ → Path → ℕ → Place
  HasItems node many ts i path at = marks.HasItems c.program c.graphs c.f c.n sc node ts many i path at

  abbrev BindsItems : ℕ → ℕ → Targets → ℕ → Environment → Element → Point → Type 0
  BindsItems node many ts i e x q = part.BindsItems c.p c.program.sites (annotation c) c.n hs node ts many i e x q

  no_items : (node many : ℕ) → ItemsSim c sc hs (HasItems node many no_targets) (BindsItems node many no_targets)
  no_items node many = record {
    wide = λ i path at b m q lo hi has w. subst (λ t. Wide c t m) (sym has.0) w;
    sim = λ i path at b m q lo hi e h has ge lt w enters catches s to. to e (subst (λ t. Enters c t m e h) has.0 enters);
  }

  mutual
    pub expr_sims : (l : Expr) → ExprSims l
    expr_sims (Local node i) = local_case node i
    expr_sims (Constant node d v) = constant_case node d v
    expr_sims (Apply node value o es) = apply_case node value o es (exprs_sims es)
    expr_sims (And node a e) = and_case node a e (expr_sims a) (expr_sims e)
    expr_sims (Or node a e) = or_case node a e (expr_sims a) (expr_sims e)
    expr_sims (Display node site ps) = display_case node site ps (pairs_sims ps node)
    expr_sims (Comprehension node site item target subject condition) =
        comprehension_case node site item target subject condition (expr_sims item) (bind_sims target) (subject_sims subject node) (condition_sims condition node)

    exprs_sims : (es : Exprs) → ExprsSims es
    exprs_sims none = record { values = no_values; negated = λ node. no_test (part.Negated c.p c.program.sites (annotation c) c.n hs node none) }
    exprs_sims (more a es) = record {
      values = values_sim c sc hs (count (plain_exprs es)) (HasExpr a) (HasExprs es) (Gives a) (GivesAll es) (GivesAll (more a es)) (expr_sims a).value (exprs_sims es).values (λ e x xs s t. t);
      negated = λ node. negated_more a es (expr_sims a) node;
    }

    pairs_sims : (ps : Pairs) → (node : ℕ) → PairsSim c sc hs (Stores node ps) (Puts node ps)
    pairs_sims no_pairs node = no_pairs_case node
    pairs_sims (pair key e rest) node =
        pair_sim c sc hs node (HasExpr key) (HasExpr e) (Stores node rest) (Gives key) (Gives e) (Puts node rest) (Puts node (pair key e rest)) (expr_sims key).value (expr_sims e).value (pairs_sims rest node) (λ dict e q t. t)

    pub subject_sims : (s : Subject) → (node : ℕ) → SubjectSim c sc hs (Begin node s) (Begins node s)
    subject_sims (Over site e) node = over_sim c sc hs node site (HasExpr e) (Gives e) (Begins node (Over site e)) (expr_sims e).value (λ e over place q t. t)
    subject_sims (UpTo e) node = up_to_sim c sc hs node (HasExpr e) (Gives e) (Begins node (UpTo e)) (expr_sims e).value (λ e over place q t. t)
    subject_sims (FromTo a e step) node = from_to_sim c sc hs (HasExpr a) (HasExpr e) (Gives a) (Gives e) (Begins node (FromTo a e step)) (expr_sims a).value (expr_sims e).value (λ e over place q t. t)

    condition_sims : (d : Condition) → (node : ℕ) → ConditionSim c sc hs (Tested node d) (Guards node d)
    condition_sims Always node = always_case node
    condition_sims (Where e) node = where_case node e (expr_sims e)

    pub bind_sims : (t : Target) → BindSim c sc hs (Has t) (Binds t)
    bind_sims (Name node i) = name_sim c sc hs node i
    bind_sims (Attribute node e name) = attribute_sim c sc hs node name (HasExpr e) (Gives e) (expr_sims e).value
    bind_sims (Item node a i) = item_sim c sc hs node (HasExpr a) (HasExpr i) (Gives a) (Gives i) (expr_sims a).value (expr_sims i).value
    bind_sims (Parts node parts) =
        parts_sim c sc hs node (HasItems node (target_count (plain_targets parts)) parts) (BindsItems node (target_count (plain_targets parts)) parts) (items_sims parts node (target_count (plain_targets parts)))

    items_sims : (ts : Targets) → (node many : ℕ) → ItemsSim c sc hs (HasItems node many ts) (BindsItems node many ts)
    items_sims no_targets node many = no_items node many
    items_sims (more_targets t ts) node many =
        items_sim c sc hs node many (Has t) (HasItems node many ts) (Binds t) (BindsItems node many ts) (BindsItems node many (more_targets t ts)) (bind_sims t) (items_sims ts node many) (λ i e x q t. t)
