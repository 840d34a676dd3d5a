-- What stands with nodes stands without.
use Rattle.std.proofs.Common.{◌≡◌, ℕ, ℤ, suc, ◌+◌, Bool, true, false, List, [], ◌∷◌, ◌++◌, map, inl, inr, Option, Some, None, refl, ap, subst, arith}
use Rattle.rpy_tree.specs.declared.program.Const.{Const}
use Rattle.rpy_tree.specs.Value.{Value}
use Rattle.rpy_meaning.specs.declared.row.RowOp.{RowOp}
use Rattle.rpy_meaning.specs.Tree as meant
use Rattle.rpy_meaning.specs.Moments.{is_slight}
use Rattle.rpy_meaning.specs.Meaning.{target_count}
use Rattle.flow_graph.specs.declared.graph.Graphs.{Graphs}
use Rattle.flow_stands.specs.Places.{Aim, Hand, Scope, Ways, onto, Jump, first, first_and}
use Rattle.flow_stands.specs.Stands as stands
use Rattle.flow_stands.specs.Stands.{count, step_of, Reads, Branch, Place, plainly, with_value}
use Rattle.flow_trees.specs.Marks as marks
use Rattle.flow_trees.specs.Tells.{Telling, tells, by_ways}
use Rattle.flow_trees.proofs.Told.{told_of_what_is_read}
use Rattle.flow_trees.proofs.Kept.{HandsOn, Keeps, keeps_what_is_told}
use Rattle.flow_trees.specs.Tree.{Expr, Local, Constant, Apply, And, Or, Display, Comprehension, Exprs, none, more, Pairs, no_pairs, pair, Subject, Over, UpTo, FromTo, Condition, Always, Where, Target, Name, Attribute, Item, Parts, Targets, no_targets, more_targets, Stmt, Pass, Break, Continue, Return, Do, Assign, Augment, If, While, For, Try, Finally, Block, done, line, Clauses, no_clauses, clause, Function, node_of, plain, plain_exprs, plain_pairs, plain_subject, plain_condition, plain_target, plain_targets, plain_stmt, plain_block, plain_clauses, plain_function}

abbrev pub plain_path : marks.Path → stands.Path
plain_path path = map (λ step. (step.count, step.place)) path

path_push : (path : marks.Path) (step : marks.Step) → plain_path (path ++ step ∷ []) ≡ plain_path path ++ (step.count, step.place) ∷ []
path_push [] step = refl
path_push (next ∷ path) step = ap (λ (l : stands.Path). (next.count, next.place) ∷ l) (path_push path step)

abbrev Test : Type 1
Test = ℕ → ℕ → ℕ → ℕ → Type 0

-- of a value, so many variables, how many go on, a block, and the next
abbrev Binds : Type 1
Binds = ℕ → ℕ → ℕ → ℕ → ℕ → Type 0

abbrev RangedBinds : Type 1
RangedBinds = ℕ → ℕ → ℕ → ℕ → ℕ → ℕ → ℕ → Type 0

module _ (p : meant.Program) (gs : Graphs) (f n : ℕ) where
  -- ---- tests

  hands_on : (sc : Scope) (o : RowOp) (i : ℕ) (beside : Option ℕ) (m value : ℕ) → is_slight o ≡ true → HandsOn p sc.covers beside o → marks.IsBefore p gs f n beside m value
      → stands.Narrows p gs f n sc.covers o i (i ∷ marks.beside_place beside m) m value
  hands_on sc o i None m value slight h lt = (slight, inl (refl, h))
  hands_on sc o i (Some place) m value slight h lt = (slight, inr (m + place, refl, omega arith, lt, h))

  on_way : (sc : Scope) (node : ℕ) (e : Expr) (m value : ℕ) (told : Option Telling) → ((t : Telling) → told ≡ Some t → Reads (plain e) t.local) → ((t : Telling) → told ≡ Some t → Keeps p sc.covers t)
      → (with_it : Bool) (to : ℕ) (jump : Jump) (lo hi : ℕ) → marks.WayOn p gs f n sc node told m value with_it to jump lo hi → stands.Way p gs f n sc (plain e) m value (record { to = to; value = with_it }) jump
  on_way sc node e m value told reads keeps true to jump lo hi h = inl h.0
  on_way sc node e m value None reads keeps false to jump lo hi h = inl h.0
  on_way sc node e m value (Some t) reads keeps false to jump lo hi h =
      let kept = keeps t refl in
      inr (h.0, t.local, t.op, marks.operands t m, refl, h.1, reads t refl, hands_on sc t.op t.local t.beside m value kept.0 kept.1 h.2, (h.3.0.0, node, false, h.3.0.1), h.4)

  way : (sc : Scope) (node : ℕ) (e : Expr) (is_so : Bool) (m value : ℕ) (branch : Branch) (jump : Jump) (lo hi : ℕ) → marks.Way p gs f n sc node e is_so m value branch jump lo hi → stands.Way p gs f n sc (plain e) m value branch jump
  way sc node e is_so m value branch jump lo hi h =
      on_way sc node e m value (tells e is_so) (told_of_what_is_read e is_so) (keeps_what_is_told p sc.covers e is_so) branch.value branch.to jump lo hi h

  truth : (sc : Scope) (node : ℕ) (e : Expr) (b m value : ℕ) (so other : Branch) (lo hi : ℕ) → marks.Truth p gs f n sc node e b m value so other lo hi → stands.Truth p gs f n sc (plain e) b m value so other
  truth sc node e b m value so other lo hi h =
      (h.0, h.1, h.2, (h.9.0.0, node, false, h.9.0.1), h.8.0, way sc node e true m value so h.1 lo h.3 h.6, way sc node e false m value other h.2 h.3 h.4 h.7)

  asks : (E : marks.Place) (E' : Place) (Sides : marks.Choice) (Sides' : Test) (sc : Scope) (node : ℕ) (e : Expr) → ((b m q lo hi : ℕ) → E b m q lo hi → E' b m q) → ((b m c q lo hi : ℕ) → Sides b m c q lo hi → Sides' b m c q)
      → (b m : ℕ) (so other : Branch) (lo hi : ℕ) → marks.Asks p gs f n sc node e E Sides b m so other lo hi → stands.Asks p gs f n sc (plain e) E' Sides' b m so other
  asks E E' Sides Sides' sc node e g s b m so other lo hi (inl h) = inl (h.0, g b m h.0 h.1 hi h.4, truth sc node e h.0 m m so other lo h.1 h.3)
  asks E E' Sides Sides' sc node e g s b m so other lo hi (inr h) = inr (h.0, h.1, s b m h.1 h.0 h.2 hi h.4, truth sc node e h.0 m (m + h.1) so other lo h.2 h.3)

  -- ---- items of tuples

  unpacks : (sc : Scope) (last : ℕ → Jump) (m : ℕ) (path : marks.Path) (at w b lo hi : ℕ) → marks.Unpacks p gs f n sc last m path at w b lo hi → stands.Unpacks p gs f n sc last m (plain_path path) at w b
  unpacks sc last m [] at w b lo hi h = h
  unpacks sc last m (part ∷ []) at w b lo hi h = (h.0.0, part.node, false, h.0.1)
  unpacks sc last m (part ∷ next ∷ path) at w b lo hi h = (h.0, (h.3.0.0, part.node, false, h.3.0.1), unpacks sc last m (next ∷ path) m (m + 1) h.0 lo h.1 h.2)

  there : (sc : Scope) (path : marks.Path) (at b m q lo hi : ℕ) → marks.There p gs f n sc path at b m q lo hi → stands.There p gs f n sc (plain_path path) at b m q
  there sc [] at b m q lo hi h = h.0
  there sc (part ∷ path) at b m q lo hi h = unpacks sc (λ w. first q m) m (part ∷ path) at m b lo hi h

  taken : (sc : Scope) (path : marks.Path) (at b m q v w lo hi : ℕ) → marks.Taken p gs f n sc path at b m q v w lo hi → stands.Taken p gs f n sc (plain_path path) at b m q v w
  taken sc [] at b m q v w lo hi h = (h.2.0, h.0, h.1)
  taken sc (part ∷ path) at b m q v w lo hi h = (unpacks sc (first_and q m) m (part ∷ path) at m b lo hi h.2, h.0, h.1)

  -- ---- expressions

  not_at : (T : marks.Choice) (T' : Test) (sc : Scope) (node : ℕ) → ((b m so other lo hi : ℕ) → T b m so other lo hi → T' b m so other) → (b m q lo hi : ℕ) → marks.NotAt p gs f n sc node T b m q lo hi → stands.NotAt p gs f n sc T' b m q
  not_at T T' sc node g b m q lo hi h =
      (h.0, h.1, h.2, (h.6.0.0, node, true, h.6.0.1), (h.7.0.0, node, false, h.7.0.1), (h.8.0.0, node, false, h.8.0.1), g b m h.1 h.2 h.5 hi h.9)

  apply : (Es : marks.Place) (Es' : Place) (T : marks.Choice) (T' : Test) (sc : Scope) (node : ℕ) (value : Bool) (o : RowOp) (ways : Bool) (c : ℕ) → ((b m q lo hi : ℕ) → Es b m q lo hi → Es' b m q) → ((b m so other lo hi : ℕ) → T b m so other lo hi → T' b m so other)
      → (b m q lo hi : ℕ) → marks.ApplyAt p gs f n sc node value o ways c Es T b m q lo hi → stands.ApplyAt p gs f n sc o c Es' T' b m q
  apply Es Es' T T' sc node value o ways c g t b m q lo hi (inl (w, h)) = inl (h.0, g b m h.0 h.1 hi h.3, (h.2.0.0, node, value, h.2.0.1))
  apply Es Es' T T' sc node value o ways c g t b m q lo hi (inr (w, is, h)) = inr (is, not_at T T' sc node t b m q lo hi h)

  local_at : (sc : Scope) (node i b m q lo hi : ℕ) → marks.LocalAt p gs f n sc node i b m q lo hi → stands.LocalAt p gs f n sc i b m q
  local_at sc node i b m q lo hi h = (h.0, (h.1.0.0, node, true, h.1.0.1))

  constant_at : (sc : Scope) (node : ℕ) (c : Const) (v : Value) (b m q lo hi : ℕ) → marks.ConstantAt p gs f n sc node c v b m q lo hi → stands.ConstantAt p gs f n sc v b m q
  constant_at sc node c v b m q lo hi h = (c, h.0, (h.1.0.0, node, true, h.1.0.1))

  sides_at : (Es : marks.Place) (Es' : Place) (sc : Scope) (node : ℕ) (value : Bool) (o : RowOp) (k : ℕ) → ((b m q lo hi : ℕ) → Es b m q lo hi → Es' b m q)
      → (b m c q lo hi : ℕ) → marks.SidesAt p gs f n sc node value o k Es b m c q lo hi → stands.SidesAt p gs f n sc o k Es' b m c q
  sides_at Es Es' sc node value o k g b m c q lo hi h = (h.0, (h.1.0, g b m h.1.0 h.1.1 hi h.1.4, (h.1.3.0.0, node, value, h.1.3.0.1), h.1.2))

  display_at : (Stores : marks.Place) (Stores' : Place) (sc : Scope) (node site : ℕ) → ((b m q lo hi : ℕ) → Stores b m q lo hi → Stores' b m q) → (b m q lo hi : ℕ) → marks.DisplayAt p gs f n sc node site Stores b m q lo hi → stands.DisplayAt p gs f n sc site Stores' b m q
  display_at Stores Stores' sc node site g b m q lo hi h = (h.0, h.1, (h.6.0.0, node, false, h.6.0.1), g h.0 m h.1 h.2 h.3 h.5, (h.4.0.0, node, true, h.4.0.1))

  turns : (sc : Scope) (node : ℕ) (step : Option ℤ) (over head begin turn advance : ℕ) (after : Jump) (lo1 hi1 lo2 hi2 lo3 hi3 : ℕ) → marks.HeadAt p gs f n over head begin lo1 hi1 → marks.AdvanceAt p gs f n sc node step over head advance lo2 hi2
      → marks.TurnAt p gs f n sc node step over turn after begin lo3 hi3 → stands.TurnsAt p gs f n sc step over head turn after advance
  turns sc node step over head begin turn advance after lo1 hi1 lo2 hi2 lo3 hi3 at on h =
      (begin, h.0, h.1, h.2, at.0, (h.9.0.0, node, false, h.9.0.1), h.8.0, (h.7.0.0, node, false, h.7.0.1), (h.6.0.0, node, false, h.6.0.1), (on.0.0, node, false, on.0.1))

  gather : (E : marks.Place) (E' : Place) (T : marks.Choice) (T' : Test) (sc : Scope) (node : ℕ) → ((b m q lo hi : ℕ) → E b m q lo hi → E' b m q) → ((b m so other lo hi : ℕ) → T b m so other lo hi → T' b m so other)
      → (list b m advance lo hi : ℕ) → marks.GatherAt p gs f n sc node E T list b m advance lo hi → stands.GatherAt p gs f n sc E' T' list b m advance
  gather E E' T T' sc node g t list b m advance lo hi h = (h.0, h.1, t b m h.0 advance h.3 hi h.6, g h.0 m h.1 h.2 h.3 h.5, (h.4.0.0, node, false, h.4.0.1))

  comprehension_at : (Begin : marks.Place) (Begin' : Place) (E : marks.Place) (E' : Place) (Bind : RangedBinds) (Bind' : Binds) (T : marks.Choice) (T' : Test) (sc : Scope) (node site : ℕ) (step : Option ℤ)
      → ((b m q lo hi : ℕ) → Begin b m q lo hi → Begin' b m q) → ((b m q lo hi : ℕ) → E b m q lo hi → E' b m q) → ((v m keep b q lo hi : ℕ) → Bind v m keep b q lo hi → Bind' v m keep b q) → ((b m so other lo hi : ℕ) → T b m so other lo hi → T' b m so other)
      → (b m q lo hi : ℕ) → marks.ComprehensionAt p gs f n sc node site step Begin Bind T E b m q lo hi → stands.ComprehensionAt p gs f n sc site Begin' (stands.GathersAt p gs f n sc step E' Bind' T') b m q
  comprehension_at Begin Begin' E E' Bind Bind' T T' sc node site step begin g bind t b m q lo hi h = (
    h.0,
    h.1,
    h.6,
    (h.21.0.0, node, false, h.21.0.1),
    begin h.0 (m + 1) h.1 h.12 h.13 h.20,
    (
      h.5,
      h.4,
      h.3,
      turns sc node step (m + 1) h.1 h.2 h.5 h.3 (first h.6 (m + 1)) lo h.7 h.7 h.8 h.11 h.12 h.14 h.15 h.19,
      bind (m + 1 + 2) (m + 1 + 2 + 1) (m + 1 + 2) h.5 h.4 h.9 h.10 h.17,
      gather E E' T T' sc node g t m h.4 (m + 1 + 2) h.3 h.8 h.9 h.16,
    ),
    (h.18.0.0, node, true, h.18.0.1),
  )

  mutual
    pub expr : (sc : Scope) (e : Expr) (b m q lo hi : ℕ) → marks.HasExpr p gs f n sc e b m q lo hi → stands.HasExpr p gs f n sc (plain e) b m q
    expr sc (Local node i) b m q lo hi h = local_at sc node i b m q lo hi h
    expr sc (Constant node c v) b m q lo hi h = constant_at sc node c v b m q lo hi h
    expr sc (Apply node value o es) b m q lo hi h =
        apply (marks.HasExprs p gs f n sc es) (stands.HasExprs p gs f n sc (plain_exprs es)) (marks.HasNegated p gs f n sc node es) (stands.HasNegated p gs f n sc (plain_exprs es)) sc node value o (by_ways o es) (count (plain_exprs es)) (exprs sc es) (negated sc node es) b m q lo hi h
    expr sc (And node a e) b m q lo hi h =
        (h.0, h.1, (h.4.0.0, node, true, h.4.0.1), expr sc e h.1 m h.0 h.2 h.3 h.5, asks (marks.HasExpr p gs f n sc a) (stands.HasExpr p gs f n sc (plain a)) (marks.HasSides p gs f n sc a) (stands.HasSides p gs f n sc (plain a)) sc node a (expr sc a) (sides sc a) b m (plainly h.1) (with_value h.0) h.3 hi h.6)
    expr sc (Or node a e) b m q lo hi h =
        (h.0, h.1, (h.4.0.0, node, true, h.4.0.1), expr sc e h.1 m h.0 h.2 h.3 h.5, asks (marks.HasExpr p gs f n sc a) (stands.HasExpr p gs f n sc (plain a)) (marks.HasSides p gs f n sc a) (stands.HasSides p gs f n sc (plain a)) sc node a (expr sc a) (sides sc a) b m (with_value h.0) (plainly h.1) h.3 hi h.6)
    expr sc (Display node site ps) b m q lo hi h = display_at (marks.HasPairs p gs f n sc node ps) (stands.HasPairs p gs f n sc (plain_pairs ps)) sc node site (pairs sc node ps) b m q lo hi h
    expr sc (Comprehension node site item target over c) b m q lo hi h =
        comprehension_at (marks.HasSubject p gs f n sc node over) (stands.HasSubject p gs f n sc (plain_subject over)) (marks.HasExpr p gs f n sc item) (stands.HasExpr p gs f n sc (plain item))
        (marks.HasBind p gs f n sc target []) (stands.HasBind p gs f n sc (plain_target target) []) (marks.HasCondition p gs f n sc node c) (stands.HasCondition p gs f n sc (plain_condition c))
        sc node site (step_of (plain_subject over)) (subject sc node over) (expr sc item) (bind sc target []) (condition sc node c) b m q lo hi h

    exprs : (sc : Scope) (es : Exprs) (b m q lo hi : ℕ) → marks.HasExprs p gs f n sc es b m q lo hi → stands.HasExprs p gs f n sc (plain_exprs es) b m q
    exprs sc none b m q lo hi h = h.0
    exprs sc (more e es) b m q lo hi h = (h.0, expr sc e b m h.0 h.1 hi h.3, exprs sc es h.0 (m + 1) q lo h.1 h.2)

    sides : (sc : Scope) (e : Expr) (b m c q lo hi : ℕ) → marks.HasSides p gs f n sc e b m c q lo hi → stands.HasSides p gs f n sc (plain e) b m c q
    sides sc (Apply node value o es) b m c q lo hi h = sides_at (marks.HasExprs p gs f n sc es) (stands.HasExprs p gs f n sc (plain_exprs es)) sc node value o (count (plain_exprs es)) (exprs sc es) b m c q lo hi h
    sides sc (Local node i) b m c q lo hi h = h
    sides sc (Constant node k v) b m c q lo hi h = h
    sides sc (And node a e) b m c q lo hi h = h
    sides sc (Or node a e) b m c q lo hi h = h
    sides sc (Display node site ps) b m c q lo hi h = h
    sides sc (Comprehension node site item target over d) b m c q lo hi h = h

    pub test : (sc : Scope) (node : ℕ) (e : Expr) (b m so other lo hi : ℕ) → marks.HasTest p gs f n sc node e b m so other lo hi → stands.HasTest p gs f n sc (plain e) b m so other
    test sc node (And inner a e) b m so other lo hi h = (h.0, test sc inner a b m h.0 other h.1 hi h.3, test sc inner e h.0 m so other lo h.1 h.2)
    test sc node (Or inner a e) b m so other lo hi h = (h.0, test sc inner a b m so h.0 h.1 hi h.3, test sc inner e h.0 m so other lo h.1 h.2)
    test sc node (Apply inner value o es) b m so other lo hi (inl (w, h)) =
        inl (asks (marks.ApplyAt p gs f n sc inner value o (by_ways o es) (count (plain_exprs es)) (marks.HasExprs p gs f n sc es) (marks.HasNegated p gs f n sc inner es)) (stands.ApplyAt p gs f n sc o (count (plain_exprs es)) (stands.HasExprs p gs f n sc (plain_exprs es)) (stands.HasNegated p gs f n sc (plain_exprs es)))
        (marks.SidesAt p gs f n sc inner value o (count (plain_exprs es)) (marks.HasExprs p gs f n sc es)) (stands.SidesAt p gs f n sc o (count (plain_exprs es)) (stands.HasExprs p gs f n sc (plain_exprs es)))
        sc node (Apply inner value o es) (apply (marks.HasExprs p gs f n sc es) (stands.HasExprs p gs f n sc (plain_exprs es)) (marks.HasNegated p gs f n sc inner es) (stands.HasNegated p gs f n sc (plain_exprs es)) sc inner value o (by_ways o es) (count (plain_exprs es)) (exprs sc es) (negated sc inner es))
        (sides_at (marks.HasExprs p gs f n sc es) (stands.HasExprs p gs f n sc (plain_exprs es)) sc inner value o (count (plain_exprs es)) (exprs sc es)) b m (plainly so) (plainly other) lo hi h)
    test sc node (Apply inner value o es) b m so other lo hi (inr (w, is, h)) = inr (is, negated sc inner es b m other so lo hi h)
    test sc node (Local inner i) b m so other lo hi h =
        asks (marks.LocalAt p gs f n sc inner i) (stands.LocalAt p gs f n sc i) (λ b m c q lo hi. ⊥) (λ b m c q. ⊥) sc node (Local inner i) (local_at sc inner i) (λ b m c q lo hi k. k) b m (plainly so) (plainly other) lo hi h
    test sc node (Constant inner c v) b m so other lo hi h =
        asks (marks.ConstantAt p gs f n sc inner c v) (stands.ConstantAt p gs f n sc v) (λ b m d q lo hi. ⊥) (λ b m d q. ⊥) sc node (Constant inner c v) (constant_at sc inner c v) (λ b m c q lo hi k. k) b m (plainly so) (plainly other) lo hi h
    test sc node (Display inner site ps) b m so other lo hi h =
        asks (marks.DisplayAt p gs f n sc inner site (marks.HasPairs p gs f n sc inner ps)) (stands.DisplayAt p gs f n sc site (stands.HasPairs p gs f n sc (plain_pairs ps))) (λ b m c q lo hi. ⊥) (λ b m c q. ⊥)
        sc node (Display inner site ps) (display_at (marks.HasPairs p gs f n sc inner ps) (stands.HasPairs p gs f n sc (plain_pairs ps)) sc inner site (pairs sc inner ps)) (λ b m c q lo hi k. k) b m (plainly so) (plainly other) lo hi h
    test sc node (Comprehension inner site item target over c) b m so other lo hi h =
        asks (marks.HasExpr p gs f n sc (Comprehension inner site item target over c)) (stands.HasExpr p gs f n sc (plain (Comprehension inner site item target over c))) (λ b m c q lo hi. ⊥) (λ b m c q. ⊥)
        sc node (Comprehension inner site item target over c)
        (comprehension_at (marks.HasSubject p gs f n sc inner over) (stands.HasSubject p gs f n sc (plain_subject over)) (marks.HasExpr p gs f n sc item) (stands.HasExpr p gs f n sc (plain item))
        (marks.HasBind p gs f n sc target []) (stands.HasBind p gs f n sc (plain_target target) []) (marks.HasCondition p gs f n sc inner c) (stands.HasCondition p gs f n sc (plain_condition c))
        sc inner site (step_of (plain_subject over)) (subject sc inner over) (expr sc item) (bind sc target []) (condition sc inner c)) (λ b m c q lo hi k. k) b m (plainly so) (plainly other) lo hi h

    negated : (sc : Scope) (node : ℕ) (es : Exprs) (b m so other lo hi : ℕ) → marks.HasNegated p gs f n sc node es b m so other lo hi → stands.HasNegated p gs f n sc (plain_exprs es) b m so other
    negated sc node none b m so other lo hi h = h
    negated sc node (more a none) b m so other lo hi h = test sc node a b m so other lo hi h
    negated sc node (more a (more e es)) b m so other lo hi h = h

    pairs : (sc : Scope) (node : ℕ) (ps : Pairs) (b m q lo hi : ℕ) → marks.HasPairs p gs f n sc node ps b m q lo hi → stands.HasPairs p gs f n sc (plain_pairs ps) b m q
    pairs sc node no_pairs b m q lo hi h = h.0
    pairs sc node (pair key e rest) b m q lo hi h =
        (h.0, h.1, h.2, expr sc key b (m + 1) h.0 h.5 hi h.9, expr sc e h.0 (m + 1 + 1) h.1 h.4 h.5 h.8, (h.7.0.0, node, false, h.7.0.1), pairs sc node rest h.2 m q lo h.3 h.6)

    pub subject : (sc : Scope) (node : ℕ) (s : Subject) (b m q lo hi : ℕ) → marks.HasSubject p gs f n sc node s b m q lo hi → stands.HasSubject p gs f n sc (plain_subject s) b m q
    subject sc node (Over site e) b m q lo hi h = (h.0, h.1, expr sc e b m h.0 h.3 hi h.6, (h.5.0.0, node, false, h.5.0.1), (h.4.0.0, node, false, h.4.0.1))
    subject sc node (UpTo e) b m q lo hi h = (h.0, expr sc e b m h.0 h.1 hi h.3, (h.2.0.0, node, false, h.2.0.1))
    subject sc node (FromTo a e step) b m q lo hi h = (h.0, h.1, expr sc a b m h.0 h.3 hi h.6, expr sc e h.0 (m + 1) h.1 h.2 h.3 h.5, h.4.0)

    condition : (sc : Scope) (node : ℕ) (c : Condition) (b m so other lo hi : ℕ) → marks.HasCondition p gs f n sc node c b m so other lo hi → stands.HasCondition p gs f n sc (plain_condition c) b m so other
    condition sc node Always b m so other lo hi h = h.0
    condition sc node (Where e) b m so other lo hi h = test sc node e b m so other lo hi h

    pub bind : (sc : Scope) (t : Target) (path : marks.Path) (at m keep b q lo hi : ℕ) → marks.HasBind p gs f n sc t path at m keep b q lo hi → stands.HasBind p gs f n sc (plain_target t) (plain_path path) at m keep b q
    bind sc (Name node i) path at m keep b q lo hi h = (h.0, h.1, h.2, h.4, taken sc path at b m h.0 h.1 h.2 h.3 hi h.6, (h.5.0.0, node, true, h.5.0.1))
    bind sc (Attribute node e name) path at m keep b q lo hi h =
        (h.0, h.1, h.2, h.3, h.4, there sc path at b m h.0 h.7 hi h.11, expr sc e h.0 m h.1 h.6 h.7 h.10, taken sc path at h.1 (m + 1) h.2 h.3 h.4 h.5 h.6 h.9, (h.8.0.0, node, true, h.8.0.1))
    bind sc (Item node a i) path at m keep b q lo hi h =
        (h.0, h.1, h.2, h.3, h.4, h.5, there sc path at b m h.0 h.9 hi h.14, expr sc a h.0 m h.1 h.8 h.9 h.13, expr sc i h.1 (m + 1) h.2 h.7 h.8 h.12, taken sc path at h.2 (m + 2) h.3 h.4 h.5 h.6 h.7 h.11, (h.10.0.0, node, true, h.10.0.1))
    bind sc (Parts node ts) path at m keep b q lo hi h =
        (h.0, h.1, h.2, h.3, h.4, taken sc path at b m h.0 h.3 h.4 h.7 hi h.11, (h.10.0.0, node, true, h.10.0.1), items sc node ts (target_count (plain_targets ts)) 0 path at h.1 m h.2 h.5 h.6 h.9, h.8.0)

    items : (sc : Scope) (node : ℕ) (ts : Targets) (c i : ℕ) (path : marks.Path) (at b m q lo hi : ℕ) → marks.HasItems p gs f n sc node ts c i path at b m q lo hi → stands.HasItems p gs f n sc (plain_targets ts) c i (plain_path path) at b m q
    items sc node no_targets c i path at b m q lo hi h = h.0
    items sc node (more_targets t ts) c i path at b m q lo hi h =
        let step : marks.Step = record { node = node; count = c; place = i } in (
          h.0,
          subst (λ (l : stands.Path). stands.HasBind p gs f n sc (plain_target t) l at m m b h.0) (path_push path step) (bind sc t (path ++ step ∷ []) at m m b h.0 h.1 hi h.3),
          items sc node ts c (suc i) path at h.0 m q lo h.1 h.2,
        )

  -- ---- statements

  mark_if : (tried : Bool) (sc : Scope) (node b m q lo hi : ℕ) → marks.MarkIf p gs f n tried sc node b m q lo hi → stands.MarkIf p gs f n tried sc b m q
  mark_if true sc node b m q lo hi h = (h.0.0, node, false, h.0.1)
  mark_if false sc node b m q lo hi h = h.0

  targets : (sc : Scope) (ts : Targets) (b m q lo hi : ℕ) → marks.HasTargets p gs f n sc ts b m q lo hi → stands.HasTargets p gs f n sc (plain_targets ts) b m q
  targets sc no_targets b m q lo hi h = h.0
  targets sc (more_targets t no_targets) b m q lo hi h = bind sc t [] m (m + 1) m b q lo hi h
  targets sc (more_targets t (more_targets u ts)) b m q lo hi h = (h.0, bind sc t [] m (m + 1) (m + 1) b h.0 h.1 hi h.3, targets sc (more_targets u ts) h.0 m q lo h.1 h.2)

  augment : (sc : Scope) (node : ℕ) (t : Target) (o : RowOp) (e : Expr) (b m q lo hi : ℕ) → marks.HasAugment p gs f n sc node t o e b m q lo hi → stands.HasAugment p gs f n sc (plain_target t) o (plain e) b m q
  augment sc node (Name at i) o e b m q lo hi h =
      (h.6, (h.0, h.1, h.2, (h.10.0.0, at, false, h.10.0.1), expr sc e h.0 (m + 1) h.1 h.4 h.5 h.9, (h.8.0.0, node, false, h.8.0.1), (h.7.0.0, at, true, h.7.0.1)))
  augment sc node (Attribute at a name) o e b m q lo hi h =
      (h.0, h.1, h.2, h.3, expr sc a b m h.0 h.7 hi h.12, (h.11.0.0, at, false, h.11.0.1), expr sc e h.1 (m + 1 + 1) h.2 h.5 h.6 h.10, (h.9.0.0, node, false, h.9.0.1), (h.8.0.0, at, true, h.8.0.1))
  augment sc node (Item at a i) o e b m q lo hi h =
      (h.0, h.1, h.2, h.3, h.4, expr sc a b m h.0 h.9 hi h.15, expr sc i h.0 (m + 1) h.1 h.8 h.9 h.14, (h.13.0.0, at, false, h.13.0.1), expr sc e h.2 (m + 2 + 1) h.3 h.6 h.7 h.12, (h.11.0.0, node, false, h.11.0.1), (h.10.0.0, at, true, h.10.0.1))
  augment sc node (Parts at ts) o e b m q lo hi h = (h.0.0, at, true, h.0.1)

  gives_back : (sc : Scope) (node k m : ℕ) (ret : Aim) (lo hi : ℕ) → marks.GivesBack p gs f n sc node k m ret lo hi → stands.GivesBack p gs f n sc k m ret
  gives_back sc node k m ret lo hi (inl h) = inl h.1.0
  gives_back sc node k m ret lo hi (inr h) = inr (h.0.0, node, false, h.0.1)

  mutual
    stmt : (sc : Scope) (s : Stmt) (b m : ℕ) (t : Ways) (lo hi : ℕ) → marks.HasStmt p gs f n sc s b m t lo hi → stands.HasStmt p gs f n sc (plain_stmt s) b m t
    stmt sc (Pass node) b m t lo hi h = h.0
    stmt sc (Break node) b m t lo hi h = h.0
    stmt sc (Continue node) b m t lo hi h = h.0
    stmt sc (Return node e) b m t lo hi h = (h.0, expr sc e b m h.0 h.1 hi h.3, gives_back sc node h.0 m t.ret lo h.1 h.2)
    stmt sc (Do node e) b m t lo hi h = (h.0, expr sc e b m h.0 h.1 hi h.3, h.2.0)
    stmt sc (Assign node ts e) b m t lo hi h = (h.0, expr sc e b m h.0 h.1 hi h.3, targets sc ts h.0 m t.norm lo h.1 h.2)
    stmt sc (Augment node target o e) b m t lo hi h = augment sc node target o e b m t.norm lo hi h
    stmt sc (If node e so other) b m t lo hi h = (h.0, h.1, test sc node e b m h.0 h.1 h.3 hi h.6, block sc so h.0 m t h.2 h.3 h.5, block sc other h.1 m t lo h.2 h.4)
    stmt sc (While node e body) b m t lo hi h =
        (h.0, h.1, h.2, h.6.0, test sc node e h.0 m h.1 t.norm h.5 hi h.9, (h.8.0.0, node, false, h.8.0.1), block sc body h.2 m _ h.3 h.4 h.7)
    stmt sc (For node target over body) b m t lo hi h = (
      h.0,
      subject sc node over b m h.0 h.9 hi h.15,
      (
        h.4,
        h.3,
        h.2,
        turns sc node (step_of (plain_subject over)) m h.0 h.1 h.4 h.2 (first t.norm m) lo h.5 h.5 h.6 h.8 h.9 h.10 h.11 h.14,
        bind sc target [] (m + 2) (m + 2 + 1) (m + 2) h.4 h.3 h.7 h.8 h.13,
        block sc body h.3 (m + 2) _ h.6 h.7 h.12,
      ),
    )
    stmt sc (Try node body cs other) b m t lo hi h =
        (h.0, h.3, h.4, block sc other h.0 m t lo h.1 h.5, clauses sc cs m t h.3 h.4 h.1 h.2 h.6, block _ body b m (onto t h.0) h.2 hi h.7)
    stmt sc (Finally node body last) b m t lo hi h = (
      h.0,
      h.1,
      h.2,
      h.3,
      h.4,
      h.5,
      h.6,
      h.7,
      h.8,
      block sc last h.0 m t lo h.9 h.18,
      block sc last h.1 m (onto t h.5) h.10 h.11 h.20,
      h.19.0,
      block sc last h.2 m (onto t h.6) h.12 h.13 h.22,
      h.21.0,
      block sc last h.3 (m + 1) (onto t h.7) h.14 h.15 h.24,
      h.23.0,
      block sc last h.4 (m + 1) (onto t h.8) h.16 h.17 h.26,
      (h.25.0.0, node, false, h.25.0.1),
      block _ body b m _ h.17 hi h.27,
    )

    block : (sc : Scope) (ss : Block) (b m : ℕ) (t : Ways) (lo hi : ℕ) → marks.HasBlock p gs f n sc ss b m t lo hi → stands.HasBlock p gs f n sc (plain_block ss) b m t
    block sc done b m t lo hi h = h.0
    block sc (line s rest) b m t lo hi h =
        (h.0, h.1, h.2, mark_if sc.tried sc (node_of s) b m h.0 h.5 hi h.9, stmt sc s h.0 m (onto t h.1) h.4 h.5 h.8, mark_if sc.tried sc (node_of s) h.1 m h.2 h.3 h.4 h.7, block sc rest h.2 m t lo h.3 h.6)

    clauses : (sc : Scope) (cs : Clauses) (m : ℕ) (t : Ways) (hands : List Hand) (default : Aim) (lo hi : ℕ) → marks.HasClauses p gs f n sc cs m t hands default lo hi → stands.HasClauses p gs f n sc (plain_clauses cs) m t hands default
    clauses sc no_clauses m t hands default lo hi h = (h.0, h.1)
    clauses sc (clause None local body rest) m t hands default lo hi h = (h.0, h.1, h.3, h.4, block sc body h.0 m t lo h.2 h.6, h.7.0, h.5)
    clauses sc (clause (Some classes) local body rest) m t hands default lo hi h =
        (h.0, h.2, h.3, block sc body h.0 m t lo h.1 h.5, h.4, clauses sc rest m t h.2 default h.1 hi h.6)

-- ---- functions

pub function_stands : (p : meant.Program) (gs : Graphs) (f : ℕ) (function : Function) → marks.HasFunction p gs f function → stands.HasFunction p gs f (plain_function function)
function_stands p gs f function h =
    (h.0, h.1, h.2, h.3, h.4, h.5, (h.6.0.0, function.node, false, h.6.0.1), block p gs f function.locals stands.no_try function.body h.0 function.locals (stands.outside function.locals) 5 _ h.7)
