-- The blocks of a part that nothing reaches.
use Rattle.std.proofs.Common.{◌≡◌, ℕ, ℤ, suc, ◌+◌, inl, inr, Bool, true, false, List, [], ◌∷◌, ◌++◌, Option, Some, None, pos}
use Rattle.rpy_tree.specs.Value.{Object}
use Rattle.rpy_meaning.specs.declared.row.RowOp.{RowOp}
use Rattle.rpy_meaning.specs.declared.row.RowOp.TheVariants as row
use Rattle.rpy_meaning.specs.Tree as meaning
use Rattle.rpy_meaning.specs.Meaning.{target_count}
use Rattle.rpy_meaning.specs.Classes.{covers_within}
use Rattle.flow_graph.specs.declared.graph.Graphs.{Graphs}
use Rattle.flow_stands.specs.Places.{range, stored, Aim, Hand, Scope, Ways, Jump, Shape as Form, Go, Fork, Does, hand_jumps, first, first_and, on_to, onto}
use Rattle.flow_stands.specs.Stands.{Branch, plainly, with_value, count, step_of, onward, return_block, never_block, within}
use Rattle.flow_trees.specs.Tree.{Expr, Local, Constant, Apply, And, Or, Display, Comprehension, Exprs, none, more, Pairs, no_pairs, pair, Subject, Over, UpTo, FromTo, Condition, Always, Where, Target, Name, Attribute, Item, Parts, Targets, no_targets, more_targets, Stmt, Pass, Break, Continue, Return, Do, Assign, Augment, If, While, For, Try, Finally, Block, done, line, Clauses, no_clauses, clause, plain_exprs, plain_subject, plain_targets, plain_clauses, node_of}
use Rattle.flow_trees.specs.Tells.{Telling, tells, by_ways}
use Rattle.flow_trees.specs.Marks as marks
use Rattle.flow_trees.specs.Marks.{Place, Choice, Path}
use Rattle.ann_lattice.specs.Laws.{IsTree}
use Rattle.ann_rules.specs.Program.{Whole}
use Rattle.ann_tree.specs.Annotation.{Annotation}
use Rattle.ann_lift.proofs.Acting.{Lift, Nowhere, idle_marked, idle_is, both, none_put}

module _ (p : Whole) (sites : List (Option Object)) (a : Annotation) (f n : ℕ) (gs : Graphs) (classes : IsTree p.tables.classes) (meant : meaning.Program) where
  abbrev pub Idle : ℕ → ℕ → Type 0
  Idle lo hi = Lift p sites a f n gs classes meant lo hi (Nowhere p sites a f n gs classes meant) (Nowhere p sites a f n gs classes meant)

  abbrev join : {lo mid hi : ℕ} → Idle lo mid → Idle mid hi → Idle lo hi
  join x y = both p sites a f n gs classes meant x y

  pub both_of : {lo mid hi : ℕ} → Idle lo mid → Idle mid hi → Idle lo hi
  both_of x y = join x y

  abbrev nothing : {lo hi : ℕ} → lo ≡ hi → Idle lo hi
  nothing e = none_put p sites a f n gs classes meant e

  pub op : (sc : Scope) (b node : ℕ) (value : Bool) (o : RowOp) (args : List ℕ) (m : ℕ) (norm : Jump) {lo hi : ℕ} → marks.Acts meant gs f n sc b node value o args m norm lo hi → Idle lo hi
  op sc b node value o args m norm h = idle_marked p sites a f n gs classes meant b m node value (Does o args sc.covers (hand_jumps m sc.hands) (first_and sc.default.to sc.default.keep m) norm) h

  pub block : (b m : ℕ) (form : Form) {lo hi : ℕ} → marks.Is meant gs f n b m form lo hi → Idle lo hi
  block b m form h = idle_is p sites a f n gs classes meant b m form h

  -- ---- tests

  pub way_on : (sc : Scope) (node : ℕ) (told : Option Telling) (m value : ℕ) (wants : Bool) (to : ℕ) (jump : Jump) (lo hi : ℕ) → marks.WayOn meant gs f n sc node told m value wants to jump lo hi → Idle lo hi
  way_on sc node told m value true to jump lo hi h = nothing h.1
  way_on sc node None m value false to jump lo hi h = nothing h.1
  way_on sc node (Some t) m value false to jump lo hi h = op sc h.0 node false t.op (marks.operands t m) (value + 1) (stored to m t.local (value + 1)) h.3

  pub truth : (sc : Scope) (node : ℕ) (e : Expr) (b m value : ℕ) (one other : Branch) (lo hi : ℕ) → marks.Truth meant gs f n sc node e b m value one other lo hi → Idle lo hi
  truth sc node e b m value one other lo hi h =
      join (way_on sc node (tells e true) m value one.value one.to h.1 lo h.3 h.6) (join (way_on sc node (tells e false) m value other.value other.to h.2 h.3 h.4 h.7) (join (block h.0 (value + 1 + 1) (Fork (value + 1) h.1 h.2) h.8) (op sc b node false row.Truth (value ∷ []) (value + 1) (first_and h.0 (value + 1) (value + 1)) h.9)))

  asks : (E : Place) (Sides : Choice) (sc : Scope) (node : ℕ) (e : Expr) → ((b m q lo hi : ℕ) → E b m q lo hi → Idle lo hi) → ((b m c q lo hi : ℕ) → Sides b m c q lo hi → Idle lo hi)
      → (b m : ℕ) (one other : Branch) (lo hi : ℕ) → marks.Asks meant gs f n sc node e E Sides b m one other lo hi → Idle lo hi
  asks E Sides sc node e x y b m one other lo hi (inl h) = join (truth sc node e h.0 m m one other lo h.1 h.3) (x b m h.0 h.1 hi h.4)
  asks E Sides sc node e x y b m one other lo hi (inr h) = join (truth sc node e h.0 m (m + h.1) one other lo h.2 h.3) (y b m h.1 h.0 h.2 hi h.4)

  no_sides : (b m c q lo hi : ℕ) → ⊥ → Idle lo hi
  no_sides b m c q lo hi h = absurd h

  -- ---- items of tuples

  unpacks : (sc : Scope) (last : ℕ → Jump) (m : ℕ) (path : Path) (at w b lo hi : ℕ) → marks.Unpacks meant gs f n sc last m path at w b lo hi → Idle lo hi
  unpacks sc last m [] at w b lo hi h = absurd h
  unpacks sc last m (part ∷ []) at w b lo hi h = op sc b part.node false (row.Unpack part.count part.place) (at ∷ []) w (last w) h
  unpacks sc last m (part ∷ next ∷ path) at w b lo hi h = join (unpacks sc last m (next ∷ path) m (m + 1) h.0 lo h.1 h.2) (op sc b part.node false (row.Unpack part.count part.place) (at ∷ []) w (first_and h.0 m w) h.3)

  pub there : (sc : Scope) (path : Path) (at b m q lo hi : ℕ) → marks.There meant gs f n sc path at b m q lo hi → Idle lo hi
  there sc [] at b m q lo hi h = nothing h.1
  there sc (part ∷ path) at b m q lo hi h = unpacks sc (λ w. first q m) m (part ∷ path) at m b lo hi h

  pub taken : (sc : Scope) (path : Path) (at b m q v w lo hi : ℕ) → marks.Taken meant gs f n sc path at b m q v w lo hi → Idle lo hi
  taken sc [] at b m q v w lo hi h = nothing h.2.1
  taken sc (part ∷ path) at b m q v w lo hi h = unpacks sc (first_and q m) m (part ∷ path) at m b lo hi h.2

  -- ---- expressions

  pub meets : (sc : Scope) (node b m q : ℕ) {lo hi : ℕ} → marks.Meets meant gs f n sc node b m q lo hi → Idle lo hi
  meets sc node b m q h = op sc b node true row.Copy (m ∷ []) (m + 1) (first_and q m (m + 1)) h

  not_at : (T : Choice) (sc : Scope) (node : ℕ) → ((b m so_way other lo hi : ℕ) → T b m so_way other lo hi → Idle lo hi) → (b m q lo hi : ℕ) → marks.NotAt meant gs f n sc node T b m q lo hi → Idle lo hi
  not_at T sc node t b m q lo hi h = join (meets sc node h.0 m q h.6) (join (op sc h.2 node false (row.Bool true) [] m (first_and h.0 m m) h.7) (join (op sc h.1 node false (row.Bool false) [] m (first_and h.0 m m) h.8) (t b m h.1 h.2 h.5 hi h.9)))

  apply : (Es : Place) (T : Choice) (sc : Scope) (node : ℕ) (value : Bool) (o : RowOp) (ways : Bool) (c : ℕ) → ((b m q lo hi : ℕ) → Es b m q lo hi → Idle lo hi) → ((b m so_way other lo hi : ℕ) → T b m so_way other lo hi → Idle lo hi)
      → (b m q lo hi : ℕ) → marks.ApplyAt meant gs f n sc node value o ways c Es T b m q lo hi → Idle lo hi
  apply Es T sc node value o ways c x t b m q lo hi (inl h) = join (op sc h.1.0 node value o (range m c) (m + c) (onward o q m (m + c)) h.1.2) (x b m h.1.0 h.1.1 hi h.1.3)
  apply Es T sc node value o ways c x t b m q lo hi (inr h) = not_at T sc node t b m q lo hi h.2

  sides_at : (Es : Place) (sc : Scope) (node : ℕ) (value : Bool) (o : RowOp) (k : ℕ) → ((b m q lo hi : ℕ) → Es b m q lo hi → Idle lo hi) → (b m c q lo hi : ℕ) → marks.SidesAt meant gs f n sc node value o k Es b m c q lo hi → Idle lo hi
  sides_at Es sc node value o k x b m c q lo hi h = join (op sc h.1.0 node value o (range m c) (m + c) (first_and q (m + c) (m + c)) h.1.3) (x b m h.1.0 h.1.1 hi h.1.4)

  pub one_turn : (sc : Scope) (node : ℕ) (step : Option ℤ) (over turn : ℕ) (after : Jump) (begin lo hi : ℕ) → marks.TurnAt meant gs f n sc node step over turn after begin lo hi → Idle lo hi
  one_turn sc node step over turn after begin lo hi h =
      join (op sc h.2 node false (row.Item step) (over ∷ (over + 1) ∷ []) (over + 2) (first_and turn (over + 2) (over + 2)) h.6) (join (op sc h.1 node false row.Turn [] (over + 2) (first h.2 (over + 2)) h.7)
      (join (block h.0 (over + 2 + 1) (Fork (over + 2) (first h.1 (over + 2)) after) h.8) (op sc begin node false (row.HasItem step) (over ∷ (over + 1) ∷ []) (over + 2) (first_and h.0 (over + 2) (over + 2)) h.9)))

  display : (sc : Scope) (node site : ℕ) (Stores : Place) → ((b m q lo hi : ℕ) → Stores b m q lo hi → Idle lo hi) → (b m q lo hi : ℕ) → marks.DisplayAt meant gs f n sc node site Stores b m q lo hi → Idle lo hi
  display sc node site Stores x b m q lo hi h = join (meets sc node h.1 m q h.4) (join (x h.0 m h.1 h.2 h.3 h.5) (op sc b node false (row.Dict site) [] m (first_and h.0 m m) h.6))

  comprehension : (sc : Scope) (node site : ℕ) (step : Option ℤ) (Begin : Place) (Bind : ℕ → ℕ → ℕ → ℕ → ℕ → ℕ → ℕ → Type 0) (T : Choice) (E : Place)
      → ((b m q lo hi : ℕ) → Begin b m q lo hi → Idle lo hi) → ((v m keep b q lo hi : ℕ) → Bind v m keep b q lo hi → Idle lo hi) → ((b m one other lo hi : ℕ) → T b m one other lo hi → Idle lo hi) → ((b m q lo hi : ℕ) → E b m q lo hi → Idle lo hi)
      → (b m q lo hi : ℕ) → marks.ComprehensionAt meant gs f n sc node site step Begin Bind T E b m q lo hi → Idle lo hi
  comprehension sc node site step Begin Bind T E begin bind t e b m q lo hi h =
      let g = h.16 in
      join (block h.1 (m + 1 + 2) (Go (first h.2 (m + 1 + 2))) h.14) (join (op sc h.3 node false (row.Advance step) ((m + 1) ∷ (m + 1 + 1) ∷ []) (m + 1 + 2) (first_and h.1 (m + 1 + 1) (m + 1 + 2)) h.15)
      (join (join (op sc g.1 node false row.AddItem (m ∷ (m + 1 + 2) ∷ []) (m + 1 + 2 + 1) (first h.3 (m + 1 + 2)) g.4) (join (e g.0 (m + 1 + 2) g.1 g.2 g.3 g.5) (t h.4 (m + 1 + 2) g.0 h.3 g.3 h.9 g.6)))
      (join (bind (m + 1 + 2) (m + 1 + 2 + 1) (m + 1 + 2) h.5 h.4 h.9 h.10 h.17) (join (meets sc node h.6 m q h.18) (join (one_turn sc node step (m + 1) h.5 (first h.6 (m + 1)) h.2 h.11 h.12 h.19)
      (join (begin h.0 (m + 1) h.1 h.12 h.13 h.20) (op sc b node false (row.Comprehension site) [] m (first_and h.0 m m) h.21)))))))

  mutual
    pub expr : (sc : Scope) (e : Expr) (b m q lo hi : ℕ) → marks.HasExpr meant gs f n sc e b m q lo hi → Idle lo hi
    expr sc (Local node i) b m q lo hi h = op sc b node true row.Copy (i ∷ []) m (first_and q m m) h.1
    expr sc (Constant node c v) b m q lo hi h = op sc b node true (row.Constant c) [] m (first_and q m m) h.1
    expr sc (Apply node value o es) b m q lo hi h = apply (marks.HasExprs meant gs f n sc es) (marks.HasNegated meant gs f n sc node es) sc node value o (by_ways o es) (count (plain_exprs es)) (exprs sc es) (negated sc node es) b m q lo hi h
    expr sc (And node l r) b m q lo hi h =
        join (meets sc node h.0 m q h.4) (join (expr sc r h.1 m h.0 h.2 h.3 h.5) (asks (marks.HasExpr meant gs f n sc l) (marks.HasSides meant gs f n sc l) sc node l (expr sc l) (sides sc l) b m (plainly h.1) (with_value h.0) h.3 hi h.6))
    expr sc (Or node l r) b m q lo hi h =
        join (meets sc node h.0 m q h.4) (join (expr sc r h.1 m h.0 h.2 h.3 h.5) (asks (marks.HasExpr meant gs f n sc l) (marks.HasSides meant gs f n sc l) sc node l (expr sc l) (sides sc l) b m (with_value h.0) (plainly h.1) h.3 hi h.6))
    expr sc (Display node site ps) b m q lo hi h = display sc node site (marks.HasPairs meant gs f n sc node ps) (pairs sc node ps) b m q lo hi h
    expr sc (Comprehension node site item target subject c) b m q lo hi h =
        comprehension sc node site (step_of (plain_subject subject)) (marks.HasSubject meant gs f n sc node subject) (marks.HasBind meant gs f n sc target []) (marks.HasCondition meant gs f n sc node c) (marks.HasExpr meant gs f n sc item) (walked sc node subject) (bind sc target []) (condition sc node c) (expr sc item) b m q lo hi h

    pub exprs : (sc : Scope) (es : Exprs) (b m q lo hi : ℕ) → marks.HasExprs meant gs f n sc es b m q lo hi → Idle lo hi
    exprs sc none b m q lo hi h = nothing h.1
    exprs sc (more e es) b m q lo hi h = join (exprs sc es h.0 (m + 1) q lo h.1 h.2) (expr sc e b m h.0 h.1 hi h.3)

    sides : (sc : Scope) (e : Expr) (b m c q lo hi : ℕ) → marks.HasSides meant gs f n sc e b m c q lo hi → Idle lo hi
    sides sc (Apply node value o es) b m c q lo hi h = sides_at (marks.HasExprs meant gs f n sc es) sc node value o (count (plain_exprs es)) (exprs sc es) b m c q lo hi h
    sides sc (Local node i) b m c q lo hi h = absurd h
    sides sc (Constant node k v) b m c q lo hi h = absurd h
    sides sc (And node l r) b m c q lo hi h = absurd h
    sides sc (Or node l r) b m c q lo hi h = absurd h
    sides sc (Display node site ps) b m c q lo hi h = absurd h
    sides sc (Comprehension node site item target subject d) b m c q lo hi h = absurd h

    pub test : (sc : Scope) (node : ℕ) (e : Expr) (b m one other lo hi : ℕ) → marks.HasTest meant gs f n sc node e b m one other lo hi → Idle lo hi
    test sc node (And inner l r) b m one other lo hi h = join (test sc inner r h.0 m one other lo h.1 h.2) (test sc inner l b m h.0 other h.1 hi h.3)
    test sc node (Or inner l r) b m one other lo hi h = join (test sc inner r h.0 m one other lo h.1 h.2) (test sc inner l b m one h.0 h.1 hi h.3)
    test sc node (Apply inner value o es) b m one other lo hi (inl h) =
        asks (marks.ApplyAt meant gs f n sc inner value o (by_ways o es) (count (plain_exprs es)) (marks.HasExprs meant gs f n sc es) (marks.HasNegated meant gs f n sc inner es)) (marks.SidesAt meant gs f n sc inner value o (count (plain_exprs es)) (marks.HasExprs meant gs f n sc es)) sc node (Apply inner value o es)
        (apply (marks.HasExprs meant gs f n sc es) (marks.HasNegated meant gs f n sc inner es) sc inner value o (by_ways o es) (count (plain_exprs es)) (exprs sc es) (negated sc inner es)) (sides_at (marks.HasExprs meant gs f n sc es) sc inner value o (count (plain_exprs es)) (exprs sc es)) b m (plainly one) (plainly other) lo hi h.1
    test sc node (Apply inner value o es) b m one other lo hi (inr h) = negated sc inner es b m other one lo hi h.2
    test sc node (Local inner i) b m one other lo hi h =
        asks (marks.LocalAt meant gs f n sc inner i) (λ b m c q lo hi. ⊥) sc node (Local inner i) (λ b m q lo hi k. op sc b inner true row.Copy (i ∷ []) m (first_and q m m) k.1) no_sides b m (plainly one) (plainly other) lo hi h
    test sc node (Constant inner c v) b m one other lo hi h =
        asks (marks.ConstantAt meant gs f n sc inner c v) (λ b m c q lo hi. ⊥) sc node (Constant inner c v) (λ b m q lo hi k. op sc b inner true (row.Constant c) [] m (first_and q m m) k.1) no_sides b m (plainly one) (plainly other) lo hi h
    test sc node (Display inner site ps) b m one other lo hi h =
        asks (marks.HasExpr meant gs f n sc (Display inner site ps)) (λ b m c q lo hi. ⊥) sc node (Display inner site ps) (display sc inner site (marks.HasPairs meant gs f n sc inner ps) (pairs sc inner ps)) no_sides b m (plainly one) (plainly other) lo hi h
    test sc node (Comprehension inner site item target subject c) b m one other lo hi h =
        asks (marks.HasExpr meant gs f n sc (Comprehension inner site item target subject c)) (λ b m c q lo hi. ⊥) sc node (Comprehension inner site item target subject c) (λ b m q lo hi k. comprehension sc inner site (step_of (plain_subject subject)) (marks.HasSubject meant gs f n sc inner subject) (marks.HasBind meant gs f n sc target []) (marks.HasCondition meant gs f n sc inner c) (marks.HasExpr meant gs f n sc item) (walked sc inner subject) (bind sc target []) (condition sc inner c) (expr sc item) b m q lo hi k) no_sides b m (plainly one) (plainly other) lo hi h

    negated : (sc : Scope) (node : ℕ) (es : Exprs) (b m one other lo hi : ℕ) → marks.HasNegated meant gs f n sc node es b m one other lo hi → Idle lo hi
    negated sc node none b m one other lo hi h = absurd h
    negated sc node (more e none) b m one other lo hi h = test sc node e b m one other lo hi h
    negated sc node (more e (more l es)) b m one other lo hi h = absurd h

    pub pairs : (sc : Scope) (node : ℕ) (ps : Pairs) (b m q lo hi : ℕ) → marks.HasPairs meant gs f n sc node ps b m q lo hi → Idle lo hi
    pairs sc node no_pairs b m q lo hi h = nothing h.1
    pairs sc node (pair key e rest) b m q lo hi h =
        join (pairs sc node rest h.2 m q lo h.3 h.6) (join (op sc h.1 node false row.StoreIndex (m ∷ (m + 1) ∷ (m + 2) ∷ []) (m + 3) (first h.2 (m + 1)) h.7) (join (expr sc e h.0 (m + 1 + 1) h.1 h.4 h.5 h.8) (expr sc key b (m + 1) h.0 h.5 hi h.9)))

    pub walked : (sc : Scope) (node : ℕ) (subject : Subject) (b m q lo hi : ℕ) → marks.HasSubject meant gs f n sc node subject b m q lo hi → Idle lo hi
    walked sc node (Over site e) b m q lo hi h = join (op sc h.1 node false (row.Word (pos 0)) [] (m + 1) (first_and q (m + 1) (m + 1)) h.4) (join (op sc h.0 node false (row.Walk site) (m ∷ []) (m + 1) (first_and h.1 m (m + 1)) h.5) (expr sc e b m h.0 h.3 hi h.6))
    walked sc node (UpTo e) b m q lo hi h = join (op sc h.0 node false (row.Word (pos 0)) [] (m + 1) (first_and q (m + 1) (m + 1)) h.2) (expr sc e b m h.0 h.1 hi h.3)
    walked sc node (FromTo l r step) b m q lo hi h = join (block h.1 (m + 2) (Go (record { to = q; places = (range 0 m ++ (m + 1) ∷ []) ++ m ∷ [] })) h.4) (join (expr sc r h.0 (m + 1) h.1 h.2 h.3 h.5) (expr sc l b m h.0 h.3 hi h.6))

    pub condition : (sc : Scope) (node : ℕ) (c : Condition) (b m one other lo hi : ℕ) → marks.HasCondition meant gs f n sc node c b m one other lo hi → Idle lo hi
    condition sc node Always b m one other lo hi h = nothing h.1
    condition sc node (Where e) b m one other lo hi h = test sc node e b m one other lo hi h

    pub bind : (sc : Scope) (t : Target) (path : Path) (at m keep b q lo hi : ℕ) → marks.HasBind meant gs f n sc t path at m keep b q lo hi → Idle lo hi
    bind sc (Name node i) path at m keep b q lo hi h = join (op sc h.0 node true row.Copy (h.1 ∷ []) h.2 (stored q keep i h.2) h.5) (taken sc path at b m h.0 h.1 h.2 h.3 hi h.6)
    bind sc (Attribute node e name) path at m keep b q lo hi h =
        join (op sc h.2 node true (row.StoreAttr name) (m ∷ h.3 ∷ []) h.4 (first q keep) h.8) (join (taken sc path at h.1 (m + 1) h.2 h.3 h.4 h.5 h.6 h.9) (join (expr sc e h.0 m h.1 h.6 h.7 h.10) (there sc path at b m h.0 h.7 hi h.11)))
    bind sc (Item node l r) path at m keep b q lo hi h =
        join (op sc h.3 node true row.StoreIndex (m ∷ (m + 1) ∷ h.4 ∷ []) h.5 (first q keep) h.10) (join (taken sc path at h.2 (m + 2) h.3 h.4 h.5 h.6 h.7 h.11) (join (expr sc r h.1 (m + 1) h.2 h.7 h.8 h.12) (join (expr sc l h.0 m h.1 h.8 h.9 h.13) (there sc path at b m h.0 h.9 hi h.14))))
    bind sc (Parts node parts) path at m keep b q lo hi h =
        join (block h.2 m (Go (first q keep)) h.8) (join (items sc node parts (target_count (plain_targets parts)) 0 path at h.1 m h.2 h.5 h.6 h.9) (join (op sc h.0 node true row.Copy (h.3 ∷ []) h.4 (first h.1 m) h.10) (taken sc path at b m h.0 h.3 h.4 h.7 hi h.11)))

    pub items : (sc : Scope) (node : ℕ) (ts : Targets) (c i : ℕ) (path : Path) (at b m q lo hi : ℕ) → marks.HasItems meant gs f n sc node ts c i path at b m q lo hi → Idle lo hi
    items sc node no_targets c i path at b m q lo hi h = nothing h.1
    items sc node (more_targets t ts) c i path at b m q lo hi h =
        join (items sc node ts c (suc i) path at h.0 m q lo h.1 h.2) (bind sc t (path ++ record { node = node; count = c; place = i } ∷ []) at m m b h.0 h.1 hi h.3)

  -- ---- statements

  pub mark : (sc : Scope) (tried : Bool) (node b m q lo hi : ℕ) → marks.MarkIf meant gs f n tried sc node b m q lo hi → Idle lo hi
  mark sc true node b m q lo hi h = op sc b node false row.None [] m (first q m) h
  mark sc false node b m q lo hi h = nothing h.1

  pub targets : (sc : Scope) (ts : Targets) (b m q lo hi : ℕ) → marks.HasTargets meant gs f n sc ts b m q lo hi → Idle lo hi
  targets sc no_targets b m q lo hi h = block b (m + 1) (Go (first q m)) h
  targets sc (more_targets t no_targets) b m q lo hi h = bind sc t [] m (m + 1) m b q lo hi h
  targets sc (more_targets t (more_targets u ts)) b m q lo hi h = join (targets sc (more_targets u ts) h.0 m q lo h.1 h.2) (bind sc t [] m (m + 1) (m + 1) b h.0 h.1 hi h.3)

  augment : (sc : Scope) (node : ℕ) (t : Target) (o : RowOp) (e : Expr) (b m q lo hi : ℕ) → marks.HasAugment meant gs f n sc node t o e b m q lo hi → Idle lo hi
  augment sc node (Name at i) o e b m q lo hi h =
      join (op sc h.2 at true row.Copy (m ∷ []) (m + 1) (stored q m i (m + 1)) h.7) (join (op sc h.1 node false o (m ∷ (m + 1) ∷ []) (m + 2) (first_and h.2 m (m + 2)) h.8) (join (expr sc e h.0 (m + 1) h.1 h.4 h.5 h.9) (op sc b at false row.Copy (i ∷ []) m (first_and h.0 m m) h.10)))
  augment sc node (Attribute at l name) o e b m q lo hi h =
      join (op sc h.3 at true (row.StoreAttr name) (m ∷ (m + 1) ∷ []) (m + 2) (first q m) h.8) (join (op sc h.2 node false o ((m + 1) ∷ (m + 1 + 1) ∷ []) (m + 1 + 2) (first_and h.3 (m + 1) (m + 1 + 2)) h.9) (join (expr sc e h.1 (m + 1 + 1) h.2 h.5 h.6 h.10) (join (op sc h.0 at false (row.Attr name) (m ∷ []) (m + 1) (first_and h.1 (m + 1) (m + 1)) h.11) (expr sc l b m h.0 h.7 hi h.12))))
  augment sc node (Item at l i) o e b m q lo hi h =
      join (op sc h.4 at true row.StoreIndex (m ∷ (m + 1) ∷ (m + 2) ∷ []) (m + 3) (first q m) h.10) (join (op sc h.3 node false o ((m + 2) ∷ (m + 2 + 1) ∷ []) (m + 2 + 2) (first_and h.4 (m + 2) (m + 2 + 2)) h.11) (join (expr sc e h.2 (m + 2 + 1) h.3 h.6 h.7 h.12) (join (op sc h.1 at false (row.Index None) (m ∷ (m + 1) ∷ []) (m + 2) (first_and h.2 (m + 2) (m + 2)) h.13) (join (expr sc i h.0 (m + 1) h.1 h.8 h.9 h.14) (expr sc l b m h.0 h.9 hi h.15)))))
  augment sc node (Parts at parts) o e b m q lo hi h = op sc b at true row.Copy [] m (first q m) h

  pub gives_back : (sc : Scope) (node k m : ℕ) (ret : Aim) (lo hi : ℕ) → marks.GivesBack meant gs f n sc node k m ret lo hi → Idle lo hi
  gives_back sc node k m ret lo hi (inl h) = block k (m + 1) (Go (first_and ret.to ret.keep m)) h.1
  gives_back sc node k m ret lo hi (inr h) = idle_marked p sites a f n gs classes meant k (m + 1) node false (Does row.Copy (m ∷ []) sc.covers [] (first_and return_block 0 m) (first_and ret.to ret.keep m)) h

  mutual
    pub stmt : (sc : Scope) (s : Stmt) (b m : ℕ) (t : Ways) (lo hi : ℕ) → marks.HasStmt meant gs f n sc s b m t lo hi → Idle lo hi
    stmt sc (Pass node) b m t lo hi h = nothing h.1
    stmt sc (Break node) b m t lo hi h = block b m (Go (on_to t.brk)) h
    stmt sc (Continue node) b m t lo hi h = block b m (Go (on_to t.cont)) h
    stmt sc (Return node e) b m t lo hi h = join (gives_back sc node h.0 m t.ret lo h.1 h.2) (expr sc e b m h.0 h.1 hi h.3)
    stmt sc (Do node e) b m t lo hi h = join (block h.0 (m + 1) (Go (first t.norm m)) h.2) (expr sc e b m h.0 h.1 hi h.3)
    stmt sc (Assign node ts e) b m t lo hi h = join (targets sc ts h.0 m t.norm lo h.1 h.2) (expr sc e b m h.0 h.1 hi h.3)
    stmt sc (Augment node target o e) b m t lo hi h = augment sc node target o e b m t.norm lo hi h
    stmt sc (If node e one other) b m t lo hi h = join (lines sc other h.1 m t lo h.2 h.4) (join (lines sc one h.0 m t h.2 h.3 h.5) (test sc node e b m h.0 h.1 h.3 hi h.6))
    stmt sc (While node e body) b m t lo hi h =
        join (block b m (Go (first h.0 m)) h.6) (join (lines sc body h.2 m (within meant gs f n t (record { to = b; keep = m }) (record { to = t.norm; keep = m })) h.3 h.4 h.7)
        (join (op sc h.1 node false row.Turn [] m (first h.2 m) h.8) (test sc node e h.0 m h.1 t.norm h.5 hi h.9)))
    stmt sc (For node target subject body) b m t lo hi h =
        join (block h.0 (m + 2) (Go (first h.1 (m + 2))) h.10) (join (op sc h.2 node false (row.Advance (step_of (plain_subject subject))) (m ∷ (m + 1) ∷ []) (m + 2) (first_and h.0 (m + 1) (m + 2)) h.11)
        (join (lines sc body h.3 (m + 2) (within meant gs f n t (record { to = h.2; keep = m + 2 }) (record { to = t.norm; keep = m })) h.6 h.7 h.12)
        (join (bind sc target [] (m + 2) (m + 2 + 1) (m + 2) h.4 h.3 h.7 h.8 h.13) (join (one_turn sc node (step_of (plain_subject subject)) m h.4 (first t.norm m) h.1 h.8 h.9 h.14) (walked sc node subject b m h.0 h.9 hi h.15)))))
    stmt sc (Try node body cs other) b m t lo hi h =
        join (lines sc other h.0 m t lo h.1 h.5) (join (clauses sc cs m t h.3 h.4 h.1 h.2 h.6)
        (lines (record { hands = h.3; default = h.4; covers = covers_within meant.classes (plain_clauses cs) sc.covers; tried = true }) body b m (onto t h.0) h.2 hi h.7))
    stmt sc (Finally node body last) b m t lo hi h =
        join (lines sc last h.0 m t lo h.9 h.18)
        (join (block h.5 m (Go (on_to t.brk)) h.19) (join (lines sc last h.1 m (onto t h.5) h.10 h.11 h.20)
        (join (block h.6 m (Go (on_to t.cont)) h.21) (join (lines sc last h.2 m (onto t h.6) h.12 h.13 h.22)
        (join (block h.7 (m + 1) (Go (first_and t.ret.to t.ret.keep m)) h.23) (join (lines sc last h.3 (m + 1) (onto t h.7) h.14 h.15 h.24)
        (join (op sc h.8 node false row.Raise (m ∷ []) (m + 1) (first never_block 0) h.25) (join (lines sc last h.4 (m + 1) (onto t h.8) h.16 h.17 h.26)
        (lines (record { hands = []; default = record { to = h.4; keep = m }; covers = sc.covers; tried = true }) body b m
        (record { norm = h.0; brk = record { to = h.1; keep = m }; cont = record { to = h.2; keep = m }; ret = record { to = h.3; keep = m } }) h.17 hi h.27)))))))))

    pub lines : (sc : Scope) (s : Block) (b m : ℕ) (t : Ways) (lo hi : ℕ) → marks.HasBlock meant gs f n sc s b m t lo hi → Idle lo hi
    lines sc done b m t lo hi h = nothing h.1
    lines sc (line s rest) b m t lo hi h =
        join (lines sc rest h.2 m t lo h.3 h.6) (join (mark sc sc.tried (node_of s) h.1 m h.2 h.3 h.4 h.7) (join (stmt sc s h.0 m (onto t h.1) h.4 h.5 h.8) (mark sc sc.tried (node_of s) b m h.0 h.5 hi h.9)))

    pub clauses : (sc : Scope) (cs : Clauses) (m : ℕ) (t : Ways) (hands : List Hand) (default : Aim) (lo hi : ℕ) → marks.HasClauses meant gs f n sc cs m t hands default lo hi → Idle lo hi
    clauses sc no_clauses m t hands default lo hi h = nothing h.2
    clauses sc (clause None local body rest) m t hands default lo hi h = join (lines sc body h.0 m t lo h.2 h.6) (block h.1 (m + 1) (Go (first h.0 m)) h.7)
    clauses sc (clause (Some classes) local body rest) m t hands default lo hi h = join (lines sc body h.0 m t lo h.1 h.5) (clauses sc rest m t h.2 default h.1 hi h.6)
