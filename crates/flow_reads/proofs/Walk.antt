-- The blocks of each part of a tree read their own variables alone.
use Rattle.std.proofs.Common.{◌≡◌, ℕ, ℤ, suc, ◌+◌, ◌<◌, ◌≤◌, inl, inr, Bool, true, false, List, [], ◌∷◌, ◌++◌, Option, Some, None, pos, sym, subst, arith}
use Rattle.rpy_meaning.specs.declared.row.RowOp.{RowOp}
use Rattle.rpy_meaning.specs.declared.row.RowOp.TheVariants as row
use Rattle.rpy_meaning.specs.Tree as meaning
use Rattle.rpy_meaning.specs.Meaning.{target_count}
use Rattle.rpy_meaning.specs.Classes.{covers_within}
use Rattle.flow_graph.specs.declared.graph.Graphs.{Graphs}
use Rattle.flow_stands.specs.Places.{range, stored, Aim, Hand, Scope, Ways, Jump, Shape as Form, Go, Fork, Does, hand_jumps, first, first_and, on_to, onto}
use Rattle.flow_stands.specs.Stands.{Branch, plainly, with_value, count, step_of, onward, return_block, never_block, within}
use Rattle.flow_trees.specs.Tree.{Expr, Local, Constant, Apply, And, Or, Display, Comprehension, Exprs, none, more, Pairs, no_pairs, pair, Subject, Over, UpTo, FromTo, Condition, Always, Where, Target, Name, Attribute, Item, Parts, Targets, no_targets, more_targets, Stmt, Pass, Break, Continue, Return, Do, Assign, Augment, If, While, For, Try, Finally, Block, done, line, Clauses, no_clauses, clause, plain_exprs, plain_subject, plain_targets, plain_clauses, node_of}
use Rattle.flow_trees.specs.Tells.{Telling, tells, by_ways}
use Rattle.flow_trees.specs.Marks as marks
use Rattle.flow_trees.specs.Marks.{Place, Choice, Path}
use Rattle.flow_reads.proofs.Below.{Below, some_below, first_below, and_below, and_two_below, stored_below, HandsKeep, hands_below, hands_later, hands_before}
use Rattle.flow_reads.proofs.Shapes.{Fits}
use Rattle.flow_reads.proofs.Ranges as ranges

module _ (p : meaning.Program) (gs : Graphs) (f n : ℕ) where
  abbrev Own : ℕ → ℕ → Type 0
  Own lo hi = ranges.AllOwn gs f lo hi

  abbrev join : {lo mid hi : ℕ} → Own lo mid → Own mid hi → Own lo hi
  join x y = ranges.join gs f x y

  abbrev nothing : {lo hi : ℕ} → lo ≡ hi → Own lo hi
  nothing e = ranges.nothing gs f e

  -- with m variables: the locals are there, and what goes on with exceptions
  pub record Ready (sc : Scope) (m : ℕ) : Type 0 where
    pub locals : n ≤ m
    pub default : sc.default.keep ≤ m
    pub hands : HandsKeep m sc.hands

  later : (sc : Scope) (m k : ℕ) → m ≤ k → Ready sc m → Ready sc k
  later sc m k le r = record { locals = omega (arith, le, r.locals); default = omega (arith, le, r.default); hands = hands_later m k sc.hands le r.hands }

  and_one : (sc : Scope) (m : ℕ) → Ready sc m → Ready sc (m + 1)
  and_one sc m r = later sc m (m + 1) (omega arith) r

  and_two : (sc : Scope) (m : ℕ) → Ready sc m → Ready sc (m + 2)
  and_two sc m r = later sc m (m + 2) (omega arith) r

  and_three : (sc : Scope) (m : ℕ) → Ready sc m → Ready sc (m + 3)
  and_three sc m r = later sc m (m + 3) (omega arith) r

  abbrev pub Keeps : ℕ → Ways → Type 0
  Keeps m t = (t.brk.keep ≤ m) × (t.cont.keep ≤ m) × (t.ret.keep ≤ m)

  op : (sc : Scope) (b node : ℕ) (value : Bool) (o : RowOp) (args : List ℕ) (m : ℕ) (norm : Jump) {lo hi : ℕ} → Ready sc m → Below (m + 1) args → Below (m + 1) norm.places → marks.Acts p gs f n sc b node value o args m norm lo hi → Own lo hi
  op sc b node value o args m norm r operands onward h =
      ranges.one gs f b h.0.0 m node value (Does o args sc.covers (hand_jumps m sc.hands) (first_and sc.default.to sc.default.keep m) norm)
      (operands, hands_below m sc.hands r.hands, and_below sc.default.keep m (m + 1) (omega (arith, r.default)) (omega arith), onward) h.0.1 h.1

  pub marked : (b m node : ℕ) (value : Bool) (form : Form) {lo hi : ℕ} → Fits m form → marks.Marked p gs f n b m node value form lo hi → Own lo hi
  marked b m node value form fits h = ranges.one gs f b h.0.0 m node value form fits h.0.1 h.1

  pub block : (b m : ℕ) (form : Form) {lo hi : ℕ} → Fits m form → marks.Is p gs f n b m form lo hi → Own lo hi
  block b m form fits h = ranges.one gs f b h.0.0 m h.0.1 h.0.2 form fits h.0.3 h.1

  -- ---- the operands of operations

  at_last : (m : ℕ) → Below (m + 1) (m ∷ [])
  at_last m = (omega arith, tt)

  last_two : (m : ℕ) → Below (m + 2 + 1) (m ∷ (m + 1) ∷ [])
  last_two m = (omega arith, (omega arith, tt))

  last_three : (m : ℕ) → Below (m + 3 + 1) (m ∷ (m + 1) ∷ (m + 2) ∷ [])
  last_three m = (omega arith, (omega arith, (omega arith, tt)))

  -- ---- tests

  beside_below : (beside : Option ℕ) (m value : ℕ) → marks.IsBefore p gs f n beside m value → Below (value + 1 + 1) (marks.beside_place beside m)
  beside_below None m value h = tt
  beside_below (Some place) m value h = (omega (arith, h), tt)

  way_on : (sc : Scope) (node : ℕ) (told : Option Telling) (m value : ℕ) (wants : Bool) (to : ℕ) (jump : Jump) (lo hi : ℕ) → Ready sc m → m ≤ value → marks.WayOn p gs f n sc node told m value wants to jump lo hi → Below (value + 1 + 1) jump.places × Own lo hi
  way_on sc node told m value true to jump lo hi r le h =
      (subst (λ (j : Jump). Below (value + 1 + 1) j.places) (sym h.0) (and_below m value (value + 1 + 1) (omega (arith, le)) (omega arith)), nothing h.1)
  way_on sc node None m value false to jump lo hi r le h = (subst (λ (j : Jump). Below (value + 1 + 1) j.places) (sym h.0) (first_below m (value + 1 + 1) (omega (arith, le))), nothing h.1)
  way_on sc node (Some t) m value false to jump lo hi r le h = (
    subst (λ (j : Jump). Below (value + 1 + 1) j.places) (sym h.4) (first_below (value + 1) (value + 1 + 1) (omega arith)),
    op sc h.0 node false t.op (marks.operands t m) (value + 1) (stored to m t.local (value + 1)) (later sc m (value + 1) (omega (arith, le)) r) (omega (arith, le, r.locals, h.1), beside_below t.beside m value h.2)
        (stored_below m t.local (value + 1) (value + 1 + 1) (omega (arith, le)) (omega arith)) h.3,
  )

  truth : (sc : Scope) (node : ℕ) (e : Expr) (b m value : ℕ) (one other : Branch) (lo hi : ℕ) → Ready sc m → m ≤ value → marks.Truth p gs f n sc node e b m value one other lo hi → Own lo hi
  truth sc node e b m value one other lo hi r le h =
      let so_way = way_on sc node (tells e true) m value one.value one.to h.1 lo h.3 r le h.6 in
      let other_way = way_on sc node (tells e false) m value other.value other.to h.2 h.3 h.4 r le h.7 in
      join so_way.1 (join other_way.1 (join (block h.0 (value + 1 + 1) (Fork (value + 1) h.1 h.2) (omega arith, so_way.0, other_way.0) h.8)
      (op sc b node false row.Truth (value ∷ []) (value + 1) (first_and h.0 (value + 1) (value + 1)) (later sc m (value + 1) (omega (arith, le)) r) (omega arith, tt) (and_below (value + 1) (value + 1) (value + 1 + 1) (omega arith) (omega arith)) h.9)))

  asks : (E : Place) (Sides : Choice) (sc : Scope) (node : ℕ) (e : Expr) → ((b m q lo hi : ℕ) → Ready sc m → E b m q lo hi → Own lo hi) → ((b m c q lo hi : ℕ) → Ready sc m → Sides b m c q lo hi → Own lo hi)
      → (b m : ℕ) (one other : Branch) (lo hi : ℕ) → Ready sc m → marks.Asks p gs f n sc node e E Sides b m one other lo hi → Own lo hi
  asks E Sides sc node e x y b m one other lo hi r (inl h) = join (truth sc node e h.0 m m one other lo h.1 r (omega arith) h.3) (x b m h.0 h.1 hi r h.4)
  asks E Sides sc node e x y b m one other lo hi r (inr h) = join (truth sc node e h.0 m (m + h.1) one other lo h.2 r (omega arith) h.3) (y b m h.1 h.0 h.2 hi r h.4)

  no_sides : (sc : Scope) (b m c q lo hi : ℕ) → Ready sc m → ⊥ → Own lo hi
  no_sides sc b m c q lo hi r h = absurd h

  -- ---- items of tuples

  unpacks : (sc : Scope) (last : ℕ → Jump) (m : ℕ) → ((w : ℕ) → m ≤ w → Below (w + 1) (last w).places) → (path : Path) (at w b lo hi : ℕ) → Ready sc m → m ≤ w → at < w → marks.Unpacks p gs f n sc last m path at w b lo hi → Own lo hi
  unpacks sc last m below [] at w b lo hi r le lt h = absurd h
  unpacks sc last m below (part ∷ []) at w b lo hi r le lt h = op sc b part.node false (row.Unpack part.count part.place) (at ∷ []) w (last w) (later sc m w le r) (omega (arith, lt), tt) (below w le) h
  unpacks sc last m below (part ∷ next ∷ path) at w b lo hi r le lt h =
      join (unpacks sc last m below (next ∷ path) m (m + 1) h.0 lo h.1 r (omega arith) (omega arith) h.2)
      (op sc b part.node false (row.Unpack part.count part.place) (at ∷ []) w (first_and h.0 m w) (later sc m w le r) (omega (arith, lt), tt) (and_below m w (w + 1) (omega (arith, le)) (omega arith)) h.3)

  there : (sc : Scope) (path : Path) (at b m q lo hi : ℕ) → Ready sc m → at < m → marks.There p gs f n sc path at b m q lo hi → Own lo hi
  there sc [] at b m q lo hi r lt h = nothing h.1
  there sc (part ∷ path) at b m q lo hi r lt h = unpacks sc (λ w. first q m) m (λ w le. first_below m (w + 1) (omega (arith, le))) (part ∷ path) at m b lo hi r (omega arith) lt h

  taken : (sc : Scope) (path : Path) (at b m q v w lo hi : ℕ) → Ready sc m → at < m → marks.Taken p gs f n sc path at b m q v w lo hi → Own lo hi
  taken sc [] at b m q v w lo hi r lt h = nothing h.2.1
  taken sc (part ∷ path) at b m q v w lo hi r lt h = unpacks sc (first_and q m) m (λ w le. and_below m w (w + 1) (omega (arith, le)) (omega arith)) (part ∷ path) at m b lo hi r (omega arith) lt h.2

  -- the item is there, and no variable is gone
  taken_there : (sc : Scope) (path : Path) (at b m q v w lo hi : ℕ) → at < m → marks.Taken p gs f n sc path at b m q v w lo hi → (v < w) × (m ≤ w)
  taken_there sc [] at b m q v w lo hi lt h = (omega (arith, lt, h.0, h.1), omega (arith, h.1))
  taken_there sc (part ∷ path) at b m q v w lo hi lt h = (omega (arith, h.0, h.1), omega (arith, h.1))

  -- ---- expressions

  meets : (sc : Scope) (node b m q : ℕ) {lo hi : ℕ} → Ready sc m → marks.Meets p gs f n sc node b m q lo hi → Own lo hi
  meets sc node b m q r h = op sc b node true row.Copy (m ∷ []) (m + 1) (first_and q m (m + 1)) (and_one sc m r) (omega arith, tt) (and_below m (m + 1) (m + 1 + 1) (omega arith) (omega arith)) h

  -- the value of an operation goes on behind the variables
  and_itself : (m : ℕ) → Below (m + 1) (range 0 m ++ m ∷ [])
  and_itself m = and_below m m (m + 1) (omega arith) (omega arith)

  not_at : (T : Choice) (sc : Scope) (node : ℕ) → ((b m so_way other lo hi : ℕ) → Ready sc m → T b m so_way other lo hi → Own lo hi) → (b m q lo hi : ℕ) → Ready sc m → marks.NotAt p gs f n sc node T b m q lo hi → Own lo hi
  not_at T sc node t b m q lo hi r h =
      join (meets sc node h.0 m q r h.6) (join (op sc h.2 node false (row.Bool true) [] m (first_and h.0 m m) r tt (and_itself m) h.7) (join (op sc h.1 node false (row.Bool false) [] m (first_and h.0 m m) r tt (and_itself m) h.8) (t b m h.1 h.2 h.5 hi r h.9)))

  onward_below : (o : RowOp) (q m c : ℕ) → Below (m + c + 1) (onward o q m (m + c)).places
  onward_below row.Raise q m c = tt
  onward_below o q m c = and_below m (m + c) (m + c + 1) (omega arith) (omega arith)

  apply : (Es : Place) (T : Choice) (sc : Scope) (node : ℕ) (value : Bool) (o : RowOp) (ways : Bool) (c : ℕ) → ((b m q lo hi : ℕ) → Ready sc m → Es b m q lo hi → Own lo hi) → ((b m so_way other lo hi : ℕ) → Ready sc m → T b m so_way other lo hi → Own lo hi)
      → (b m q lo hi : ℕ) → Ready sc m → marks.ApplyAt p gs f n sc node value o ways c Es T b m q lo hi → Own lo hi
  apply Es T sc node value o ways c x t b m q lo hi r (inl h) =
      join (op sc h.1.0 node value o (range m c) (m + c) (onward o q m (m + c)) (later sc m (m + c) (omega arith) r) (some_below m c (m + c + 1) (omega arith)) (onward_below o q m c) h.1.2) (x b m h.1.0 h.1.1 hi r h.1.3)
  apply Es T sc node value o ways c x t b m q lo hi r (inr h) = not_at T sc node t b m q lo hi r h.2

  sides_at : (Es : Place) (sc : Scope) (node : ℕ) (value : Bool) (o : RowOp) (k : ℕ) → ((b m q lo hi : ℕ) → Ready sc m → Es b m q lo hi → Own lo hi) → (b m c q lo hi : ℕ) → Ready sc m → marks.SidesAt p gs f n sc node value o k Es b m c q lo hi → Own lo hi
  sides_at Es sc node value o k x b m c q lo hi r h =
      join (op sc h.1.0 node value o (range m c) (m + c) (first_and q (m + c) (m + c)) (later sc m (m + c) (omega arith) r) (some_below m c (m + c + 1) (omega arith)) (and_itself (m + c)) h.1.3) (x b m h.1.0 h.1.1 hi r h.1.4)

  advance_at : (sc : Scope) (node : ℕ) (step : Option ℤ) (over head advance lo hi : ℕ) → Ready sc over → marks.AdvanceAt p gs f n sc node step over head advance lo hi → Own lo hi
  advance_at sc node step over head advance lo hi r h =
      op sc advance node false (row.Advance step) (over ∷ (over + 1) ∷ []) (over + 2) (first_and head (over + 1) (over + 2)) (and_two sc over r) (last_two over) (and_below (over + 1) (over + 2) (over + 2 + 1) (omega arith) (omega arith)) h

  head_at : (over head begin lo hi : ℕ) → marks.HeadAt p gs f n over head begin lo hi → Own lo hi
  head_at over head begin lo hi h = block head (over + 2) (Go (first begin (over + 2))) (first_below (over + 2) (over + 2) (omega arith)) h

  one_turn : (sc : Scope) (node : ℕ) (step : Option ℤ) (over turn : ℕ) (after : Jump) (begin lo hi : ℕ) → Ready sc over → Below (over + 2 + 1) after.places → marks.TurnAt p gs f n sc node step over turn after begin lo hi → Own lo hi
  one_turn sc node step over turn after begin lo hi r below h =
      let two = and_two sc over r in
      join (op sc h.2 node false (row.Item step) (over ∷ (over + 1) ∷ []) (over + 2) (first_and turn (over + 2) (over + 2)) two (last_two over) (and_itself (over + 2)) h.6)
      (join (op sc h.1 node false row.Turn [] (over + 2) (first h.2 (over + 2)) two tt (first_below (over + 2) (over + 2 + 1) (omega arith)) h.7)
      (join (block h.0 (over + 2 + 1) (Fork (over + 2) (first h.1 (over + 2)) after) (omega arith, first_below (over + 2) (over + 2 + 1) (omega arith), below) h.8)
      (op sc begin node false (row.HasItem step) (over ∷ (over + 1) ∷ []) (over + 2) (first_and h.0 (over + 2) (over + 2)) two (last_two over) (and_itself (over + 2)) h.9)))

  display : (sc : Scope) (node site : ℕ) (Stores : Place) → ((b m q lo hi : ℕ) → Ready sc m → Stores b m q lo hi → Own lo hi) → (b m q lo hi : ℕ) → Ready sc m → marks.DisplayAt p gs f n sc node site Stores b m q lo hi → Own lo hi
  display sc node site Stores x b m q lo hi r h = join (meets sc node h.1 m q r h.4) (join (x h.0 m h.1 h.2 h.3 r h.5) (op sc b node false (row.Dict site) [] m (first_and h.0 m m) r tt (and_itself m) h.6))

  comprehension : (sc : Scope) (node site : ℕ) (step : Option ℤ) (Begin : Place) (Bind : ℕ → ℕ → ℕ → ℕ → ℕ → ℕ → ℕ → Type 0) (T : Choice) (E : Place)
      → ((b m q lo hi : ℕ) → Ready sc m → Begin b m q lo hi → Own lo hi) → ((v m keep b q lo hi : ℕ) → Ready sc m → v < m → keep ≤ m → Bind v m keep b q lo hi → Own lo hi)
      → ((b m one other lo hi : ℕ) → Ready sc m → T b m one other lo hi → Own lo hi) → ((b m q lo hi : ℕ) → Ready sc m → E b m q lo hi → Own lo hi)
      → (b m q lo hi : ℕ) → Ready sc m → marks.ComprehensionAt p gs f n sc node site step Begin Bind T E b m q lo hi → Own lo hi
  comprehension sc node site step Begin Bind T E begin bind t e b m q lo hi r h =
      let g = h.16 in
      let one = and_one sc m r in
      let three = and_two sc (m + 1) one in
      let four = and_one sc (m + 1 + 2) three in
      join (head_at (m + 1) h.1 h.2 lo h.7 h.14) (join (advance_at sc node step (m + 1) h.1 h.3 h.7 h.8 one h.15)
      (join (join (op sc g.1 node false row.AddItem (m ∷ (m + 1 + 2) ∷ []) (m + 1 + 2 + 1) (first h.3 (m + 1 + 2)) four (omega arith, (omega arith, tt)) (first_below (m + 1 + 2) (m + 1 + 2 + 1 + 1) (omega arith)) g.4)
      (join (e g.0 (m + 1 + 2) g.1 g.2 g.3 three g.5) (t h.4 (m + 1 + 2) g.0 h.3 g.3 h.9 three g.6)))
      (join (bind (m + 1 + 2) (m + 1 + 2 + 1) (m + 1 + 2) h.5 h.4 h.9 h.10 four (omega arith) (omega arith) h.17) (join (meets sc node h.6 m q r h.18)
      (join (one_turn sc node step (m + 1) h.5 (first h.6 (m + 1)) h.2 h.11 h.12 one (first_below (m + 1) (m + 1 + 2 + 1) (omega arith)) h.19)
      (join (begin h.0 (m + 1) h.1 h.12 h.13 one h.20) (op sc b node false (row.Comprehension site) [] m (first_and h.0 m m) r tt (and_itself m) h.21)))))))

  local_at : (sc : Scope) (node i b m q lo hi : ℕ) → Ready sc m → marks.LocalAt p gs f n sc node i b m q lo hi → Own lo hi
  local_at sc node i b m q lo hi r h = op sc b node true row.Copy (i ∷ []) m (first_and q m m) r (omega (arith, r.locals, h.0), tt) (and_itself m) h.1

  mutual
    expr : (sc : Scope) (e : Expr) (b m q lo hi : ℕ) → Ready sc m → marks.HasExpr p gs f n sc e b m q lo hi → Own lo hi
    expr sc (Local node i) b m q lo hi r h = local_at sc node i b m q lo hi r h
    expr sc (Constant node c v) b m q lo hi r h = op sc b node true (row.Constant c) [] m (first_and q m m) r tt (and_itself m) h.1
    expr sc (Apply node value o es) b m q lo hi r h = apply (marks.HasExprs p gs f n sc es) (marks.HasNegated p gs f n sc node es) sc node value o (by_ways o es) (count (plain_exprs es)) (exprs sc es) (negated sc node es) b m q lo hi r h
    expr sc (And node x y) b m q lo hi r h =
        join (meets sc node h.0 m q r h.4) (join (expr sc y h.1 m h.0 h.2 h.3 r h.5) (asks (marks.HasExpr p gs f n sc x) (marks.HasSides p gs f n sc x) sc node x (expr sc x) (sides sc x) b m (plainly h.1) (with_value h.0) h.3 hi r h.6))
    expr sc (Or node x y) b m q lo hi r h =
        join (meets sc node h.0 m q r h.4) (join (expr sc y h.1 m h.0 h.2 h.3 r h.5) (asks (marks.HasExpr p gs f n sc x) (marks.HasSides p gs f n sc x) sc node x (expr sc x) (sides sc x) b m (with_value h.0) (plainly h.1) h.3 hi r h.6))
    expr sc (Display node site ps) b m q lo hi r h = display sc node site (marks.HasPairs p gs f n sc node ps) (pairs sc node ps) b m q lo hi r h
    expr sc (Comprehension node site item target subject c) b m q lo hi r h =
        comprehension sc node site (step_of (plain_subject subject)) (marks.HasSubject p gs f n sc node subject) (marks.HasBind p gs f n sc target []) (marks.HasCondition p gs f n sc node c) (marks.HasExpr p gs f n sc item) (walked sc node subject) (bind sc target []) (condition sc node c) (expr sc item) b m q lo hi r h

    exprs : (sc : Scope) (es : Exprs) (b m q lo hi : ℕ) → Ready sc m → marks.HasExprs p gs f n sc es b m q lo hi → Own lo hi
    exprs sc none b m q lo hi r h = nothing h.1
    exprs sc (more e es) b m q lo hi r h = join (exprs sc es h.0 (m + 1) q lo h.1 (and_one sc m r) h.2) (expr sc e b m h.0 h.1 hi r h.3)

    sides : (sc : Scope) (e : Expr) (b m c q lo hi : ℕ) → Ready sc m → marks.HasSides p gs f n sc e b m c q lo hi → Own lo hi
    sides sc (Apply node value o es) b m c q lo hi r h = sides_at (marks.HasExprs p gs f n sc es) sc node value o (count (plain_exprs es)) (exprs sc es) b m c q lo hi r h
    sides sc (Local node i) b m c q lo hi r h = absurd h
    sides sc (Constant node k v) b m c q lo hi r h = absurd h
    sides sc (And node x y) b m c q lo hi r h = absurd h
    sides sc (Or node x y) b m c q lo hi r h = absurd h
    sides sc (Display node site ps) b m c q lo hi r h = absurd h
    sides sc (Comprehension node site item target subject d) b m c q lo hi r h = absurd h

    test : (sc : Scope) (node : ℕ) (e : Expr) (b m one other lo hi : ℕ) → Ready sc m → marks.HasTest p gs f n sc node e b m one other lo hi → Own lo hi
    test sc node (And inner x y) b m one other lo hi r h = join (test sc inner y h.0 m one other lo h.1 r h.2) (test sc inner x b m h.0 other h.1 hi r h.3)
    test sc node (Or inner x y) b m one other lo hi r h = join (test sc inner y h.0 m one other lo h.1 r h.2) (test sc inner x b m one h.0 h.1 hi r h.3)
    test sc node (Apply inner value o es) b m one other lo hi r (inl h) =
        asks (marks.ApplyAt p gs f n sc inner value o (by_ways o es) (count (plain_exprs es)) (marks.HasExprs p gs f n sc es) (marks.HasNegated p gs f n sc inner es)) (marks.SidesAt p gs f n sc inner value o (count (plain_exprs es)) (marks.HasExprs p gs f n sc es)) sc node (Apply inner value o es)
        (apply (marks.HasExprs p gs f n sc es) (marks.HasNegated p gs f n sc inner es) sc inner value o (by_ways o es) (count (plain_exprs es)) (exprs sc es) (negated sc inner es)) (sides_at (marks.HasExprs p gs f n sc es) sc inner value o (count (plain_exprs es)) (exprs sc es)) b m (plainly one) (plainly other) lo hi r h.1
    test sc node (Apply inner value o es) b m one other lo hi r (inr h) = negated sc inner es b m other one lo hi r h.2
    test sc node (Local inner i) b m one other lo hi r h =
        asks (marks.LocalAt p gs f n sc inner i) (λ b m c q lo hi. ⊥) sc node (Local inner i) (local_at sc inner i) (no_sides sc) b m (plainly one) (plainly other) lo hi r h
    test sc node (Constant inner c v) b m one other lo hi r h =
        asks (marks.ConstantAt p gs f n sc inner c v) (λ b m c q lo hi. ⊥) sc node (Constant inner c v) (λ b m q lo hi s k. op sc b inner true (row.Constant c) [] m (first_and q m m) s tt (and_itself m) k.1) (no_sides sc) b m (plainly one) (plainly other) lo hi r h
    test sc node (Display inner site ps) b m one other lo hi r h =
        asks (marks.HasExpr p gs f n sc (Display inner site ps)) (λ b m c q lo hi. ⊥) sc node (Display inner site ps) (display sc inner site (marks.HasPairs p gs f n sc inner ps) (pairs sc inner ps)) (no_sides sc) b m (plainly one) (plainly other) lo hi r h
    test sc node (Comprehension inner site item target subject c) b m one other lo hi r h =
        asks (marks.HasExpr p gs f n sc (Comprehension inner site item target subject c)) (λ b m c q lo hi. ⊥) sc node (Comprehension inner site item target subject c) (λ b m q lo hi s k. comprehension sc inner site (step_of (plain_subject subject)) (marks.HasSubject p gs f n sc inner subject) (marks.HasBind p gs f n sc target []) (marks.HasCondition p gs f n sc inner c) (marks.HasExpr p gs f n sc item) (walked sc inner subject) (bind sc target []) (condition sc inner c) (expr sc item) b m q lo hi s k) (no_sides sc) b m (plainly one) (plainly other) lo hi r h

    negated : (sc : Scope) (node : ℕ) (es : Exprs) (b m one other lo hi : ℕ) → Ready sc m → marks.HasNegated p gs f n sc node es b m one other lo hi → Own lo hi
    negated sc node none b m one other lo hi r h = absurd h
    negated sc node (more e none) b m one other lo hi r h = test sc node e b m one other lo hi r h
    negated sc node (more e (more l es)) b m one other lo hi r h = absurd h

    pairs : (sc : Scope) (node : ℕ) (ps : Pairs) (b m q lo hi : ℕ) → Ready sc m → marks.HasPairs p gs f n sc node ps b m q lo hi → Own lo hi
    pairs sc node no_pairs b m q lo hi r h = nothing h.1
    pairs sc node (pair key e rest) b m q lo hi r h =
        join (pairs sc node rest h.2 m q lo h.3 r h.6) (join (op sc h.1 node false row.StoreIndex (m ∷ (m + 1) ∷ (m + 2) ∷ []) (m + 3) (first h.2 (m + 1)) (and_three sc m r) (last_three m) (first_below (m + 1) (m + 3 + 1) (omega arith)) h.7)
        (join (expr sc e h.0 (m + 1 + 1) h.1 h.4 h.5 (and_one sc (m + 1) (and_one sc m r)) h.8) (expr sc key b (m + 1) h.0 h.5 hi (and_one sc m r) h.9)))

    walked : (sc : Scope) (node : ℕ) (subject : Subject) (b m q lo hi : ℕ) → Ready sc m → marks.HasSubject p gs f n sc node subject b m q lo hi → Own lo hi
    walked sc node (Over site e) b m q lo hi r h =
        join (op sc h.1 node false (row.Word (pos 0)) [] (m + 1) (first_and q (m + 1) (m + 1)) (and_one sc m r) tt (and_itself (m + 1)) h.4)
        (join (op sc h.0 node false (row.Walk site) (m ∷ []) (m + 1) (first_and h.1 m (m + 1)) (and_one sc m r) (omega arith, tt) (and_below m (m + 1) (m + 1 + 1) (omega arith) (omega arith)) h.5) (expr sc e b m h.0 h.3 hi r h.6))
    walked sc node (UpTo e) b m q lo hi r h = join (op sc h.0 node false (row.Word (pos 0)) [] (m + 1) (first_and q (m + 1) (m + 1)) (and_one sc m r) tt (and_itself (m + 1)) h.2) (expr sc e b m h.0 h.1 hi r h.3)
    walked sc node (FromTo x y step) b m q lo hi r h =
        join (block h.1 (m + 2) (Go (record { to = q; places = (range 0 m ++ (m + 1) ∷ []) ++ m ∷ [] })) (and_two_below m (m + 1) m (m + 2) (omega arith) (omega arith) (omega arith)) h.4)
        (join (expr sc y h.0 (m + 1) h.1 h.2 h.3 (and_one sc m r) h.5) (expr sc x b m h.0 h.3 hi r h.6))

    condition : (sc : Scope) (node : ℕ) (c : Condition) (b m one other lo hi : ℕ) → Ready sc m → marks.HasCondition p gs f n sc node c b m one other lo hi → Own lo hi
    condition sc node Always b m one other lo hi r h = nothing h.1
    condition sc node (Where e) b m one other lo hi r h = test sc node e b m one other lo hi r h

    bind : (sc : Scope) (t : Target) (path : Path) (at m keep b q lo hi : ℕ) → Ready sc m → at < m → keep ≤ m → marks.HasBind p gs f n sc t path at m keep b q lo hi → Own lo hi
    bind sc (Name node i) path at m keep b q lo hi r lt le h =
        let s = taken_there sc path at b m h.0 h.1 h.2 h.3 hi lt h.6 in
        join (op sc h.0 node true row.Copy (h.1 ∷ []) h.2 (stored q keep i h.2) (later sc m h.2 s.1 r) (omega (arith, s.0), tt) (stored_below keep i h.2 (h.2 + 1) (omega (arith, le, s.1)) (omega arith)) h.5) (taken sc path at b m h.0 h.1 h.2 h.3 hi r lt h.6)
    bind sc (Attribute node e name) path at m keep b q lo hi r lt le h =
        let one = and_one sc m r in
        let less : at < m + 1 = omega (arith, lt) in
        let s = taken_there sc path at h.1 (m + 1) h.2 h.3 h.4 h.5 h.6 less h.9 in
        join (op sc h.2 node true (row.StoreAttr name) (m ∷ h.3 ∷ []) h.4 (first q keep) (later sc (m + 1) h.4 s.1 one) (omega (arith, s.1), (omega (arith, s.0), tt)) (first_below keep (h.4 + 1) (omega (arith, le, s.1))) h.8)
        (join (taken sc path at h.1 (m + 1) h.2 h.3 h.4 h.5 h.6 one less h.9) (join (expr sc e h.0 m h.1 h.6 h.7 r h.10) (there sc path at b m h.0 h.7 hi r lt h.11)))
    bind sc (Item node x y) path at m keep b q lo hi r lt le h =
        let two = and_two sc m r in
        let less : at < m + 2 = omega (arith, lt) in
        let s = taken_there sc path at h.2 (m + 2) h.3 h.4 h.5 h.6 h.7 less h.11 in
        join (op sc h.3 node true row.StoreIndex (m ∷ (m + 1) ∷ h.4 ∷ []) h.5 (first q keep) (later sc (m + 2) h.5 s.1 two) (omega (arith, s.1), (omega (arith, s.1), (omega (arith, s.0), tt))) (first_below keep (h.5 + 1) (omega (arith, le, s.1))) h.10)
        (join (taken sc path at h.2 (m + 2) h.3 h.4 h.5 h.6 h.7 two less h.11) (join (expr sc y h.1 (m + 1) h.2 h.7 h.8 (and_one sc m r) h.12) (join (expr sc x h.0 m h.1 h.8 h.9 r h.13) (there sc path at b m h.0 h.9 hi r lt h.14))))
    bind sc (Parts node parts) path at m keep b q lo hi r lt le h =
        let s = taken_there sc path at b m h.0 h.3 h.4 h.7 hi lt h.11 in
        join (block h.2 m (Go (first q keep)) (first_below keep m le) h.8) (join (items sc node parts (target_count (plain_targets parts)) 0 path at h.1 m h.2 h.5 h.6 r lt h.9)
        (join (op sc h.0 node true row.Copy (h.3 ∷ []) h.4 (first h.1 m) (later sc m h.4 s.1 r) (omega (arith, s.0), tt) (first_below m (h.4 + 1) (omega (arith, s.1))) h.10) (taken sc path at b m h.0 h.3 h.4 h.7 hi r lt h.11)))

    items : (sc : Scope) (node : ℕ) (ts : Targets) (c i : ℕ) (path : Path) (at b m q lo hi : ℕ) → Ready sc m → at < m → marks.HasItems p gs f n sc node ts c i path at b m q lo hi → Own lo hi
    items sc node no_targets c i path at b m q lo hi r lt h = nothing h.1
    items sc node (more_targets t ts) c i path at b m q lo hi r lt h =
        join (items sc node ts c (suc i) path at h.0 m q lo h.1 r lt h.2) (bind sc t (path ++ record { node = node; count = c; place = i } ∷ []) at m m b h.0 h.1 hi r lt (omega arith) h.3)

  -- ---- statements

  mark : (sc : Scope) (tried : Bool) (node b m q lo hi : ℕ) → Ready sc m → marks.MarkIf p gs f n tried sc node b m q lo hi → Own lo hi
  mark sc true node b m q lo hi r h = op sc b node false row.None [] m (first q m) r tt (first_below m (m + 1) (omega arith)) h
  mark sc false node b m q lo hi r h = nothing h.1

  targets : (sc : Scope) (ts : Targets) (b m q lo hi : ℕ) → Ready sc m → marks.HasTargets p gs f n sc ts b m q lo hi → Own lo hi
  targets sc no_targets b m q lo hi r h = block b (m + 1) (Go (first q m)) (first_below m (m + 1) (omega arith)) h
  targets sc (more_targets t no_targets) b m q lo hi r h = bind sc t [] m (m + 1) m b q lo hi (and_one sc m r) (omega arith) (omega arith) h
  targets sc (more_targets t (more_targets u ts)) b m q lo hi r h = join (targets sc (more_targets u ts) h.0 m q lo h.1 r h.2) (bind sc t [] m (m + 1) (m + 1) b h.0 h.1 hi (and_one sc m r) (omega arith) (omega arith) h.3)

  new_at : (sc : Scope) (node : ℕ) (o : RowOp) (b m q lo hi : ℕ) → Ready sc m → marks.NewAt p gs f n sc node o b m q lo hi → Own lo hi
  new_at sc node o b m q lo hi r h = op sc b node false o (m ∷ (m + 1) ∷ []) (m + 2) (first_and q m (m + 2)) (and_two sc m r) (last_two m) (and_below m (m + 2) (m + 2 + 1) (omega arith) (omega arith)) h

  augment : (sc : Scope) (node : ℕ) (t : Target) (o : RowOp) (e : Expr) (b m q lo hi : ℕ) → Ready sc m → marks.HasAugment p gs f n sc node t o e b m q lo hi → Own lo hi
  augment sc node (Name at i) o e b m q lo hi r h =
      join (op sc h.2 at true row.Copy (m ∷ []) (m + 1) (stored q m i (m + 1)) (and_one sc m r) (omega arith, tt) (stored_below m i (m + 1) (m + 1 + 1) (omega arith) (omega arith)) h.7)
      (join (new_at sc node o h.1 m h.2 h.3 h.4 r h.8) (join (expr sc e h.0 (m + 1) h.1 h.4 h.5 (and_one sc m r) h.9)
      (op sc b at false row.Copy (i ∷ []) m (first_and h.0 m m) r (omega (arith, r.locals, h.6), tt) (and_itself m) h.10)))
  augment sc node (Attribute at x name) o e b m q lo hi r h =
      let one = and_one sc m r in
      join (op sc h.3 at true (row.StoreAttr name) (m ∷ (m + 1) ∷ []) (m + 2) (first q m) (and_two sc m r) (last_two m) (first_below m (m + 2 + 1) (omega arith)) h.8)
      (join (new_at sc node o h.2 (m + 1) h.3 h.4 h.5 one h.9) (join (expr sc e h.1 (m + 1 + 1) h.2 h.5 h.6 (and_one sc (m + 1) one) h.10)
      (join (op sc h.0 at false (row.Attr name) (m ∷ []) (m + 1) (first_and h.1 (m + 1) (m + 1)) one (omega arith, tt) (and_itself (m + 1)) h.11) (expr sc x b m h.0 h.7 hi r h.12))))
  augment sc node (Item at x i) o e b m q lo hi r h =
      let two = and_two sc m r in
      join (op sc h.4 at true row.StoreIndex (m ∷ (m + 1) ∷ (m + 2) ∷ []) (m + 3) (first q m) (and_three sc m r) (last_three m) (first_below m (m + 3 + 1) (omega arith)) h.10)
      (join (new_at sc node o h.3 (m + 2) h.4 h.5 h.6 two h.11) (join (expr sc e h.2 (m + 2 + 1) h.3 h.6 h.7 (and_one sc (m + 2) two) h.12)
      (join (op sc h.1 at false (row.Index None) (m ∷ (m + 1) ∷ []) (m + 2) (first_and h.2 (m + 2) (m + 2)) two (last_two m) (and_itself (m + 2)) h.13) (join (expr sc i h.0 (m + 1) h.1 h.8 h.9 (and_one sc m r) h.14) (expr sc x b m h.0 h.9 hi r h.15)))))
  augment sc node (Parts at parts) o e b m q lo hi r h = op sc b at true row.Copy [] m (first q m) r tt (first_below m (m + 1) (omega arith)) h

  gives_back : (sc : Scope) (node k m : ℕ) (ret : Aim) (lo hi : ℕ) → ret.keep ≤ m → marks.GivesBack p gs f n sc node k m ret lo hi → Own lo hi
  gives_back sc node k m ret lo hi le (inl h) = block k (m + 1) (Go (first_and ret.to ret.keep m)) (and_below ret.keep m (m + 1) (omega (arith, le)) (omega arith)) h.1
  gives_back sc node k m ret lo hi le (inr h) =
      marked k (m + 1) node false (Does row.Copy (m ∷ []) sc.covers [] (first_and return_block 0 m) (first_and ret.to ret.keep m))
      ((omega arith, tt), tt, and_below 0 m (m + 1 + 1) (omega arith) (omega arith), and_below ret.keep m (m + 1 + 1) (omega (arith, le)) (omega arith)) h

  keeps_later : (m k : ℕ) (t : Ways) → m ≤ k → Keeps m t → Keeps k t
  keeps_later m k t le w = (omega (arith, le, w.0), omega (arith, le, w.1), omega (arith, le, w.2))

  mutual
    stmt : (sc : Scope) (s : Stmt) (b m : ℕ) (t : Ways) (lo hi : ℕ) → Ready sc m → Keeps m t → marks.HasStmt p gs f n sc s b m t lo hi → Own lo hi
    stmt sc (Pass node) b m t lo hi r w h = nothing h.1
    stmt sc (Break node) b m t lo hi r w h = block b m (Go (on_to t.brk)) (first_below t.brk.keep m w.0) h
    stmt sc (Continue node) b m t lo hi r w h = block b m (Go (on_to t.cont)) (first_below t.cont.keep m w.1) h
    stmt sc (Return node e) b m t lo hi r w h = join (gives_back sc node h.0 m t.ret lo h.1 w.2 h.2) (expr sc e b m h.0 h.1 hi r h.3)
    stmt sc (Do node e) b m t lo hi r w h = join (block h.0 (m + 1) (Go (first t.norm m)) (first_below m (m + 1) (omega arith)) h.2) (expr sc e b m h.0 h.1 hi r h.3)
    stmt sc (Assign node ts e) b m t lo hi r w h = join (targets sc ts h.0 m t.norm lo h.1 r h.2) (expr sc e b m h.0 h.1 hi r h.3)
    stmt sc (Augment node target o e) b m t lo hi r w h = augment sc node target o e b m t.norm lo hi r h
    stmt sc (If node e one other) b m t lo hi r w h = join (lines sc other h.1 m t lo h.2 r w h.4) (join (lines sc one h.0 m t h.2 h.3 r w h.5) (test sc node e b m h.0 h.1 h.3 hi r h.6))
    stmt sc (While node e body) b m t lo hi r w h =
        join (block b m (Go (first h.0 m)) (first_below m m (omega arith)) h.6)
        (join (lines sc body h.2 m (within p gs f n t (record { to = b; keep = m }) (record { to = t.norm; keep = m })) h.3 h.4 r (omega arith, omega arith, w.2) h.7)
        (join (op sc h.1 node false row.Turn [] m (first h.2 m) r tt (first_below m (m + 1) (omega arith)) h.8) (test sc node e h.0 m h.1 t.norm h.5 hi r h.9)))
    stmt sc (For node target subject body) b m t lo hi r w h =
        let two = and_two sc m r in
        join (head_at m h.0 h.1 lo h.5 h.10) (join (advance_at sc node (step_of (plain_subject subject)) m h.0 h.2 h.5 h.6 r h.11)
        (join (lines sc body h.3 (m + 2) (within p gs f n t (record { to = h.2; keep = m + 2 }) (record { to = t.norm; keep = m })) h.6 h.7 two (omega arith, omega arith, omega (arith, w.2)) h.12)
        (join (bind sc target [] (m + 2) (m + 2 + 1) (m + 2) h.4 h.3 h.7 h.8 (and_one sc (m + 2) two) (omega arith) (omega arith) h.13)
        (join (one_turn sc node (step_of (plain_subject subject)) m h.4 (first t.norm m) h.1 h.8 h.9 r (first_below m (m + 2 + 1) (omega arith)) h.14) (walked sc node subject b m h.0 h.9 hi r h.15)))))
    stmt sc (Try node body cs other) b m t lo hi r w h =
        let kept = clauses_keep sc cs m t h.3 h.4 h.1 h.2 r h.6 in
        join (lines sc other h.0 m t lo h.1 r w h.5) (join (clauses sc cs m t h.3 h.4 h.1 h.2 r w h.6)
        (lines (record { hands = h.3; default = h.4; covers = covers_within p.classes (plain_clauses cs) sc.covers; tried = true }) body b m (onto t h.0) h.2 hi (record { locals = r.locals; default = kept.1; hands = kept.0 }) w h.7))
    stmt sc (Finally node body last) b m t lo hi r w h =
        let one = and_one sc m r in
        let further = keeps_later m (m + 1) t (omega arith) w in
        join (lines sc last h.0 m t lo h.9 r w h.18)
        (join (block h.5 m (Go (on_to t.brk)) (first_below t.brk.keep m w.0) h.19) (join (lines sc last h.1 m (onto t h.5) h.10 h.11 r w h.20)
        (join (block h.6 m (Go (on_to t.cont)) (first_below t.cont.keep m w.1) h.21) (join (lines sc last h.2 m (onto t h.6) h.12 h.13 r w h.22)
        (join (block h.7 (m + 1) (Go (first_and t.ret.to t.ret.keep m)) (and_below t.ret.keep m (m + 1) further.2 (omega arith)) h.23) (join (lines sc last h.3 (m + 1) (onto t h.7) h.14 h.15 one further h.24)
        (join (op sc h.8 node false row.Raise (m ∷ []) (m + 1) (first never_block 0) one (omega arith, tt) tt h.25) (join (lines sc last h.4 (m + 1) (onto t h.8) h.16 h.17 one further h.26)
        (lines (record { hands = []; default = record { to = h.4; keep = m }; covers = sc.covers; tried = true }) body b m
        (record { norm = h.0; brk = record { to = h.1; keep = m }; cont = record { to = h.2; keep = m }; ret = record { to = h.3; keep = m } }) h.17 hi
        (record { locals = r.locals; default = omega arith; hands = tt }) (omega arith, omega arith, omega arith) h.27)))))))))

    pub lines : (sc : Scope) (s : Block) (b m : ℕ) (t : Ways) (lo hi : ℕ) → Ready sc m → Keeps m t → marks.HasBlock p gs f n sc s b m t lo hi → Own lo hi
    lines sc done b m t lo hi r w h = nothing h.1
    lines sc (line s rest) b m t lo hi r w h =
        join (lines sc rest h.2 m t lo h.3 r w h.6) (join (mark sc sc.tried (node_of s) h.1 m h.2 h.3 h.4 r h.7) (join (stmt sc s h.0 m (onto t h.1) h.4 h.5 r w h.8) (mark sc sc.tried (node_of s) b m h.0 h.5 hi r h.9)))

    clauses : (sc : Scope) (cs : Clauses) (m : ℕ) (t : Ways) (hands : List Hand) (default : Aim) (lo hi : ℕ) → Ready sc m → Keeps m t → marks.HasClauses p gs f n sc cs m t hands default lo hi → Own lo hi
    clauses sc no_clauses m t hands default lo hi r w h = nothing h.2
    clauses sc (clause None local body rest) m t hands default lo hi r w h = join (lines sc body h.0 m t lo h.2 r w h.6) (block h.1 (m + 1) (Go (first h.0 m)) (first_below m (m + 1) (omega arith)) h.7)
    clauses sc (clause (Some classes) local body rest) m t hands default lo hi r w h = join (lines sc body h.0 m t lo h.1 r w h.5) (clauses sc rest m t h.2 default h.1 hi r w h.6)

    -- no more variables go on to the clauses
    clauses_keep : (sc : Scope) (cs : Clauses) (m : ℕ) (t : Ways) (hands : List Hand) (default : Aim) (lo hi : ℕ) → Ready sc m → marks.HasClauses p gs f n sc cs m t hands default lo hi → HandsKeep m hands × (default.keep ≤ m)
    clauses_keep sc no_clauses m t hands default lo hi r h = (subst (λ (hs : List Hand). HandsKeep m hs) (sym h.0) r.hands, subst (λ (aim : Aim). aim.keep ≤ m) (sym h.1) r.default)
    clauses_keep sc (clause None local body rest) m t hands default lo hi r h = (subst (λ (hs : List Hand). HandsKeep m hs) (sym h.4) tt, subst (λ (aim : Aim). aim.keep ≤ m) (sym h.5) (omega arith))
    clauses_keep sc (clause (Some classes) local body rest) m t hands default lo hi r h =
        let kept = clauses_keep sc rest m t h.2 default h.1 hi r h.6 in
        (subst (λ (hs : List Hand). HandsKeep m hs) (sym h.4) (hands_before m local (record { to = h.0; keep = m }) classes h.2 (omega arith) kept.0), kept.1)
