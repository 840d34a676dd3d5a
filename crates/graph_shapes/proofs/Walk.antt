-- The blocks of each part of a tree, and the block with which it begins, which takes the variables that are there.
use Rattle.std.proofs.Common.{◌≡◌, ℕ, ℤ, suc, ◌+◌, ◌<◌, ◌≤◌, inl, inr, Bool, true, false, List, [], ◌∷◌, ◌++◌, Option, Some, None, pos, refl, sym, subst, arith}
use Rattle.rpy_meaning.specs.declared.row.RowOp.{RowOp}
use Rattle.rpy_meaning.specs.declared.row.RowOp.TheVariants as row
use Rattle.rpy_meaning.specs.Tree as meaning
use Rattle.rpy_meaning.specs.Meaning.{target_count}
use Rattle.rpy_meaning.specs.Classes.{covers_within}
use Rattle.flow_graph.specs.declared.graph.Graphs.{Graphs}
use Rattle.flow_stands.specs.Places.{range, stored, Aim, Hand, Scope, Ways, Jump, Shape as Form, Go, Fork, Does, hand_jumps, first, first_and, on_to, onto}
use Rattle.flow_stands.specs.Stands.{Branch, plainly, with_value, count, step_of, onward, return_block, never_block, within}
use Rattle.flow_trees.specs.Tree.{Expr, Local, Constant, Apply, And, Or, Display, Comprehension, Exprs, none, more, Pairs, no_pairs, pair, Subject, Over, UpTo, FromTo, Condition, Always, Where, Target, Name, Attribute, Item, Parts, Targets, no_targets, more_targets, Stmt, Pass, Break, Continue, Return, Do, Assign, Augment, If, While, For, Try, Finally, Block, done, line, Clauses, no_clauses, clause, plain_exprs, plain_subject, plain_targets, plain_clauses, node_of}
use Rattle.flow_trees.specs.Tells.{Telling, tells, by_ways}
use Rattle.flow_trees.specs.Marks as marks
use Rattle.flow_trees.specs.Marks.{Place, Choice, Path}
use Rattle.flow_reads.proofs.Below.{Below, some_below, HandsKeep, hands_later, hands_before}
use Rattle.graph_shapes.proofs.Parts as parts

module _ (p : meaning.Program) (gs : Graphs) (f n : ℕ) (never : parts.Takes gs f never_block 0) (back : parts.Takes gs f return_block 1) where
  abbrev Takes : ℕ → ℕ → Type 0
  Takes b k = parts.Takes gs f b k

  abbrev Way : ℕ → Jump → Type 0
  Way u jump = parts.Way gs f u jump

  abbrev Good : ℕ → ℕ → Type 0
  Good lo hi = parts.AllGood gs f lo hi

  abbrev join : {lo mid hi : ℕ} → Good lo mid → Good mid hi → Good lo hi
  join x y = parts.join gs f x y

  abbrev nothing : {lo hi : ℕ} → lo ≡ hi → Good lo hi
  nothing e = parts.nothing gs f e

  -- the block with which a part begins takes so many, and its blocks are good
  abbrev pub Put : ℕ → ℕ → ℕ → ℕ → Type 0
  Put b k lo hi = Takes b k × Good lo hi

  up : {lo mid : ℕ} → 0 < lo → Good lo mid → 0 < mid
  up {lo} {mid} lt x = omega (arith, lt, x.rise)

  straight : {b q k lo hi : ℕ} → Takes q k → (b ≡ q) × (lo ≡ hi) → Put b k lo hi
  straight {b} {q} {k} t h = (subst (λ (i : ℕ). Takes i k) (sym h.0) t, nothing h.1)

  -- with m variables: the locals are there, and what goes on with exceptions
  pub record Ready (sc : Scope) (m : ℕ) : Type 0 where
    pub locals : n ≤ m
    pub default : sc.default.keep ≤ m
    pub hands : HandsKeep m sc.hands
    pub default_takes : Takes sc.default.to (sc.default.keep + 1)
    pub hands_take : parts.HandsTake gs f sc.hands

  later : (sc : Scope) (m k : ℕ) → m ≤ k → Ready sc m → Ready sc k
  later sc m k le r = record { locals = omega (arith, le, r.locals); default = omega (arith, le, r.default); hands = hands_later m k sc.hands le r.hands; default_takes = r.default_takes; hands_take = r.hands_take }

  and_one : (sc : Scope) (m : ℕ) → Ready sc m → Ready sc (m + 1)
  and_one sc m r = later sc m (m + 1) (omega arith) r

  and_two : (sc : Scope) (m : ℕ) → Ready sc m → Ready sc (m + 2)
  and_two sc m r = later sc m (m + 2) (omega arith) r

  and_three : (sc : Scope) (m : ℕ) → Ready sc m → Ready sc (m + 3)
  and_three sc m r = later sc m (m + 3) (omega arith) r

  -- fewer go on there than are here, and are taken
  pub record Leads (m : ℕ) (t : Ways) : Type 0 where
    pub brk : t.brk.keep ≤ m
    pub cont : t.cont.keep ≤ m
    pub ret : t.ret.keep ≤ m
    pub norm_takes : Takes t.norm m
    pub brk_takes : Takes t.brk.to t.brk.keep
    pub cont_takes : Takes t.cont.to t.cont.keep
    pub ret_takes : Takes t.ret.to (t.ret.keep + 1)

  put_onto : (m : ℕ) (t : Ways) (k : ℕ) → Leads m t → Takes k m → Leads m (onto t k)
  put_onto m t k w take = record { brk = w.brk; cont = w.cont; ret = w.ret; norm_takes = take; brk_takes = w.brk_takes; cont_takes = w.cont_takes; ret_takes = w.ret_takes }

  -- behind one more variable
  behind : (m : ℕ) (t : Ways) (k : ℕ) → Leads m t → Takes k (m + 1) → Leads (m + 1) (onto t k)
  behind m t k w take =
      let x = w.brk in
      let y = w.cont in
      let z = w.ret in
      record { brk = omega (arith, x); cont = omega (arith, y); ret = omega (arith, z); norm_takes = take; brk_takes = w.brk_takes; cont_takes = w.cont_takes; ret_takes = w.ret_takes }

  -- in the body of a loop
  inside : (m k : ℕ) (t : Ways) (next after : Aim) → m ≤ k → next.keep ≤ k → after.keep ≤ k → Leads m t → Takes next.to k → Takes next.to next.keep → Takes after.to after.keep → Leads k (within p gs f n t next after)
  inside m k t next after le l r w norm cont brk =
      let z = w.ret in
      record { brk = r; cont = l; ret = omega (arith, le, z); norm_takes = norm; brk_takes = brk; cont_takes = cont; ret_takes = w.ret_takes }

  -- ---- single blocks

  op : (sc : Scope) (b node : ℕ) (value : Bool) (o : RowOp) (args : List ℕ) (m : ℕ) (norm : Jump) {lo hi : ℕ} → 0 < lo → Ready sc m → Below m args → Way (m + 1) norm → marks.Acts p gs f n sc b node value o args m norm lo hi → Put b m lo hi
  op sc b node value o args m norm lt r operands onward h =
      let form = Does o args sc.covers (hand_jumps m sc.hands) (first_and sc.default.to sc.default.keep m) norm in (
        parts.takes gs f b h.0.0 m node value form (omega (arith, lt, h.1.0)) h.0.1,
        parts.one gs f b h.0.0 m node value form (operands, parts.hands_fit gs f m sc.hands r.hands r.hands_take, parts.escape gs f m sc.default.to sc.default.keep r.default r.default_takes, onward) h.0.1 h.1,
      )

  pub marked : (b m node : ℕ) (value : Bool) (form : Form) {lo hi : ℕ} → 0 < lo → parts.Fits gs f m form → marks.Marked p gs f n b m node value form lo hi → Put b m lo hi
  marked b m node value form lt fits h = (parts.takes gs f b h.0.0 m node value form (omega (arith, lt, h.1.0)) h.0.1, parts.one gs f b h.0.0 m node value form fits h.0.1 h.1)

  pub block : (b m : ℕ) (form : Form) {lo hi : ℕ} → 0 < lo → parts.Fits gs f m form → marks.Is p gs f n b m form lo hi → Put b m lo hi
  block b m form lt fits h = (parts.takes gs f b h.0.0 m h.0.1 h.0.2 form (omega (arith, lt, h.1.0)) h.0.3, parts.one gs f b h.0.0 m h.0.1 h.0.2 form fits h.0.3 h.1)

  -- what a block takes, whatever it goes on to
  head_takes : (b m : ℕ) (form : Form) {lo hi : ℕ} → 0 < lo → marks.Is p gs f n b m form lo hi → Takes b m
  head_takes b m form lt h = parts.takes gs f b h.0.0 m h.0.1 h.0.2 form (omega (arith, lt, h.1.0)) h.0.3

  -- ---- ways on

  first_of : (m q : ℕ) → Takes q m → Way (m + 1) (first q m)
  first_of m q t = parts.way_first gs f (m + 1) q m (omega arith) t

  -- the value of an operation goes on behind the variables
  and_itself : (m q : ℕ) → Takes q (m + 1) → Way (m + 1) (first_and q m m)
  and_itself m q t = parts.way_and gs f (m + 1) q m m (omega arith) (omega arith) t

  -- in place of the last one
  and_next : (m q : ℕ) → Takes q (m + 1) → Way (m + 1 + 1) (first_and q m (m + 1))
  and_next m q t = parts.way_and gs f (m + 1 + 1) q m (m + 1) (omega arith) (omega arith) t

  -- ---- the operands of operations

  last_two : (m : ℕ) → Below (m + 2) (m ∷ (m + 1) ∷ [])
  last_two m = (omega arith, (omega arith, tt))

  last_three : (m : ℕ) → Below (m + 3) (m ∷ (m + 1) ∷ (m + 2) ∷ [])
  last_three m = (omega arith, (omega arith, (omega arith, tt)))

  -- ---- tests

  abbrev OnTo : Bool → ℕ → ℕ → Type 0
  OnTo true to m = Takes to (m + 1)
  OnTo false to m = Takes to m

  abbrev On : Branch → ℕ → Type 0
  On branch m = OnTo branch.value branch.to m

  beside_below : (beside : Option ℕ) (m value : ℕ) → marks.IsBefore p gs f n beside m value → Below (value + 1) (marks.beside_place beside m)
  beside_below None m value h = tt
  beside_below (Some place) m value h = (h, tt)

  way_on : (sc : Scope) (node : ℕ) (told : Option Telling) (m value : ℕ) (wants : Bool) (to : ℕ) (jump : Jump) (lo hi : ℕ) → 0 < lo → Ready sc m → m ≤ value → OnTo wants to m → marks.WayOn p gs f n sc node told m value wants to jump lo hi → Way (value + 1 + 1) jump × Good lo hi
  way_on sc node told m value true to jump lo hi lt r le on h =
      (subst (λ (j : Jump). Way (value + 1 + 1) j) (sym h.0) (parts.way_and gs f (value + 1 + 1) to m value (omega (arith, le)) (omega arith) on), nothing h.1)
  way_on sc node None m value false to jump lo hi lt r le on h = (subst (λ (j : Jump). Way (value + 1 + 1) j) (sym h.0) (parts.way_first gs f (value + 1 + 1) to m (omega (arith, le)) on), nothing h.1)
  way_on sc node (Some t) m value false to jump lo hi lt r le on h =
      let locals = r.locals in
      let put = op sc h.0 node false t.op (marks.operands t m) (value + 1) (stored to m t.local (value + 1)) lt (later sc m (value + 1) (omega (arith, le)) r) (omega (arith, le, locals, h.1), beside_below t.beside m value h.2)
      (parts.way_stored gs f (value + 1 + 1) to m t.local (value + 1) (omega (arith, le)) (omega arith) on) h.3 in
      (subst (λ (j : Jump). Way (value + 1 + 1) j) (sym h.4) (parts.way_first gs f (value + 1 + 1) h.0 (value + 1) (omega arith) put.0), put.1)

  truth : (sc : Scope) (node : ℕ) (e : Expr) (b m value : ℕ) (one other : Branch) (lo hi : ℕ) → 0 < lo → Ready sc m → m ≤ value → On one m → On other m → marks.Truth p gs f n sc node e b m value one other lo hi → Put b (value + 1) lo hi
  truth sc node e b m value one other lo hi lt r le on off h =
      let so_way = way_on sc node (tells e true) m value one.value one.to h.1 lo h.3 lt r le on h.6 in
      let other_way = way_on sc node (tells e false) m value other.value other.to h.2 h.3 h.4 (up lt so_way.1) r le off h.7 in
      let below = join so_way.1 other_way.1 in
      let fork = block h.0 (value + 1 + 1) (Fork (value + 1) h.1 h.2) (up lt below) (omega arith, so_way.0, other_way.0) h.8 in
      let all = join below fork.1 in
      let head = op sc b node false row.Truth (value ∷ []) (value + 1) (first_and h.0 (value + 1) (value + 1)) (up lt all) (later sc m (value + 1) (omega (arith, le)) r) (omega arith, tt) (and_itself (value + 1) h.0 fork.0) h.9 in
      (head.0, join all head.1)

  asks : (E : Place) (Sides : Choice) (sc : Scope) (node : ℕ) (e : Expr) → ((b m q lo hi : ℕ) → 0 < lo → Ready sc m → Takes q (m + 1) → E b m q lo hi → Put b m lo hi)
      → ((b m c q lo hi : ℕ) → 0 < lo → Ready sc m → Takes q (m + c + 1) → Sides b m c q lo hi → Put b m lo hi)
      → (b m : ℕ) (one other : Branch) (lo hi : ℕ) → 0 < lo → Ready sc m → On one m → On other m → marks.Asks p gs f n sc node e E Sides b m one other lo hi → Put b m lo hi
  asks E Sides sc node e x y b m one other lo hi lt r on off (inl h) =
      let t = truth sc node e h.0 m m one other lo h.1 lt r (omega arith) on off h.3 in
      let put = x b m h.0 h.1 hi (up lt t.1) r t.0 h.4 in
      (put.0, join t.1 put.1)
  asks E Sides sc node e x y b m one other lo hi lt r on off (inr h) =
      let t = truth sc node e h.0 m (m + h.1) one other lo h.2 lt r (omega arith) on off h.3 in
      let put = y b m h.1 h.0 h.2 hi (up lt t.1) r t.0 h.4 in
      (put.0, join t.1 put.1)

  no_sides : (sc : Scope) (b m c q lo hi : ℕ) → 0 < lo → Ready sc m → Takes q (m + c + 1) → ⊥ → Put b m lo hi
  no_sides sc b m c q lo hi lt r on h = absurd h

  -- ---- items of tuples

  unpacks : (sc : Scope) (last : ℕ → Jump) (m : ℕ) → ((w : ℕ) → m ≤ w → Way (w + 1) (last w)) → (path : Path) (at w b lo hi : ℕ) → 0 < lo → Ready sc m → m ≤ w → at < w → marks.Unpacks p gs f n sc last m path at w b lo hi → Put b w lo hi
  unpacks sc last m way [] at w b lo hi lt r le less h = absurd h
  unpacks sc last m way (part ∷ []) at w b lo hi lt r le less h = op sc b part.node false (row.Unpack part.count part.place) (at ∷ []) w (last w) lt (later sc m w le r) (less, tt) (way w le) h
  unpacks sc last m way (part ∷ next ∷ path) at w b lo hi lt r le less h =
      let rest = unpacks sc last m way (next ∷ path) m (m + 1) h.0 lo h.1 lt r (omega arith) (omega arith) h.2 in
      let put = op sc b part.node false (row.Unpack part.count part.place) (at ∷ []) w (first_and h.0 m w) (up lt rest.1) (later sc m w le r) (less, tt) (parts.way_and gs f (w + 1) h.0 m w (omega (arith, le)) (omega arith) rest.0) h.3 in
      (put.0, join rest.1 put.1)

  there : (sc : Scope) (path : Path) (at b m q lo hi : ℕ) → 0 < lo → Ready sc m → at < m → Takes q m → marks.There p gs f n sc path at b m q lo hi → Put b m lo hi
  there sc [] at b m q lo hi lt r less on h = straight on h
  there sc (part ∷ path) at b m q lo hi lt r less on h = unpacks sc (λ w. first q m) m (λ w le. parts.way_first gs f (w + 1) q m (omega (arith, le)) on) (part ∷ path) at m b lo hi lt r (omega arith) less h

  taken : (sc : Scope) (path : Path) (at b m q v w lo hi : ℕ) → 0 < lo → Ready sc m → at < m → Takes q w → marks.Taken p gs f n sc path at b m q v w lo hi → Put b m lo hi
  taken sc [] at b m q v w lo hi lt r less on h = straight (subst (λ (i : ℕ). Takes q i) h.1 on) h.2
  taken sc (part ∷ path) at b m q v w lo hi lt r less on h =
      unpacks sc (first_and q m) m (λ w le. parts.way_and gs f (w + 1) q m w (omega (arith, le)) (omega arith) (subst (λ (i : ℕ). Takes q i) h.1 on)) (part ∷ path) at m b lo hi lt r (omega arith) less h.2

  -- the item is there, and no variable is gone
  taken_there : (sc : Scope) (path : Path) (at b m q v w lo hi : ℕ) → at < m → marks.Taken p gs f n sc path at b m q v w lo hi → (v < w) × (m ≤ w)
  taken_there sc [] at b m q v w lo hi lt h = (omega (arith, lt, h.0, h.1), omega (arith, h.1))
  taken_there sc (part ∷ path) at b m q v w lo hi lt h = (omega (arith, h.0, h.1), omega (arith, h.1))

  -- ---- expressions

  meets : (sc : Scope) (node b m q : ℕ) {lo hi : ℕ} → 0 < lo → Ready sc m → Takes q (m + 1) → marks.Meets p gs f n sc node b m q lo hi → Put b (m + 1) lo hi
  meets sc node b m q lt r on h = op sc b node true row.Copy (m ∷ []) (m + 1) (first_and q m (m + 1)) lt (and_one sc m r) (omega arith, tt) (and_next m q on) h

  not_at : (T : Choice) (sc : Scope) (node : ℕ) → ((b m so_way other lo hi : ℕ) → 0 < lo → Ready sc m → Takes so_way m → Takes other m → T b m so_way other lo hi → Put b m lo hi)
      → (b m q lo hi : ℕ) → 0 < lo → Ready sc m → Takes q (m + 1) → marks.NotAt p gs f n sc node T b m q lo hi → Put b m lo hi
  not_at T sc node t b m q lo hi lt r on h =
      let meet = meets sc node h.0 m q lt r on h.6 in
      let other = op sc h.2 node false (row.Bool true) [] m (first_and h.0 m m) (up lt meet.1) r tt (and_itself m h.0 meet.0) h.7 in
      let two = join meet.1 other.1 in
      let so = op sc h.1 node false (row.Bool false) [] m (first_and h.0 m m) (up lt two) r tt (and_itself m h.0 meet.0) h.8 in
      let three = join two so.1 in
      let put = t b m h.1 h.2 h.5 hi (up lt three) r so.0 other.0 h.9 in
      (put.0, join three put.1)

  onward_way : (o : RowOp) (q m c : ℕ) → Takes q (m + 1) → Way (m + c + 1) (onward o q m (m + c))
  onward_way row.Raise q m c on = parts.way_first gs f (m + c + 1) never_block 0 (omega arith) never
  onward_way o q m c on = parts.way_and gs f (m + c + 1) q m (m + c) (omega arith) (omega arith) on

  apply : (Es : Place) (T : Choice) (sc : Scope) (node : ℕ) (value : Bool) (o : RowOp) (ways : Bool) (c : ℕ) → ((b m q lo hi : ℕ) → 0 < lo → Ready sc m → Takes q (m + c) → Es b m q lo hi → Put b m lo hi)
      → ((b m so_way other lo hi : ℕ) → 0 < lo → Ready sc m → Takes so_way m → Takes other m → T b m so_way other lo hi → Put b m lo hi)
      → (b m q lo hi : ℕ) → 0 < lo → Ready sc m → Takes q (m + 1) → marks.ApplyAt p gs f n sc node value o ways c Es T b m q lo hi → Put b m lo hi
  apply Es T sc node value o ways c x t b m q lo hi lt r on (inl h) =
      let act = op sc h.1.0 node value o (range m c) (m + c) (onward o q m (m + c)) lt (later sc m (m + c) (omega arith) r) (some_below m c (m + c) (omega arith)) (onward_way o q m c on) h.1.2 in
      let put = x b m h.1.0 h.1.1 hi (up lt act.1) r act.0 h.1.3 in
      (put.0, join act.1 put.1)
  apply Es T sc node value o ways c x t b m q lo hi lt r on (inr h) = not_at T sc node t b m q lo hi lt r on h.2

  sides_at : (Es : Place) (sc : Scope) (node : ℕ) (value : Bool) (o : RowOp) (k : ℕ) → ((b m q lo hi : ℕ) → 0 < lo → Ready sc m → Takes q (m + k) → Es b m q lo hi → Put b m lo hi)
      → (b m c q lo hi : ℕ) → 0 < lo → Ready sc m → Takes q (m + c + 1) → marks.SidesAt p gs f n sc node value o k Es b m c q lo hi → Put b m lo hi
  sides_at Es sc node value o k x b m c q lo hi lt r on h =
      let act = op sc h.1.0 node value o (range m c) (m + c) (first_and q (m + c) (m + c)) lt (later sc m (m + c) (omega arith) r) (some_below m c (m + c) (omega arith)) (and_itself (m + c) q on) h.1.3 in
      let put = x b m h.1.0 h.1.1 hi (up lt act.1) r (subst (λ (i : ℕ). Takes h.1.0 (m + i)) h.0 act.0) h.1.4 in
      (put.0, join act.1 put.1)

  advance_at : (sc : Scope) (node : ℕ) (step : Option ℤ) (over head advance lo hi : ℕ) → 0 < lo → Ready sc over → Takes head (over + 2) → marks.AdvanceAt p gs f n sc node step over head advance lo hi → Put advance (over + 2) lo hi
  advance_at sc node step over head advance lo hi lt r on h =
      let e : (over + 1) + 1 ≡ over + 2 = omega arith in
      op sc advance node false (row.Advance step) (over ∷ (over + 1) ∷ []) (over + 2) (first_and head (over + 1) (over + 2)) lt (and_two sc over r) (last_two over)
      (parts.way_and gs f (over + 2 + 1) head (over + 1) (over + 2) (omega arith) (omega arith) (subst (λ (i : ℕ). Takes head i) (sym e) on)) h

  head_at : (over head begin lo hi : ℕ) → 0 < lo → Takes begin (over + 2) → marks.HeadAt p gs f n over head begin lo hi → Put head (over + 2) lo hi
  head_at over head begin lo hi lt on h = block head (over + 2) (Go (first begin (over + 2))) lt (parts.way_first gs f (over + 2) begin (over + 2) (omega arith) on) h

  one_turn : (sc : Scope) (node : ℕ) (step : Option ℤ) (over turn : ℕ) (after : Jump) (begin lo hi : ℕ) → 0 < lo → Ready sc over → Takes turn (over + 2 + 1) → Way (over + 2 + 1) after → marks.TurnAt p gs f n sc node step over turn after begin lo hi → Put begin (over + 2) lo hi
  one_turn sc node step over turn after begin lo hi lt r on way h =
      let two = and_two sc over r in
      let item = op sc h.2 node false (row.Item step) (over ∷ (over + 1) ∷ []) (over + 2) (first_and turn (over + 2) (over + 2)) lt two (last_two over) (and_itself (over + 2) turn on) h.6 in
      let paid = op sc h.1 node false row.Turn [] (over + 2) (first h.2 (over + 2)) (up lt item.1) two tt (first_of (over + 2) h.2 item.0) h.7 in
      let all = join item.1 paid.1 in
      let fork = block h.0 (over + 2 + 1) (Fork (over + 2) (first h.1 (over + 2)) after) (up lt all) (omega arith, first_of (over + 2) h.1 paid.0, way) h.8 in
      let more = join all fork.1 in
      let put = op sc begin node false (row.HasItem step) (over ∷ (over + 1) ∷ []) (over + 2) (first_and h.0 (over + 2) (over + 2)) (up lt more) two (last_two over) (and_itself (over + 2) h.0 fork.0) h.9 in
      (put.0, join more put.1)

  display : (sc : Scope) (node site : ℕ) (Stores : Place) → ((b m q lo hi : ℕ) → 0 < lo → Ready sc m → Takes q (m + 1) → Stores b m q lo hi → Put b (m + 1) lo hi) → (b m q lo hi : ℕ) → 0 < lo → Ready sc m → Takes q (m + 1) → marks.DisplayAt p gs f n sc node site Stores b m q lo hi → Put b m lo hi
  display sc node site Stores x b m q lo hi lt r on h =
      let meet = meets sc node h.1 m q lt r on h.4 in
      let stores = x h.0 m h.1 h.2 h.3 (up lt meet.1) r meet.0 h.5 in
      let all = join meet.1 stores.1 in
      let put = op sc b node false (row.Dict site) [] m (first_and h.0 m m) (up lt all) r tt (and_itself m h.0 stores.0) h.6 in
      (put.0, join all put.1)

  comprehension : (sc : Scope) (node site : ℕ) (step : Option ℤ) (Begin : Place) (Bind : ℕ → ℕ → ℕ → ℕ → ℕ → ℕ → ℕ → Type 0) (T : Choice) (E : Place)
      → ((b m q lo hi : ℕ) → 0 < lo → Ready sc m → Takes q (m + 2) → Begin b m q lo hi → Put b m lo hi) → ((v m keep b q lo hi : ℕ) → 0 < lo → Ready sc m → v < m → keep ≤ m → Takes q keep → Bind v m keep b q lo hi → Put b m lo hi)
      → ((b m one other lo hi : ℕ) → 0 < lo → Ready sc m → Takes one m → Takes other m → T b m one other lo hi → Put b m lo hi) → ((b m q lo hi : ℕ) → 0 < lo → Ready sc m → Takes q (m + 1) → E b m q lo hi → Put b m lo hi)
      → (b m q lo hi : ℕ) → 0 < lo → Ready sc m → Takes q (m + 1) → marks.ComprehensionAt p gs f n sc node site step Begin Bind T E b m q lo hi → Put b m lo hi
  comprehension sc node site step Begin Bind T E begin bind t e b m q lo hi lt r on h =
      let g = h.16 in
      let one = and_one sc m r in
      let three = and_two sc (m + 1) one in
      let four = and_one sc (m + 1 + 2) three in
      let head = head_takes h.1 (m + 1 + 2) (Go (first h.2 (m + 1 + 2))) lt h.14 in
      let above : 0 < h.7 = omega (arith, lt, h.14.1.0, h.14.1.1) in
      let advance = advance_at sc node step (m + 1) h.1 h.3 h.7 h.8 above one head h.15 in
      let add = op sc g.1 node false row.AddItem (m ∷ (m + 1 + 2) ∷ []) (m + 1 + 2 + 1) (first h.3 (m + 1 + 2)) (up above advance.1) four (omega arith, (omega arith, tt)) (parts.way_first gs f (m + 1 + 2 + 1 + 1) h.3 (m + 1 + 2) (omega arith) advance.0) g.4 in
      let g1 = join advance.1 add.1 in
      let item = e g.0 (m + 1 + 2) g.1 g.2 g.3 (up above g1) three add.0 g.5 in
      let g2 = join g1 item.1 in
      let tested = t h.4 (m + 1 + 2) g.0 h.3 g.3 h.9 (up above g2) three item.0 advance.0 g.6 in
      let g3 = join g2 tested.1 in
      let bound = bind (m + 1 + 2) (m + 1 + 2 + 1) (m + 1 + 2) h.5 h.4 h.9 h.10 (up above g3) four (omega arith) (omega arith) tested.0 h.17 in
      let g4 = join g3 bound.1 in
      let whole = meets sc node h.6 m q (up above g4) r on h.18 in
      let g5 = join g4 whole.1 in
      let turns = one_turn sc node step (m + 1) h.5 (first h.6 (m + 1)) h.2 h.11 h.12 (up above g5) one bound.0 (parts.way_first gs f (m + 1 + 2 + 1) h.6 (m + 1) (omega arith) whole.0) h.19 in
      let g6 = join g5 turns.1 in
      let begun = begin h.0 (m + 1) h.1 h.12 h.13 (up above g6) one head h.20 in
      let g7 = join g6 begun.1 in
      let put = op sc b node false (row.Comprehension site) [] m (first_and h.0 m m) (up above g7) r tt (and_itself m h.0 begun.0) h.21 in
      (put.0, join (head_at (m + 1) h.1 h.2 lo h.7 lt turns.0 h.14).1 (join g7 put.1))

  local_at : (sc : Scope) (node i b m q lo hi : ℕ) → 0 < lo → Ready sc m → Takes q (m + 1) → marks.LocalAt p gs f n sc node i b m q lo hi → Put b m lo hi
  local_at sc node i b m q lo hi lt r on h =
      let locals = r.locals in
      op sc b node true row.Copy (i ∷ []) m (first_and q m m) lt r (omega (arith, locals, h.0), tt) (and_itself m q on) h.1

  constant_at : (sc : Scope) (node : ℕ) (o : RowOp) (b m q lo hi : ℕ) → 0 < lo → Ready sc m → Takes q (m + 1) → marks.Acts p gs f n sc b node true o [] m (first_and q m m) lo hi → Put b m lo hi
  constant_at sc node o b m q lo hi lt r on h = op sc b node true o [] m (first_and q m m) lt r tt (and_itself m q on) h

  mutual
    expr : (sc : Scope) (e : Expr) (b m q lo hi : ℕ) → 0 < lo → Ready sc m → Takes q (m + 1) → marks.HasExpr p gs f n sc e b m q lo hi → Put b m lo hi
    expr sc (Local node i) b m q lo hi lt r on h = local_at sc node i b m q lo hi lt r on h
    expr sc (Constant node c v) b m q lo hi lt r on h = constant_at sc node (row.Constant c) b m q lo hi lt r on h.1
    expr sc (Apply node value o es) b m q lo hi lt r on h = apply (marks.HasExprs p gs f n sc es) (marks.HasNegated p gs f n sc node es) sc node value o (by_ways o es) (count (plain_exprs es)) (exprs sc es) (negated sc node es) b m q lo hi lt r on h
    expr sc (And node x y) b m q lo hi lt r on h =
        let meet = meets sc node h.0 m q lt r on h.4 in
        let right = expr sc y h.1 m h.0 h.2 h.3 (up lt meet.1) r meet.0 h.5 in
        let all = join meet.1 right.1 in
        let put = asks (marks.HasExpr p gs f n sc x) (marks.HasSides p gs f n sc x) sc node x (expr sc x) (sides sc x) b m (plainly h.1) (with_value h.0) h.3 hi (up lt all) r right.0 meet.0 h.6 in
        (put.0, join all put.1)
    expr sc (Or node x y) b m q lo hi lt r on h =
        let meet = meets sc node h.0 m q lt r on h.4 in
        let right = expr sc y h.1 m h.0 h.2 h.3 (up lt meet.1) r meet.0 h.5 in
        let all = join meet.1 right.1 in
        let put = asks (marks.HasExpr p gs f n sc x) (marks.HasSides p gs f n sc x) sc node x (expr sc x) (sides sc x) b m (with_value h.0) (plainly h.1) h.3 hi (up lt all) r meet.0 right.0 h.6 in
        (put.0, join all put.1)
    expr sc (Display node site ps) b m q lo hi lt r on h = display sc node site (marks.HasPairs p gs f n sc node ps) (pairs sc node ps) b m q lo hi lt r on h
    expr sc (Comprehension node site item target subject c) b m q lo hi lt r on h =
        comprehension sc node site (step_of (plain_subject subject)) (marks.HasSubject p gs f n sc node subject) (marks.HasBind p gs f n sc target []) (marks.HasCondition p gs f n sc node c) (marks.HasExpr p gs f n sc item) (walked sc node subject) (bind sc target []) (condition sc node c) (expr sc item) b m q lo hi lt r on h

    exprs : (sc : Scope) (es : Exprs) (b m q lo hi : ℕ) → 0 < lo → Ready sc m → Takes q (m + count (plain_exprs es)) → marks.HasExprs p gs f n sc es b m q lo hi → Put b m lo hi
    exprs sc none b m q lo hi lt r on h = let e : m + 0 ≡ m = omega arith in straight (subst (λ (i : ℕ). Takes q i) e on) h
    exprs sc (more e es) b m q lo hi lt r on h =
        let same : m + suc (count (plain_exprs es)) ≡ (m + 1) + count (plain_exprs es) = omega arith in
        let rest = exprs sc es h.0 (m + 1) q lo h.1 lt (and_one sc m r) (subst (λ (i : ℕ). Takes q i) same on) h.2 in
        let put = expr sc e b m h.0 h.1 hi (up lt rest.1) r rest.0 h.3 in
        (put.0, join rest.1 put.1)

    sides : (sc : Scope) (e : Expr) (b m c q lo hi : ℕ) → 0 < lo → Ready sc m → Takes q (m + c + 1) → marks.HasSides p gs f n sc e b m c q lo hi → Put b m lo hi
    sides sc (Apply node value o es) b m c q lo hi lt r on h = sides_at (marks.HasExprs p gs f n sc es) sc node value o (count (plain_exprs es)) (exprs sc es) b m c q lo hi lt r on h
    sides sc (Local node i) b m c q lo hi lt r on h = absurd h
    sides sc (Constant node k v) b m c q lo hi lt r on h = absurd h
    sides sc (And node x y) b m c q lo hi lt r on h = absurd h
    sides sc (Or node x y) b m c q lo hi lt r on h = absurd h
    sides sc (Display node site ps) b m c q lo hi lt r on h = absurd h
    sides sc (Comprehension node site item target subject d) b m c q lo hi lt r on h = absurd h

    test : (sc : Scope) (node : ℕ) (e : Expr) (b m one other lo hi : ℕ) → 0 < lo → Ready sc m → Takes one m → Takes other m → marks.HasTest p gs f n sc node e b m one other lo hi → Put b m lo hi
    test sc node (And inner x y) b m one other lo hi lt r on off h =
        let right = test sc inner y h.0 m one other lo h.1 lt r on off h.2 in
        let put = test sc inner x b m h.0 other h.1 hi (up lt right.1) r right.0 off h.3 in
        (put.0, join right.1 put.1)
    test sc node (Or inner x y) b m one other lo hi lt r on off h =
        let right = test sc inner y h.0 m one other lo h.1 lt r on off h.2 in
        let put = test sc inner x b m one h.0 h.1 hi (up lt right.1) r on right.0 h.3 in
        (put.0, join right.1 put.1)
    test sc node (Apply inner value o es) b m one other lo hi lt r on off (inl h) =
        asks (marks.ApplyAt p gs f n sc inner value o (by_ways o es) (count (plain_exprs es)) (marks.HasExprs p gs f n sc es) (marks.HasNegated p gs f n sc inner es)) (marks.SidesAt p gs f n sc inner value o (count (plain_exprs es)) (marks.HasExprs p gs f n sc es)) sc node (Apply inner value o es)
        (apply (marks.HasExprs p gs f n sc es) (marks.HasNegated p gs f n sc inner es) sc inner value o (by_ways o es) (count (plain_exprs es)) (exprs sc es) (negated sc inner es)) (sides_at (marks.HasExprs p gs f n sc es) sc inner value o (count (plain_exprs es)) (exprs sc es)) b m (plainly one) (plainly other) lo hi lt r on off h.1
    test sc node (Apply inner value o es) b m one other lo hi lt r on off (inr h) = negated sc inner es b m other one lo hi lt r off on h.2
    test sc node (Local inner i) b m one other lo hi lt r on off h =
        asks (marks.LocalAt p gs f n sc inner i) (λ b m c q lo hi. ⊥) sc node (Local inner i) (local_at sc inner i) (no_sides sc) b m (plainly one) (plainly other) lo hi lt r on off h
    test sc node (Constant inner c v) b m one other lo hi lt r on off h =
        asks (marks.ConstantAt p gs f n sc inner c v) (λ b m c q lo hi. ⊥) sc node (Constant inner c v) (λ b m q lo hi l s t k. constant_at sc inner (row.Constant c) b m q lo hi l s t k.1) (no_sides sc) b m (plainly one) (plainly other) lo hi lt r on off h
    test sc node (Display inner site ps) b m one other lo hi lt r on off h =
        asks (marks.HasExpr p gs f n sc (Display inner site ps)) (λ b m c q lo hi. ⊥) sc node (Display inner site ps) (display sc inner site (marks.HasPairs p gs f n sc inner ps) (pairs sc inner ps)) (no_sides sc) b m (plainly one) (plainly other) lo hi lt r on off h
    test sc node (Comprehension inner site item target subject c) b m one other lo hi lt r on off h =
        asks (marks.HasExpr p gs f n sc (Comprehension inner site item target subject c)) (λ b m c q lo hi. ⊥) sc node (Comprehension inner site item target subject c)
        (λ b m q lo hi l s t k. comprehension sc inner site (step_of (plain_subject subject)) (marks.HasSubject p gs f n sc inner subject) (marks.HasBind p gs f n sc target []) (marks.HasCondition p gs f n sc inner c) (marks.HasExpr p gs f n sc item) (walked sc inner subject) (bind sc target []) (condition sc inner c) (expr sc item) b m q lo hi l s t k) (no_sides sc) b m (plainly one) (plainly other) lo hi lt r on off h

    negated : (sc : Scope) (node : ℕ) (es : Exprs) (b m one other lo hi : ℕ) → 0 < lo → Ready sc m → Takes one m → Takes other m → marks.HasNegated p gs f n sc node es b m one other lo hi → Put b m lo hi
    negated sc node none b m one other lo hi lt r on off h = absurd h
    negated sc node (more e none) b m one other lo hi lt r on off h = test sc node e b m one other lo hi lt r on off h
    negated sc node (more e (more l es)) b m one other lo hi lt r on off h = absurd h

    pairs : (sc : Scope) (node : ℕ) (ps : Pairs) (b m q lo hi : ℕ) → 0 < lo → Ready sc m → Takes q (m + 1) → marks.HasPairs p gs f n sc node ps b m q lo hi → Put b (m + 1) lo hi
    pairs sc node no_pairs b m q lo hi lt r on h = straight on h
    pairs sc node (pair key e rest) b m q lo hi lt r on h =
        let one = and_one sc m r in
        let others = pairs sc node rest h.2 m q lo h.3 lt r on h.6 in
        let three : (m + 1) + 1 + 1 ≡ m + 3 = omega arith in
        let store = op sc h.1 node false row.StoreIndex (m ∷ (m + 1) ∷ (m + 2) ∷ []) (m + 3) (first h.2 (m + 1)) (up lt others.1) (and_three sc m r) (last_three m) (parts.way_first gs f (m + 3 + 1) h.2 (m + 1) (omega arith) others.0) h.7 in
        let all = join others.1 store.1 in
        let value = expr sc e h.0 (m + 1 + 1) h.1 h.4 h.5 (up lt all) (and_one sc (m + 1) one) (subst (λ (i : ℕ). Takes h.1 i) (sym three) store.0) h.8 in
        let more = join all value.1 in
        let put = expr sc key b (m + 1) h.0 h.5 hi (up lt more) one value.0 h.9 in
        (put.0, join more put.1)

    walked : (sc : Scope) (node : ℕ) (subject : Subject) (b m q lo hi : ℕ) → 0 < lo → Ready sc m → Takes q (m + 2) → marks.HasSubject p gs f n sc node subject b m q lo hi → Put b m lo hi
    walked sc node (Over site e) b m q lo hi lt r on h =
        let two : (m + 1) + 1 ≡ m + 2 = omega arith in
        let nought = op sc h.1 node false (row.Word (pos 0)) [] (m + 1) (first_and q (m + 1) (m + 1)) lt (and_one sc m r) tt (and_itself (m + 1) q (subst (λ (i : ℕ). Takes q i) (sym two) on)) h.4 in
        let walk = op sc h.0 node false (row.Walk site) (m ∷ []) (m + 1) (first_and h.1 m (m + 1)) (up lt nought.1) (and_one sc m r) (omega arith, tt) (and_next m h.1 nought.0) h.5 in
        let all = join nought.1 walk.1 in
        let put = expr sc e b m h.0 h.3 hi (up lt all) r walk.0 h.6 in
        (put.0, join all put.1)
    walked sc node (UpTo e) b m q lo hi lt r on h =
        let two : (m + 1) + 1 ≡ m + 2 = omega arith in
        let nought = op sc h.0 node false (row.Word (pos 0)) [] (m + 1) (first_and q (m + 1) (m + 1)) lt (and_one sc m r) tt (and_itself (m + 1) q (subst (λ (i : ℕ). Takes q i) (sym two) on)) h.2 in
        let put = expr sc e b m h.0 h.1 hi (up lt nought.1) r nought.0 h.3 in
        (put.0, join nought.1 put.1)
    walked sc node (FromTo x y step) b m q lo hi lt r on h =
        let two : (m + 1) + 1 ≡ m + 2 = omega arith in
        let turned = block h.1 (m + 2) (Go (record { to = q; places = (range 0 m ++ (m + 1) ∷ []) ++ m ∷ [] })) lt (parts.way_two gs f (m + 2) q m (m + 1) m (omega arith) (omega arith) (omega arith) on) h.4 in
        let right = expr sc y h.0 (m + 1) h.1 h.2 h.3 (up lt turned.1) (and_one sc m r) (subst (λ (i : ℕ). Takes h.1 i) (sym two) turned.0) h.5 in
        let all = join turned.1 right.1 in
        let put = expr sc x b m h.0 h.3 hi (up lt all) r right.0 h.6 in
        (put.0, join all put.1)

    condition : (sc : Scope) (node : ℕ) (c : Condition) (b m one other lo hi : ℕ) → 0 < lo → Ready sc m → Takes one m → Takes other m → marks.HasCondition p gs f n sc node c b m one other lo hi → Put b m lo hi
    condition sc node Always b m one other lo hi lt r on off h = straight on h
    condition sc node (Where e) b m one other lo hi lt r on off h = test sc node e b m one other lo hi lt r on off h

    bind : (sc : Scope) (t : Target) (path : Path) (at m keep b q lo hi : ℕ) → 0 < lo → Ready sc m → at < m → keep ≤ m → Takes q keep → marks.HasBind p gs f n sc t path at m keep b q lo hi → Put b m lo hi
    bind sc (Name node i) path at m keep b q lo hi lt r less le on h =
        let s = taken_there sc path at b m h.0 h.1 h.2 h.3 hi less h.6 in
        let store = op sc h.0 node true row.Copy (h.1 ∷ []) h.2 (stored q keep i h.2) lt (later sc m h.2 s.1 r) (s.0, tt) (parts.way_stored gs f (h.2 + 1) q keep i h.2 (omega (arith, le, s.1)) (omega arith) on) h.5 in
        let put = taken sc path at b m h.0 h.1 h.2 h.3 hi (up lt store.1) r less store.0 h.6 in
        (put.0, join store.1 put.1)
    bind sc (Attribute node e name) path at m keep b q lo hi lt r less le on h =
        let one = and_one sc m r in
        let fewer : at < m + 1 = omega (arith, less) in
        let s = taken_there sc path at h.1 (m + 1) h.2 h.3 h.4 h.5 h.6 fewer h.9 in
        let store = op sc h.2 node true (row.StoreAttr name) (m ∷ h.3 ∷ []) h.4 (first q keep) lt (later sc (m + 1) h.4 s.1 one) (omega (arith, s.1), (s.0, tt)) (parts.way_first gs f (h.4 + 1) q keep (omega (arith, le, s.1)) on) h.8 in
        let took = taken sc path at h.1 (m + 1) h.2 h.3 h.4 h.5 h.6 (up lt store.1) one fewer store.0 h.9 in
        let all = join store.1 took.1 in
        let object = expr sc e h.0 m h.1 h.6 h.7 (up lt all) r took.0 h.10 in
        let more = join all object.1 in
        let put = there sc path at b m h.0 h.7 hi (up lt more) r less object.0 h.11 in
        (put.0, join more put.1)
    bind sc (Item node x y) path at m keep b q lo hi lt r less le on h =
        let two = and_two sc m r in
        let fewer : at < m + 2 = omega (arith, less) in
        let same : (m + 1) + 1 ≡ m + 2 = omega arith in
        let s = taken_there sc path at h.2 (m + 2) h.3 h.4 h.5 h.6 h.7 fewer h.11 in
        let store = op sc h.3 node true row.StoreIndex (m ∷ (m + 1) ∷ h.4 ∷ []) h.5 (first q keep) lt (later sc (m + 2) h.5 s.1 two) (omega (arith, s.1), (omega (arith, s.1), (s.0, tt))) (parts.way_first gs f (h.5 + 1) q keep (omega (arith, le, s.1)) on) h.10 in
        let took = taken sc path at h.2 (m + 2) h.3 h.4 h.5 h.6 h.7 (up lt store.1) two fewer store.0 h.11 in
        let all = join store.1 took.1 in
        let index = expr sc y h.1 (m + 1) h.2 h.7 h.8 (up lt all) (and_one sc m r) (subst (λ (i : ℕ). Takes h.2 i) (sym same) took.0) h.12 in
        let more = join all index.1 in
        let object = expr sc x h.0 m h.1 h.8 h.9 (up lt more) r index.0 h.13 in
        let most = join more object.1 in
        let put = there sc path at b m h.0 h.9 hi (up lt most) r less object.0 h.14 in
        (put.0, join most put.1)
    bind sc (Parts node ts) path at m keep b q lo hi lt r less le on h =
        let s = taken_there sc path at b m h.0 h.3 h.4 h.7 hi less h.11 in
        let end = block h.2 m (Go (first q keep)) lt (parts.way_first gs f m q keep le on) h.8 in
        let took = items sc node ts (target_count (plain_targets ts)) 0 path at h.1 m h.2 h.5 h.6 (up lt end.1) r less end.0 h.9 in
        let all = join end.1 took.1 in
        let copy = op sc h.0 node true row.Copy (h.3 ∷ []) h.4 (first h.1 m) (up lt all) (later sc m h.4 s.1 r) (s.0, tt) (parts.way_first gs f (h.4 + 1) h.1 m (omega (arith, s.1)) took.0) h.10 in
        let more = join all copy.1 in
        let put = taken sc path at b m h.0 h.3 h.4 h.7 hi (up lt more) r less copy.0 h.11 in
        (put.0, join more put.1)

    items : (sc : Scope) (node : ℕ) (ts : Targets) (c i : ℕ) (path : Path) (at b m q lo hi : ℕ) → 0 < lo → Ready sc m → at < m → Takes q m → marks.HasItems p gs f n sc node ts c i path at b m q lo hi → Put b m lo hi
    items sc node no_targets c i path at b m q lo hi lt r less on h = straight on h
    items sc node (more_targets t ts) c i path at b m q lo hi lt r less on h =
        let rest = items sc node ts c (suc i) path at h.0 m q lo h.1 lt r less on h.2 in
        let put = bind sc t (path ++ record { node = node; count = c; place = i } ∷ []) at m m b h.0 h.1 hi (up lt rest.1) r less (omega arith) rest.0 h.3 in
        (put.0, join rest.1 put.1)

  -- ---- statements

  mark : (sc : Scope) (tried : Bool) (node b m q lo hi : ℕ) → 0 < lo → Ready sc m → Takes q m → marks.MarkIf p gs f n tried sc node b m q lo hi → Put b m lo hi
  mark sc true node b m q lo hi lt r on h = op sc b node false row.None [] m (first q m) lt r tt (first_of m q on) h
  mark sc false node b m q lo hi lt r on h = straight on h

  targets : (sc : Scope) (ts : Targets) (b m q lo hi : ℕ) → 0 < lo → Ready sc m → Takes q m → marks.HasTargets p gs f n sc ts b m q lo hi → Put b (m + 1) lo hi
  targets sc no_targets b m q lo hi lt r on h = block b (m + 1) (Go (first q m)) lt (first_of m q on) h
  targets sc (more_targets t no_targets) b m q lo hi lt r on h = bind sc t [] m (m + 1) m b q lo hi lt (and_one sc m r) (omega arith) (omega arith) on h
  targets sc (more_targets t (more_targets u ts)) b m q lo hi lt r on h =
      let rest = targets sc (more_targets u ts) h.0 m q lo h.1 lt r on h.2 in
      let put = bind sc t [] m (m + 1) (m + 1) b h.0 h.1 hi (up lt rest.1) (and_one sc m r) (omega arith) (omega arith) rest.0 h.3 in
      (put.0, join rest.1 put.1)

  new_at : (sc : Scope) (node : ℕ) (o : RowOp) (b m q lo hi : ℕ) → 0 < lo → Ready sc m → Takes q (m + 1) → marks.NewAt p gs f n sc node o b m q lo hi → Put b (m + 2) lo hi
  new_at sc node o b m q lo hi lt r on h = op sc b node false o (m ∷ (m + 1) ∷ []) (m + 2) (first_and q m (m + 2)) lt (and_two sc m r) (last_two m) (parts.way_and gs f (m + 2 + 1) q m (m + 2) (omega arith) (omega arith) on) h

  augment : (sc : Scope) (node : ℕ) (t : Target) (o : RowOp) (e : Expr) (b m q lo hi : ℕ) → 0 < lo → Ready sc m → Takes q m → marks.HasAugment p gs f n sc node t o e b m q lo hi → Put b m lo hi
  augment sc node (Name at i) o e b m q lo hi lt r on h =
      let locals = r.locals in
      let two : (m + 1) + 1 ≡ m + 2 = omega arith in
      let store = op sc h.2 at true row.Copy (m ∷ []) (m + 1) (stored q m i (m + 1)) lt (and_one sc m r) (omega arith, tt) (parts.way_stored gs f (m + 1 + 1) q m i (m + 1) (omega arith) (omega arith) on) h.7 in
      let new = new_at sc node o h.1 m h.2 h.3 h.4 (up lt store.1) r store.0 h.8 in
      let all = join store.1 new.1 in
      let right = expr sc e h.0 (m + 1) h.1 h.4 h.5 (up lt all) (and_one sc m r) (subst (λ (i : ℕ). Takes h.1 i) (sym two) new.0) h.9 in
      let more = join all right.1 in
      let put = op sc b at false row.Copy (i ∷ []) m (first_and h.0 m m) (up lt more) r (omega (arith, locals, h.6), tt) (and_itself m h.0 right.0) h.10 in
      (put.0, join more put.1)
  augment sc node (Attribute at x name) o e b m q lo hi lt r on h =
      let one = and_one sc m r in
      let three : (m + 1 + 1) + 1 ≡ (m + 1) + 2 = omega arith in
      let two : (m + 1) + 1 ≡ m + 2 = omega arith in
      let store = op sc h.3 at true (row.StoreAttr name) (m ∷ (m + 1) ∷ []) (m + 2) (first q m) lt (and_two sc m r) (last_two m) (parts.way_first gs f (m + 2 + 1) q m (omega arith) on) h.8 in
      let new = new_at sc node o h.2 (m + 1) h.3 h.4 h.5 (up lt store.1) one (subst (λ (i : ℕ). Takes h.3 i) (sym two) store.0) h.9 in
      let all = join store.1 new.1 in
      let right = expr sc e h.1 (m + 1 + 1) h.2 h.5 h.6 (up lt all) (and_one sc (m + 1) one) (subst (λ (i : ℕ). Takes h.2 i) (sym three) new.0) h.10 in
      let more = join all right.1 in
      let read = op sc h.0 at false (row.Attr name) (m ∷ []) (m + 1) (first_and h.1 (m + 1) (m + 1)) (up lt more) one (omega arith, tt) (and_itself (m + 1) h.1 right.0) h.11 in
      let most = join more read.1 in
      let put = expr sc x b m h.0 h.7 hi (up lt most) r read.0 h.12 in
      (put.0, join most put.1)
  augment sc node (Item at x i) o e b m q lo hi lt r on h =
      let two = and_two sc m r in
      let four : (m + 2 + 1) + 1 ≡ (m + 2) + 2 = omega arith in
      let three : (m + 2) + 1 ≡ m + 3 = omega arith in
      let pair : (m + 1) + 1 ≡ m + 2 = omega arith in
      let store = op sc h.4 at true row.StoreIndex (m ∷ (m + 1) ∷ (m + 2) ∷ []) (m + 3) (first q m) lt (and_three sc m r) (last_three m) (parts.way_first gs f (m + 3 + 1) q m (omega arith) on) h.10 in
      let new = new_at sc node o h.3 (m + 2) h.4 h.5 h.6 (up lt store.1) two (subst (λ (i : ℕ). Takes h.4 i) (sym three) store.0) h.11 in
      let all = join store.1 new.1 in
      let right = expr sc e h.2 (m + 2 + 1) h.3 h.6 h.7 (up lt all) (and_one sc (m + 2) two) (subst (λ (i : ℕ). Takes h.3 i) (sym four) new.0) h.12 in
      let more = join all right.1 in
      let read = op sc h.1 at false (row.Index None) (m ∷ (m + 1) ∷ []) (m + 2) (first_and h.2 (m + 2) (m + 2)) (up lt more) two (last_two m) (and_itself (m + 2) h.2 right.0) h.13 in
      let most = join more read.1 in
      let index = expr sc i h.0 (m + 1) h.1 h.8 h.9 (up lt most) (and_one sc m r) (subst (λ (i : ℕ). Takes h.1 i) (sym pair) read.0) h.14 in
      let whole = join most index.1 in
      let put = expr sc x b m h.0 h.9 hi (up lt whole) r index.0 h.15 in
      (put.0, join whole put.1)
  augment sc node (Parts at ts) o e b m q lo hi lt r on h = op sc b at true row.Copy [] m (first q m) lt r tt (first_of m q on) h

  gives_back : (sc : Scope) (node k m : ℕ) (ret : Aim) (lo hi : ℕ) → 0 < lo → ret.keep ≤ m → Takes ret.to (ret.keep + 1) → marks.GivesBack p gs f n sc node k m ret lo hi → Put k (m + 1) lo hi
  gives_back sc node k m ret lo hi lt le on (inl h) = block k (m + 1) (Go (first_and ret.to ret.keep m)) lt (parts.way_and gs f (m + 1) ret.to ret.keep m (omega (arith, le)) (omega arith) on) h.1
  gives_back sc node k m ret lo hi lt le on (inr h) =
      marked k (m + 1) node false (Does row.Copy (m ∷ []) sc.covers [] (first_and return_block 0 m) (first_and ret.to ret.keep m)) lt
      ((omega arith, tt), tt, (inr refl, parts.way_and gs f (m + 1 + 1) return_block 0 m (omega arith) (omega arith) back), parts.way_and gs f (m + 1 + 1) ret.to ret.keep m (omega (arith, le)) (omega arith) on) h

  mutual
    stmt : (sc : Scope) (s : Stmt) (b m : ℕ) (t : Ways) (lo hi : ℕ) → 0 < lo → Ready sc m → Leads m t → marks.HasStmt p gs f n sc s b m t lo hi → Put b m lo hi
    stmt sc (Pass node) b m t lo hi lt r w h = straight w.norm_takes h
    stmt sc (Break node) b m t lo hi lt r w h = block b m (Go (on_to t.brk)) lt (parts.way_first gs f m t.brk.to t.brk.keep w.brk w.brk_takes) h
    stmt sc (Continue node) b m t lo hi lt r w h = block b m (Go (on_to t.cont)) lt (parts.way_first gs f m t.cont.to t.cont.keep w.cont w.cont_takes) h
    stmt sc (Return node e) b m t lo hi lt r w h =
        let back = gives_back sc node h.0 m t.ret lo h.1 lt w.ret w.ret_takes h.2 in
        let put = expr sc e b m h.0 h.1 hi (up lt back.1) r back.0 h.3 in
        (put.0, join back.1 put.1)
    stmt sc (Do node e) b m t lo hi lt r w h =
        let end = block h.0 (m + 1) (Go (first t.norm m)) lt (first_of m t.norm w.norm_takes) h.2 in
        let put = expr sc e b m h.0 h.1 hi (up lt end.1) r end.0 h.3 in
        (put.0, join end.1 put.1)
    stmt sc (Assign node ts e) b m t lo hi lt r w h =
        let end = targets sc ts h.0 m t.norm lo h.1 lt r w.norm_takes h.2 in
        let put = expr sc e b m h.0 h.1 hi (up lt end.1) r end.0 h.3 in
        (put.0, join end.1 put.1)
    stmt sc (Augment node target o e) b m t lo hi lt r w h = augment sc node target o e b m t.norm lo hi lt r w.norm_takes h
    stmt sc (If node e one other) b m t lo hi lt r w h =
        let no = lines sc other h.1 m t lo h.2 lt r w h.4 in
        let yes = lines sc one h.0 m t h.2 h.3 (up lt no.1) r w h.5 in
        let all = join no.1 yes.1 in
        let put = test sc node e b m h.0 h.1 h.3 hi (up lt all) r yes.0 no.0 h.6 in
        (put.0, join all put.1)
    stmt sc (While node e body) b m t lo hi lt r w h =
        let head = head_takes b m (Go (first h.0 m)) lt h.6 in
        let above : 0 < h.3 = omega (arith, lt, h.6.1.0, h.6.1.1) in
        let turns = lines sc body h.2 m (within p gs f n t (record { to = b; keep = m }) (record { to = t.norm; keep = m })) h.3 h.4 above r
        (inside m m t (record { to = b; keep = m }) (record { to = t.norm; keep = m }) (omega arith) (omega arith) (omega arith) w head head w.norm_takes) h.7 in
        let turn = op sc h.1 node false row.Turn [] m (first h.2 m) (up above turns.1) r tt (first_of m h.2 turns.0) h.8 in
        let all = join turns.1 turn.1 in
        let asked = test sc node e h.0 m h.1 t.norm h.5 hi (up above all) r turn.0 w.norm_takes h.9 in
        let put = block b m (Go (first h.0 m)) lt (parts.way_first gs f m h.0 m (omega arith) asked.0) h.6 in
        (put.0, join put.1 (join all asked.1))
    stmt sc (For node target subject body) b m t lo hi lt r w h =
        let two = and_two sc m r in
        let head = head_takes h.0 (m + 2) (Go (first h.1 (m + 2))) lt h.10 in
        let above : 0 < h.5 = omega (arith, lt, h.10.1.0, h.10.1.1) in
        let advance = advance_at sc node (step_of (plain_subject subject)) m h.0 h.2 h.5 h.6 above r head h.11 in
        let turns = lines sc body h.3 (m + 2) (within p gs f n t (record { to = h.2; keep = m + 2 }) (record { to = t.norm; keep = m })) h.6 h.7 (up above advance.1) two
        (inside m (m + 2) t (record { to = h.2; keep = m + 2 }) (record { to = t.norm; keep = m }) (omega arith) (omega arith) (omega arith) w advance.0 advance.0 w.norm_takes) h.12 in
        let g1 = join advance.1 turns.1 in
        let bound = bind sc target [] (m + 2) (m + 2 + 1) (m + 2) h.4 h.3 h.7 h.8 (up above g1) (and_one sc (m + 2) two) (omega arith) (omega arith) turns.0 h.13 in
        let g2 = join g1 bound.1 in
        let turn = one_turn sc node (step_of (plain_subject subject)) m h.4 (first t.norm m) h.1 h.8 h.9 (up above g2) r bound.0 (parts.way_first gs f (m + 2 + 1) t.norm m (omega arith) w.norm_takes) h.14 in
        let g3 = join g2 turn.1 in
        let put = walked sc node subject b m h.0 h.9 hi (up above g3) r head h.15 in
        (put.0, join (head_at m h.0 h.1 lo h.5 lt turn.0 h.10).1 (join g3 put.1))
    stmt sc (Try node body cs other) b m t lo hi lt r w h =
        let after = lines sc other h.0 m t lo h.1 lt r w h.5 in
        let caught = clauses sc cs m t h.3 h.4 h.1 h.2 (up lt after.1) r w h.6 in
        let all = join after.1 caught.2 in
        let put = lines (record { hands = h.3; default = h.4; covers = covers_within p.classes (plain_clauses cs) sc.covers; tried = true }) body b m (onto t h.0) h.2 hi (up lt all)
        (record { locals = r.locals; default = caught.1.0; hands = caught.0.0; default_takes = caught.1.1; hands_take = caught.0.1 }) (put_onto m t h.0 w after.0) h.7 in
        (put.0, join all put.1)
    stmt sc (Finally node body last) b m t lo hi lt r w h =
        let one = and_one sc m r in
        let norm = lines sc last h.0 m t lo h.9 lt r w h.18 in
        let to_brk = block h.5 m (Go (on_to t.brk)) (up lt norm.1) (parts.way_first gs f m t.brk.to t.brk.keep w.brk w.brk_takes) h.19 in
        let g1 = join norm.1 to_brk.1 in
        let brk = lines sc last h.1 m (onto t h.5) h.10 h.11 (up lt g1) r (put_onto m t h.5 w to_brk.0) h.20 in
        let g2 = join g1 brk.1 in
        let to_cont = block h.6 m (Go (on_to t.cont)) (up lt g2) (parts.way_first gs f m t.cont.to t.cont.keep w.cont w.cont_takes) h.21 in
        let g3 = join g2 to_cont.1 in
        let cont = lines sc last h.2 m (onto t h.6) h.12 h.13 (up lt g3) r (put_onto m t h.6 w to_cont.0) h.22 in
        let g4 = join g3 cont.1 in
        let keep = w.ret in
        let to_ret = block h.7 (m + 1) (Go (first_and t.ret.to t.ret.keep m)) (up lt g4) (parts.way_and gs f (m + 1) t.ret.to t.ret.keep m (omega (arith, keep)) (omega arith) w.ret_takes) h.23 in
        let g5 = join g4 to_ret.1 in
        let ret = lines sc last h.3 (m + 1) (onto t h.7) h.14 h.15 (up lt g5) one (behind m t h.7 w to_ret.0) h.24 in
        let g6 = join g5 ret.1 in
        let to_exc = op sc h.8 node false row.Raise (m ∷ []) (m + 1) (first never_block 0) (up lt g6) one (omega arith, tt) (parts.way_first gs f (m + 1 + 1) never_block 0 (omega arith) never) h.25 in
        let g7 = join g6 to_exc.1 in
        let exc = lines sc last h.4 (m + 1) (onto t h.8) h.16 h.17 (up lt g7) one (behind m t h.8 w to_exc.0) h.26 in
        let g8 = join g7 exc.1 in
        let put = lines (record { hands = []; default = record { to = h.4; keep = m }; covers = sc.covers; tried = true }) body b m
        (record { norm = h.0; brk = record { to = h.1; keep = m }; cont = record { to = h.2; keep = m }; ret = record { to = h.3; keep = m } }) h.17 hi (up lt g8)
        (record { locals = r.locals; default = omega arith; hands = tt; default_takes = exc.0; hands_take = tt })
        (record { brk = omega arith; cont = omega arith; ret = omega arith; norm_takes = norm.0; brk_takes = brk.0; cont_takes = cont.0; ret_takes = ret.0 }) h.27 in
        (put.0, join g8 put.1)

    pub lines : (sc : Scope) (s : Block) (b m : ℕ) (t : Ways) (lo hi : ℕ) → 0 < lo → Ready sc m → Leads m t → marks.HasBlock p gs f n sc s b m t lo hi → Put b m lo hi
    lines sc done b m t lo hi lt r w h = straight w.norm_takes h
    lines sc (line s rest) b m t lo hi lt r w h =
        let next = lines sc rest h.2 m t lo h.3 lt r w h.6 in
        let after = mark sc sc.tried (node_of s) h.1 m h.2 h.3 h.4 (up lt next.1) r next.0 h.7 in
        let g1 = join next.1 after.1 in
        let does = stmt sc s h.0 m (onto t h.1) h.4 h.5 (up lt g1) r (put_onto m t h.1 w after.0) h.8 in
        let g2 = join g1 does.1 in
        let put = mark sc sc.tried (node_of s) b m h.0 h.5 hi (up lt g2) r does.0 h.9 in
        (put.0, join g2 put.1)

    -- no more variables go on to the clauses than are here, and the clauses take them
    clauses : (sc : Scope) (cs : Clauses) (m : ℕ) (t : Ways) (hands : List Hand) (default : Aim) (lo hi : ℕ) → 0 < lo → Ready sc m → Leads m t → marks.HasClauses p gs f n sc cs m t hands default lo hi
        → (HandsKeep m hands × parts.HandsTake gs f hands) × ((default.keep ≤ m) × Takes default.to (default.keep + 1)) × Good lo hi
    clauses sc no_clauses m t hands default lo hi lt r w h = (
      (subst (λ (hs : List Hand). HandsKeep m hs) (sym h.0) r.hands, subst (λ (hs : List Hand). parts.HandsTake gs f hs) (sym h.0) r.hands_take),
      (subst (λ (aim : Aim). aim.keep ≤ m) (sym h.1) r.default, subst (λ (aim : Aim). Takes aim.to (aim.keep + 1)) (sym h.1) r.default_takes),
      nothing h.2,
    )
    clauses sc (clause None local body rest) m t hands default lo hi lt r w h =
        let begun = lines sc body h.0 m t lo h.2 lt r w h.6 in
        let drop = block h.1 (m + 1) (Go (first h.0 m)) (up lt begun.1) (first_of m h.0 begun.0) h.7 in (
          (subst (λ (hs : List Hand). HandsKeep m hs) (sym h.4) tt, subst (λ (hs : List Hand). parts.HandsTake gs f hs) (sym h.4) tt),
          (subst (λ (aim : Aim). aim.keep ≤ m) (sym h.5) (omega arith), subst (λ (aim : Aim). Takes aim.to (aim.keep + 1)) (sym h.5) drop.0),
          join begun.1 drop.1,
        )
    clauses sc (clause (Some classes) local body rest) m t hands default lo hi lt r w h =
        let begun = lines sc body h.0 m t lo h.1 lt r w h.5 in
        let others = clauses sc rest m t h.2 default h.1 hi (up lt begun.1) r w h.6 in (
          (
            subst (λ (hs : List Hand). HandsKeep m hs) (sym h.4) (hands_before m local (record { to = h.0; keep = m }) classes h.2 (omega arith) others.0.0),
            subst (λ (hs : List Hand). parts.HandsTake gs f hs) (sym h.4) (parts.hands_before gs f local (record { to = h.0; keep = m }) classes h.2 begun.0 others.0.1),
          ),
          others.1,
          join begun.1 others.2,
        )
