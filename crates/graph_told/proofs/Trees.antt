-- What is known of places where parts of expressions stand, through all of their blocks.
use Rattle.std.proofs.Common.{◌≡◌, ◌⊎◌, ℕ, ℤ, suc, ◌+◌, ◌<◌, ◌≤◌, inl, inr, Bool, true, false, [], ◌∷◌, ◌++◌, Option, Some, pos, refl, sym, ◌∙◌, subst, arith}
use Rattle.std.specs.Prelude.{◌==◌, ◌||◌}
use Rattle.std.proofs.lemmas.Bool.{false≢true, eq-eqb}
use Rattle.rpy_tree.specs.Value.{Value}
use Rattle.rpy_tree.specs.declared.program.Const.{Const}
use Rattle.rpy_tree.specs.declared.syntax.CmpOp.{CmpOp}
use Rattle.rpy_meaning.specs.declared.row.RowOp.{RowOp}
use Rattle.rpy_meaning.specs.declared.row.RowOp.TheVariants as row
use Rattle.rpy_meaning.specs.Tree as meaning
use Rattle.rpy_meaning.specs.Meaning.{target_count}
use Rattle.rpy_meaning.specs.World.{World}
use Rattle.flow_graph.specs.declared.graph.Graphs.{Graphs}
use Rattle.flow_stands.specs.Places.{range, stored, Scope, Jump, Go, Fork, first, first_and}
use Rattle.flow_stands.specs.Stands.{Branch, plainly, with_value as with_branch, count, step_of}
use Rattle.flow_trees.specs.Tree.{Expr, Local, Constant, Apply, And, Or, Display, Comprehension, Exprs, none, more, Pairs, no_pairs, pair, Subject, Over, UpTo, FromTo, Condition, Always, Where, Target, Name, Attribute, Item, Parts, Targets, no_targets, more_targets, plain_exprs, plain_subject, plain_targets}
use Rattle.flow_trees.specs.Tells.{Telling, tells, asks_beside, binds, some_bind, pairs_bind, subject_binds, condition_binds, target_binds, targets_bind}
use Rattle.flow_trees.specs.Marks as marks
use Rattle.flow_trees.specs.Marks.{Path}
use Rattle.graph_told.specs.Plain.{narrows, PlainExpr, PlainExprs, PlainPairs, PlainSubject, PlainCondition, PlainTarget, PlainTargets}
use Rattle.graph_told.proofs.Facts as facts
use Rattle.graph_told.proofs.Facts.{At, Facts, pick, with_value, Accepts}
use Rattle.graph_told.proofs.Moves.{pick_first, pick_two, stored_other, with_other}
use Rattle.graph_told.proofs.Telling.{LeftIs, RightIs, as_left}
use Rattle.graph_told.proofs.Steps as steps
use Rattle.graph_told.proofs.Steps.{Held}
use Rattle.graph_told.proofs.Asking as asking
use Rattle.graph_told.proofs.Asking.{none_beside}

-- comparisons that do not have two sides tell nothing
silent_none : (node : ℕ) (value : Bool) (o : CmpOp) (way : Bool) (t : Telling) → tells (Apply node value (row.Compare o) none) way ≡ Some t → ⊥
silent_none node value o way t told = cc

silent_one : (node : ℕ) (value : Bool) (o : CmpOp) (a : Expr) (way : Bool) (t : Telling) → tells (Apply node value (row.Compare o) (more a none)) way ≡ Some t → ⊥
silent_one node value o a way t told = cc

silent_three : (node : ℕ) (value : Bool) (o : CmpOp) (a e l : Expr) (es : Exprs) (way : Bool) (t : Telling) → tells (Apply node value (row.Compare o) (more a (more e (more l es)))) way ≡ Some t → ⊥
silent_three node value o a e l es way t told = cc

first_no : (a b : Bool) → (a || b) ≡ false → a ≡ false
first_no true b e = absurd (false≢true (sym e))
first_no false b e = refl

second_no : (a b : Bool) → (a || b) ≡ false → b ≡ false
second_no true b e = absurd (false≢true (sym e))
second_no false b e = e

module _ (p : meaning.Program) (gs : Graphs) (f n : ℕ) (P : meaning.Program) (sites : P.sites ≡ p.sites) where
  abbrev L : ℕ → ℕ → (Facts → Type 0) → (Facts → Type 0) → Type 1
  L lo hi C E = steps.L p gs f n P lo hi C E

  abbrev Acc : ℕ → Held → Facts → Type 0
  Acc b K J = steps.Acc p gs f n P b K J

  -- and the block may be entered
  abbrev With : (Facts → Type 0) → ℕ → Held → Facts → Type 0
  With C b K J = C J × Acc b K J

  abbrev Steady : ℕ → (ℕ → Bool) → Held → Type 0
  Steady m B K = steps.Steady p gs f n P m B K

  abbrev Around : (Facts → Type 0) → Scope → Type 1
  Around C sc = steps.Around p gs f n P C sc

  abbrev Asked : Held → Expr → ℕ → ℕ → facts.Fact
  Asked K e m value w at = asking.Asked p gs f n P sites K e m value w at

  abbrev Stands : Expr → ℕ → At → Type 0
  Stands e m at = asking.Stands p gs f n P sites e m at

  abbrev Sides : Expr → Expr → ℕ → At → Type 0
  Sides a e m at = asking.Sides p gs f n P sites a e m at

  abbrev Known : Held → Expr → ℕ → facts.Fact
  Known K e m w at = asking.Known p gs f n P sites K e m w at

  abbrev next : {lo mid hi : ℕ} {C E F : Facts → Type 0} → L lo mid C E → L mid hi (λ J. C J × E J) F → L lo hi C F
  next x y = facts.next P gs f x y

  pub straight : (C : Facts → Type 0) (b q lo hi : ℕ) (K : Held) → ((J : Facts) → C J → Acc q K J) → (b ≡ q) × (lo ≡ hi) → L lo hi C (Acc b K)
  straight C b q lo hi K on h = facts.straight P gs f h.1 (λ J c. subst (λ (i : ℕ). Acc i K J) (sym h.0) (on J c))

  -- fewer locals are bound
  fewer : (m : ℕ) (B B' : ℕ → Bool) (K : Held) → ((j : ℕ) → B j ≡ false → B' j ≡ false) → Steady m B K → Steady m B' K
  fewer m B B' K less s = steps.steady_on p gs f n P m m B B' K (omega arith) less s

  up : (m k : ℕ) (B : ℕ → Bool) (K : Held) → m ≤ k → Steady m B K → Steady k B K
  up m k B K le s = steps.steady_up p gs f n P m k B K le s

  -- the copy that meets
  meets : (C : Facts → Type 0) (sc : Scope) (node b m q : ℕ) {lo hi : ℕ} (B : ℕ → Bool) (K : Held) → Steady m B K → Around C sc → ((J : Facts) → C J → Acc q K J) → marks.Meets p gs f n sc node b m q lo hi → L lo hi C (Acc b K)
  meets C sc node b m q B K s around on h = steps.op_and p gs f n P C sc b node true row.Copy (m ∷ []) (m + 1) q m (m + 1) B K refl (omega arith) s around on h

  local_below : (sc : Scope) (e : Expr) (b m q lo hi : ℕ) → marks.HasExpr p gs f n sc e b m q lo hi → asking.LocalBelow p gs f n P sites e
  local_below sc (Local node i) b m q lo hi h = h.0
  local_below sc e b m q lo hi h = tt

  -- what the left side left stands while the right one is evaluated
  left_kept : (a e : Expr) (x : Value) (at at' : At) → asking.LocalBelow p gs f n P sites a → ((j : ℕ) → j < n → binds e j ≡ false → at' j ≡ at j) → LeftIs P a e x at → LeftIs P a e x at'
  left_kept (Local node i) e x at at' lt same left = λ free. same i lt free ∙ left free
  left_kept a e x at at' lt same left = tt

  -- ---- items of tuples

  unpacks : (C : Facts → Type 0) (sc : Scope) (last : ℕ → Jump) (m : ℕ) (B : ℕ → Bool) (K : Held) → Steady m B K → Around C sc → ((J : Facts) → C J → (w : ℕ) → m ≤ w → (world : World) (at : At) (v : Value) → K at → J (last w).to world (pick (with_value at w v) (last w).places))
      → (path : Path) (at w b lo hi : ℕ) → m ≤ w → marks.Unpacks p gs f n sc last m path at w b lo hi → L lo hi C (Acc b K)
  unpacks C sc last m B K s around on [] at w b lo hi le h = absurd h
  unpacks C sc last m B K s around on (part ∷ []) at w b lo hi le h = steps.op p gs f n P C sc b part.node false (row.Unpack part.count part.place) (at ∷ []) w (last w) K refl around (λ J c world places v x. on J c w le world places v x) h
  unpacks C sc last m B K s around on (part ∷ step ∷ path) at w b lo hi le h =
      next (unpacks C sc last m B K s around on (step ∷ path) m (m + 1) h.0 lo h.1 (omega arith) h.2)
      (steps.op_and p gs f n P (With C h.0 K) sc b part.node false (row.Unpack part.count part.place) (at ∷ []) w h.0 m w B K refl le s (λ J c. around J c.0) (λ J c. c.1) h.3)

  there : (C : Facts → Type 0) (sc : Scope) (path : Path) (at b m q lo hi : ℕ) (B : ℕ → Bool) (K : Held) → Steady m B K → Around C sc → ((J : Facts) → C J → Acc q K J) → marks.There p gs f n sc path at b m q lo hi → L lo hi C (Acc b K)
  there C sc [] at b m q lo hi B K s around on h = straight C b q lo hi K on h
  there C sc (part ∷ path) at b m q lo hi B K s around on h =
      unpacks C sc (λ w. first q m) m B K s around (λ J c w le world places v x. on J c world (pick (with_value places w v) (range 0 m)) (steps.stays p gs f n P m B K s places (pick (with_value places w v) (range 0 m)) (steps.first_same p gs f n P m w places v le) x)) (part ∷ path) at m b lo hi (omega arith) h

  taken : (C : Facts → Type 0) (sc : Scope) (path : Path) (at b m q v w lo hi : ℕ) (B : ℕ → Bool) (K : Held) → Steady m B K → Around C sc → ((J : Facts) → C J → Acc q K J) → marks.Taken p gs f n sc path at b m q v w lo hi → L lo hi C (Acc b K)
  taken C sc [] at b m q v w lo hi B K s around on h = straight C b q lo hi K on h.2
  taken C sc (part ∷ path) at b m q v w lo hi B K s around on h =
      unpacks C sc (first_and q m) m B K s around (λ J c i le world places x k. on J c world (pick (with_value places i x) (range 0 m ++ i ∷ [])) (steps.stays p gs f n P m B K s places (pick (with_value places i x) (range 0 m ++ i ∷ [])) (steps.and_same p gs f n P m i i places x le) k)) (part ∷ path) at m b lo hi (omega arith) h.2

  -- no variable is gone
  taken_more : (sc : Scope) (path : Path) (at b m q v w lo hi : ℕ) → marks.Taken p gs f n sc path at b m q v w lo hi → m ≤ w
  taken_more sc [] at b m q v w lo hi h = omega (arith, h.1)
  taken_more sc (part ∷ path) at b m q v w lo hi h = omega (arith, h.1)

  -- ---- walks

  pub advance_at : (C : Facts → Type 0) (sc : Scope) (node : ℕ) (step : Option ℤ) (over head advance lo hi : ℕ) (B : ℕ → Bool) (K : Held) → Steady over B K → Around C sc → ((J : Facts) → C J → Acc head K J) → marks.AdvanceAt p gs f n sc node step over head advance lo hi → L lo hi C (Acc advance K)
  advance_at C sc node step over head advance lo hi B K s around on h =
      steps.op_and p gs f n P C sc advance node false (row.Advance step) (over ∷ (over + 1) ∷ []) (over + 2) head (over + 1) (over + 2) B K refl (omega arith) (up over (over + 1) B K (omega arith) s) around on h

  pub turn_at : (C : Facts → Type 0) (sc : Scope) (node : ℕ) (step : Option ℤ) (over turn q k begin lo hi : ℕ) (B : ℕ → Bool) (K : Held) → Steady over B K → over ≤ k → k ≤ over → Around C sc → ((J : Facts) → C J → Acc turn K J) → ((J : Facts) → C J → Acc q K J)
      → marks.TurnAt p gs f n sc node step over turn (first q k) begin lo hi → L lo hi C (Acc begin K)
  turn_at C sc node step over turn q k begin lo hi B K s ge le around on off h =
      let s2 = up over (over + 2) B K (omega arith) s in
      let item = steps.op_and p gs f n P C sc h.2 node false (row.Item step) (over ∷ (over + 1) ∷ []) (over + 2) turn (over + 2) (over + 2) B K refl (omega arith) s2 around on h.6 in
      let C1 = With C h.2 K in
      let paid = steps.op_first p gs f n P C1 sc h.1 node false row.Turn [] (over + 2) h.2 (over + 2) B K refl (omega arith) s2 (λ J c. around J c.0) (λ J c. c.1) h.7 in
      let C2 = With C1 h.1 K in
      let fork = facts.one P gs f {C = C2} h.0 h.8.0.0 (over + 2 + 1) h.8.0.1 h.8.0.2 (Fork (over + 2) (first h.1 (over + 2)) (first q k)) h.8.1 h.8.0.3 (λ w at. K at)
      (λ J c w at x. (
        λ so. c.1 w (pick at (range 0 (over + 2))) (steps.stays p gs f n P (over + 2) B K s2 at (pick at (range 0 (over + 2))) (λ j lt. pick_first at (over + 2) j lt) x),
        λ other. off J c.0.0 w (pick at (range 0 k)) (steps.stays p gs f n P over B K s at (pick at (range 0 k)) (λ j lt. pick_first at k j (omega (arith, lt, ge))) x),
      )) in
      let C3 = With C2 h.0 K in
      let asked = steps.op_and p gs f n P C3 sc begin node false (row.HasItem step) (over ∷ (over + 1) ∷ []) (over + 2) h.0 (over + 2) (over + 2) B K refl (omega arith) s2 (λ J c. around J c.0.0.0) (λ J c. c.1) h.9 in
      next item (next paid (next fork asked))

  -- a local that is stored is bound
  unbound : (j i : ℕ) → i < n → j ≡ i → (n ≤ j) ⊎ ((i == j) ≡ false) → ⊥
  unbound j i lt e (inl here) = omega (arith, lt, e, here)
  unbound j i lt e (inr other) = false≢true (sym other ∙ eq-eqb i j (sym e))

  -- ---- walks through the blocks of parts

  abbrev Place : Type 1
  Place = ℕ → ℕ → ℕ → ℕ → ℕ → Type 0

  -- of a part that gives one variable more, or none; the locals that it binds
  abbrev WalkOf : Scope → Place → (ℕ → Bool) → Type 1
  WalkOf sc E B = (C : Facts → Type 0) (b m q lo hi : ℕ) (K : Held) → n ≤ m → Steady m B K → Around C sc → ((J : Facts) → C J → Acc q K J) → E b m q lo hi → L lo hi C (Acc b K)

  -- with what is known of its value
  abbrev KnowOf : Scope → Expr → Type 1
  KnowOf sc e = (C : Facts → Type 0) (b m q lo hi : ℕ) (K : Held) → n ≤ m → Steady m (binds e) K → Around C sc → ((J : Facts) → C J → Accepts J q (Known K e m)) → marks.HasExpr p gs f n sc e b m q lo hi → L lo hi C (Acc b K)

  abbrev ChoiceOf : Scope → (ℕ → ℕ → ℕ → ℕ → ℕ → ℕ → Type 0) → (ℕ → Bool) → Type 1
  ChoiceOf sc T B = (C : Facts → Type 0) (b m one other lo hi : ℕ) (K : Held) → n ≤ m → Steady m B K → Around C sc → ((J : Facts) → C J → Acc one K J) → ((J : Facts) → C J → Acc other K J) → T b m one other lo hi → L lo hi C (Acc b K)

  abbrev SidesOf : Scope → Expr → Type 1
  SidesOf sc e = (C : Facts → Type 0) (b m c q lo hi : ℕ) (K : Held) → n ≤ m → Steady m (binds e) K → Around C sc → ((J : Facts) → C J → Accepts J q (Asked K e m (m + c))) → marks.HasSides p gs f n sc e b m c q lo hi → L lo hi C (Acc b K)

  abbrev BindOf : Scope → Target → Path → Type 1
  BindOf sc t path = (C : Facts → Type 0) (at m keep b q lo hi : ℕ) (K : Held) → n ≤ keep → keep ≤ m → Steady keep (target_binds t) K → Around C sc → ((J : Facts) → C J → Acc q K J) → marks.HasBind p gs f n sc t path at m keep b q lo hi → L lo hi C (Acc b K)

  pub plainly_walk : (sc : Scope) (e : Expr) → KnowOf sc e → WalkOf sc (marks.HasExpr p gs f n sc e) (binds e)
  plainly_walk sc e x C b m q lo hi K few s around on h = x C b m q lo hi K few s around (λ J c w at k. on J c w at k.0) h

  -- where nothing is known of the value
  quietly : (C : Facts → Type 0) (e : Expr) (m q : ℕ) (K : Held) → ((way : Bool) (t : Telling) → tells e way ≡ Some t → ⊥) → ((y : Value) (at : At) → RightIs P e y at) → ((J : Facts) → C J → Accepts J q (Known K e m)) → (J : Facts) → C J → Acc q K J
  quietly C e m q K silent nothing on J c w at x = on J c w at (x, (λ y y_is. nothing y at), λ alone way t told local before true_is us u. absurd (silent way t told))

  none_walk : (sc : Scope) (B : ℕ → Bool) → WalkOf sc (marks.HasExprs p gs f n sc none) B
  none_walk sc B C b m q lo hi K few s around on h = straight C b q lo hi K on h

  more_walk : (sc : Scope) (e : Expr) (es : Exprs) → WalkOf sc (marks.HasExpr p gs f n sc e) (binds e) → WalkOf sc (marks.HasExprs p gs f n sc es) (some_bind es) → WalkOf sc (marks.HasExprs p gs f n sc (more e es)) (some_bind (more e es))
  more_walk sc e es x y C b m q lo hi K few s around on h =
      next (y C h.0 (m + 1) q lo h.1 K (omega (arith, few)) (up m (m + 1) (some_bind es) K (omega arith) (fewer m (some_bind (more e es)) (some_bind es) K (λ j e1. second_no (binds e j) (some_bind es j) e1) s)) around on h.2)
      (x (With C h.0 K) b m h.0 h.1 hi K few (fewer m (some_bind (more e es)) (binds e) K (λ j e1. first_no (binds e j) (some_bind es j) e1) s) (λ J c. around J c.0) (λ J c. c.1) h.3)

  not_walk : (sc : Scope) (node : ℕ) (e : Expr) (es : Exprs) → ChoiceOf sc (marks.HasTest p gs f n sc node e) (binds e) → ChoiceOf sc (marks.HasNegated p gs f n sc node (more e es)) (some_bind (more e es))
  not_walk sc node e none x C b m one other lo hi K few s around on off h = x C b m one other lo hi K few (fewer m (some_bind (more e none)) (binds e) K (λ j e1. first_no (binds e j) false e1) s) around on off h
  not_walk sc node e (more l es) x C b m one other lo hi K few s around on off h = absurd h

  no_walk : (sc : Scope) (node : ℕ) (B : ℕ → Bool) → ChoiceOf sc (marks.HasNegated p gs f n sc node none) B
  no_walk sc node B C b m one other lo hi K few s around on off h = absurd h

  apply : (sc : Scope) (node : ℕ) (value : Bool) (o : RowOp) (es : Exprs) → narrows o ≡ false → WalkOf sc (marks.HasExprs p gs f n sc es) (some_bind es) → ChoiceOf sc (marks.HasNegated p gs f n sc node es) (some_bind es) → WalkOf sc (marks.HasExpr p gs f n sc (Apply node value o es)) (some_bind es)
  apply sc node value o es quiet x t C b m q lo hi K few s around on (inl h) =
      let c = count (plain_exprs es) in
      next (steps.op_onward p gs f n P C sc h.1.0 node value o (range m c) (m + c) q m (some_bind es) K quiet (omega arith) s around on h.1.2)
      (x (With C h.1.0 K) b m h.1.0 h.1.1 hi K few s (λ J c. around J c.0) (λ J c. c.1) h.1.3)
  apply sc node value o es quiet x t C b m q lo hi K few s around on (inr k) =
      let h = k.2 in
      let C1 = With C h.0 K in
      let C2 = With C1 h.2 K in
      let C3 = With C2 h.1 K in
      next (meets C sc node h.0 m q (some_bind es) K s around on h.6)
      (next (steps.op_and p gs f n P C1 sc h.2 node false (row.Bool true) [] m h.0 m m (some_bind es) K refl (omega arith) s (λ J c. around J c.0) (λ J c. c.1) h.7)
      (next (steps.op_and p gs f n P C2 sc h.1 node false (row.Bool false) [] m h.0 m m (some_bind es) K refl (omega arith) s (λ J c. around J c.0.0) (λ J c. c.0.1) h.8)
      (t C3 b m h.1 h.2 h.5 hi K few s (λ J c. around J c.0.0.0) (λ J c. c.1) (λ J c. c.0.1) h.9)))

  -- `None`
  apply_none : (sc : Scope) (node : ℕ) (value : Bool) (es : Exprs) → WalkOf sc (marks.HasExprs p gs f n sc es) (some_bind es) → KnowOf sc (Apply node value row.None es)
  apply_none sc node value es x C b m q lo hi K few s around on (inl h) =
      next (asking.none_stands p gs f n P sites C sc h.1.0 node value es node value m q lo h.1.1 (some_bind es) K s around (λ J c w at k. on J c w at (k.0, k.1, λ alone way t told. cc)) h.1.2)
      (x (With C h.1.0 K) b m h.1.0 h.1.1 hi K few s (λ J c. around J c.0) (λ J c. c.1) h.1.3)
  apply_none sc node value es x C b m q lo hi K few s around on (inr h) = absurd (false≢true h.0)

  -- `isinstance`
  apply_instance : (sc : Scope) (node : ℕ) (value : Bool) (d : ℕ) (a : Expr) → KnowOf sc a → KnowOf sc (Apply node value (row.IsInstance d) (more a none))
  apply_instance sc node value d a x C b m q lo hi K few s around on (inl h) =
      let K2 : Held = λ at. K at × Stands a m at in
      let es = h.1.3 in
      next (asking.instance_asked p gs f n P sites C sc h.1.0 node value d a node value m q lo h.1.1 (some_bind (more a none)) K few s (local_below sc a b m es.0 es.1 hi es.3) around (λ J c w at k. on J c w at (k.0, (λ y e. tt), λ alone. k.1)) h.1.2)
      (next (straight (With C h.1.0 K2) es.0 h.1.0 h.1.1 es.1 K2 (λ J c. c.1) es.2)
      (x (With (With C h.1.0 K2) es.0 K2) b m es.0 es.1 hi K few (fewer m (some_bind (more a none)) (binds a) K (λ j e. first_no (binds a j) false e) s) (λ J c. around J c.0.0) (λ J c w at k. c.1 w at (k.0, k.1)) es.3))
  apply_instance sc node value d a x C b m q lo hi K few s around on (inr h) = absurd (false≢true h.0)

  -- both sides of a comparison
  both : (sc : Scope) (a e : Expr) → KnowOf sc a → KnowOf sc e → (C : Facts → Type 0) (b m q lo hi : ℕ) (K : Held) → n ≤ m → Steady m (some_bind (more a (more e none))) K → Around C sc → ((J : Facts) → C J → Acc q (λ at. K at × Sides a e m at) J)
      → marks.HasExprs p gs f n sc (more a (more e none)) b m q lo hi → L lo hi C (Acc b K)
  both sc a e x y C b m q lo hi K few s around on h =
      let K2 : Held = λ at. K at × ((x : Value) → at m ≡ Some x → LeftIs P a e x at) in
      let K3 : Held = λ at. K2 at × Stands e (m + 1) at in
      let mid = facts.straight P gs f {C = C} {E = Acc h.2.0 K3} h.2.2.1 (λ J c w at k. subst (λ (i : ℕ). J i w at) (sym h.2.2.0) (on J c w at (k.0.0, λ x0 y0 ex ey. (k.0.1 x0 ex, k.1 y0 ey)))) in
      let C1 = With C h.2.0 K3 in
      let C2 = With C1 h.0 K2 in
      let la = local_below sc a b m h.0 h.1 hi h.3 in
      let s2 : Steady (m + 1) (binds e) K2 = λ at at' same k. (
        s at at' (λ j lt free. same j (omega (arith, lt)) (by j free)) k.0,
        λ y0 ey. left_kept a e y0 at at' la (λ j lt free. same j (omega (arith, lt, few)) (inr free)) (k.1 y0 (sym (same m (omega arith) (inl few)) ∙ ey)),
      ) in
      next mid
      (next (y C1 h.0 (m + 1) h.2.0 h.2.1 h.1 K2 (omega (arith, few)) s2 (λ J c. around J c.0) (λ J c w at k. c.1 w at (k.0, k.1)) h.2.3)
      (x C2 b m h.0 h.1 hi K few (fewer m (some_bind (more a (more e none))) (binds a) K (λ j e1. first_no (binds a j) (binds e j || false) e1) s) (λ J c. around J c.0.0) (λ J c w at k. c.1 w at (k.0, λ y0 ey. as_left P a e y0 at (k.1 y0 ey))) h.3))
    where
      by : (j : ℕ) → (n ≤ j) ⊎ (some_bind (more a (more e none)) j ≡ false) → (n ≤ j) ⊎ (binds e j ≡ false)
      by j (inl here) = inl here
      by j (inr e1) = inr (first_no (binds e j) false (second_no (binds a j) (binds e j || false) e1))

  apply_compare : (sc : Scope) (node : ℕ) (value : Bool) (o : CmpOp) (a e : Expr) → KnowOf sc a → KnowOf sc e → KnowOf sc (Apply node value (row.Compare o) (more a (more e none)))
  apply_compare sc node value o a e x y C b m q lo hi K few s around on (inl h) =
      let es = more a (more e none) in
      let there = h.1.3 in
      next (asking.compare_asked p gs f n P sites (asks_beside (Apply node value (row.Compare o) es) ≡ false) C sc h.1.0 node value o a e node value m (count (plain_exprs es)) m q lo h.1.1 (some_bind es) K refl few (omega arith) (omega arith) s (local_below sc a b m there.0 there.1 hi there.3) (local_below sc e there.0 (m + 1) there.2.0 there.2.1 there.1 there.2.3) around
      (λ alone way t told. inl (none_beside (Apply node value (row.Compare o) es) way t alone told)) (λ J c w at k. on J c w at (k.0, (λ y0 ey. tt), k.1)) h.1.2)
      (both sc a e x y (With C h.1.0 (λ at. K at × Sides a e m at)) b m h.1.0 h.1.1 hi K few s (λ J c. around J c.0) (λ J c. c.1) there)
  apply_compare sc node value o a e x y C b m q lo hi K few s around on (inr h) = absurd (false≢true h.0)

  sides_compare : (sc : Scope) (node : ℕ) (value : Bool) (o : CmpOp) (a e : Expr) → KnowOf sc a → KnowOf sc e → SidesOf sc (Apply node value (row.Compare o) (more a (more e none)))
  sides_compare sc node value o a e x y C b m c q lo hi K few s around on h =
      let es = more a (more e none) in
      let there = h.1.4 in
      let two : c ≡ 2 = h.0 in
      next (asking.compare_asked p gs f n P sites (Unit {0}) C sc h.1.0 node value o a e node value m c (m + c) q lo h.1.1 (some_bind es) K two few (omega arith) (omega arith) s (local_below sc a b m there.0 there.1 hi there.3) (local_below sc e there.0 (m + 1) there.2.0 there.2.1 there.1 there.2.3) around
      (λ always way t told. inr (omega (arith, two))) (λ J c w at k. on J c w at (k.0, k.1 tt)) h.1.3)
      (both sc a e x y (With C h.1.0 (λ at. K at × Sides a e m at)) b m h.1.0 h.1.1 hi K few s (λ J c. around J c.0) (λ J c. c.1) there)

  sides_plain : (sc : Scope) (node : ℕ) (value : Bool) (o : RowOp) (es : Exprs) → narrows o ≡ false → ((way : Bool) (t : Telling) → tells (Apply node value o es) way ≡ Some t → ⊥) → WalkOf sc (marks.HasExprs p gs f n sc es) (some_bind es) → SidesOf sc (Apply node value o es)
  sides_plain sc node value o es quiet silent x C b m c q lo hi K few s around on h =
      next (steps.op_and p gs f n P C sc h.1.0 node value o (range m c) (m + c) q (m + c) (m + c) (some_bind es) K quiet (omega arith) (up m (m + c) (some_bind es) K (omega arith) s) around (λ J d w at k. on J d w at (k, λ way t told local before true_is us u. absurd (silent way t told))) h.1.3)
      (x (With C h.1.0 K) b m h.1.0 h.1.1 hi K few s (λ J c. around J c.0) (λ J c. c.1) h.1.4)

  -- an expression whose truth is asked
  ask : (sc : Scope) (node : ℕ) (e : Expr) → KnowOf sc e → SidesOf sc e → (C : Facts → Type 0) (b m : ℕ) (one other : Branch) (lo hi : ℕ) (K : Held) → n ≤ m → Steady m (binds e) K → Around C sc → ((J : Facts) → C J → Acc one.to K J) → ((J : Facts) → C J → Acc other.to K J)
      → marks.Asks p gs f n sc node e (marks.HasExpr p gs f n sc e) (marks.HasSides p gs f n sc e) b m one other lo hi → L lo hi C (Acc b K)
  ask sc node e x y C b m one other lo hi K few s around on off (inl h) =
      next (asking.truth p gs f n P sites C sc node e h.0 m m one other lo h.1 (binds e) K few (omega arith) s around on off h.3)
      (x (λ J. C J × Accepts J h.0 (Asked K e m m)) b m h.0 h.1 hi K few s (λ J c. around J c.0) (λ J c w at k. c.1 w at (k.0, k.2 h.2)) h.4)
  ask sc node e x y C b m one other lo hi K few s around on off (inr h) =
      next (asking.truth p gs f n P sites C sc node e h.0 m (m + h.1) one other lo h.2 (binds e) K few (omega arith) s around on off h.3)
      (y (λ J. C J × Accepts J h.0 (Asked K e m (m + h.1))) b m h.1 h.0 h.2 hi K few s (λ J c. around J c.0) (λ J c. c.1) h.4)

  local_know : (sc : Scope) (node i : ℕ) → KnowOf sc (Local node i)
  local_know sc node i C b m q lo hi K few s around on h = asking.local_known p gs f n P sites C sc node i b m q lo hi (binds (Local node i)) K few s around on h

  constant_know : (sc : Scope) (node : ℕ) (c : Const) (v : Value) → KnowOf sc (Constant node c v)
  constant_know sc node c v C b m q lo hi K few s around on h = asking.constant_stands p gs f n P sites C sc node c v b m q lo hi (binds (Constant node c v)) K s around (λ J d w at k. on J d w at (k.0, k.1, λ alone way t told. cc)) h

  display : (sc : Scope) (node site : ℕ) (ps : Pairs) → WalkOf sc (marks.HasPairs p gs f n sc node ps) (pairs_bind ps) → KnowOf sc (Display node site ps)
  display sc node site ps x C b m q lo hi K few s around on h =
      let C1 = With C h.1 K in
      let C2 = With C1 h.0 K in
      next (meets C sc node h.1 m q (pairs_bind ps) K s around (quietly C (Display node site ps) m q K (λ way t told. cc) (λ y at. tt) on) h.4)
      (next (x C1 h.0 m h.1 h.2 h.3 K few s (λ J c. around J c.0) (λ J c. c.1) h.5)
      (steps.op_and p gs f n P C2 sc b node false (row.Dict site) [] m h.0 m m (pairs_bind ps) K refl (omega arith) s (λ J c. around J c.0.0) (λ J c. c.1) h.6))

  comprehension : (sc : Scope) (node site : ℕ) (item : Expr) (target : Target) (subject : Subject) (condition : Condition) → WalkOf sc (marks.HasExpr p gs f n sc item) (binds item) → BindOf sc target [] → WalkOf sc (marks.HasSubject p gs f n sc node subject) (subject_binds subject)
      → ChoiceOf sc (marks.HasCondition p gs f n sc node condition) (condition_binds condition) → KnowOf sc (Comprehension node site item target subject condition)
  comprehension sc node site item target subject condition walk_item walk_target walk_subject walk_condition C b m q lo hi K few s around on h =
      let B = binds (Comprehension node site item target subject condition) in
      let g = h.16 in
      let over = m + 1 in
      let s1 = up m over B K (omega arith) s in
      let s3 = up m (over + 2) B K (omega arith) s in
      let rest = λ (j : ℕ) (e : B j ≡ false). second_no (binds item j) (target_binds target j || (subject_binds subject j || condition_binds condition j)) e in
      let others = λ (j : ℕ) (e : B j ≡ false). second_no (target_binds target j) (subject_binds subject j || condition_binds condition j) (rest j e) in
      let C0 = With C h.1 K in
      let C1 = With C0 h.3 K in
      let C2 = With C1 g.1 K in
      let C3 = With C2 g.0 K in
      let C4 = With C3 h.4 K in
      let C5 = With C4 h.5 K in
      let C6 = With C5 h.6 K in
      let C7 = With C6 h.2 K in
      let C8 = With C7 h.0 K in
      let advance = advance_at C0 sc node (step_of (plain_subject subject)) over h.1 h.3 h.7 h.8 B K s1 (λ J c. around J c.0) (λ J c. c.1) h.15 in
      let add = steps.op_first p gs f n P C1 sc g.1 node false row.AddItem (m ∷ (over + 2) ∷ []) (over + 2 + 1) h.3 (over + 2) B K refl (omega arith) s3 (λ J c. around J c.0.0) (λ J c. c.1) g.4 in
      let made = walk_item C2 g.0 (over + 2) g.1 g.2 g.3 K (omega (arith, few)) (fewer (over + 2) B (binds item) K (λ j e. first_no (binds item j) (target_binds target j || (subject_binds subject j || condition_binds condition j)) e) s3) (λ J c. around J c.0.0.0) (λ J c. c.1) g.5 in
      let tested = walk_condition C3 h.4 (over + 2) g.0 h.3 g.3 h.9 K (omega (arith, few)) (fewer (over + 2) B (condition_binds condition) K (λ j e. second_no (subject_binds subject j) (condition_binds condition j) (others j e)) s3) (λ J c. around J c.0.0.0.0) (λ J c. c.1) (λ J c. c.0.0.1) g.6 in
      let bound = walk_target C4 (over + 2) (over + 2 + 1) (over + 2) h.5 h.4 h.9 h.10 K (omega (arith, few)) (omega arith) (fewer (over + 2) B (target_binds target) K (λ j e. first_no (target_binds target j) (subject_binds subject j || condition_binds condition j) (rest j e)) s3) (λ J c. around J c.0.0.0.0.0) (λ J c. c.1) h.17 in
      let whole = meets C5 sc node h.6 m q B K s (λ J c. around J c.0.0.0.0.0.0) (λ J c. quietly C (Comprehension node site item target subject condition) m q K (λ way t told. cc) (λ y at. tt) on J c.0.0.0.0.0.0) h.18 in
      let turns = turn_at C6 sc node (step_of (plain_subject subject)) over h.5 h.6 over h.2 h.11 h.12 B K s1 (omega arith) (omega arith) (λ J c. around J c.0.0.0.0.0.0.0) (λ J c. c.0.1) (λ J c. c.1) h.19 in
      let begun = walk_subject C7 h.0 over h.1 h.12 h.13 K (omega (arith, few)) (fewer over B (subject_binds subject) K (λ j e. first_no (subject_binds subject j) (condition_binds condition j) (others j e)) s1) (λ J c. around J c.0.0.0.0.0.0.0.0) (λ J c. c.0.0.0.0.0.0.0.1) h.20 in
      let put = steps.op_and p gs f n P C8 sc b node false (row.Comprehension site) [] m h.0 m m B K refl (omega arith) s (λ J c. around J c.0.0.0.0.0.0.0.0.0) (λ J c. c.1) h.21 in
      let behind = next advance (next add (next made (next tested (next bound (next whole (facts.seq P gs f turns (next begun put))))))) in
      facts.so P gs f (λ J c e. e.1.1) (facts.head P gs f {C = C} h.1 h.14.0.0 (over + 2) h.14.0.1 h.14.0.2 (Go (first h.2 (over + 2))) h.14.1 h.14.0.3 (λ w at. K at) behind
      (λ J c e w at x. e.0 w (pick at (range 0 (over + 2))) (steps.stays p gs f n P (over + 2) B K s3 at (pick at (range 0 (over + 2))) (λ j lt. pick_first at (over + 2) j lt) x)))

  -- ---- expressions

  mutual
    pub expr : (sc : Scope) (e : Expr) → PlainExpr e → KnowOf sc e
    expr sc (Local node i) pl C b m q lo hi K few s around on h = local_know sc node i C b m q lo hi K few s around on h
    expr sc (Constant node c v) pl C b m q lo hi K few s around on h = constant_know sc node c v C b m q lo hi K few s around on h
    expr sc (Apply node value o es) pl C b m q lo hi K few s around on h = applied sc node value o es pl.0 pl.1 C b m q lo hi K few s around on h
    expr sc (And node x y) pl C b m q lo hi K few s around on h =
        let C1 = With C h.0 K in
        let C2 = With C1 h.1 K in
        next (meets C sc node h.0 m q (binds (And node x y)) K s around (quietly C (And node x y) m q K (λ way t told. cc) (λ y at. tt) on) h.4)
        (next (plainly_walk sc y (expr sc y pl.1) C1 h.1 m h.0 h.2 h.3 K few (fewer m (binds (And node x y)) (binds y) K (λ j e. second_no (binds x j) (binds y j) e) s) (λ J c. around J c.0) (λ J c. c.1) h.5)
        (ask sc node x (expr sc x pl.0) (sides sc x pl.0) C2 b m (plainly h.1) (with_branch h.0) h.3 hi K few (fewer m (binds (And node x y)) (binds x) K (λ j e. first_no (binds x j) (binds y j) e) s) (λ J c. around J c.0.0) (λ J c. c.1) (λ J c. c.0.1) h.6))
    expr sc (Or node x y) pl C b m q lo hi K few s around on h =
        let C1 = With C h.0 K in
        let C2 = With C1 h.1 K in
        next (meets C sc node h.0 m q (binds (Or node x y)) K s around (quietly C (Or node x y) m q K (λ way t told. cc) (λ y at. tt) on) h.4)
        (next (plainly_walk sc y (expr sc y pl.1) C1 h.1 m h.0 h.2 h.3 K few (fewer m (binds (Or node x y)) (binds y) K (λ j e. second_no (binds x j) (binds y j) e) s) (λ J c. around J c.0) (λ J c. c.1) h.5)
        (ask sc node x (expr sc x pl.0) (sides sc x pl.0) C2 b m (with_branch h.0) (plainly h.1) h.3 hi K few (fewer m (binds (Or node x y)) (binds x) K (λ j e. first_no (binds x j) (binds y j) e) s) (λ J c. around J c.0.0) (λ J c. c.0.1) (λ J c. c.1) h.6))
    expr sc (Display node site ps) pl C b m q lo hi K few s around on h = display sc node site ps (pairs sc node ps pl) C b m q lo hi K few s around on h
    expr sc (Comprehension node site item target subject condition) pl C b m q lo hi K few s around on h =
        comprehension sc node site item target subject condition (plainly_walk sc item (expr sc item pl.0)) (bind sc target [] pl.1) (walked sc node subject pl.2) (conditioned sc node condition pl.3) C b m q lo hi K few s around on h

    applied : (sc : Scope) (node : ℕ) (value : Bool) (o : RowOp) (es : Exprs) → narrows o ≡ false → PlainExprs es → KnowOf sc (Apply node value o es)
    applied sc node value (row.IsInstance d) (more a none) quiet pl C b m q lo hi K few s around on h = apply_instance sc node value d a (expr sc a pl.0) C b m q lo hi K few s around on h
    applied sc node value (row.Compare o) (more a (more e none)) quiet pl C b m q lo hi K few s around on h = apply_compare sc node value o a e (expr sc a pl.0) (expr sc e pl.1.0) C b m q lo hi K few s around on h
    applied sc node value row.None none quiet pl C b m q lo hi K few s around on h = apply_none sc node value none (none_walk sc (some_bind none)) C b m q lo hi K few s around on h
    applied sc node value row.None (more a es) quiet pl C b m q lo hi K few s around on h = apply_none sc node value (more a es) (more_walk sc a es (plainly_walk sc a (expr sc a pl.0)) (exprs sc es pl.1)) C b m q lo hi K few s around on h
    applied sc node value o none quiet pl C b m q lo hi K few s around on h =
        apply sc node value o none quiet (none_walk sc (some_bind none)) (no_walk sc node (some_bind none)) C b m q lo hi K few s around (quietly C (Apply node value o none) m q K (λ way t told. cc) (λ y at. tt) on) h
    applied sc node value o (more a es) quiet pl C b m q lo hi K few s around on h =
        apply sc node value o (more a es) quiet (more_walk sc a es (plainly_walk sc a (expr sc a pl.0)) (exprs sc es pl.1)) (not_walk sc node a es (test sc node a pl.0)) C b m q lo hi K few s around (quietly C (Apply node value o (more a es)) m q K (λ way t told. cc) (λ y at. tt) on) h

    sides_applied : (sc : Scope) (node : ℕ) (value : Bool) (o : RowOp) (es : Exprs) → narrows o ≡ false → PlainExprs es → SidesOf sc (Apply node value o es)
    sides_applied sc node value (row.Compare o) (more a (more e none)) quiet pl C b m c q lo hi K few s around on h = sides_compare sc node value o a e (expr sc a pl.0) (expr sc e pl.1.0) C b m c q lo hi K few s around on h
    sides_applied sc node value (row.Compare o) none quiet pl C b m c q lo hi K few s around on h = sides_plain sc node value (row.Compare o) none quiet (silent_none node value o) (none_walk sc (some_bind none)) C b m c q lo hi K few s around on h
    sides_applied sc node value (row.Compare o) (more a none) quiet pl C b m c q lo hi K few s around on h =
        sides_plain sc node value (row.Compare o) (more a none) quiet (silent_one node value o a) (more_walk sc a none (plainly_walk sc a (expr sc a pl.0)) (exprs sc none pl.1)) C b m c q lo hi K few s around on h
    sides_applied sc node value (row.Compare o) (more a (more e (more l es))) quiet pl C b m c q lo hi K few s around on h =
        sides_plain sc node value (row.Compare o) (more a (more e (more l es))) quiet (silent_three node value o a e l es) (more_walk sc a (more e (more l es)) (plainly_walk sc a (expr sc a pl.0)) (exprs sc (more e (more l es)) pl.1)) C b m c q lo hi K few s around on h
    sides_applied sc node value o es quiet pl C b m c q lo hi K few s around on h = absurd h.1.2

    sides : (sc : Scope) (e : Expr) → PlainExpr e → SidesOf sc e
    sides sc (Apply node value o es) pl C b m c q lo hi K few s around on h = sides_applied sc node value o es pl.0 pl.1 C b m c q lo hi K few s around on h
    sides sc (Local node i) pl C b m c q lo hi K few s around on h = absurd h
    sides sc (Constant node k v) pl C b m c q lo hi K few s around on h = absurd h
    sides sc (And node x y) pl C b m c q lo hi K few s around on h = absurd h
    sides sc (Or node x y) pl C b m c q lo hi K few s around on h = absurd h
    sides sc (Display node site ps) pl C b m c q lo hi K few s around on h = absurd h
    sides sc (Comprehension node site item target subject condition) pl C b m c q lo hi K few s around on h = absurd h

    exprs : (sc : Scope) (es : Exprs) → PlainExprs es → WalkOf sc (marks.HasExprs p gs f n sc es) (some_bind es)
    exprs sc none pl C b m q lo hi K few s around on h = straight C b q lo hi K on h
    exprs sc (more e es) pl C b m q lo hi K few s around on h = more_walk sc e es (plainly_walk sc e (expr sc e pl.0)) (exprs sc es pl.1) C b m q lo hi K few s around on h

    -- ---- tests

    pub test : (sc : Scope) (node : ℕ) (e : Expr) → PlainExpr e → ChoiceOf sc (marks.HasTest p gs f n sc node e) (binds e)
    test sc node (And inner x y) pl C b m one other lo hi K few s around on off h =
        next (test sc inner y pl.1 C h.0 m one other lo h.1 K few (fewer m (binds (And inner x y)) (binds y) K (λ j e. second_no (binds x j) (binds y j) e) s) around on off h.2)
        (test sc inner x pl.0 (With C h.0 K) b m h.0 other h.1 hi K few (fewer m (binds (And inner x y)) (binds x) K (λ j e. first_no (binds x j) (binds y j) e) s) (λ J c. around J c.0) (λ J c. c.1) (λ J c. off J c.0) h.3)
    test sc node (Or inner x y) pl C b m one other lo hi K few s around on off h =
        next (test sc inner y pl.1 C h.0 m one other lo h.1 K few (fewer m (binds (Or inner x y)) (binds y) K (λ j e. second_no (binds x j) (binds y j) e) s) around on off h.2)
        (test sc inner x pl.0 (With C h.0 K) b m one h.0 h.1 hi K few (fewer m (binds (Or inner x y)) (binds x) K (λ j e. first_no (binds x j) (binds y j) e) s) (λ J c. around J c.0) (λ J c. on J c.0) (λ J c. c.1) h.3)
    test sc node (Apply inner value o es) pl C b m one other lo hi K few s around on off (inl h) =
        ask sc node (Apply inner value o es) (applied sc inner value o es pl.0 pl.1) (sides_applied sc inner value o es pl.0 pl.1) C b m (plainly one) (plainly other) lo hi K few s around on off h.1
    test sc node (Apply inner value o es) pl C b m one other lo hi K few s around on off (inr h) = negated sc inner es pl.1 C b m other one lo hi K few s around off on h.2
    test sc node (Local inner i) pl C b m one other lo hi K few s around on off h =
        ask sc node (Local inner i) (local_know sc inner i) (λ C b m c q lo hi K few s around on h. absurd h) C b m (plainly one) (plainly other) lo hi K few s around on off h
    test sc node (Constant inner c v) pl C b m one other lo hi K few s around on off h =
        ask sc node (Constant inner c v) (constant_know sc inner c v) (λ C b m c q lo hi K few s around on h. absurd h) C b m (plainly one) (plainly other) lo hi K few s around on off h
    test sc node (Display inner site ps) pl C b m one other lo hi K few s around on off h =
        ask sc node (Display inner site ps) (display sc inner site ps (pairs sc inner ps pl)) (λ C b m c q lo hi K few s around on h. absurd h) C b m (plainly one) (plainly other) lo hi K few s around on off h
    test sc node (Comprehension inner site item target subject condition) pl C b m one other lo hi K few s around on off h =
        ask sc node (Comprehension inner site item target subject condition) (comprehension sc inner site item target subject condition (plainly_walk sc item (expr sc item pl.0)) (bind sc target [] pl.1) (walked sc inner subject pl.2) (conditioned sc inner condition pl.3))
        (λ C b m c q lo hi K few s around on h. absurd h) C b m (plainly one) (plainly other) lo hi K few s around on off h

    negated : (sc : Scope) (node : ℕ) (es : Exprs) → PlainExprs es → ChoiceOf sc (marks.HasNegated p gs f n sc node es) (some_bind es)
    negated sc node none pl C b m one other lo hi K few s around on off h = absurd h
    negated sc node (more e es) pl C b m one other lo hi K few s around on off h = not_walk sc node e es (test sc node e pl.0) C b m one other lo hi K few s around on off h

    -- ---- displays and walks

    pairs : (sc : Scope) (node : ℕ) (ps : Pairs) → PlainPairs ps → WalkOf sc (marks.HasPairs p gs f n sc node ps) (pairs_bind ps)
    pairs sc node no_pairs pl C b m q lo hi K few s around on h = straight C b q lo hi K on h
    pairs sc node (pair key e rest) pl C b m q lo hi K few s around on h =
        let B = pairs_bind (pair key e rest) in
        let s1 = up m (m + 1) B K (omega arith) s in
        let s2 = up m (m + 1 + 1) B K (omega arith) s in
        let C1 = With C h.2 K in
        let C2 = With C1 h.1 K in
        let C3 = With C2 h.0 K in
        next (pairs sc node rest pl.2 C h.2 m q lo h.3 K few (fewer m B (pairs_bind rest) K (λ j x. second_no (binds e j) (pairs_bind rest j) (second_no (binds key j) (binds e j || pairs_bind rest j) x)) s) around on h.6)
        (next (steps.op_first p gs f n P C1 sc h.1 node false row.StoreIndex (m ∷ (m + 1) ∷ (m + 2) ∷ []) (m + 3) h.2 (m + 1) B K refl (omega arith) s1 (λ J c. around J c.0) (λ J c. c.1) h.7)
        (next (plainly_walk sc e (expr sc e pl.1) C2 h.0 (m + 1 + 1) h.1 h.4 h.5 K (omega (arith, few)) (fewer (m + 1 + 1) B (binds e) K (λ j x. first_no (binds e j) (pairs_bind rest j) (second_no (binds key j) (binds e j || pairs_bind rest j) x)) s2) (λ J c. around J c.0.0) (λ J c. c.1) h.8)
        (plainly_walk sc key (expr sc key pl.0) C3 b (m + 1) h.0 h.5 hi K (omega (arith, few)) (fewer (m + 1) B (binds key) K (λ j x. first_no (binds key j) (binds e j || pairs_bind rest j) x) s1) (λ J c. around J c.0.0.0) (λ J c. c.1) h.9)))

    pub walked : (sc : Scope) (node : ℕ) (subject : Subject) → PlainSubject subject → WalkOf sc (marks.HasSubject p gs f n sc node subject) (subject_binds subject)
    walked sc node (Over site e) pl C b m q lo hi K few s around on h =
        let C1 = With C h.1 K in
        let C2 = With C1 h.0 K in
        next (steps.op_and p gs f n P C sc h.1 node false (row.Word (pos 0)) [] (m + 1) q (m + 1) (m + 1) (binds e) K refl (omega arith) (up m (m + 1) (binds e) K (omega arith) s) around on h.4)
        (next (steps.op_and p gs f n P C1 sc h.0 node false (row.Walk site) (m ∷ []) (m + 1) h.1 m (m + 1) (binds e) K refl (omega arith) s (λ J c. around J c.0) (λ J c. c.1) h.5)
        (plainly_walk sc e (expr sc e pl) C2 b m h.0 h.3 hi K few s (λ J c. around J c.0.0) (λ J c. c.1) h.6))
    walked sc node (UpTo e) pl C b m q lo hi K few s around on h =
        next (steps.op_and p gs f n P C sc h.0 node false (row.Word (pos 0)) [] (m + 1) q (m + 1) (m + 1) (binds e) K refl (omega arith) (up m (m + 1) (binds e) K (omega arith) s) around on h.2)
        (plainly_walk sc e (expr sc e pl) (With C h.0 K) b m h.0 h.1 hi K few s (λ J c. around J c.0) (λ J c. c.1) h.3)
    walked sc node (FromTo x y step) pl C b m q lo hi K few s around on h =
        let B = subject_binds (FromTo x y step) in
        let C1 = With C h.1 K in
        let C2 = With C1 h.0 K in
        next (steps.go p gs f n P C h.1 (m + 2) (record { to = q; places = (range 0 m ++ (m + 1) ∷ []) ++ m ∷ [] }) K
        (λ J c w at k. on J c w (pick at ((range 0 m ++ (m + 1) ∷ []) ++ m ∷ [])) (steps.stays p gs f n P m B K s at (pick at ((range 0 m ++ (m + 1) ∷ []) ++ m ∷ [])) (λ j lt. pick_two at m (m + 1) m j lt) k)) h.4)
        (next (plainly_walk sc y (expr sc y pl.1) C1 h.0 (m + 1) h.1 h.2 h.3 K (omega (arith, few)) (up m (m + 1) (binds y) K (omega arith) (fewer m B (binds y) K (λ j e. second_no (binds x j) (binds y j) e) s)) (λ J c. around J c.0) (λ J c. c.1) h.5)
        (plainly_walk sc x (expr sc x pl.0) C2 b m h.0 h.3 hi K few (fewer m B (binds x) K (λ j e. first_no (binds x j) (binds y j) e) s) (λ J c. around J c.0.0) (λ J c. c.1) h.6))

    conditioned : (sc : Scope) (node : ℕ) (c : Condition) → PlainCondition c → ChoiceOf sc (marks.HasCondition p gs f n sc node c) (condition_binds c)
    conditioned sc node Always pl C b m one other lo hi K few s around on off h = straight C b one lo hi K on h
    conditioned sc node (Where e) pl C b m one other lo hi K few s around on off h = test sc node e pl C b m one other lo hi K few s around on off h

    -- ---- targets

    pub bind : (sc : Scope) (t : Target) (path : Path) → PlainTarget t → BindOf sc t path
    bind sc (Name node i) path pl C at m keep b q lo hi K few le s around on h =
        let more_there = taken_more sc path at b m h.0 h.1 h.2 h.3 hi h.6 in
        next (steps.op p gs f n P C sc h.0 node true row.Copy (h.1 ∷ []) h.2 (stored q keep i h.2) K refl around
        (λ J c w places v x. on J c w (pick (with_value places h.2 v) (stored q keep i h.2).places) (s places (pick (with_value places h.2 v) (stored q keep i h.2).places)
        (λ j lt free. stored_other (with_value places h.2 v) keep i h.2 j lt (λ e. unbound j i h.4 e free) ∙ with_other places h.2 v j (omega (arith, lt, le, more_there))) x)) h.5)
        (taken (With C h.0 K) sc path at b m h.0 h.1 h.2 h.3 hi (target_binds (Name node i)) K (up keep m (target_binds (Name node i)) K le s) (λ J c. around J c.0) (λ J c. c.1) h.6)
    bind sc (Attribute node e name) path pl C at m keep b q lo hi K few le s around on h =
        let B = binds e in
        let more_there = taken_more sc path at h.1 (m + 1) h.2 h.3 h.4 h.5 h.6 h.9 in
        let sm = up keep m B K le s in
        let C1 = With C h.2 K in
        let C2 = With C1 h.1 K in
        let C3 = With C2 h.0 K in
        next (steps.op_first p gs f n P C sc h.2 node true (row.StoreAttr name) (m ∷ h.3 ∷ []) h.4 q keep B K refl (omega (arith, le, more_there)) s around on h.8)
        (next (taken C1 sc path at h.1 (m + 1) h.2 h.3 h.4 h.5 h.6 B K (up m (m + 1) B K (omega arith) sm) (λ J c. around J c.0) (λ J c. c.1) h.9)
        (next (plainly_walk sc e (expr sc e pl) C2 h.0 m h.1 h.6 h.7 K (omega (arith, few, le)) sm (λ J c. around J c.0.0) (λ J c. c.1) h.10)
        (there C3 sc path at b m h.0 h.7 hi B K sm (λ J c. around J c.0.0.0) (λ J c. c.1) h.11)))
    bind sc (Item node x y) path pl C at m keep b q lo hi K few le s around on h =
        let B = target_binds (Item node x y) in
        let more_there = taken_more sc path at h.2 (m + 2) h.3 h.4 h.5 h.6 h.7 h.11 in
        let sm = up keep m B K le s in
        let C1 = With C h.3 K in
        let C2 = With C1 h.2 K in
        let C3 = With C2 h.1 K in
        let C4 = With C3 h.0 K in
        next (steps.op_first p gs f n P C sc h.3 node true row.StoreIndex (m ∷ (m + 1) ∷ h.4 ∷ []) h.5 q keep B K refl (omega (arith, le, more_there)) s around on h.10)
        (next (taken C1 sc path at h.2 (m + 2) h.3 h.4 h.5 h.6 h.7 B K (up m (m + 2) B K (omega arith) sm) (λ J c. around J c.0) (λ J c. c.1) h.11)
        (next (plainly_walk sc y (expr sc y pl.1) C2 h.1 (m + 1) h.2 h.7 h.8 K (omega (arith, few, le)) (up m (m + 1) (binds y) K (omega arith) (fewer m B (binds y) K (λ j e. second_no (binds x j) (binds y j) e) sm)) (λ J c. around J c.0.0) (λ J c. c.1) h.12)
        (next (plainly_walk sc x (expr sc x pl.0) C3 h.0 m h.1 h.8 h.9 K (omega (arith, few, le)) (fewer m B (binds x) K (λ j e. first_no (binds x j) (binds y j) e) sm) (λ J c. around J c.0.0.0) (λ J c. c.1) h.13)
        (there C4 sc path at b m h.0 h.9 hi B K sm (λ J c. around J c.0.0.0.0) (λ J c. c.1) h.14))))
    bind sc (Parts node ts) path pl C at m keep b q lo hi K few le s around on h =
        let B = targets_bind ts in
        let more_there = taken_more sc path at b m h.0 h.3 h.4 h.7 hi h.11 in
        let sm = up keep m B K le s in
        let C1 = With C h.2 K in
        let C2 = With C1 h.1 K in
        let C3 = With C2 h.0 K in
        next (steps.go_first p gs f n P C h.2 m q keep B K s on h.8)
        (next (items sc node ts (target_count (plain_targets ts)) 0 path pl C1 at h.1 m h.2 h.5 h.6 K (omega (arith, few, le)) sm (λ J c. around J c.0) (λ J c. c.1) h.9)
        (next (steps.op_first p gs f n P C2 sc h.0 node true row.Copy (h.3 ∷ []) h.4 h.1 m B K refl more_there sm (λ J c. around J c.0.0) (λ J c. c.1) h.10)
        (taken C3 sc path at b m h.0 h.3 h.4 h.7 hi B K sm (λ J c. around J c.0.0.0) (λ J c. c.1) h.11)))

    items : (sc : Scope) (node : ℕ) (ts : Targets) (c i : ℕ) (path : Path) → PlainTargets ts → (C : Facts → Type 0) (at b m q lo hi : ℕ) (K : Held) → n ≤ m → Steady m (targets_bind ts) K → Around C sc → ((J : Facts) → C J → Acc q K J) → marks.HasItems p gs f n sc node ts c i path at b m q lo hi → L lo hi C (Acc b K)
    items sc node no_targets c i path pl C at b m q lo hi K few s around on h = straight C b q lo hi K on h
    items sc node (more_targets t ts) c i path pl C at b m q lo hi K few s around on h =
        next (items sc node ts c (suc i) path pl.1 C at h.0 m q lo h.1 K few (fewer m (targets_bind (more_targets t ts)) (targets_bind ts) K (λ j e. second_no (target_binds t j) (targets_bind ts j) e) s) around on h.2)
        (bind sc t (path ++ record { node = node; count = c; place = i } ∷ []) pl.0 (With C h.0 K) at m m b h.0 h.1 hi K few (omega arith) (fewer m (targets_bind (more_targets t ts)) (target_binds t) K (λ j e. first_no (target_binds t j) (targets_bind ts j) e) s) (λ J c. around J c.0) (λ J c. c.1) h.3)
