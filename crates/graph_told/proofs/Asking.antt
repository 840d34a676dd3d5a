-- Blocks that ask for the truth of what a test gives, and those whose values tests speak of.
use Rattle.std.proofs.Common.{◌≡◌, ◌⊎◌, ℕ, ◌+◌, ◌<◌, ◌≤◌, inl, inr, Bool, true, false, List, [], ◌∷◌, ◌++◌, Option, Some, None, is_some, refl, sym, ap, ◌∙◌, subst, arith}
use Rattle.std.specs.Prelude.{◌||◌, slice_get}
use Rattle.std.proofs.lemmas.Bool.{false≢true}
use Rattle.rpy_tree.specs.Value.{Value, Nothing, Ref, Object, Instance}
use Rattle.rpy_tree.specs.declared.program.Const.{Const}
use Rattle.rpy_tree.specs.declared.syntax.CmpOp.{CmpOp}
use Rattle.rpy_meaning.specs.declared.row.Covers.{Covers}
use Rattle.rpy_meaning.specs.declared.row.RowOp.TheVariants as row
use Rattle.rpy_meaning.specs.Operations.{op as answer, constant, truth_in, is_instance_object}
use Rattle.rpy_meaning.specs.Tree as meaning
use Rattle.rpy_meaning.specs.World.{World, Gives, Enters, flag_if_any}
use Rattle.flow_graph.specs.declared.graph.Graphs.{Graphs}
use Rattle.flow_meaning.specs.Machine.{truth_of}
use Rattle.flow_stands.specs.Places.{range, Scope, Fork, first_and}
use Rattle.flow_stands.specs.Stands.{Branch, count}
use Rattle.flow_laws.specs.Slight.{Tells}
use Rattle.flow_laws.proofs.Slight as slight
use Rattle.flow_trees.specs.Tree.{Expr, Local, Constant, Apply, Exprs, none, more, plain_exprs}
use Rattle.flow_trees.specs.Tells.{Telling, tells, asks_beside, has_beside}
use Rattle.flow_trees.specs.Marks as marks
use Rattle.flow_trees.specs.Marks.{operands}
use Rattle.flow_reads.proofs.Below.{Below}
use Rattle.graph_told.specs.Told.{IsTold}
use Rattle.graph_told.proofs.Facts as facts
use Rattle.graph_told.proofs.Facts.{At, Fact, Facts, pick, with_value, values_at, Accepts, Free}
use Rattle.graph_told.proofs.Moves.{pick_last, with_here, values_below, one_value, first_value, two_values}
use Rattle.graph_told.proofs.Telling.{flagged, flag_truth, truth_told, LeftIs, RightIs, Beside, compared, class_told}
use Rattle.graph_told.proofs.Steps as steps
use Rattle.graph_told.proofs.Steps.{Held}

no_enter : (o : Option Bool) (w : World) (callee : ℕ) (args : List Value) (instead : Option Value) (w' : World) → flag_if_any o w ≡ Enters callee args instead w' → ⊥
no_enter None w callee args instead w' e = cc
no_enter (Some b) w callee args instead w' e = cc

some_same : {a b : Value} → Some a ≡ Some b → a ≡ b
some_same e = cc

given : {x v : Value} {w w' : World} → Gives x w ≡ Gives v w' → x ≡ v
given e = cc

apart : {x : Value} {w w' : World} {callee : ℕ} {args : List Value} {instead : Option Value} → Gives x w ≡ Enters callee args instead w' → ⊥
apart e = cc

or_no : (a b : Bool) → (a || b) ≡ false → (a ≡ false) × (b ≡ false)
or_no true b e = absurd (false≢true (sym e))
or_no false b e = (refl, e)

-- where nothing stands beside a local
pub none_beside : (e : Expr) (way : Bool) (t : Telling) → asks_beside e ≡ false → tells e way ≡ Some t → is_some t.beside ≡ false
none_beside e true t alone told = ap has_beside (sym told) ∙ (or_no (has_beside (tells e true)) (has_beside (tells e false)) alone).0
none_beside e false t alone told = ap has_beside (sym told) ∙ (or_no (has_beside (tells e true)) (has_beside (tells e false)) alone).1

module _ (p : meaning.Program) (gs : Graphs) (f n : ℕ) (P : meaning.Program) (sites : P.sites ≡ p.sites) where
  abbrev L : ℕ → ℕ → (Facts → Type 0) → (Facts → Type 0) → Type 1
  L lo hi C E = steps.L p gs f n P lo hi C E

  abbrev Acc : ℕ → Held → Facts → Type 0
  Acc b K J = steps.Acc p gs f n P b K J

  abbrev Steady : ℕ → (ℕ → Bool) → Held → Type 0
  Steady m B K = steps.Steady p gs f n P m B K

  abbrev Around : (Facts → Type 0) → Scope → Type 1
  Around C sc = steps.Around p gs f n P C sc

  abbrev Promise : Expr → ℕ → ℕ → ℕ → Fact
  Promise e m bound place w at = steps.Promise p gs f n P e m bound place w at

  -- what stands there, and what the test promises of it
  abbrev pub Asked : Held → Expr → ℕ → ℕ → Fact
  Asked K e m value w at = K at × Promise e m value value w at

  abbrev pub OnTo : Branch → Held → (Facts → Type 0)
  OnTo branch K J = Acc branch.to K J

  beside_below : (beside : Option ℕ) (m value : ℕ) → marks.IsBefore p gs f n beside m value → Below (value + 1) (marks.beside_place beside m)
  beside_below None m value h = tt
  beside_below (Some place) m value h = (h, tt)

  -- ---- the truth of a value

  pub truth : (C : Facts → Type 0) (sc : Scope) (node : ℕ) (e : Expr) (b m value : ℕ) (one other : Branch) (lo hi : ℕ) (B : ℕ → Bool) (K : Held) → n ≤ m → m ≤ value → Steady m B K → Around C sc
      → ((J : Facts) → C J → Acc one.to K J) → ((J : Facts) → C J → Acc other.to K J) → marks.Truth p gs f n sc node e b m value one other lo hi → L lo hi C (λ J. Accepts J b (Asked K e m value))
  truth C sc node e b m value one other lo hi B K few le s around on off h =
      let T1 = steps.Ways p gs f n P e true m value K h.1 in
      let T2 = steps.Ways p gs f n P e false m value K h.2 in
      let so_way = steps.way_on p gs f n P C sc node e true (tells e true) m value one.value one.to h.1 lo h.3 B K refl few le s around on h.6 in
      let other_way = steps.way_on p gs f n P (λ J. C J × T1 J) sc node e false (tells e false) m value other.value other.to h.2 h.3 h.4 B K refl few le s (λ J c. around J c.0) (λ J c. off J c.0) h.7 in
      let fork = facts.one P gs f {C = λ J. (C J × T1 J) × T2 J} h.0 h.8.0.0 (value + 1 + 1) h.8.0.1 h.8.0.2 (Fork (value + 1) h.1 h.2) h.8.1 h.8.0.3 forked (λ J c w at x. (λ true_is. c.0.1 w at x.0 x.1 true_is, λ false_is. c.1 w at x.0 x.1 false_is)) in
      let asked = steps.act p gs f n P (λ J. ((C J × T1 J) × T2 J) × Accepts J h.0 forked) sc b node false row.Truth (value ∷ []) (value + 1) (first_and h.0 (value + 1) (value + 1)) (Asked K e m value) (λ J c. around J c.0.0.0)
      (λ J c w at vs x g. record {
        told = tt;
        gives = λ v w' a. c.1 w' (after at v) (passed at v x.0, promised w at vs v w' x.1 g a);
        enters = λ callee args instead w' a v w''. absurd (never w at vs callee args instead w' g a);
      }) h.9 in
      facts.next P gs f so_way (facts.next P gs f other_way (facts.next P gs f fork asked))
    where
      forked : Fact
      forked w at = K at × Promise e m value (value + 1) w at

      after : At → Value → At
      after at v = pick (with_value at (value + 1) v) (range 0 (value + 1) ++ (value + 1) ∷ [])

      same : (at : At) (v : Value) (j : ℕ) → j < value + 1 → after at v j ≡ at j
      same at v j lt = steps.and_same p gs f n P (value + 1) (value + 1) (value + 1) at v (omega arith) j lt

      last : (at : At) (v : Value) → after at v (value + 1) ≡ Some v
      last at v = pick_last (with_value at (value + 1) v) (value + 1) (value + 1) ∙ with_here at (value + 1) v

      passed : (at : At) (v : Value) → K at → K (after at v)
      passed at v x = steps.stays p gs f n P m B K s at (after at v) (λ j lt. same at v j (omega (arith, lt, le))) x

      below : (t : Telling) → t.local < n → marks.IsBefore p gs f n t.beside m value → Below (value + 1) (operands t m)
      below t local before = (omega (arith, few, le, local), beside_below t.beside m value before)

      never : (w : World) (at : At) (vs : List Value) (callee : ℕ) (args : List Value) (instead : Option Value) (w' : World) → values_at at (value ∷ []) ≡ Some vs → answer P sc.covers row.Truth vs w ≡ Enters callee args instead w' → ⊥
      never w at vs callee args instead w' g a =
          let x = one_value (at value) vs g in
          no_enter (truth_in w x.0) w callee args instead w' (ap (λ (l : List Value). answer P sc.covers row.Truth l w) (sym x.2) ∙ a)

      promised : (w : World) (at : At) (vs : List Value) (v : Value) (w' : World) → Promise e m value value w at → values_at at (value ∷ []) ≡ Some vs → answer P sc.covers row.Truth vs w ≡ Gives v w' → Promise e m value (value + 1) w' (after at v)
      promised w at vs v w' promise g a way t told local before true_is us u =
          let x = one_value (at value) vs g in
          let flag = flagged (truth_in w x.0) w v w' (ap (λ (l : List Value). answer P sc.covers row.Truth l w) (sym x.2) ∙ a) in
          let way_is : flag.0 ≡ way = flag_truth flag.0 way v w' flag.2 (sym (ap (truth_of w') (last at v)) ∙ true_is) in
          let was : truth_of w (at value) ≡ Some way = ap (truth_of w) x.1 ∙ (flag.1 ∙ ap Some way_is) in
          let given_is : values_at at (operands t m) ≡ Some us = sym (values_below at (after at v) (value + 1) (same at v) (operands t m) (below t local before)) ∙ u in
          subst (λ (x : World). IsTold P t.op x us) (sym flag.3) (promise way t told local before was us given_is)

  -- ---- what stands for an expression behind it

  abbrev pub Stands : Expr → ℕ → At → Type 0
  Stands e m at = (x : Value) → at m ≡ Some x → RightIs P e x at

  -- what is known where the value of an expression stands: what stood before, what stands for it, and what a test of it promises
  abbrev pub Known : Held → Expr → ℕ → Fact
  Known K e m w at = K at × Stands e m at × (asks_beside e ≡ false → Promise e m m m w at)

  pub local_known : (C : Facts → Type 0) (sc : Scope) (inner i b m q lo hi : ℕ) (B : ℕ → Bool) (K : Held) → n ≤ m → Steady m B K → Around C sc → ((J : Facts) → C J → Accepts J q (Known K (Local inner i) m)) → marks.LocalAt p gs f n sc inner i b m q lo hi → L lo hi C (Acc b K)
  local_known C sc inner i b m q lo hi B K few s around on h =
      steps.act p gs f n P C sc b inner true row.Copy (i ∷ []) m (first_and q m m) (λ w at. K at) around
      (λ J c w at vs x g. record {
        told = tt;
        gives = λ v w' a. on J c w' (after at v) (steps.stays p gs f n P m B K s at (after at v) (same at v) x, (λ y e. stand w at vs v w' g a ∙ (sym (last at v) ∙ e)), λ alone. promised w at vs v w' g a);
        enters = λ callee args instead w' a v w''. absurd (let one = one_value (at i) vs g in apart (ap (λ (l : List Value). answer P sc.covers row.Copy l w) (sym one.2) ∙ a));
      }) h.1
    where
      after : At → Value → At
      after at v = pick (with_value at m v) (range 0 m ++ m ∷ [])

      same : (at : At) (v : Value) (j : ℕ) → j < m → after at v j ≡ at j
      same at v j lt = steps.and_same p gs f n P m m m at v (omega arith) j lt

      last : (at : At) (v : Value) → after at v m ≡ Some v
      last at v = pick_last (with_value at m v) m m ∙ with_here at m v

      stand : (w : World) (at : At) (vs : List Value) (v : Value) (w' : World) → values_at at (i ∷ []) ≡ Some vs → answer P sc.covers row.Copy vs w ≡ Gives v w' → after at v i ≡ Some v
      stand w at vs v w' g a =
          let one = one_value (at i) vs g in
          let is : one.0 ≡ v = given (ap (λ (l : List Value). answer P sc.covers row.Copy l w) (sym one.2) ∙ a) in
          same at v i (omega (arith, few, h.0)) ∙ (one.1 ∙ ap Some is)

      promised : (w : World) (at : At) (vs : List Value) (v : Value) (w' : World) → values_at at (i ∷ []) ≡ Some vs → answer P sc.covers row.Copy vs w ≡ Gives v w' → Promise (Local inner i) m m m w' (after at v)
      promised w at vs v w' g a way t told local before true_is us u =
          truth_told P i way t told w' (after at v) v (stand w at vs v w' g a) (sym (ap (truth_of w') (last at v)) ∙ true_is) m us u

  pub constant_stands : (C : Facts → Type 0) (sc : Scope) (inner : ℕ) (k : Const) (z : Value) (b m q lo hi : ℕ) (B : ℕ → Bool) (K : Held) → Steady m B K → Around C sc → ((J : Facts) → C J → Acc q (λ at. K at × Stands (Constant inner k z) m at) J) → marks.ConstantAt p gs f n sc inner k z b m q lo hi → L lo hi C (Acc b K)
  constant_stands C sc inner k z b m q lo hi B K s around on h =
      steps.act p gs f n P C sc b inner true (row.Constant k) [] m (first_and q m m) (λ w at. K at) around
      (λ J c w at vs x g. record {
        told = tt;
        gives = λ v w' a. on J c w' (after at v) (steps.stays p gs f n P m B K s at (after at v) (λ j lt. steps.and_same p gs f n P m m m at v (omega arith) j lt) x, λ y e. some_same (sym e ∙ last at v) ∙ stand w vs v w' g a);
        enters = λ callee args instead w' a v w''. absurd (apart (ap (λ (l : List Value). answer P sc.covers (row.Constant k) l w) (empty vs g) ∙ a));
      }) h.1
    where
      after : At → Value → At
      after at v = pick (with_value at m v) (range 0 m ++ m ∷ [])

      last : (at : At) (v : Value) → after at v m ≡ Some v
      last at v = pick_last (with_value at m v) m m ∙ with_here at m v

      empty : (vs : List Value) → Some [] ≡ Some vs → [] ≡ vs
      empty vs e = cc

      stand : (w : World) (vs : List Value) (v : Value) (w' : World) → Some [] ≡ Some vs → answer P sc.covers (row.Constant k) vs w ≡ Gives v w' → v ≡ z
      stand w vs v w' g a = sym (given (ap (λ (l : List Value). answer P sc.covers (row.Constant k) l w) (empty vs g) ∙ a)) ∙ (ap (λ (s : _). constant s k) sites ∙ h.0)

  -- ---- a comparison, and `isinstance`

  -- what stands for both sides
  abbrev pub Sides : Expr → Expr → ℕ → At → Type 0
  Sides a e m at = (x y : Value) → at m ≡ Some x → at (m + 1) ≡ Some y → LeftIs P a e x at × RightIs P e y at

  abbrev pub LocalBelow : Expr → Type 0
  LocalBelow (Local node i) = i < n
  LocalBelow e = Unit {0}

  pub left_moves : (a e : Expr) (x : Value) (at at' : At) → LocalBelow a → ((j : ℕ) → j < n → at' j ≡ at j) → LeftIs P a e x at → LeftIs P a e x at'
  left_moves (Local node i) e x at at' lt same left = λ free. same i lt ∙ left free
  left_moves a e x at at' lt same left = tt

  pub right_moves : (e : Expr) (y : Value) (at at' : At) → LocalBelow e → ((j : ℕ) → j < n → at' j ≡ at j) → RightIs P e y at → RightIs P e y at'
  right_moves (Local node i) y at at' lt same right = same i lt ∙ right
  right_moves (Constant node k v) y at at' lt same right = right
  right_moves (Apply node value row.None es) y at at' lt same right = right
  right_moves e y at at' lt same right = tt

  -- the operands of a comparison stand from m on, and its result goes on behind k places
  pub compare_asked : (Cond : Type 0) (C : Facts → Type 0) (sc : Scope) (b node : ℕ) (value : Bool) (o : CmpOp) (a e : Expr) (inner : ℕ) (val : Bool) (m c k q lo hi : ℕ) (B : ℕ → Bool) (K : Held) → c ≡ 2 → n ≤ m → m ≤ k → k ≤ m + c → Steady m B K → LocalBelow a → LocalBelow e → Around C sc
      → (Cond → (way : Bool) (t : Telling) → tells (Apply inner val (row.Compare o) (more a (more e none))) way ≡ Some t → (is_some t.beside ≡ false) ⊎ (m + 1 < k))
      → ((J : Facts) → C J → Accepts J q (λ w at. K at × (Cond → Promise (Apply inner val (row.Compare o) (more a (more e none))) m k k w at))) → marks.Acts p gs f n sc b node value (row.Compare o) (range m c) (m + c) (first_and q k (m + c)) lo hi → L lo hi C (Acc b (λ at. K at × Sides a e m at))
  compare_asked Cond C sc b node value o a e inner val m c k q lo hi B K two few le lt s la le' around side on h =
      steps.act p gs f n P C sc b node value (row.Compare o) (range m c) (m + c) (first_and q k (m + c)) (λ w at. K at × Sides a e m at) around
      (λ J d w at vs x g. record {
        told = tt;
        gives = λ v w' r. on J d w' (after at v) (steps.stays p gs f n P m B K s at (after at v) (λ j less. same at v j (omega (arith, less, le))) x.0, λ cond. promised cond w at vs v w' x.1 g r);
        enters = λ callee args instead w' r v w''. absurd (subst (λ (y : _). Tells w y) r (slight.compared P sc.covers o vs w));
      }) h
    where
      after : At → Value → At
      after at v = pick (with_value at (m + c) v) (range 0 k ++ (m + c) ∷ [])

      same : (at : At) (v : Value) (j : ℕ) → j < k → after at v j ≡ at j
      same at v j less = steps.and_same p gs f n P k (m + c) (m + c) at v lt j less

      last : (at : At) (v : Value) → after at v k ≡ Some v
      last at v = pick_last (with_value at (m + c) v) k (m + c) ∙ with_here at (m + c) v

      beside : (at : At) (v x y : Value) (t : Telling) → at m ≡ Some x → at (m + 1) ≡ Some y → (is_some t.beside ≡ false) ⊎ (m + 1 < k) → Beside P t (after at v) m x y
      beside at v x y t ex ey (inl alone) = inl alone
      beside at v x y t ex ey (inr further) = let e0 : m + 0 ≡ m = omega arith in inr (same at v (m + 0) (omega (arith, further)) ∙ (ap at e0 ∙ ex), same at v (m + 1) further ∙ ey)

      promised : Cond → (w : World) (at : At) (vs : List Value) (v : Value) (w' : World) → Sides a e m at → values_at at (range m c) ≡ Some vs → answer P sc.covers (row.Compare o) vs w ≡ Gives v w' → Promise (Apply inner val (row.Compare o) (more a (more e none))) m k k w' (after at v)
      promised cond w at vs v w' sides g r way t told local before true_is us u =
          let both = two_values (at m) (at (m + 1)) vs (subst (λ (i : ℕ). values_at at (range m i) ≡ Some vs) two g) in
          let at_sides = sides both.0 both.1 both.2 both.3 in
          let within = λ (j : ℕ) (less : j < n). same at v j (omega (arith, less, few, le)) in
          compared P sc.covers o a e way t told both.0 both.1 v w w' (ap (λ (l : List Value). answer P sc.covers (row.Compare o) l w) (sym both.4) ∙ r) (sym (ap (truth_of w') (last at v)) ∙ true_is) (after at v) m
          (left_moves a e both.0 at (after at v) la within at_sides.0) (right_moves e both.1 at (after at v) le' within at_sides.1) (beside at v both.0 both.1 t both.2 both.3 (side cond way t told)) us u

  instance_never : (c : Covers) (d : ℕ) (x : Value) (w : World) (callee : ℕ) (args : List Value) (instead : Option Value) (w' : World) → answer P c (row.IsInstance d) (x ∷ []) w ≡ Enters callee args instead w' → ⊥
  instance_never c d (Ref r) w callee args instead w' e = by (slice_get w.heap r) e
    where
      by : (o : Option Object) → is_instance_object P c d o w ≡ Enters callee args instead w' → ⊥
      by (Some (Instance class attributes)) e = cc
      by o e = cc
  instance_never c d x w callee args instead w' e = cc

  pub instance_asked : (C : Facts → Type 0) (sc : Scope) (b node : ℕ) (value : Bool) (d : ℕ) (a : Expr) (inner : ℕ) (val : Bool) (m q lo hi : ℕ) (B : ℕ → Bool) (K : Held) → n ≤ m → Steady m B K → LocalBelow a → Around C sc
      → ((J : Facts) → C J → Accepts J q (Asked K (Apply inner val (row.IsInstance d) (more a none)) m m)) → marks.Acts p gs f n sc b node value (row.IsInstance d) (range m 1) (m + 1) (first_and q m (m + 1)) lo hi → L lo hi C (Acc b (λ at. K at × Stands a m at))
  instance_asked C sc b node value d a inner val m q lo hi B K few s la around on h =
      steps.act p gs f n P C sc b node value (row.IsInstance d) (range m 1) (m + 1) (first_and q m (m + 1)) (λ w at. K at × Stands a m at) around
      (λ J c w at vs x g. record {
        told = tt;
        gives = λ v w' r. on J c w' (after at v) (steps.stays p gs f n P m B K s at (after at v) (same at v) x.0, promised w at vs v w' x.1 g r);
        enters = λ callee args instead w' r v w''. absurd (let one = one_value (at m) vs g in instance_never sc.covers d one.0 w callee args instead w' (ap (λ (l : List Value). answer P sc.covers (row.IsInstance d) l w) (sym one.2) ∙ r));
      }) h
    where
      after : At → Value → At
      after at v = pick (with_value at (m + 1) v) (range 0 m ++ (m + 1) ∷ [])

      same : (at : At) (v : Value) (j : ℕ) → j < m → after at v j ≡ at j
      same at v j lt = steps.and_same p gs f n P m (m + 1) (m + 1) at v (omega arith) j lt

      last : (at : At) (v : Value) → after at v m ≡ Some v
      last at v = pick_last (with_value at (m + 1) v) m (m + 1) ∙ with_here at (m + 1) v

      promised : (w : World) (at : At) (vs : List Value) (v : Value) (w' : World) → Stands a m at → values_at at (m ∷ []) ≡ Some vs → answer P sc.covers (row.IsInstance d) vs w ≡ Gives v w' → Promise (Apply inner val (row.IsInstance d) (more a none)) m m m w' (after at v)
      promised w at vs v w' stands g r way t told local before true_is us u =
          let one = one_value (at m) vs g in
          class_told P sc.covers d a way t told one.0 v w w' (ap (λ (l : List Value). answer P sc.covers (row.IsInstance d) l w) (sym one.2) ∙ r) (sym (ap (truth_of w') (last at v)) ∙ true_is) (after at v) m
          (right_moves a one.0 at (after at v) la (λ j lt. same at v j (omega (arith, lt, few))) (stands one.0 one.1)) us u

  -- `None`, which takes no operands
  none_given : (c : Covers) (es : Exprs) (at : At) (m : ℕ) (vs : List Value) (w : World) (v : Value) (w' : World) → values_at at (range m (count (plain_exprs es))) ≡ Some vs → answer P c row.None vs w ≡ Gives v w' → (v ≡ Nothing) × (es ≡ none)
  none_given c none at m vs w v w' g r = (sym (given (ap (λ (l : List Value). answer P c row.None l w) (empty vs g) ∙ r)), refl)
    where
      empty : (vs : List Value) → Some [] ≡ Some vs → [] ≡ vs
      empty vs e = cc
  none_given c (more e es) at m vs w v w' g r =
      let some = first_value (at m) (values_at at (range (m + 1) (count (plain_exprs es)))) vs g in
      absurd (bad_stays some.0 some.1 (ap (λ (l : List Value). answer P c row.None l w) (sym some.4) ∙ r))
    where
      bad_stays : (x : Value) (xs : List Value) → answer P c row.None (x ∷ xs) w ≡ Gives v w' → ⊥
      bad_stays x xs e = cc

  none_never : (c : Covers) (vs : List Value) (w : World) (callee : ℕ) (args : List Value) (instead : Option Value) (w' : World) → answer P c row.None vs w ≡ Enters callee args instead w' → ⊥
  none_never c [] w callee args instead w' e = cc
  none_never c (x ∷ xs) w callee args instead w' e = cc

  pub none_stands : (C : Facts → Type 0) (sc : Scope) (b node : ℕ) (value : Bool) (es : Exprs) (inner : ℕ) (val : Bool) (m q lo hi : ℕ) (B : ℕ → Bool) (K : Held) → Steady m B K → Around C sc
      → ((J : Facts) → C J → Acc q (λ at. K at × Stands (Apply inner val row.None es) m at) J) → marks.Acts p gs f n sc b node value row.None (range m (count (plain_exprs es))) (m + count (plain_exprs es)) (first_and q m (m + count (plain_exprs es))) lo hi → L lo hi C (Acc b K)
  none_stands C sc b node value es inner val m q lo hi B K s around on h =
      steps.act p gs f n P C sc b node value row.None (range m (count (plain_exprs es))) (m + count (plain_exprs es)) (first_and q m (m + count (plain_exprs es))) (λ w at. K at) around
      (λ J c w at vs x g. record {
        told = tt;
        gives = λ v w' r. on J c w' (after at v) (
          steps.stays p gs f n P m B K s at (after at v) (same at v) x,
          λ y e. let nothing = none_given sc.covers es at m vs w v w' g r in (some_same (sym e ∙ last at v) ∙ nothing.0, nothing.1),
        );
        enters = λ callee args instead w' r v w''. absurd (none_never sc.covers vs w callee args instead w' r);
      }) h
    where
      after : At → Value → At
      after at v = pick (with_value at (m + count (plain_exprs es)) v) (range 0 m ++ (m + count (plain_exprs es)) ∷ [])

      same : (at : At) (v : Value) (j : ℕ) → j < m → after at v j ≡ at j
      same at v j lt = steps.and_same p gs f n P m (m + count (plain_exprs es)) (m + count (plain_exprs es)) at v (omega arith) j lt

      last : (at : At) (v : Value) → after at v m ≡ Some v
      last at v = pick_last (with_value at (m + count (plain_exprs es)) v) m (m + count (plain_exprs es)) ∙ with_here at (m + count (plain_exprs es)) v
