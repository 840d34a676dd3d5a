-- Blocks of statements may be entered always.
use Rattle.std.proofs.Common.{◌≡◌, ℕ, ◌+◌, ◌≤◌, inl, inr, Bool, true, false, List, [], ◌∷◌, length, Option, Some, None, refl, sym, subst, arith}
use Rattle.std.specs.Prelude.{slice_get}
use Rattle.rpy_meaning.specs.declared.row.RowOp.{RowOp}
use Rattle.rpy_meaning.specs.declared.row.RowOp.TheVariants as row
use Rattle.rpy_meaning.specs.Tree as meaning
use Rattle.rpy_meaning.specs.Classes.{covers_within}
use Rattle.flow_graph.specs.declared.graph.Graphs.{Graphs}
use Rattle.flow_stands.specs.Places.{range, stored, Aim, Hand, Scope, Ways, Go, Does, Plain, GiveBack, GiveUp, first, first_and, onto}
use Rattle.flow_stands.specs.Stands.{step_of, return_block, never_block, within, hands_of, no_try, outside}
use Rattle.flow_trees.specs.Tree.{Expr, Target, Name, Attribute, Item, Parts, Targets, no_targets, more_targets, Stmt, Pass, Break, Continue, Return, Do, Assign, Augment, If, While, For, Try, Finally, Block, done, line, Clauses, no_clauses, clause, Function, plain_subject, plain_clauses, node_of}
use Rattle.flow_trees.specs.Marks as marks
use Rattle.flow_trees.specs.Marks.{blocks_of}
use Rattle.graph_told.specs.Plain.{narrows, PlainExpr, PlainTarget, PlainTargets, PlainStmt, PlainBlock, PlainClauses}
use Rattle.graph_told.proofs.Facts as facts
use Rattle.graph_told.proofs.Facts.{Facts, Free, pick}
use Rattle.graph_told.proofs.Steps as steps
use Rattle.graph_told.proofs.Steps.{Held, Any, HandsFree}
use Rattle.graph_told.proofs.Trees as trees

hands_before : (J : Facts) (local : Option ℕ) (aim : Aim) (classes : List ℕ) (others : List Hand) → Free J aim.to → HandsFree J others → HandsFree J (hands_of local aim classes others)
hands_before J local aim [] others free rest = rest
hands_before J local aim (class ∷ classes) others free rest = (free, hands_before J local aim classes others free rest)

bound : ℕ → Bool
bound j = false

module _ (p : meaning.Program) (gs : Graphs) (f n : ℕ) (P : meaning.Program) (sites : P.sites ≡ p.sites) where
  abbrev L : ℕ → ℕ → (Facts → Type 0) → (Facts → Type 0) → Type 1
  L lo hi C E = steps.L p gs f n P lo hi C E

  abbrev Acc : ℕ → Facts → Type 0
  Acc b J = steps.Acc p gs f n P b Any J

  abbrev With : (Facts → Type 0) → ℕ → Facts → Type 0
  With C b J = C J × Acc b J

  abbrev Around : (Facts → Type 0) → Scope → Type 1
  Around C sc = steps.Around p gs f n P C sc

  abbrev next : {lo mid hi : ℕ} {C E F : Facts → Type 0} → L lo mid C E → L mid hi (λ J. C J × E J) F → L lo hi C F
  next x y = facts.next P gs f x y

  abbrev WaysFree : Ways → Facts → Type 0
  WaysFree t J = Acc t.norm J × Acc t.brk.to J × Acc t.cont.to J × Acc t.ret.to J

  abbrev any : (m : ℕ) (B : ℕ → Bool) → steps.Steady p gs f n P m B Any
  any m B = steps.any_steady p gs f n P m B

  straight : (C : Facts → Type 0) (b q lo hi : ℕ) → ((J : Facts) → C J → Acc q J) → (b ≡ q) × (lo ≡ hi) → L lo hi C (Acc b)
  straight C b q lo hi on h = trees.straight p gs f n P sites C b q lo hi Any on h

  op_first : (C : Facts → Type 0) (sc : Scope) (b node : ℕ) (value : Bool) (o : RowOp) (args : List ℕ) (m q k : ℕ) {lo hi : ℕ} → narrows o ≡ false → k ≤ m → Around C sc → ((J : Facts) → C J → Acc q J) → marks.Acts p gs f n sc b node value o args m (first q k) lo hi → L lo hi C (Acc b)
  op_first C sc b node value o args m q k quiet le around on h = steps.op_first p gs f n P C sc b node value o args m q k bound Any quiet le (any k bound) around on h

  op_and : (C : Facts → Type 0) (sc : Scope) (b node : ℕ) (value : Bool) (o : RowOp) (args : List ℕ) (m q k last : ℕ) {lo hi : ℕ} → narrows o ≡ false → k ≤ m → Around C sc → ((J : Facts) → C J → Acc q J) → marks.Acts p gs f n sc b node value o args m (first_and q k last) lo hi → L lo hi C (Acc b)
  op_and C sc b node value o args m q k last quiet le around on h = steps.op_and p gs f n P C sc b node value o args m q k last bound Any quiet le (any k bound) around on h

  go_first : (C : Facts → Type 0) (b m q k : ℕ) {lo hi : ℕ} → ((J : Facts) → C J → Acc q J) → marks.Is p gs f n b m (Go (first q k)) lo hi → L lo hi C (Acc b)
  go_first C b m q k on h = steps.go_first p gs f n P C b m q k bound Any (any k bound) on h

  go_and : (C : Facts → Type 0) (b m q k last : ℕ) {lo hi : ℕ} → ((J : Facts) → C J → Acc q J) → marks.Is p gs f n b m (Go (first_and q k last)) lo hi → L lo hi C (Acc b)
  go_and C b m q k last on h = steps.go_and p gs f n P C b m q k last bound Any (any k bound) on h

  expr : (sc : Scope) (e : Expr) → PlainExpr e → (C : Facts → Type 0) (b m q lo hi : ℕ) → n ≤ m → Around C sc → ((J : Facts) → C J → Acc q J) → marks.HasExpr p gs f n sc e b m q lo hi → L lo hi C (Acc b)
  expr sc e pl C b m q lo hi few around on h = trees.plainly_walk p gs f n P sites sc e (trees.expr p gs f n P sites sc e pl) C b m q lo hi Any few (any m _) around on h

  bind : (sc : Scope) (t : Target) → PlainTarget t → (C : Facts → Type 0) (at m keep b q lo hi : ℕ) → n ≤ keep → keep ≤ m → Around C sc → ((J : Facts) → C J → Acc q J) → marks.HasBind p gs f n sc t [] at m keep b q lo hi → L lo hi C (Acc b)
  bind sc t pl C at m keep b q lo hi few le around on h = trees.bind p gs f n P sites sc t [] pl C at m keep b q lo hi Any few le (any keep _) around on h

  mark : (C : Facts → Type 0) (sc : Scope) (tried : Bool) (node b m q lo hi : ℕ) → Around C sc → ((J : Facts) → C J → Acc q J) → marks.MarkIf p gs f n tried sc node b m q lo hi → L lo hi C (Acc b)
  mark C sc true node b m q lo hi around on h = op_first C sc b node false row.None [] m q m refl (omega arith) around on h
  mark C sc false node b m q lo hi around on h = straight C b q lo hi on h

  targets : (sc : Scope) (ts : Targets) → PlainTargets ts → (C : Facts → Type 0) (b m q lo hi : ℕ) → n ≤ m → Around C sc → ((J : Facts) → C J → Acc q J) → marks.HasTargets p gs f n sc ts b m q lo hi → L lo hi C (Acc b)
  targets sc no_targets pl C b m q lo hi few around on h = go_first C b (m + 1) q m on h
  targets sc (more_targets t no_targets) pl C b m q lo hi few around on h = bind sc t pl.0 C m (m + 1) m b q lo hi few (omega arith) around on h
  targets sc (more_targets t (more_targets u ts)) pl C b m q lo hi few around on h =
      next (targets sc (more_targets u ts) pl.1 C h.0 m q lo h.1 few around on h.2)
      (bind sc t pl.0 (With C h.0) m (m + 1) (m + 1) b h.0 h.1 hi (omega (arith, few)) (omega arith) (λ J c. around J c.0) (λ J c. c.1) h.3)

  new_at : (C : Facts → Type 0) (sc : Scope) (node : ℕ) (o : RowOp) (b m q lo hi : ℕ) → narrows o ≡ false → Around C sc → ((J : Facts) → C J → Acc q J) → marks.NewAt p gs f n sc node o b m q lo hi → L lo hi C (Acc b)
  new_at C sc node o b m q lo hi quiet around on h = op_and C sc b node false o (m ∷ (m + 1) ∷ []) (m + 2) q m (m + 2) quiet (omega arith) around on h

  augment : (C : Facts → Type 0) (sc : Scope) (node : ℕ) (t : Target) (o : RowOp) (e : Expr) (b m q lo hi : ℕ) → narrows o ≡ false → PlainTarget t → PlainExpr e → n ≤ m → Around C sc → ((J : Facts) → C J → Acc q J) → marks.HasAugment p gs f n sc node t o e b m q lo hi → L lo hi C (Acc b)
  augment C sc node (Name at i) o e b m q lo hi quiet plt ple few around on h =
      let C1 = With C h.2 in
      let C2 = With C1 h.1 in
      let C3 = With C2 h.0 in
      next (steps.op p gs f n P C sc h.2 at true row.Copy (m ∷ []) (m + 1) (stored q m i (m + 1)) Any refl around (λ J c w places v x. on J c w (pick (facts.with_value places (m + 1) v) (stored q m i (m + 1)).places) tt) h.7)
      (next (new_at C1 sc node o h.1 m h.2 h.3 h.4 quiet (λ J c. around J c.0) (λ J c. c.1) h.8)
      (next (expr sc e ple C2 h.0 (m + 1) h.1 h.4 h.5 (omega (arith, few)) (λ J c. around J c.0.0) (λ J c. c.1) h.9)
      (op_and C3 sc b at false row.Copy (i ∷ []) m h.0 m m refl (omega arith) (λ J c. around J c.0.0.0) (λ J c. c.1) h.10)))
  augment C sc node (Attribute at x name) o e b m q lo hi quiet plt ple few around on h =
      let C1 = With C h.3 in
      let C2 = With C1 h.2 in
      let C3 = With C2 h.1 in
      let C4 = With C3 h.0 in
      next (op_first C sc h.3 at true (row.StoreAttr name) (m ∷ (m + 1) ∷ []) (m + 2) q m refl (omega arith) around on h.8)
      (next (new_at C1 sc node o h.2 (m + 1) h.3 h.4 h.5 quiet (λ J c. around J c.0) (λ J c. c.1) h.9)
      (next (expr sc e ple C2 h.1 (m + 1 + 1) h.2 h.5 h.6 (omega (arith, few)) (λ J c. around J c.0.0) (λ J c. c.1) h.10)
      (next (op_and C3 sc h.0 at false (row.Attr name) (m ∷ []) (m + 1) h.1 (m + 1) (m + 1) refl (omega arith) (λ J c. around J c.0.0.0) (λ J c. c.1) h.11)
      (expr sc x plt C4 b m h.0 h.7 hi few (λ J c. around J c.0.0.0.0) (λ J c. c.1) h.12))))
  augment C sc node (Item at x i) o e b m q lo hi quiet plt ple few around on h =
      let C1 = With C h.4 in
      let C2 = With C1 h.3 in
      let C3 = With C2 h.2 in
      let C4 = With C3 h.1 in
      let C5 = With C4 h.0 in
      next (op_first C sc h.4 at true row.StoreIndex (m ∷ (m + 1) ∷ (m + 2) ∷ []) (m + 3) q m refl (omega arith) around on h.10)
      (next (new_at C1 sc node o h.3 (m + 2) h.4 h.5 h.6 quiet (λ J c. around J c.0) (λ J c. c.1) h.11)
      (next (expr sc e ple C2 h.2 (m + 2 + 1) h.3 h.6 h.7 (omega (arith, few)) (λ J c. around J c.0.0) (λ J c. c.1) h.12)
      (next (op_and C3 sc h.1 at false (row.Index None) (m ∷ (m + 1) ∷ []) (m + 2) h.2 (m + 2) (m + 2) refl (omega arith) (λ J c. around J c.0.0.0) (λ J c. c.1) h.13)
      (next (expr sc i plt.1 C4 h.0 (m + 1) h.1 h.8 h.9 (omega (arith, few)) (λ J c. around J c.0.0.0.0) (λ J c. c.1) h.14)
      (expr sc x plt.0 C5 b m h.0 h.9 hi few (λ J c. around J c.0.0.0.0.0) (λ J c. c.1) h.15)))))
  augment C sc node (Parts at ts) o e b m q lo hi quiet plt ple few around on h = op_first C sc b at true row.Copy [] m q m refl (omega arith) around on h

  gives_back : (C : Facts → Type 0) (sc : Scope) (node k m : ℕ) (ret : Aim) (lo hi : ℕ) → Around C sc → ((J : Facts) → C J → Acc ret.to J) → marks.GivesBack p gs f n sc node k m ret lo hi → L lo hi C (Acc k)
  gives_back C sc node k m ret lo hi around on (inl h) = go_and C k (m + 1) ret.to ret.keep m on h.1
  gives_back C sc node k m ret lo hi around on (inr h) =
      facts.one P gs f {C = C} k h.0.0 (m + 1) node false (Does row.Copy (m ∷ []) sc.covers [] (first_and return_block 0 m) (first_and ret.to ret.keep m)) h.1 h.0.1 (λ w at. Any at)
      (λ J c. (tt, (around J c).3, λ w at vs x e. record { told = tt; gives = λ v w' g. on J c w' (pick (facts.with_value at (m + 1) v) (first_and ret.to ret.keep m).places) tt; enters = λ g args instead w' a v w''. on J c w'' (pick (facts.with_value at (m + 1) v) (first_and ret.to ret.keep m).places) tt }))

  mutual
    stmt : (sc : Scope) (s : Stmt) → PlainStmt s → (C : Facts → Type 0) (b m : ℕ) (t : Ways) (lo hi : ℕ) → n ≤ m → Around C sc → ((J : Facts) → C J → WaysFree t J) → marks.HasStmt p gs f n sc s b m t lo hi → L lo hi C (Acc b)
    stmt sc (Pass node) pl C b m t lo hi few around ways h = straight C b t.norm lo hi (λ J c. (ways J c).0) h
    stmt sc (Break node) pl C b m t lo hi few around ways h = go_first C b m t.brk.to t.brk.keep (λ J c. (ways J c).1) h
    stmt sc (Continue node) pl C b m t lo hi few around ways h = go_first C b m t.cont.to t.cont.keep (λ J c. (ways J c).2) h
    stmt sc (Return node e) pl C b m t lo hi few around ways h =
        next (gives_back C sc node h.0 m t.ret lo h.1 around (λ J c. (ways J c).3) h.2) (expr sc e pl (With C h.0) b m h.0 h.1 hi few (λ J c. around J c.0) (λ J c. c.1) h.3)
    stmt sc (Do node e) pl C b m t lo hi few around ways h =
        next (go_first C h.0 (m + 1) t.norm m (λ J c. (ways J c).0) h.2) (expr sc e pl (With C h.0) b m h.0 h.1 hi few (λ J c. around J c.0) (λ J c. c.1) h.3)
    stmt sc (Assign node ts e) pl C b m t lo hi few around ways h =
        next (targets sc ts pl.0 C h.0 m t.norm lo h.1 few around (λ J c. (ways J c).0) h.2) (expr sc e pl.1 (With C h.0) b m h.0 h.1 hi few (λ J c. around J c.0) (λ J c. c.1) h.3)
    stmt sc (Augment node target o e) pl C b m t lo hi few around ways h = augment C sc node target o e b m t.norm lo hi pl.0 pl.1 pl.2 few around (λ J c. (ways J c).0) h
    stmt sc (If node e one other) pl C b m t lo hi few around ways h =
        let C1 = With C h.1 in
        let C2 = With C1 h.0 in
        next (lines sc other pl.2 C h.1 m t lo h.2 few around ways h.4)
        (next (lines sc one pl.1 C1 h.0 m t h.2 h.3 few (λ J c. around J c.0) (λ J c. ways J c.0) h.5)
        (trees.test p gs f n P sites sc node e pl.0 C2 b m h.0 h.1 h.3 hi Any few (any m _) (λ J c. around J c.0.0) (λ J c. c.1) (λ J c. c.0.1) h.6))
    stmt sc (While node e body) pl C b m t lo hi few around ways h =
        let C0 = With C b in
        let C1 = With C0 h.2 in
        let C2 = With C1 h.1 in
        let turns = lines sc body pl.1 C0 h.2 m (within p gs f n t (record { to = b; keep = m }) (record { to = t.norm; keep = m })) h.3 h.4 few (λ J c. around J c.0) (λ J c. (c.1, (ways J c.0).0, c.1, (ways J c.0).3)) h.7 in
        let turn = op_first C1 sc h.1 node false row.Turn [] m h.2 m refl (omega arith) (λ J c. around J c.0.0) (λ J c. c.1) h.8 in
        let asked = trees.test p gs f n P sites sc node e pl.0 C2 h.0 m h.1 t.norm h.5 hi Any few (any m _) (λ J c. around J c.0.0.0) (λ J c. c.1) (λ J c. (ways J c.0.0.0).0) h.9 in
        facts.so P gs f (λ J c e. e.0) (facts.head P gs f {C = C} b h.6.0.0 m h.6.0.1 h.6.0.2 (Go (first h.0 m)) h.6.1 h.6.0.3 (λ w at. Any at) (next turns (next turn asked)) (λ J c e w at x. e w (pick at (range 0 m)) tt))
    stmt sc (For node target subject body) pl C b m t lo hi few around ways h =
        let C0 = With C h.0 in
        let C1 = With C0 h.2 in
        let C2 = With C1 h.3 in
        let C3 = With C2 h.4 in
        let C4 = With C3 h.1 in
        let step = step_of (plain_subject subject) in
        let advance = trees.advance_at p gs f n P sites C0 sc node step m h.0 h.2 h.5 h.6 bound Any (any m bound) (λ J c. around J c.0) (λ J c. c.1) h.11 in
        let turns = lines sc body pl.2 C1 h.3 (m + 2) (within p gs f n t (record { to = h.2; keep = m + 2 }) (record { to = t.norm; keep = m })) h.6 h.7 (omega (arith, few)) (λ J c. around J c.0.0) (λ J c. (c.1, (ways J c.0.0).0, c.1, (ways J c.0.0).3)) h.12 in
        let taken = bind sc target pl.0 C2 (m + 2) (m + 2 + 1) (m + 2) h.4 h.3 h.7 h.8 (omega (arith, few)) (omega arith) (λ J c. around J c.0.0.0) (λ J c. c.1) h.13 in
        let turn = trees.turn_at p gs f n P sites C3 sc node step m h.4 t.norm m h.1 h.8 h.9 bound Any (any m bound) (omega arith) (omega arith) (λ J c. around J c.0.0.0.0) (λ J c. c.1) (λ J c. (ways J c.0.0.0.0).0) h.14 in
        let begun = trees.walked p gs f n P sites sc node subject pl.1 C4 b m h.0 h.9 hi Any few (any m _) (λ J c. around J c.0.0.0.0.0) (λ J c. c.0.0.0.0.1) h.15 in
        facts.so P gs f (λ J c e. e.1.1) (facts.head P gs f {C = C} h.0 h.10.0.0 (m + 2) h.10.0.1 h.10.0.2 (Go (first h.1 (m + 2))) h.10.1 h.10.0.3 (λ w at. Any at)
        (next advance (next turns (next taken (facts.seq P gs f turn begun)))) (λ J c e w at x. e.0 w (pick at (range 0 (m + 2))) tt))
    stmt sc (Try node body cs other) pl C b m t lo hi few around ways h =
        let C1 = With C h.0 in
        next (lines sc other pl.2 C h.0 m t lo h.1 few around ways h.5)
        (next (clauses sc cs pl.1 C1 m t h.3 h.4 h.1 h.2 few (λ J c. around J c.0) (λ J c. ways J c.0) h.6)
        (lines (record { hands = h.3; default = h.4; covers = covers_within p.classes (plain_clauses cs) sc.covers; tried = true }) body pl.0 (λ J. C1 J × (HandsFree J h.3 × Acc h.4.to J)) b m (onto t h.0) h.2 hi few
        (λ J c. (c.1.0, c.1.1, (around J c.0.0).2, (around J c.0.0).3)) (λ J c. (c.0.1, (ways J c.0.0).1, (ways J c.0.0).2, (ways J c.0.0).3)) h.7))
    stmt sc (Finally node body last) pl C b m t lo hi few around ways h =
        let C1 = With C h.0 in
        let C2 = With C1 h.5 in
        let C3 = With C2 h.1 in
        let C4 = With C3 h.6 in
        let C5 = With C4 h.2 in
        let C6 = With C5 h.7 in
        let C7 = With C6 h.3 in
        let C8 = With C7 h.8 in
        let C9 = With C8 h.4 in
        next (lines sc last pl.1 C h.0 m t lo h.9 few around ways h.18)
        (next (go_first C1 h.5 m t.brk.to t.brk.keep (λ J c. (ways J c.0).1) h.19)
        (next (lines sc last pl.1 C2 h.1 m (onto t h.5) h.10 h.11 few (λ J c. around J c.0.0) (λ J c. (c.1, (ways J c.0.0).1, (ways J c.0.0).2, (ways J c.0.0).3)) h.20)
        (next (go_first C3 h.6 m t.cont.to t.cont.keep (λ J c. (ways J c.0.0.0).2) h.21)
        (next (lines sc last pl.1 C4 h.2 m (onto t h.6) h.12 h.13 few (λ J c. around J c.0.0.0.0) (λ J c. (c.1, (ways J c.0.0.0.0).1, (ways J c.0.0.0.0).2, (ways J c.0.0.0.0).3)) h.22)
        (next (go_and C5 h.7 (m + 1) t.ret.to t.ret.keep m (λ J c. (ways J c.0.0.0.0.0).3) h.23)
        (next (lines sc last pl.1 C6 h.3 (m + 1) (onto t h.7) h.14 h.15 (omega (arith, few)) (λ J c. around J c.0.0.0.0.0.0) (λ J c. (c.1, (ways J c.0.0.0.0.0.0).1, (ways J c.0.0.0.0.0.0).2, (ways J c.0.0.0.0.0.0).3)) h.24)
        (next (op_first C7 sc h.8 node false row.Raise (m ∷ []) (m + 1) never_block 0 refl (omega arith) (λ J c. around J c.0.0.0.0.0.0.0) (λ J c. (around J c.0.0.0.0.0.0.0).2) h.25)
        (next (lines sc last pl.1 C8 h.4 (m + 1) (onto t h.8) h.16 h.17 (omega (arith, few)) (λ J c. around J c.0.0.0.0.0.0.0.0) (λ J c. (c.1, (ways J c.0.0.0.0.0.0.0.0).1, (ways J c.0.0.0.0.0.0.0.0).2, (ways J c.0.0.0.0.0.0.0.0).3)) h.26)
        (lines (record { hands = []; default = record { to = h.4; keep = m }; covers = sc.covers; tried = true }) body pl.0 C9 b m
        (record { norm = h.0; brk = record { to = h.1; keep = m }; cont = record { to = h.2; keep = m }; ret = record { to = h.3; keep = m } }) h.17 hi few
        (λ J c. (tt, c.1, (around J c.0.0.0.0.0.0.0.0.0).2, (around J c.0.0.0.0.0.0.0.0.0).3)) (λ J c. (c.0.0.0.0.0.0.0.0.1, c.0.0.0.0.0.0.1, c.0.0.0.0.1, c.0.0.1)) h.27)))))))))

    pub lines : (sc : Scope) (s : Block) → PlainBlock s → (C : Facts → Type 0) (b m : ℕ) (t : Ways) (lo hi : ℕ) → n ≤ m → Around C sc → ((J : Facts) → C J → WaysFree t J) → marks.HasBlock p gs f n sc s b m t lo hi → L lo hi C (Acc b)
    lines sc done pl C b m t lo hi few around ways h = straight C b t.norm lo hi (λ J c. (ways J c).0) h
    lines sc (line s rest) pl C b m t lo hi few around ways h =
        let C1 = With C h.2 in
        let C2 = With C1 h.1 in
        let C3 = With C2 h.0 in
        next (lines sc rest pl.1 C h.2 m t lo h.3 few around ways h.6)
        (next (mark C1 sc sc.tried (node_of s) h.1 m h.2 h.3 h.4 (λ J c. around J c.0) (λ J c. c.1) h.7)
        (next (stmt sc s pl.0 C2 h.0 m (onto t h.1) h.4 h.5 few (λ J c. around J c.0.0) (λ J c. (c.1, (ways J c.0.0).1, (ways J c.0.0).2, (ways J c.0.0).3)) h.8)
        (mark C3 sc sc.tried (node_of s) b m h.0 h.5 hi (λ J c. around J c.0.0.0) (λ J c. c.1) h.9)))

    clauses : (sc : Scope) (cs : Clauses) → PlainClauses cs → (C : Facts → Type 0) (m : ℕ) (t : Ways) (hands : List Hand) (default : Aim) (lo hi : ℕ) → n ≤ m → Around C sc → ((J : Facts) → C J → WaysFree t J) → marks.HasClauses p gs f n sc cs m t hands default lo hi
        → L lo hi C (λ J. HandsFree J hands × Acc default.to J)
    clauses sc no_clauses pl C m t hands default lo hi few around ways h =
        facts.straight P gs f h.2 (λ J c. (subst (λ (hs : List Hand). HandsFree J hs) (sym h.0) (around J c).0, subst (λ (aim : Aim). Acc aim.to J) (sym h.1) (around J c).1))
    clauses sc (clause None local body rest) pl C m t hands default lo hi few around ways h =
        facts.so P gs f (λ J c e. (subst (λ (hs : List Hand). HandsFree J hs) (sym h.4) tt, subst (λ (aim : Aim). Acc aim.to J) (sym h.5) e))
        (next (lines sc body pl.0 C h.0 m t lo h.2 few around ways h.6) (go_first (With C h.0) h.1 (m + 1) h.0 m (λ J c. c.1) h.7))
    clauses sc (clause (Some classes) local body rest) pl C m t hands default lo hi few around ways h =
        facts.so P gs f (λ J c e. (subst (λ (hs : List Hand). HandsFree J hs) (sym h.4) (hands_before J local (record { to = h.0; keep = m }) classes h.2 e.0 e.1.0), e.1.1))
        (facts.seq P gs f (lines sc body pl.0 C h.0 m t lo h.1 few around ways h.5) (clauses sc rest pl.1 (With C h.0) m t h.2 default h.1 hi few (λ J c. around J c.0) (λ J c. ways J c.0) h.6))

-- ---- functions

module _ (p : meaning.Program) (gs : Graphs) (P : meaning.Program) (sites : P.sites ≡ p.sites) where
  pub function_told : (f : ℕ) (function : Function) → PlainBlock function.body → marks.HasFunction p gs f function → facts.Lifted P gs f 0 (length (blocks_of (slice_get gs.graphs f))) (λ J. Unit {0}) (λ J. Free J 0)
  function_told f function pl h =
      let n = function.locals in
      let len = length (blocks_of (slice_get gs.graphs f)) in
      let C0 : Facts → Type 0 = λ J. Unit {0} × Free J 0 in
      let C1 : Facts → Type 0 = λ J. C0 J × Free J 1 in
      let C2 : Facts → Type 0 = λ J. C1 J × Free J 2 in
      let C3 : Facts → Type 0 = λ J. C2 J × Free J 3 in
      let C4 : Facts → Type 0 = λ J. C3 J × Free J 4 in
      let back = facts.one P gs f {lo = 1} {hi = 2} {C = C0} 1 h.3.0 1 h.3.1 h.3.2 GiveBack (refl, refl) h.3.3 (λ w at. Unit {0}) (λ J c. tt) in
      let raised = facts.one P gs f {lo = 2} {hi = 3} {C = C1} 2 h.4.0 1 h.4.1 h.4.2 GiveUp (refl, refl) h.4.3 (λ w at. Unit {0}) (λ J c. tt) in
      let end = facts.one P gs f {lo = 4} {hi = 5} {C = C3} 4 h.6.0.0 n function.node false (Plain row.None (first_and return_block 0 n)) h.6.1 h.6.0.1 (λ w at. Unit {0})
      (λ J c w at x. record { told = tt; gives = λ v w' g. c.0.0.1 w' (pick (facts.with_value at n v) (first_and return_block 0 n).places) tt; enters = λ g args instead w' a v w''. c.0.0.1 w'' (pick (facts.with_value at n v) (first_and return_block 0 n).places) tt }) in
      let body = lines p gs f n P sites no_try function.body pl C4 h.0 n (outside n) 5 len (omega arith) (λ J c. (tt, c.0.0.1, c.0.1, c.0.0.0.1)) (λ J c. (c.1, c.1, c.1, c.0.0.0.1)) h.7 in
      let behind = facts.so P gs f {F = λ J. Free J 3 × Free J h.0} (λ J c e. (c.1, e)) (facts.next P gs f end body) in
      let never = facts.head P gs f {lo = 3} {mid = 4} {hi = len} {C = C2} 3 h.5.0 0 h.5.1 h.5.2 (Go (first never_block 0)) (refl, refl) h.5.3 (λ w at. Unit {0}) behind (λ J c e w at x. e.0 w (pick at (range 0 0)) tt) in
      let rest = facts.next P gs f back (facts.next P gs f raised (facts.so P gs f (λ J c e. e.1.1) never)) in
      facts.so P gs f (λ J c e. e.0) (facts.head P gs f {lo = 0} {mid = 1} {hi = len} {C = λ J. Unit {0}} 0 h.2.0 n h.2.1 h.2.2 (Go (first h.0 n)) (refl, refl) h.2.3 (λ w at. Unit {0}) rest (λ J c e w at x. e w (pick at (range 0 n)) tt))
