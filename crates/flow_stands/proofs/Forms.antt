-- The machine follows each form of expression, where it follows the parts.
use Rattle.std.proofs.Common.{◌≡◌, ℕ, zero, suc, ◌+◌, ◌<◌, Bool, true, false, cond, List, [], ◌∷◌, ◌++◌, ◌⊎◌, inl, inr, length, Some, None, Option, refl, sym, ap, ◌∙◌, subst, arith, append_assoc, length-append}
use Rattle.std.specs.Prelude.{slice_set, if◌then◌else◌, not}
use Rattle.std.proofs.lemmas.List.{append-nil}
use Rattle.rpy_tree.specs.Value.{Value, Flag}
use Rattle.rpy_meaning.specs.declared.row.Covers.{Covers}
use Rattle.rpy_meaning.specs.declared.row.RowOp.{RowOp}
use Rattle.rpy_meaning.specs.declared.row.RowOp.TheVariants as row
use Rattle.rpy_meaning.specs.Tree.{Expr, Local, Apply, And, Or, Exprs, none, more, Program}
use Rattle.rpy_meaning.specs.World.{World, flag_if_any}
use Rattle.rpy_meaning.specs.Classes.{is_below}
use Rattle.rpy_meaning.specs.Operations.{builtin_classes, truth_in, opposite}
use Rattle.rpy_meaning.specs.Evaluation.{State, Ending, Done, Raised, Failed, Running, Wrong, Eval, then_go, is_so, known, pure}
use Rattle.rpy_meaning.specs.Moments.{is_passed_over}
use Rattle.rpy_meaning.specs.Meaning.{Run, Sem, Before, Behind, answered as told, perform, value, values}
use Rattle.flow_graph.specs.declared.graph.Graphs.{Graphs}
use Rattle.flow_meaning.specs.Machine.{Frame}
use Rattle.flow_stands.proofs.Watches.{Watching}
use Rattle.flow_stands.specs.Places.{range, Scope, first_and}
use Rattle.flow_stands.specs.Stands.{Acts, Reads, is_local, some_is_local, Branch, plainly, with_value, Asks, AppliedAt, NotAt, SidesAt, AndAt, OrAt, onward, never_block, IsComparison, count, Stand}
use Rattle.flow_stands.proofs.Lists.{Env, pick}
use Rattle.flow_stands.proofs.Core.{Place, place, env, IsBound, After, after_on, Fit, fit_on, Catches, Leads, stays, leads_on, enter, Runs, seq, led, here}
use Rattle.flow_stands.proofs.Calls.{Any, Good}
use Rattle.flow_stands.proofs.Acts.{Drops}
use Rattle.flow_stands.proofs.Parts.{land_result, land_last, assoc, vals, lists, result_goes_on, first_go_on, ReadBy, Reading, acts, raises_sim}
use Rattle.flow_stands.proofs.Tests.{branch_place, by_truth, gives_value, meets, truth_sim}

-- where a test leads
abbrev pub test_place : ℕ → ℕ → List Value → Bool → State → Place
test_place so other held go t = place (cond go so other) (env t held)

-- as many as there are operands; the locals among them are bound
abbrev pub Many : Exprs → List Value → State → Type 0
Many es vs t = (length vs ≡ count es) × ((i : ℕ) → some_is_local es i → IsBound t.locals i)

pub local_reads : (e : Expr) (i : ℕ) → is_local e i → Reads e i
local_reads (Local j) i h = h
local_reads e i h = absurd h

onward_is : (o : RowOp) → (o ≡ row.Raise) ⊎ ((to keep last : ℕ) → onward o to keep last ≡ first_and to keep last)
onward_is row.Raise = inl refl
onward_is o = inr (λ to keep last. refl)

pub set_bound : (ls : Env) (i j : ℕ) (v : Value) → IsBound ls j → IsBound (slice_set ls i (Some v)) j
set_bound [] i j v b = absurd (let e = b.1 in cc)
set_bound (x ∷ ls) zero zero v b = (v, refl)
set_bound (x ∷ ls) zero (suc j) v b = b
set_bound (x ∷ ls) (suc i) zero v b = b
set_bound (x ∷ ls) (suc i) (suc j) v b = set_bound ls i j v b

-- a test of a value
so_pure : (o : Option Bool) (t : State) → then_go (known o t) (λ go u. Done go u) ≡ known o t
so_pure None t = refl
so_pure (Some go) t = refl

pub tested_is : (e : Ending Value) → then_go e (λ x t. then_go (is_so x t) (λ go u. Done go u)) ≡ then_go e is_so
tested_is (Done x t) = so_pure (truth_in t.world x) t
tested_is (Raised r t) = refl
tested_is (Failed name t) = refl
tested_is (Running rs t) = refl
tested_is Wrong = refl

-- the operand of `not`, as a test
abbrev pub tested : Watching → Program → Sem → Covers → Exprs → Eval Bool
tested wa p prev c none s = Wrong
tested wa p prev c (more a none) s = then_go (value p wa.watch prev c a s) is_so
tested wa p prev c (more a (more e es)) s = Wrong

module _ (wa : Watching) (p : Program) (prev : Sem) (c : Covers) where
  abbrev behind_not : Value → Eval Value
  behind_not v = λ u. then_go (wa.watch (Behind row.Not) (v ∷ []) u) (λ b. pure v)

  not_by : (o : Option Bool) (x : Value) (t : State) → then_go (told p wa.watch prev (flag_if_any (opposite o) t.world) (x ∷ []) t) behind_not ≡ then_go (known o t) (λ go u. Done (Flag (not go)) u)
  not_by None x t = refl
  not_by (Some go) x t = ap (λ e. then_go e (λ b. pure (Flag (not go)))) (wa.quiet (Behind row.Not) refl (Flag (not go) ∷ []) t)

  not_ending : (r : Ending Value) → then_go (then_go r (λ v t. Done (v ∷ []) t)) (perform p wa.watch prev c row.Not) ≡ then_go (then_go r is_so) (λ go u. Done (Flag (not go)) u)
  not_ending (Done x t) =
      ap (λ e. then_go e (λ a u. then_go (told p wa.watch prev (flag_if_any (opposite (truth_in u.world x)) u.world) (x ∷ []) u) behind_not)) (wa.quiet (Before row.Not) refl (x ∷ []) t)
      ∙ not_by (truth_in t.world x) x t
  not_ending (Raised r t) = refl
  not_ending (Failed name t) = refl
  not_ending (Running rs t) = refl
  not_ending Wrong = refl

  pub not_is : (a : Expr) (s : State) → value p wa.watch prev c (Apply row.Not (more a none)) s ≡ then_go (tested wa p prev c (more a none) s) (λ go u. Done (Flag (not go)) u)
  not_is a s = not_ending (value p wa.watch prev c a s)

  -- `and` and `or` as tests
  and_by : (a b : Expr) (o : Option Bool) (x : Value) (t : State) → truth_in t.world x ≡ o
      → then_go (then_go (known o t) (λ go. if go then value p wa.watch prev c b else pure x)) is_so ≡ then_go (known o t) (λ go u. (if go then (λ u. then_go (value p wa.watch prev c b u) is_so) else pure false) u)
  and_by a b None x t z = refl
  and_by a b (Some true) x t z = refl
  and_by a b (Some false) x t z = ap (λ o. known o t) z

  and_ending : (a b : Expr) (r : Ending Value) → then_go (then_go r (λ x t. then_go (is_so x t) (λ go. if go then value p wa.watch prev c b else pure x))) is_so ≡ then_go (then_go r is_so) (λ go u. (if go then (λ u. then_go (value p wa.watch prev c b u) is_so) else pure false) u)
  and_ending a b (Done x t) = and_by a b (truth_in t.world x) x t refl
  and_ending a b (Raised r t) = refl
  and_ending a b (Failed name t) = refl
  and_ending a b (Running rs t) = refl
  and_ending a b Wrong = refl

  pub and_test : (a b : Expr) (s : State) → then_go (value p wa.watch prev c (And a b) s) is_so ≡ then_go (then_go (value p wa.watch prev c a s) is_so) (λ go u. (if go then (λ u. then_go (value p wa.watch prev c b u) is_so) else pure false) u)
  and_test a b s = and_ending a b (value p wa.watch prev c a s)

  or_by : (a b : Expr) (o : Option Bool) (x : Value) (t : State) → truth_in t.world x ≡ o
      → then_go (then_go (known o t) (λ stop. if stop then pure x else value p wa.watch prev c b)) is_so ≡ then_go (known o t) (λ stop u. (if stop then pure true else (λ u. then_go (value p wa.watch prev c b u) is_so)) u)
  or_by a b None x t z = refl
  or_by a b (Some true) x t z = ap (λ o. known o t) z
  or_by a b (Some false) x t z = refl

  or_ending : (a b : Expr) (r : Ending Value) → then_go (then_go r (λ x t. then_go (is_so x t) (λ stop. if stop then pure x else value p wa.watch prev c b))) is_so ≡ then_go (then_go r is_so) (λ stop u. (if stop then pure true else (λ u. then_go (value p wa.watch prev c b u) is_so)) u)
  or_ending a b (Done x t) = or_by a b (truth_in t.world x) x t refl
  or_ending a b (Raised r t) = refl
  or_ending a b (Failed name t) = refl
  or_ending a b (Running rs t) = refl
  or_ending a b Wrong = refl

  pub or_test : (a b : Expr) (s : State) → then_go (value p wa.watch prev c (Or a b) s) is_so ≡ then_go (then_go (value p wa.watch prev c a s) is_so) (λ stop u. (if stop then pure true else (λ u. then_go (value p wa.watch prev c b u) is_so)) u)
  or_test a b s = or_ending a b (value p wa.watch prev c a s)

module _ (p : Program) (gs : Graphs) (wa : Watching) (builtins : (k : ℕ) → k < builtin_classes → is_below p.classes k 0 ≡ true) (stand : Stand p gs) (prev : Sem) (top : ℕ) (good : Good p gs wa prev top) (f n : ℕ) (instead : Option Value) (frs : List Frame) where
  abbrev pub F : {A : Type 0} → (Run → ℕ → Type 0) → List Value → State → (A → State → Place) → (ℕ → State → Place) → (A → State → Type 0) → Ending A → Type 0
  F P held s D R X e = Runs p gs wa f instead frs P held s D R X e

  abbrev pub at_place : Place → World → Run → ℕ → Type 0
  at_place = enter p gs wa f instead frs

  abbrev pub Keep : ℕ → Scope → List Value → (ℕ → State → Place) → Type 0
  Keep m sc held R = Catches p gs wa n m sc held R

  abbrev pub ValueSim : Scope → Expr → (ℕ → ℕ → ℕ → Type 0) → Type 0
  ValueSim sc e E =
      (m b q : ℕ) (held : List Value) (R : ℕ → State → Place) → Keep m sc held R → (s : State) → Fit (suc top) n s → E b m q
      → F (at_place (place b (env s held)) s.world) held s (vals q held) R (ReadBy e) (value p wa.watch prev sc.covers e s)

  abbrev pub ValuesSim : Scope → Exprs → (ℕ → ℕ → ℕ → Type 0) → Type 0
  ValuesSim sc es E =
      (m b q : ℕ) (held : List Value) (R : ℕ → State → Place) → Keep m sc held R → (s : State) → Fit (suc top) n s → E b m q
      → F (at_place (place b (env s held)) s.world) held s (lists q held) R (Many es) (values p wa.watch prev sc.covers es s)

  abbrev pub SidesSim : Type 0 → Scope → Expr → (ℕ → ℕ → ℕ → ℕ → Type 0) → Type 0
  SidesSim B sc e Sides =
      (m b c q : ℕ) (held : List Value) (R : ℕ → State → Place) → Keep m sc held R → (s : State) → Fit (suc top) n s → Sides b m c q
      → (D : B → State → Place) (K : Value → Eval B)
      → ((x : Value) (t : State) (ys : List Value) → After s t → length ys ≡ c → ReadBy e x t → F (at_place (place q (env t (held ++ (ys ++ x ∷ [])))) t.world) held t D R (Reading e) (K x t))
      → F (at_place (place b (env s held)) s.world) held s D R (Reading e) (then_go (value p wa.watch prev sc.covers e s) K)

  abbrev pub TestSim : Scope → Expr → (ℕ → ℕ → ℕ → ℕ → Type 0) → Type 0
  TestSim sc e Test =
      (m b so other : ℕ) (held : List Value) (R : ℕ → State → Place) → Keep m sc held R → (s : State) → Fit (suc top) n s → Test b m so other
      → F (at_place (place b (env s held)) s.world) held s (test_place so other held) R (Reading e) (then_go (value p wa.watch prev sc.covers e s) is_so)

  -- an operation without operands
  pub leaf_sim : (m : ℕ) (sc : Scope) (held : List Value) (R : ℕ → State → Place) → Keep m sc held R → (s : State) → Fit (suc top) n s → (b q : ℕ) (o : RowOp) → Acts p gs f n sc b o [] m (first_and q m m)
      → F (at_place (place b (env s held)) s.world) held s (vals q held) R Any (perform p wa.watch prev sc.covers o [] s)
  leaf_sim m sc held R c s fit b q o is =
      acts p gs wa builtins stand prev top good f n instead frs m sc held R c s fit held [] (sym (append-nil held)) b m o [] (first_and q m m) [] is (omega arith) refl [] (vals q held) Any (result_goes_on m m q o [] []) (λ wt. omega arith) (λ wt. omega arith)
      (λ v w k. (ap (place q) (land_result n s fit.long held held [] m m v (sym (append-nil held)) c.all c.all), tt))

  -- an operation on the last values, in whose place its result stands
  pub last_sim : (m : ℕ) (sc : Scope) (held : List Value) (R : ℕ → State → Place) → Keep m sc held R → (s : State) → Fit (suc top) n s → (vs : List Value) (k b q : ℕ) (o : RowOp) (X : Value → State → Type 0) → length vs ≡ k
      → Acts p gs f n sc b o (range m k) (m + k) (first_and q m (m + k)) → ((v : Value) (w : World) (j : ℕ) → X v (record s { world = w; moments = j }))
      → F (at_place (place b (env s (held ++ vs))) s.world) held s (vals q held) R X (perform p wa.watch prev sc.covers o vs s)
  last_sim m sc held R c s fit vs k b q o X len is x =
      acts p gs wa builtins stand prev top good f n instead frs m sc held R c s fit (held ++ vs) vs refl b (m + k) o (range m k) (first_and q m (m + k)) vs is (omega (arith, len))
      (ap (λ j. pick (env s (held ++ vs)) (range m j)) (sym len) ∙ land_last n s fit.long (held ++ vs) held vs m refl c.all) vs (vals q held) X (result_goes_on m (m + k) q o vs []) (λ wt. omega arith) (λ wt. omega arith)
      (λ v w j. (ap (place q) (land_result n s fit.long (held ++ vs) held vs m (m + k) v refl c.all (let z = length-append held vs in let a = c.all in omega (arith, z, a, len))), x v w j))

  applied_by : (m : ℕ) (sc : Scope) (held : List Value) (R : ℕ → State → Place) → Keep m sc held R → (s : State) → Fit (suc top) n s → (vs : List Value) (k b q : ℕ) (o : RowOp) (X : Value → State → Type 0) → length vs ≡ k
      → Acts p gs f n sc b o (range m k) (m + k) (onward o q m (m + k)) → ((v : Value) (w : World) (j : ℕ) → X v (record s { world = w; moments = j }))
      → (o ≡ row.Raise) ⊎ ((to keep last : ℕ) → onward o to keep last ≡ first_and to keep last)
      → F (at_place (place b (env s (held ++ vs))) s.world) held s (vals q held) R X (perform p wa.watch prev sc.covers o vs s)
  applied_by m sc held R c s fit vs k b q o X len is x (inr e) =
      last_sim m sc held R c s fit vs k b q o X len (subst (λ j. Acts p gs f n sc b o (range m k) (m + k) j) (e q m (m + k)) is) x
  applied_by m sc held R c s fit vs k b q o X len is x (inl e) =
      subst (λ o. F (at_place (place b (env s (held ++ vs))) s.world) held s (vals q held) R X (perform p wa.watch prev sc.covers o vs s)) (sym e)
      (raises_sim p gs wa builtins stand prev top good f n instead frs m sc held R c s fit (held ++ vs) vs refl b (m + k) (range m k) (onward o q m (m + k)) vs
      (subst (λ r. Acts p gs f n sc b r (range m k) (m + k) (onward o q m (m + k))) e is) (omega (arith, len))
      (ap (λ j. pick (env s (held ++ vs)) (range m j)) (sym len) ∙ land_last n s fit.long (held ++ vs) held vs m refl c.all) vs (vals q held) X (subst (λ r. Drops m (m + k) row.Raise (onward r q m (m + k)) vs []) (sym e) (first_go_on m (m + k) never_block 0 row.Raise vs [] (omega arith))) (λ wt. omega arith))

  pub applied_sim : (sc : Scope) (o : RowOp) (es : Exprs) (Es : ℕ → ℕ → ℕ → Type 0) → ValuesSim sc es Es → ValueSim sc (Apply o es) (AppliedAt p gs f n sc o (count es) Es)
  applied_sim sc o es Es sims m b q held R c s fit has =
      seq p gs wa f instead frs (sims m b has.0 held R c s fit has.1)
      (λ vs t after many. applied_by m sc held R c t (fit_on fit after) vs (count es) has.0 q o (ReadBy (Apply o es)) many.0 has.2 (λ v w j i h. many.1 i h) (onward_is o))

  passed_behind : (o : RowOp) → IsComparison o → is_passed_over (Behind o) ≡ true
  passed_behind (row.Compare op) is = refl
  passed_behind o is = absurd is

  pub sides_sim : (B : Type 0) (sc : Scope) (o : RowOp) (es : Exprs) (Es : ℕ → ℕ → ℕ → Type 0) → ValuesSim sc es Es → SidesSim B sc (Apply o es) (SidesAt p gs f n sc o (count es) Es)
  sides_sim B sc o es Es sims m b k q held R c s fit has D K go =
      subst (λ e. F (at_place (place b (env s held)) s.world) held s D R (Reading (Apply o es)) e) (sym (assoc (values p wa.watch prev sc.covers es s) (perform p wa.watch prev sc.covers o) K))
      (seq p gs wa f instead frs (sims m b has.1.0 held R c s fit has.1.1)
      (λ vs t after many.
      let fit_t = fit_on fit after in
      let len : length vs ≡ k = many.0 ∙ sym has.0 in
      let all : n + length (held ++ vs) ≡ m + k = let z = length-append held vs in let a = c.all in omega (arith, z, a, len) in
      seq p gs wa f instead frs
      (acts p gs wa builtins stand prev top good f n instead frs m sc held R c t fit_t (held ++ vs) vs refl has.1.0 (m + k) o (range m k) (first_and q (m + k) (m + k)) vs has.1.2 (omega (arith, len))
      (ap (λ j. pick (env t (held ++ vs)) (range m j)) (sym len) ∙ land_last n t fit_t.long (held ++ vs) held vs m refl c.all) vs (λ v u. place q (env u (held ++ (vs ++ v ∷ [])))) (ReadBy (Apply o es)) (inr (inr (passed_behind o has.1.3))) (λ wt. omega arith) (λ wt. omega arith)
      (λ v w j. (ap (place q) (land_result n t fit_t.long (held ++ vs) (held ++ vs) [] (m + k) (m + k) v (sym (append-nil (held ++ vs))) all all ∙ ap (env t) (append_assoc held vs (v ∷ []))), λ i h. many.1 i h)))
      (λ x u after2 reads. go x u vs (after_on after after2) len reads)))

  -- the truth of a value, and what is done by it
  pub asks_sim : {B : Type 0} (sc : Scope) (e : Expr) (E : ℕ → ℕ → ℕ → Type 0) (Sides : ℕ → ℕ → ℕ → ℕ → Type 0) → ValueSim sc e E → SidesSim B sc e Sides
      → (m b : ℕ) (so other : Branch) (held : List Value) (R : ℕ → State → Place) → Keep m sc held R → (s : State) → Fit (suc top) n s → Asks p gs f n sc e E Sides b m so other
      → (D : B → State → Place) (K : Value → Bool → Eval B)
      → ((x : Value) (go : Bool) (t : State) → After s t → ReadBy e x t → F (at_place (branch_place (by_truth go so other) held x t) t.world) held t D R (Reading e) (K x go t))
      → F (at_place (place b (env s held)) s.world) held s D R (Reading e) (then_go (value p wa.watch prev sc.covers e s) (λ x t. then_go (is_so x t) (K x)))
  asks_sim sc e E Sides sim sides m b so other held R c s fit (inl (k, at_e, truth)) D K go =
      seq p gs wa f instead frs (sim m b k held R c s fit at_e)
      (λ x t after reads. truth_sim p gs wa builtins stand prev top good f n instead frs m sc held R c t (fit_on fit after) e x [] (held ++ x ∷ []) refl reads D (Reading e) (K x) m (omega arith) k so other truth (λ g. go x g t after reads))
  asks_sim {B} sc e E Sides sim sides m b so other held R c s fit (inr (k, j, at_sides, truth)) D K go =
      sides m b j k held R c s fit at_sides D (λ x t. then_go (is_so x t) (K x))
      (λ x t ys after len reads. truth_sim p gs wa builtins stand prev top good f n instead frs m sc held R c t (fit_on fit after) e x ys (held ++ (ys ++ x ∷ [])) refl reads D (Reading e) (K x) (m + j) (omega (arith, len)) k so other truth (λ g. go x g t after reads))

  -- a test
  pub tests_sim : (sc : Scope) (e : Expr) (E : ℕ → ℕ → ℕ → Type 0) (Sides : ℕ → ℕ → ℕ → ℕ → Type 0) → ValueSim sc e E → SidesSim Bool sc e Sides → TestSim sc e (λ b m so other. Asks p gs f n sc e E Sides b m (plainly so) (plainly other))
  tests_sim sc e E Sides sim sides m b so other held R c s fit has =
      subst (λ z. F (at_place (place b (env s held)) s.world) held s (test_place so other held) R (Reading e) z) (tested_is (value p wa.watch prev sc.covers e s))
      (asks_sim sc e E Sides sim sides m b (plainly so) (plainly other) held R c s fit has (test_place so other held) (λ x go u. Done go u)
      (λ x go t after reads. here p gs wa f instead frs (ways go x t) reads))
    where
      ways : (go : Bool) (x : Value) (t : State) → Leads p gs wa (at_place (branch_place (by_truth go (plainly so) (plainly other)) held x t) t.world) (at_place (test_place so other held go t) t.world)
      ways true x t = stays p gs wa
      ways false x t = stays p gs wa

  -- ---- `and`, `or` and `not`

  pub and_sim : (sc : Scope) (a e : Expr) (E Right : ℕ → ℕ → ℕ → Type 0) (Sides : ℕ → ℕ → ℕ → ℕ → Type 0) → ValueSim sc a E → SidesSim Value sc a Sides → ValueSim sc e Right
      → ValueSim sc (And a e) (AndAt p gs f n sc (Asks p gs f n sc a E Sides) Right)
  and_sim sc a e E Right Sides sim sides right m b q held R c s fit has =
      led p gs wa f instead frs (asks_sim sc a E Sides sim sides m b (plainly has.1) (with_value has.0) held R c s fit has.4 (vals q held) (λ x go. if go then value p wa.watch prev sc.covers e else pure x) ways) (λ v t after x. (stays p gs wa, λ i h. absurd h))
    where
      ways : (x : Value) (go : Bool) (t : State) → After s t → ReadBy a x t → F (at_place (branch_place (by_truth go (plainly has.1) (with_value has.0)) held x t) t.world) held t (vals q held) R (Reading a) ((if go then value p wa.watch prev sc.covers e else pure x) t)
      ways x true t after reads =
          led p gs wa f instead frs (right m has.1 has.0 held R c t (fit_on fit after) has.3)
          (λ v u after2 y. (meets p gs wa builtins stand prev top good f n instead frs m sc held R c u (fit_on (fit_on fit after) after2) v has.0 q has.2, λ i h. after2.bound i (reads i h)))
      ways x false t after reads =
          here p gs wa f instead frs (meets p gs wa builtins stand prev top good f n instead frs m sc held R c t (fit_on fit after) x has.0 q has.2) reads

  pub or_sim : (sc : Scope) (a e : Expr) (E Right : ℕ → ℕ → ℕ → Type 0) (Sides : ℕ → ℕ → ℕ → ℕ → Type 0) → ValueSim sc a E → SidesSim Value sc a Sides → ValueSim sc e Right
      → ValueSim sc (Or a e) (OrAt p gs f n sc (Asks p gs f n sc a E Sides) Right)
  or_sim sc a e E Right Sides sim sides right m b q held R c s fit has =
      led p gs wa f instead frs (asks_sim sc a E Sides sim sides m b (with_value has.0) (plainly has.1) held R c s fit has.4 (vals q held) (λ x stop. if stop then pure x else value p wa.watch prev sc.covers e) ways) (λ v t after x. (stays p gs wa, λ i h. absurd h))
    where
      ways : (x : Value) (stop : Bool) (t : State) → After s t → ReadBy a x t → F (at_place (branch_place (by_truth stop (with_value has.0) (plainly has.1)) held x t) t.world) held t (vals q held) R (Reading a) ((if stop then pure x else value p wa.watch prev sc.covers e) t)
      ways x false t after reads =
          led p gs wa f instead frs (right m has.1 has.0 held R c t (fit_on fit after) has.3)
          (λ v u after2 y. (meets p gs wa builtins stand prev top good f n instead frs m sc held R c u (fit_on (fit_on fit after) after2) v has.0 q has.2, λ i h. after2.bound i (reads i h)))
      ways x true t after reads =
          here p gs wa f instead frs (meets p gs wa builtins stand prev top good f n instead frs m sc held R c t (fit_on fit after) x has.0 q has.2) reads

  pub and_tests_sim : (sc : Scope) (a e : Expr) (Left Right : ℕ → ℕ → ℕ → ℕ → Type 0) → TestSim sc a Left → TestSim sc e Right → TestSim sc (And a e) (λ b m so other. (k : ℕ) × Left b m k other × Right k m so other)
  and_tests_sim sc a e Left Right left right m b so other held R c s fit has =
      subst (λ z. F (at_place (place b (env s held)) s.world) held s (test_place so other held) R (Reading (And a e)) z) (sym (and_test wa p prev sc.covers a e s))
      (seq p gs wa f instead frs (left m b has.0 other held R c s fit has.1) ways)
    where
      ways : (go : Bool) (t : State) → After s t → ((i : ℕ) → Reads a i → IsBound t.locals i) → F (at_place (test_place has.0 other held go t) t.world) held t (test_place so other held) R (Reading (And a e)) ((if go then (λ u. then_go (value p wa.watch prev sc.covers e u) is_so) else pure false) t)
      ways true t after x = led p gs wa f instead frs (right m has.0 so other held R c t (fit_on fit after) has.2) (λ go u after2 y. (stays p gs wa, λ i h. absurd h))
      ways false t after x = here p gs wa f instead frs (stays p gs wa) (λ i h. absurd h)

  pub or_tests_sim : (sc : Scope) (a e : Expr) (Left Right : ℕ → ℕ → ℕ → ℕ → Type 0) → TestSim sc a Left → TestSim sc e Right → TestSim sc (Or a e) (λ b m so other. (k : ℕ) × Left b m so k × Right k m so other)
  or_tests_sim sc a e Left Right left right m b so other held R c s fit has =
      subst (λ z. F (at_place (place b (env s held)) s.world) held s (test_place so other held) R (Reading (Or a e)) z) (sym (or_test wa p prev sc.covers a e s))
      (seq p gs wa f instead frs (left m b so has.0 held R c s fit has.1) ways)
    where
      ways : (stop : Bool) (t : State) → After s t → ((i : ℕ) → Reads a i → IsBound t.locals i) → F (at_place (test_place so has.0 held stop t) t.world) held t (test_place so other held) R (Reading (Or a e)) ((if stop then pure true else (λ u. then_go (value p wa.watch prev sc.covers e u) is_so)) t)
      ways true t after x = here p gs wa f instead frs (stays p gs wa) (λ i h. absurd h)
      ways false t after x = led p gs wa f instead frs (right m has.0 so other held R c t (fit_on fit after) has.2) (λ go u after2 y. (stays p gs wa, λ i h. absurd h))

  abbrev pub NegatedSim : Scope → Exprs → (ℕ → ℕ → ℕ → ℕ → Type 0) → Type 0
  NegatedSim sc es Test =
      (m b so other : ℕ) (held : List Value) (R : ℕ → State → Place) → Keep m sc held R → (s : State) → Fit (suc top) n s → Test b m so other
      → F (at_place (place b (env s held)) s.world) held s (test_place so other held) R (Reading (Apply row.Not es)) (tested wa p prev sc.covers es s) × (value p wa.watch prev sc.covers (Apply row.Not es) s ≡ then_go (tested wa p prev sc.covers es s) (λ go u. Done (Flag (not go)) u))

  pub not_sim : (sc : Scope) (es : Exprs) (Test : ℕ → ℕ → ℕ → ℕ → Type 0) → NegatedSim sc es Test → ValueSim sc (Apply row.Not es) (NotAt p gs f n sc Test)
  not_sim sc es Test sim m b q held R c s fit has =
      let r = sim m b has.1 has.2 held R c s fit has.6 in
      record {
        sim = (subst (λ e. F (at_place (place b (env s held)) s.world) held s (vals q held) R Never e) (sym r.1) (seq p gs wa f instead frs r.0 ways)).sim;
      }
    where
      Never : Value → State → Type 0
      Never = ReadBy (Apply row.Not es)

      ways : (go : Bool) (t : State) → After s t → ((i : ℕ) → some_is_local es i → IsBound t.locals i) → F (at_place (test_place has.1 has.2 held go t) t.world) held t (vals q held) R Never (Done (Flag (not go)) t)
      ways true t after x =
          let fit_t = fit_on fit after in
          here p gs wa f instead frs
          (leads_on p gs wa
          (gives_value p gs wa builtins stand prev top good f n instead frs m sc held R c t fit_t held [] (sym (append-nil held)) has.1 m (row.Bool false) [] has.0 [] (Flag false) has.5 (omega arith) refl refl refl)
          (meets p gs wa builtins stand prev top good f n instead frs m sc held R c t fit_t (Flag false) has.0 q has.3))
          x
      ways false t after x =
          let fit_t = fit_on fit after in
          here p gs wa f instead frs
          (leads_on p gs wa
          (gives_value p gs wa builtins stand prev top good f n instead frs m sc held R c t fit_t held [] (sym (append-nil held)) has.2 m (row.Bool true) [] has.0 [] (Flag true) has.4 (omega arith) refl refl refl)
          (meets p gs wa builtins stand prev top good f n instead frs m sc held R c t fit_t (Flag true) has.0 q has.3))
          x

  pub not_tests_sim : (sc : Scope) (es : Exprs) (Test : ℕ → ℕ → ℕ → ℕ → Type 0) → NegatedSim sc es Test → TestSim sc (Apply row.Not es) (λ b m so other. Test b m other so)
  not_tests_sim sc es Test sim m b so other held R c s fit has =
      let r = sim m b other so held R c s fit has in
      subst (λ z. F (at_place (place b (env s held)) s.world) held s (test_place so other held) R (Reading (Apply row.Not es)) z)
      (sym (ap (λ e. then_go e is_so) r.1 ∙ assoc (tested wa p prev sc.covers es s) (λ go u. Done (Flag (not go)) u) is_so))
      (seq p gs wa f instead frs r.0 ways)
    where
      ways : (go : Bool) (t : State) → After s t → ((i : ℕ) → some_is_local es i → IsBound t.locals i) → F (at_place (test_place other so held go t) t.world) held t (test_place so other held) R (Reading (Apply row.Not es)) (is_so (Flag (not go)) t)
      ways true t after x = here p gs wa f instead frs (stays p gs wa) x
      ways false t after x = here p gs wa f instead frs (stays p gs wa) x
