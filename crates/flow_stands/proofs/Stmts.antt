-- The machine follows each form of statement, where it follows the parts.
use Rattle.std.proofs.Common.{◌≡◌, ℕ, suc, ◌+◌, ◌<◌, ◌≤◌, inl, inr, Bool, true, false, cond, List, [], ◌∷◌, ◌++◌, length, get_or, take, Some, None, Option, refl, sym, ap, ◌∙◌, subst, arith, append_assoc, length-append}
use Rattle.std.specs.Prelude.{map, slice_set, ◌||◌, if◌then◌else◌}
use Rattle.std.specs.List.{list_any}
use Rattle.std.proofs.lemmas.List.{append-nil, length-set, set-append_left}
use Rattle.rpy_tree.specs.Value.{Value, Ref, Nothing}
use Rattle.rpy_meaning.specs.declared.row.RowOp.{RowOp}
use Rattle.rpy_meaning.specs.declared.row.RowOp.TheVariants as row
use Rattle.rpy_meaning.specs.Tree.{Expr, Target, Name, Attribute, Item, Parts, Targets, no_targets, more_targets, Subject, Stmt, Pass, Break, Continue, Return, Do, Assign, Augment, If, While, For, Try, Finally, Block, done, line, Clauses, no_clauses, clause, Program}
use Rattle.rpy_meaning.specs.World.{World}
use Rattle.rpy_meaning.specs.Classes.{is_below, covers_within, no_covers}
use Rattle.rpy_meaning.specs.Operations.{builtin_classes}
use Rattle.rpy_meaning.specs.Evaluation.{State, Ending, Done, Raised, Failed, Running, Wrong, Eval, then_go, add_held, is_so, pure, raised, set_local_if_any, local, Flow, Next as Onward, Broken, Continued, Returned, next_or, after_turn, finally}
use Rattle.rpy_meaning.specs.Meaning.{Run, Sem, Loop, Turns, operate_holding, perform, value, bind, assign, augment, loop, each_item, tried, statement, block, handle, class_in, Walking, walk_holds, turns}
use Rattle.flow_graph.specs.declared.graph.Graphs.{Graphs}
use Rattle.flow_meaning.specs.Machine.{Frame}
use Rattle.flow_stands.proofs.Watches.{Watching}
use Rattle.flow_stands.specs.Places.{range, Aim, Hand, Scope, Ways, onto, Go, first, first_and, on_to}
use Rattle.flow_stands.specs.Stands.{Is, Acts, MarkIf, WhileAt, ForAt, within, hands_of, LocalIn, return_block, never_block, GivesBack, HasTest, HasBind, HasTargets, HasAugment, HasStmt, HasBlock, HasClauses, Stand}
use Rattle.flow_stands.proofs.Worlds.{same, Thrown, thrown_on}
use Rattle.flow_stands.proofs.Lists.{Env, pick, pick_take, pick_kept_and, take_first, get_at}
use Rattle.flow_stands.proofs.Core.{Place, place, env, env_push, After, at_once, Fit, fit_on, stored_value, Below, hand_place, Catches, Leads, stays, by_on, leads_on, at_moment, enter, Sim, Runs, before, moved, seq, seq_is, hold, loosen, reheld, here}
use Rattle.flow_stands.proofs.Calls.{Any, Good, flow_place, Keeps}
use Rattle.flow_stands.proofs.Parts.{wide, land_first, land_result, land_at, land_last, jump_first, catches_more, take_less, vals, stay_at, same_as, jumps, gives_on, strays_on, throws_on, raised_again, copy_on, first_go_on, acts_holding, acts}
use Rattle.flow_stands.proofs.Tests.{local_sim}
use Rattle.flow_stands.proofs.Walks.{lower, after_low, turn_paid, pay_sim, turns_sim}
use Rattle.flow_stands.proofs.Forms.{test_place, set_bound, last_sim}
use Rattle.flow_stands.proofs.Trees.{sim_value, sim_test, sim_subject, sim_bind}

keeps_onto : {t : Ways} {m : ℕ} (k : ℕ) → Keeps t m → Keeps (onto t k) m
keeps_onto k h = record { brk = h.brk; cont = h.cont; ret = h.ret }

keeps_more : {t : Ways} {m : ℕ} (j : ℕ) → m ≤ j → Keeps t m → Keeps t j
keeps_more j le h = record { brk = let a = h.brk in omega (arith, a, le); cont = let a = h.cont in omega (arith, a, le); ret = let a = h.ret in omega (arith, a, le) }

module _ (p : Program) (gs : Graphs) (wa : Watching) (builtins : (k : ℕ) → k < builtin_classes → is_below p.classes k 0 ≡ true) (stand : Stand p gs) (prev : Sem) (top : ℕ) (good : Good p gs wa prev top) (f n : ℕ) (instead : Option Value) (frs : List Frame) where
  abbrev pub F : {A : Type 0} → (Run → ℕ → Type 0) → List Value → State → (A → State → Place) → (ℕ → State → Place) → (A → State → Type 0) → Ending A → Type 0
  F P held s D R X e = Runs p gs wa f instead frs P held s D R X e

  abbrev pub at_place : Place → World → Run → ℕ → Type 0
  at_place = enter p gs wa f instead frs

  abbrev pub Keep : ℕ → Scope → List Value → (ℕ → State → Place) → Type 0
  Keep m sc held R = Catches p gs wa n m sc held R

  abbrev goes : Place → Place → World → Type 0
  goes a b w = Leads p gs wa (at_place a w) (at_place b w)

  at_same : (a b : Place) (w : World) → a ≡ b → goes a b w
  at_same a b w e = same_as p gs wa builtins stand prev top good f n instead frs a b w e

  more_held : {m : ℕ} {sc : Scope} {held : List Value} {R : ℕ → State → Place} (v : Value) → Keep m sc held R → Keep (m + 1) sc (held ++ v ∷ []) R
  more_held {m} v c = catches_more p gs wa (v ∷ []) (m + 1) (omega arith) c

  -- with fewer variables
  falls : {m : ℕ} {sc : Scope} {held : List Value} {R : ℕ → State → Place} → Keep m sc held R → (s : State) → Fit (suc top) n s → (b k to : ℕ) → Is p gs f n b m (Go (first to k)) → k ≤ m → goes (place b (env s held)) (place to (take k (env s held))) s.world
  falls {m} {sc} {held} c s fit b k to is le =
      let full = wide n s fit.long held in
      jumps p gs wa builtins stand prev top good f n instead frs b m (first to k) held s (take k (env s held)) is (full ∙ c.all) (pick_take k (env s held) (let a = c.all in omega (arith, full, a, le)))

  -- without the last one
  drops : {m : ℕ} {sc : Scope} {held : List Value} {R : ℕ → State → Place} → Keep m sc held R → (s : State) → Fit (suc top) n s → (v : Value) (b to : ℕ) → Is p gs f n b (m + 1) (Go (first to m)) → goes (place b (env s (held ++ v ∷ []))) (place to (env s held)) s.world
  drops {m} {sc} {held} c s fit v b to is =
      jumps p gs wa builtins stand prev top good f n instead frs b (m + 1) (first to m) (held ++ v ∷ []) s (env s held) is
      (wide n s fit.long (held ++ v ∷ []) ∙ (let z = length-append held (v ∷ []) in let a = c.all in omega (arith, z, a))) (jump_first n s fit.long (held ++ v ∷ []) held (v ∷ []) m refl c.all)

  -- with the last one and fewer before it
  falls_and : {m : ℕ} {sc : Scope} {held : List Value} {R : ℕ → State → Place} → Keep m sc held R → (s : State) → Fit (suc top) n s → (v : Value) (b k to : ℕ) → Is p gs f n b (m + 1) (Go (first_and to k m)) → k ≤ m → goes (place b (env s (held ++ v ∷ []))) (place to (take k (env s held) ++ Some v ∷ [])) s.world
  falls_and {m} {sc} {held} c s fit v b k to is le =
      let full = wide n s fit.long held in
      let e : env s (held ++ v ∷ []) ≡ env s held ++ Some v ∷ [] = env_push s held (v ∷ []) in
      jumps p gs wa builtins stand prev top good f n instead frs b (m + 1) (first_and to k m) (held ++ v ∷ []) s (take k (env s held) ++ Some v ∷ []) is
      (wide n s fit.long (held ++ v ∷ []) ∙ (let z = length-append held (v ∷ []) in let a = c.all in omega (arith, z, a)))
      (ap (λ l. pick l (range 0 k ++ m ∷ [])) e ∙ pick_kept_and k m (env s held) (Some v ∷ []) (Some v) (let a = c.all in omega (arith, full, a, le)) (get_at m (env s held) (Some v) [] (full ∙ c.all)))

  -- a value goes back, at once or by a copy
  gives_back : {m : ℕ} {held : List Value} {R : ℕ → State → Place} (sc : Scope) → Keep m sc held R → (s : State) → Fit (suc top) n s → (v : Value) (b : ℕ) (ret : Aim) → GivesBack p gs f n sc b m ret → ret.keep ≤ m → goes (place b (env s (held ++ v ∷ []))) (place ret.to (take ret.keep (env s held) ++ Some v ∷ [])) s.world
  gives_back sc c s fit v b ret (inl is) le = falls_and c s fit v b ret.keep ret.to is le
  gives_back {m} {held} sc c s fit v b ret (inr is) le =
      let full = wide n s fit.long held in
      let e : env s (held ++ v ∷ []) ≡ env s held ++ Some v ∷ [] = env_push s held (v ∷ []) in
      let e2 : env s (held ++ v ∷ []) ++ Some v ∷ [] ≡ env s held ++ (Some v ∷ Some v ∷ []) = ap (λ l. l ++ Some v ∷ []) e ∙ append_assoc (env s held) (Some v ∷ []) (Some v ∷ []) in
      copy_on p gs wa builtins stand prev top good f n instead frs b (m + 1) m sc.covers [] (first_and return_block 0 m) (first_and ret.to ret.keep m) (held ++ v ∷ []) s v (take ret.keep (env s held) ++ Some v ∷ []) is
      (wide n s fit.long (held ++ v ∷ []) ∙ (let z = length-append held (v ∷ []) in let a = c.all in omega (arith, z, a)))
      (ap (λ l. get_or l m None) e ∙ get_at m (env s held) (Some v) [] (full ∙ c.all))
      (ap (λ l. pick l (range 0 ret.keep ++ m ∷ [])) e2 ∙ pick_kept_and ret.keep m (env s held) (Some v ∷ Some v ∷ []) (Some v) (let a = c.all in omega (arith, full, a, le)) (get_at m (env s held) (Some v) (Some v ∷ []) (full ∙ c.all)))

  -- an operation on the last values, whose result is dropped
  drop_sim : (m : ℕ) (sc : Scope) (held : List Value) (R : ℕ → State → Place) → Keep m sc held R → (s : State) → Fit (suc top) n s → (vs : List Value) (k b q : ℕ) (o : RowOp) → length vs ≡ k
      → Acts p gs f n sc b o (range m k) (m + k) (first q m)
      → F (at_place (place b (env s (held ++ vs))) s.world) held s (stay_at q held) R Any (perform p wa.watch prev sc.covers o vs s)
  drop_sim m sc held R c s fit vs k b q o len is =
      acts p gs wa builtins stand prev top good f n instead frs m sc held R c s fit (held ++ vs) vs refl b (m + k) o (range m k) (first q m) vs is (omega (arith, len))
      (ap (λ j. pick (env s (held ++ vs)) (range m j)) (sym len) ∙ land_last n s fit.long (held ++ vs) held vs m refl c.all) vs (stay_at q held) Any (first_go_on m (m + k) q m o vs [] (omega arith)) (λ wt. omega arith) (λ wt. omega arith)
      (λ v w j. (ap (place q) (land_first n s fit.long (held ++ vs) held vs m (Some v ∷ []) refl c.all), tt))

  -- an operation on the last values, which stay
  stay_sim : (m : ℕ) (sc : Scope) (held : List Value) (R : ℕ → State → Place) → Keep m sc held R → (s : State) → Fit (suc top) n s → (vs : List Value) (k b q : ℕ) (o : RowOp) → length vs ≡ k
      → Acts p gs f n sc b o (range m k) (m + k) (first_and q (m + k) (m + k))
      → F (at_place (place b (env s (held ++ vs))) s.world) held s (vals q (held ++ vs)) R Any (operate_holding p wa.watch prev vs vs sc.covers o vs s)
  stay_sim m sc held R c s fit vs k b q o len is =
      let all : n + length (held ++ vs) ≡ m + k = let z = length-append held vs in let a = c.all in omega (arith, z, a, len) in
      acts_holding p gs wa builtins stand prev top good f n instead frs m sc held R c s fit (held ++ vs) vs refl b (m + k) o (range m k) (first_and q (m + k) (m + k)) vs is (omega (arith, len))
      (ap (λ j. pick (env s (held ++ vs)) (range m j)) (sym len) ∙ land_last n s fit.long (held ++ vs) held vs m refl c.all) vs vs (vals q (held ++ vs)) Any (inr (inl (λ wt. omega arith))) (λ wt. omega arith) (λ wt. omega arith)
      (λ v w j. (ap (place q) (land_result n s fit.long (held ++ vs) (held ++ vs) [] (m + k) (m + k) v (sym (append-nil (held ++ vs))) all all), tt))

  -- ---- assignments

  targets_sim : (sc : Scope) (ts : Targets) (m b q : ℕ) (held : List Value) (v : Value) (R : ℕ → State → Place) → Keep m sc held R → (s : State) → Fit (suc top) n s → HasTargets p gs f n sc ts b m q
      → F (at_place (place b (env s (held ++ v ∷ []))) s.world) (held ++ v ∷ []) s (stay_at q held) R Any (assign p wa.watch prev sc.covers ts v s)
  targets_sim sc no_targets m b q held v R c s fit has = here p gs wa f instead frs (drops c s fit v b q has) tt
  targets_sim sc (more_targets t no_targets) m b q held v R c s fit has =
      seq p gs wa f instead frs
      (sim_bind p gs wa builtins stand prev top good f n instead frs sc t (m + 1) m m b q (held ++ v ∷ []) held (v ∷ []) held [] R (more_held v c) s fit v refl c.all refl c.all has)
      (λ a u after y. here p gs wa f instead frs (stays p gs wa) tt)
  targets_sim sc (more_targets t (more_targets t2 ts)) m b q held v R c s fit has =
      let c1 = more_held v c in
      seq p gs wa f instead frs
      (sim_bind p gs wa builtins stand prev top good f n instead frs sc t (m + 1) m (m + 1) b has.0 (held ++ v ∷ []) (held ++ v ∷ []) [] held [] R c1 s fit v refl c.all (sym (append-nil (held ++ v ∷ []))) c1.all has.1)
      (λ a u after y. targets_sim sc (more_targets t2 ts) m has.0 q held v R c u (fit_on fit after) has.2)

  augment_sim : (sc : Scope) (target : Target) (o : RowOp) (e : Expr) (m b q : ℕ) (held : List Value) (R : ℕ → State → Place) → Keep m sc held R → (s : State) → Fit (suc top) n s → HasAugment p gs f n sc target o e b m q
      → F (at_place (place b (env s held)) s.world) held s (stay_at q held) R Any (augment p wa.watch prev sc.covers target o e s)
  augment_sim sc (Name i) o e m b q held R c s fit has =
      seq p gs wa f instead frs (local_sim p gs wa builtins stand prev top good f n instead frs m sc held R c s fit i b has.1.0 (has.0, has.1.3))
      (λ old t after y.
      let fit_t = fit_on fit after in
      let c1 = more_held old c in
      seq p gs wa f instead frs (hold p gs wa f instead frs (old ∷ []) (sim_value p gs wa builtins stand prev top good f n instead frs sc e (m + 1) has.1.0 has.1.1 (held ++ old ∷ []) R c1 t fit_t has.1.4))
      (λ v u after2 y2.
      let fit_u = fit_on fit_t after2 in
      seq p gs wa f instead frs
      (moved p gs wa f instead frs (at_same _ (place has.1.1 (env u (held ++ (old ∷ v ∷ [])))) u.world (ap (λ l. place has.1.1 (env u l)) (append_assoc held (old ∷ []) (v ∷ []))))
      (last_sim p gs wa builtins stand prev top good f n instead frs m sc held R c u fit_u (old ∷ v ∷ []) 2 has.1.1 has.1.2 o Any refl has.1.5 (λ v w j. tt)))
      (λ new u2 after3 y3.
      loosen p gs wa f instead frs held tt
      (sim_bind p gs wa builtins stand prev top good f n instead frs sc (Name i) (m + 1) m m has.1.2 q (held ++ new ∷ []) held (new ∷ []) held [] R (more_held new c) u2 (fit_on fit_u after3) new refl c.all refl c.all (has.1.2, m, m + 1, has.0, (refl, refl, refl), has.1.6)))))
  augment_sim sc (Attribute a name) o e m b q held R c s fit has =
      seq p gs wa f instead frs (sim_value p gs wa builtins stand prev top good f n instead frs sc a m b has.0 held R c s fit has.4)
      (λ x t after y.
      let fit_t = fit_on fit after in
      let c1 = more_held x c in
      let H = held ++ x ∷ [] in
      seq p gs wa f instead frs (stay_sim m sc held R c t fit_t (x ∷ []) 1 has.0 has.1 (row.Attr name) refl has.5)
      (λ old u after2 y2.
      let fit_u = fit_on fit_t after2 in
      seq p gs wa f instead frs
      (hold p gs wa f instead frs (x ∷ old ∷ [])
      (reheld p gs wa f instead frs (held ++ (x ∷ old ∷ [])) (append_assoc held (x ∷ []) (old ∷ []))
      (sim_value p gs wa builtins stand prev top good f n instead frs sc e (m + 1 + 1) has.1 has.2 (H ++ old ∷ []) R (more_held old c1) u fit_u has.6)))
      (λ v u2 after3 y3.
      let fit_2 = fit_on fit_u after3 in
      seq p gs wa f instead frs
      (hold p gs wa f instead frs (x ∷ [])
      (moved p gs wa f instead frs (at_same (place has.2 (env u2 ((H ++ old ∷ []) ++ v ∷ []))) (place has.2 (env u2 (H ++ (old ∷ v ∷ [])))) u2.world (ap (λ l. place has.2 (env u2 l)) (append_assoc H (old ∷ []) (v ∷ []))))
      (last_sim p gs wa builtins stand prev top good f n instead frs (m + 1) sc H R c1 u2 fit_2 (old ∷ v ∷ []) 2 has.2 has.3 o Any refl has.7 (λ v w j. tt))))
      (λ new u3 after4 y4.
      let fit_3 = fit_on fit_2 after4 in
      seq p gs wa f instead frs
      (moved p gs wa f instead frs (at_same (place has.3 (env u3 (H ++ new ∷ []))) (place has.3 (env u3 (held ++ (x ∷ new ∷ [])))) u3.world (ap (λ l. place has.3 (env u3 l)) (append_assoc held (x ∷ []) (new ∷ []))))
      (drop_sim m sc held R c u3 fit_3 (x ∷ new ∷ []) 2 has.3 q (row.StoreAttr name) refl has.8))
      (λ r u4 after5 y5. here p gs wa f instead frs (stays p gs wa) tt)))))
  augment_sim sc (Item a i) o e m b q held R c s fit has =
      seq p gs wa f instead frs (sim_value p gs wa builtins stand prev top good f n instead frs sc a m b has.0 held R c s fit has.5)
      (λ x t after y.
      let fit_t = fit_on fit after in
      let c1 = more_held x c in
      seq p gs wa f instead frs (hold p gs wa f instead frs (x ∷ []) (sim_value p gs wa builtins stand prev top good f n instead frs sc i (m + 1) has.0 has.1 (held ++ x ∷ []) R c1 t fit_t has.6))
      (λ k u after2 y2.
      let fit_u = fit_on fit_t after2 in
      let H = held ++ (x ∷ k ∷ []) in
      let c2 = catches_more p gs wa (x ∷ k ∷ []) (m + 2) (omega arith) c in
      seq p gs wa f instead frs
      (moved p gs wa f instead frs (at_same (place has.1 (env u ((held ++ x ∷ []) ++ k ∷ []))) (place has.1 (env u H)) u.world (ap (λ l. place has.1 (env u l)) (append_assoc held (x ∷ []) (k ∷ []))))
      (stay_sim m sc held R c u fit_u (x ∷ k ∷ []) 2 has.1 has.2 (row.Index None) refl has.7))
      (λ old u2 after3 y3.
      let fit_2 = fit_on fit_u after3 in
      seq p gs wa f instead frs
      (hold p gs wa f instead frs (x ∷ k ∷ old ∷ [])
      (reheld p gs wa f instead frs (held ++ (x ∷ k ∷ old ∷ [])) (append_assoc held (x ∷ k ∷ []) (old ∷ []))
      (sim_value p gs wa builtins stand prev top good f n instead frs sc e (m + 2 + 1) has.2 has.3 (H ++ old ∷ []) R (more_held old c2) u2 fit_2 has.8)))
      (λ v u3 after4 y4.
      let fit_3 = fit_on fit_2 after4 in
      seq p gs wa f instead frs
      (hold p gs wa f instead frs (x ∷ k ∷ [])
      (moved p gs wa f instead frs (at_same (place has.3 (env u3 ((H ++ old ∷ []) ++ v ∷ []))) (place has.3 (env u3 (H ++ (old ∷ v ∷ [])))) u3.world (ap (λ l. place has.3 (env u3 l)) (append_assoc H (old ∷ []) (v ∷ []))))
      (last_sim p gs wa builtins stand prev top good f n instead frs (m + 2) sc H R c2 u3 fit_3 (old ∷ v ∷ []) 2 has.3 has.4 o Any refl has.9 (λ v w j. tt))))
      (λ new u4 after5 y5.
      let fit_4 = fit_on fit_3 after5 in
      let third : m + 2 ≡ m + 1 + 1 = omega arith in
      seq p gs wa f instead frs
      (moved p gs wa f instead frs (at_same (place has.4 (env u4 (H ++ new ∷ []))) (place has.4 (env u4 (held ++ (x ∷ k ∷ new ∷ [])))) u4.world (ap (λ l. place has.4 (env u4 l)) (append_assoc held (x ∷ k ∷ []) (new ∷ []))))
      (drop_sim m sc held R c u4 fit_4 (x ∷ k ∷ new ∷ []) 3 has.4 q row.StoreIndex refl (subst (λ j. Acts p gs f n sc has.4 row.StoreIndex (m ∷ (m + 1) ∷ j ∷ []) (m + 3) (first q m)) third has.10)))
      (λ r u5 after6 y6. here p gs wa f instead frs (stays p gs wa) tt))))))
  augment_sim sc (Parts parts) o e m b q held R c s fit has =
      record {
        sim = strays_on p gs wa builtins stand prev top good f n instead frs m sc held R c s fit held [] (sym (append-nil held)) b m row.Copy [] (first q m) [] has (omega arith) refl refl refl s.moments;
      }

  -- ---- loops

  abbrev pub FlowSim : Eval Flow → Scope → (ℕ → ℕ → Ways → Type 0) → Type 0
  FlowSim e sc Has =
      (m b : ℕ) (held : List Value) (R : ℕ → State → Place) → Keep m sc held R → (t : Ways) → Keeps t m → (s : State) → Fit (suc top) n s → Has b m t
      → F (at_place (place b (env s held)) s.world) held s (flow_place t held) R Any (e s)

  all_there : {m : ℕ} {sc : Scope} {held : List Value} {R : ℕ → State → Place} → Keep m sc held R → (s : State) → length s.locals ≡ n → take m (env s held) ≡ env s held
  all_there {m} {sc} {held} c s long = ap (take m) (sym (append-nil (env s held))) ∙ take_first m (env s held) [] (wide n s long held ∙ c.all)

  pub loop_sim : (sc : Scope) (e : Expr) (body : Block) → FlowSim (block p wa.watch prev sc.covers body) sc (HasBlock p gs f n sc body)
      → FlowSim (loop p wa.watch prev (λ s. then_go (value p wa.watch prev sc.covers e s) is_so) (block p wa.watch prev sc.covers body) (prev (Loop sc.covers e body))) sc (WhileAt p gs f n sc (HasTest p gs f n sc e) (HasBlock p gs f n sc body))
  loop_sim sc e body sim m b held R c t keeps s fit has =
      moved p gs wa f instead frs
      (leads_on p gs wa (falls c s fit b m has.0 has.3 (omega arith)) (at_same (place has.0 (take m (env s held))) (place has.0 (env s held)) s.world (ap (place has.0) (all_there c s fit.long))))
      (seq p gs wa f instead frs (sim_test p gs wa builtins stand prev top good f n instead frs sc e m has.0 has.1 t.norm held R c s fit has.4)
      (λ go u after y. turns_by go u (fit_on fit after)))
    where
      inner : Ways
      inner = within p gs f n t (record { to = b; keep = m }) (record { to = t.norm; keep = m })

      rest_sim : (u : State) → Fit top n u → F (at_place (place b (env u held)) u.world) held u (flow_place t held) R Any (prev (Loop sc.covers e body) u)
      rest_sim u fit_u = good.loop f n instead frs m sc held R b t e body u has c keeps fit_u

      flow_by : (flow : Flow) (u : State) → Fit top n u → F (at_place (flow_place (within p gs f n t (record { to = b; keep = m }) (record { to = t.norm; keep = m })) held flow u) u.world) held u (flow_place t held) R Any (after_turn flow (prev (Loop sc.covers e body)) u)
      flow_by Onward u fit_u = rest_sim u fit_u
      flow_by Continued u fit_u = moved p gs wa f instead frs (at_same (place b (take m (env u held))) (place b (env u held)) u.world (ap (place b) (all_there c u fit_u.long))) (rest_sim u fit_u)
      flow_by Broken u fit_u = here p gs wa f instead frs (at_same (place t.norm (take m (env u held))) (place t.norm (env u held)) u.world (ap (place t.norm) (all_there c u fit_u.long))) tt
      flow_by (Returned v) u fit_u = here p gs wa f instead frs (stays p gs wa) tt

      turns_by : (go : Bool) (u : State) → Fit (suc top) n u → F (at_place (test_place has.1 t.norm held go u) u.world) held u (flow_place t held) R Any
          ((if go then (λ s. then_go (perform p wa.watch prev no_covers row.Turn [] s) (λ a s. then_go (block p wa.watch prev sc.covers body s) (λ flow. after_turn flow (prev (Loop sc.covers e body))))) else pure Onward) u)
      turns_by false u fit_u = here p gs wa f instead frs (stays p gs wa) tt
      turns_by true u fit_u =
          seq_is p gs wa f instead frs (pay_sim p gs wa builtins stand prev top good f n instead frs m sc held R c u fit_u has.1 has.2 has.5)
          (λ a u2 e after2 y2.
          let fit_2 = after_low fit_u after2 (turn_paid wa p prev u u2 a e) in
          seq p gs wa f instead frs
          (sim m has.2 held R c (within p gs f n t (record { to = b; keep = m }) (record { to = t.norm; keep = m })) (record { brk = omega arith; cont = omega arith; ret = keeps.ret }) u2 (lower fit_2) has.6)
          (λ flow u3 after3 y3. flow_by flow u3 (fit_on fit_2 after3)))

  -- the turns of a `for`
  pub for_sim : (sc : Scope) (target : Target) (body : Block) → FlowSim (block p wa.watch prev sc.covers body) sc (HasBlock p gs f n sc body)
      → (m head : ℕ) (held : List Value) (R : ℕ → State → Place) → Keep m sc held R → (t : Ways) → Keeps t m → (walking : Walking) → ForAt p gs f n sc walking.step (HasBind p gs f n sc target []) (HasBlock p gs f n sc body) head m t → (s : State) → Fit (suc top) n s
      → F (at_place (place head (env s (held ++ walk_holds walking))) s.world) held s (flow_place t held) R Any (turns p wa.watch prev (each_item p wa.watch prev (bind p wa.watch prev sc.covers target) (block p wa.watch prev sc.covers body)) (λ rest. prev (Turns sc.covers target body rest)) walking s)
  for_sim sc target body sim m head held R c t keeps walking has s fit =
      let c2 = catches_more p gs wa (walk_holds walking) (m + 2) (omega arith) c in
      let inner = within p gs f n t (record { to = has.2; keep = m + 2 }) (record { to = t.norm; keep = m }) in
      let W = held ++ walk_holds walking in
      let kr = keeps.ret in
      turns_sim p gs wa builtins stand prev top good f n instead frs m sc held R c t keeps (each_item p wa.watch prev (bind p wa.watch prev sc.covers target) (block p wa.watch prev sc.covers body)) (λ rest. prev (Turns sc.covers target body rest)) Any Any head has.0 has.2
      (λ u. tt) (λ u x. tt) (λ v u x. tt) walking has.3
      (λ v u fit_u.
      seq p gs wa f instead frs
      (hold p gs wa f instead frs (v ∷ []) (sim_bind p gs wa builtins stand prev top good f n instead frs sc target (m + 2 + 1) (m + 2) (m + 2) has.0 has.1 (W ++ v ∷ []) W (v ∷ []) W [] R (more_held v c2) u fit_u v refl c2.all refl c2.all has.4))
      (λ a u2 after y. sim (m + 2) has.1 W R c2 inner (record { brk = omega arith; cont = omega arith; ret = omega (arith, kr) }) u2 (fit_on fit_u after) has.5))
      (λ next u fit_u. good.turns f n instead frs m sc held R head t target body (record walking { at = next }) u has c keeps fit_u)
      s fit

  -- ---- exceptions

  -- what follows a body that may be left by an exception
  tried_by : (P : Run → ℕ → Type 0) (held : List Value) (s : State) (t inner : Ways) (R R' : ℕ → State → Place) (e : Ending Flow) (other : Eval Flow) (handled : ℕ → Eval Flow)
      → Sim p gs wa f instead frs P held s (flow_place inner held) R' Any e
      → ((u : State) → After s u → F (at_place (flow_place inner held Onward u) u.world) held u (flow_place t held) R Any (other u))
      → ((r : ℕ) (u : State) → After s u → Thrown p u.world.heap r → F (at_place (R' r u) u.world) held u (flow_place t held) R Any (handled r u))
      → inner ≡ onto t inner.norm → F P held s (flow_place t held) R Any (tried p wa.watch prev e other handled)
  tried_by P held s t inner R R' (Done Onward u) other handled r go catch z = before p gs wa f instead frs r.leads r.after (go u r.after)
  tried_by P held s t inner R R' (Done Broken u) other handled r go catch z =
      record { sim = record { leads = by_on p gs wa r.leads (at_moment p gs wa u.moments (at_same (flow_place inner held Broken u) (flow_place t held Broken u) u.world (ap (λ w. flow_place w held Broken u) z))); after = r.after; post = tt } }
  tried_by P held s t inner R R' (Done Continued u) other handled r go catch z =
      record { sim = record { leads = by_on p gs wa r.leads (at_moment p gs wa u.moments (at_same (flow_place inner held Continued u) (flow_place t held Continued u) u.world (ap (λ w. flow_place w held Continued u) z))); after = r.after; post = tt } }
  tried_by P held s t inner R R' (Done (Returned v) u) other handled r go catch z =
      record { sim = record { leads = by_on p gs wa r.leads (at_moment p gs wa u.moments (at_same (flow_place inner held (Returned v) u) (flow_place t held (Returned v) u) u.world (ap (λ w. flow_place w held (Returned v) u) z))); after = r.after; post = tt } }
  tried_by P held s t inner R R' (Raised x u) other handled r go catch z = before p gs wa f instead frs r.leads r.after (catch x u r.after r.post)
  tried_by P held s t inner R R' (Failed name u) other handled r go catch z = record { sim = r }
  tried_by P held s t inner R R' (Running rs u) other handled r go catch z = record { sim = r }
  tried_by P held s t inner R R' Wrong other handled r go catch z = record { sim = r }

  -- the hands of a clause take what it takes
  hands_take : (classes : List ℕ) (local : Option ℕ) (aim : Aim) (others : List Hand) (d : Aim) (vs : Env) (r class : ℕ)
      → hand_place p gs wa (hands_of local aim classes others) d vs r class ≡ cond (list_any (is_below p.classes class) classes) (place aim.to (stored_value (take aim.keep vs) local r)) (hand_place p gs wa others d vs r class)
  hands_take [] local aim others d vs r class = refl
  hands_take (k ∷ classes) local aim others d vs r class = either (is_below p.classes class k) (hands_take classes local aim others d vs r class)
    where
      to : Place
      to = place aim.to (stored_value (take aim.keep vs) local r)

      either : (x : Bool) → hand_place p gs wa (hands_of local aim classes others) d vs r class ≡ cond (list_any (is_below p.classes class) classes) (place aim.to (stored_value (take aim.keep vs) local r)) (hand_place p gs wa others d vs r class)
          → cond x (place aim.to (stored_value (take aim.keep vs) local r)) (hand_place p gs wa (hands_of local aim classes others) d vs r class) ≡ cond (x || list_any (is_below p.classes class) classes) (place aim.to (stored_value (take aim.keep vs) local r)) (hand_place p gs wa others d vs r class)
      either true ih = refl
      either false ih = ih

  hands_below : (m : ℕ) (classes : List ℕ) (local : Option ℕ) (aim : Aim) (others : List Hand) → aim.keep ≤ m → Below m others → Below m (hands_of local aim classes others)
  hands_below m [] local aim others le h = h
  hands_below m (k ∷ classes) local aim others le h = (le, hands_below m classes local aim others le h)

  -- where the hands of clauses are
  pub clauses_below : (sc : Scope) (cs : Clauses) (m : ℕ) (t : Ways) (hands : List Hand) (default : Aim) → Below m sc.hands → sc.default.keep ≤ m → HasClauses p gs f n sc cs m t hands default → Below m hands × (default.keep ≤ m)
  clauses_below sc no_clauses m t hands default bh bd has = (subst (Below m) (sym has.0) bh, subst (λ d. d.keep ≤ m) (sym has.1) bd)
  clauses_below sc (clause None local body rest) m t hands default bh bd has = (subst (Below m) (sym has.3) tt, subst (λ d. d.keep ≤ m) (sym has.6) (omega arith))
  clauses_below sc (clause (Some classes) local body rest) m t hands default bh bd has =
      let r = clauses_below sc rest m t has.1 default bh bd has.5 in
      (subst (Below m) (sym has.4) (hands_below m classes local (record { to = has.0; keep = m }) has.1 (omega arith) r.0), r.1)

  -- the local of a clause takes the exception
  stored_sim : (m : ℕ) (sc : Scope) (held : List Value) (R : ℕ → State → Place) → Keep m sc held R → (t : Ways) → (u : State) → Fit (suc top) n u → (local : Option ℕ) (r b : ℕ) → LocalIn n local → (body : Eval Flow)
      → ((w : State) → Fit (suc top) n w → F (at_place (place b (env w held)) w.world) held w (flow_place t held) R Any (body w))
      → F (at_place (place b (stored_value (take m (env u held)) local r)) u.world) held u (flow_place t held) R Any (then_go (set_local_if_any local (Ref r) u) (λ a w. body w))
  stored_sim m sc held R c t u fit None r b lt body sim =
      moved p gs wa f instead frs (at_same (place b (take m (env u held))) (place b (env u held)) u.world (ap (place b) (all_there c u fit.long))) (sim u fit)
  stored_sim m sc held R c t u fit (Some i) r b lt body sim =
      let w : State = record u { locals = slice_set u.locals i (Some (Ref r)) } in
      let z : slice_set (take m (env u held)) i (Some (Ref r)) ≡ env w held = ap (λ l. slice_set l i (Some (Ref r))) (all_there c u fit.long) ∙ set-append_left u.locals (map Some held) i (Some (Ref r)) (let l = fit.long in omega (arith, l, lt)) in
      before p gs wa f instead frs (at_moment p gs wa u.moments (at_same (place b (slice_set (take m (env u held)) i (Some (Ref r)))) (place b (env w held)) u.world (ap (place b) z)))
      (record { later = same u.world; long = length-set u.locals i (Some (Ref r)); bound = λ j x. set_bound u.locals i j (Ref r) x })
      (sim w (record { low = fit.low; long = length-set u.locals i (Some (Ref r)) ∙ fit.long; sound = fit.sound }))

  abbrev pub HandleSim : Scope → Clauses → Type 0
  HandleSim sc cs =
      (m : ℕ) (held : List Value) (R : ℕ → State → Place) → Keep m sc held R → (t : Ways) → Keeps t m → (hands : List Hand) (default : Aim) → HasClauses p gs f n sc cs m t hands default
      → (r : ℕ) (u : State) → Fit (suc top) n u → Thrown p u.world.heap r
      → F (at_place (hand_place p gs wa hands default (env u held) r (class_in u.world r)) u.world) held u (flow_place t held) R Any (handle p wa.watch prev sc.covers cs r u)

  pub no_clauses_sim : (sc : Scope) → HandleSim sc no_clauses
  no_clauses_sim sc m held R c t keeps hands default has r u fit thrown =
      record {
        sim = record {
          leads = at_moment p gs wa u.moments (at_same (hand_place p gs wa hands default (env u held) r (class_in u.world r)) (R r u) u.world
              (ap (λ h. hand_place p gs wa h default (env u held) r (class_in u.world r)) has.0 ∙ ap (λ d. hand_place p gs wa sc.hands d (env u held) r (class_in u.world r)) has.1 ∙ c.taken r u fit.long));
          after = at_once u;
          post = thrown;
        };
      }

  pub bare_sim : (sc : Scope) (local : Option ℕ) (body : Block) (rest : Clauses) → FlowSim (block p wa.watch prev sc.covers body) sc (HasBlock p gs f n sc body) → HandleSim sc (clause None local body rest)
  bare_sim sc local body rest sim m held R c t keeps hands default has r u fit thrown =
      subst (λ l. F (at_place (hand_place p gs wa hands default (env u held) r (class_in u.world r)) u.world) held u (flow_place t held) R Any (handle p wa.watch prev sc.covers (clause None l body rest) r u)) (sym has.2)
      (moved p gs wa f instead frs
      (leads_on p gs wa
      (at_same (hand_place p gs wa hands default (env u held) r (class_in u.world r)) (place has.1 (env u (held ++ Ref r ∷ []))) u.world
      (ap (λ h. hand_place p gs wa h default (env u held) r (class_in u.world r)) has.3 ∙ ap (λ d. hand_place p gs wa [] d (env u held) r (class_in u.world r)) has.6 ∙ ap (λ l. place has.1 (l ++ Some (Ref r) ∷ [])) (all_there c u fit.long) ∙ ap (place has.1) (sym (env_push u held (Ref r ∷ [])))))
      (drops c u fit (Ref r) has.1 has.0 has.5))
      (sim m has.0 held R c t keeps u fit has.4))

  pub clause_sim : (sc : Scope) (classes : List ℕ) (local : Option ℕ) (body : Block) (rest : Clauses) → FlowSim (block p wa.watch prev sc.covers body) sc (HasBlock p gs f n sc body) → HandleSim sc rest → HandleSim sc (clause (Some classes) local body rest)
  clause_sim sc classes local body rest sim others m held R c t keeps hands default has r u fit thrown =
      moved p gs wa f instead frs
      (at_same (hand_place p gs wa hands default (env u held) r (class_in u.world r)) _ u.world
      (ap (λ h. hand_place p gs wa h default (env u held) r (class_in u.world r)) has.4 ∙ hands_take classes local (record { to = has.0; keep = m }) has.1 default (env u held) r (class_in u.world r)))
      (either (list_any (is_below p.classes (class_in u.world r)) classes))
    where
      either : (x : Bool) → F (at_place (cond x (place has.0 (stored_value (take m (env u held)) local r)) (hand_place p gs wa has.1 default (env u held) r (class_in u.world r))) u.world) held u (flow_place t held) R Any
          ((if x then (λ s. then_go (set_local_if_any local (Ref r) s) (λ a. block p wa.watch prev sc.covers body)) else handle p wa.watch prev sc.covers rest r) u)
      either true = stored_sim m sc held R c t u fit local r has.0 has.2 (block p wa.watch prev sc.covers body) (λ w fit_w. sim m has.0 held R c t keeps w fit_w has.3)
      either false = others m held R c t keeps has.1 default has.5 r u fit thrown

  -- ---- what is done at last

  -- the last part, while these values are pending, and what then remains
  pending_sim : (sc : Scope) (last : Block) → FlowSim (block p wa.watch prev sc.covers last) sc (HasBlock p gs f n sc last)
      → (m : ℕ) (held vs : List Value) (R : ℕ → State → Place) → Keep m sc held R → (t : Ways) → Keeps t m → (b k m2 : ℕ) → m + length vs ≡ m2 → HasBlock p gs f n sc last b m2 (onto t k)
      → (u : State) → Fit (suc top) n u → (remains : Eval Flow)
      → ((w : State) → Fit (suc top) n w → After u w → F (at_place (place k (env w (held ++ vs))) w.world) held w (flow_place t held) R Any (remains w))
      → F (at_place (place b (env u (held ++ vs))) u.world) held u (flow_place t held) R Any (then_go (add_held vs (block p wa.watch prev sc.covers last u)) (λ flow. next_or flow remains))
  pending_sim sc last sim m held vs R c t keeps b k m2 at has u fit remains go =
      seq p gs wa f instead frs
      (hold p gs wa f instead frs vs (sim m2 b (held ++ vs) R (catches_more p gs wa vs m2 at c) (onto t k) (keeps_onto k (keeps_more m2 (omega (arith, at)) keeps)) u fit has))
      (λ flow w after x. by flow w after)
    where
      less : (w : State) → After u w → (j : ℕ) → j ≤ m → take j (env w (held ++ vs)) ≡ take j (env w held)
      less w after j le = take_less p gs wa n w held vs j m (after.long ∙ fit.long) c.all le

      by : (flow : Flow) (w : State) → After u w → F (at_place (flow_place (onto t k) (held ++ vs) flow w) w.world) held w (flow_place t held) R Any (next_or flow remains w)
      by Onward w after = go w (fit_on fit after) after
      by Broken w after = here p gs wa f instead frs (at_same (place t.brk.to (take t.brk.keep (env w (held ++ vs)))) (place t.brk.to (take t.brk.keep (env w held))) w.world (ap (place t.brk.to) (less w after t.brk.keep keeps.brk))) tt
      by Continued w after = here p gs wa f instead frs (at_same (place t.cont.to (take t.cont.keep (env w (held ++ vs)))) (place t.cont.to (take t.cont.keep (env w held))) w.world (ap (place t.cont.to) (less w after t.cont.keep keeps.cont))) tt
      by (Returned v) w after = here p gs wa f instead frs (at_same (place t.ret.to (take t.ret.keep (env w (held ++ vs)) ++ Some v ∷ [])) (place t.ret.to (take t.ret.keep (env w held) ++ Some v ∷ [])) w.world (ap (λ l. place t.ret.to (l ++ Some v ∷ [])) (less w after t.ret.keep keeps.ret))) tt

  module _ (sc : Scope) (last : Block) (sim : FlowSim (block p wa.watch prev sc.covers last) sc (HasBlock p gs f n sc last)) (m : ℕ) (held : List Value) (R : ℕ → State → Place) (c : Keep m sc held R) (t : Ways) (keeps : Keeps t m)
      (norm brk cont ret exc to_brk to_cont to_ret to_exc : ℕ)
      (has_norm : HasBlock p gs f n sc last norm m t)
      (has_brk : HasBlock p gs f n sc last brk m (onto t to_brk)) (is_brk : Is p gs f n to_brk m (Go (on_to t.brk)))
      (has_cont : HasBlock p gs f n sc last cont m (onto t to_cont)) (is_cont : Is p gs f n to_cont m (Go (on_to t.cont)))
      (has_ret : HasBlock p gs f n sc last ret (m + 1) (onto t to_ret)) (is_ret : Is p gs f n to_ret (m + 1) (Go (first_and t.ret.to t.ret.keep m)))
      (has_exc : HasBlock p gs f n sc last exc (m + 1) (onto t to_exc)) (is_exc : Acts p gs f n sc to_exc row.Raise (m ∷ []) (m + 1) (first never_block 0)) where
    abbrev copies : Ways
    copies = record { norm = norm; brk = record { to = brk; keep = m }; cont = record { to = cont; keep = m }; ret = record { to = ret; keep = m } }

    -- an exception is pending
    abbrev pub held_exception : ℕ → State → Place
    held_exception r u = place exc (take m (env u held) ++ Some (Ref r) ∷ [])

    full : (u : State) → Fit (suc top) n u → (v : Value) → (to : ℕ) → place to (take m (env u held) ++ Some v ∷ []) ≡ place to (env u (held ++ v ∷ []))
    full u fit v to = ap (λ l. place to (l ++ Some v ∷ [])) (all_there c u fit.long) ∙ ap (place to) (sym (env_push u held (v ∷ [])))

    none_more : (u : State) (to : ℕ) → place to (env u held) ≡ place to (env u (held ++ []))
    none_more u to = ap (λ l. place to (env u l)) (sym (append-nil held))

    finally_sim : (P : Run → ℕ → Type 0) (s : State) → Fit (suc top) n s → (e : Ending Flow) → Sim p gs wa f instead frs P held s (flow_place copies held) held_exception Any e → F P held s (flow_place t held) R Any (finally (block p wa.watch prev sc.covers last) e)
    finally_sim P s fit (Done Onward u) r =
        let fit_u = fit_on fit r.after in
        before p gs wa f instead frs (by_on p gs wa r.leads (at_moment p gs wa u.moments (at_same (place norm (env u held)) (place norm (env u (held ++ []))) u.world (none_more u norm)))) r.after
        (pending_sim sc last sim m held [] R c t keeps norm t.norm m (omega arith) has_norm u fit_u (pure Onward)
        (λ w fit_w after. here p gs wa f instead frs (at_same (place t.norm (env w (held ++ []))) (place t.norm (env w held)) w.world (sym (none_more w t.norm))) tt))
    finally_sim P s fit (Done Broken u) r =
        let fit_u = fit_on fit r.after in
        before p gs wa f instead frs (by_on p gs wa r.leads (at_moment p gs wa u.moments (at_same (place brk (take m (env u held))) (place brk (env u (held ++ []))) u.world (ap (place brk) (all_there c u fit_u.long) ∙ none_more u brk)))) r.after
        (pending_sim sc last sim m held [] R c t keeps brk to_brk m (omega arith) has_brk u fit_u (pure Broken)
        (λ w fit_w after.
        here p gs wa f instead frs
        (leads_on p gs wa (at_same (place to_brk (env w (held ++ []))) (place to_brk (env w held)) w.world (sym (none_more w to_brk))) (falls c w fit_w to_brk t.brk.keep t.brk.to is_brk keeps.brk)) tt))
    finally_sim P s fit (Done Continued u) r =
        let fit_u = fit_on fit r.after in
        before p gs wa f instead frs (by_on p gs wa r.leads (at_moment p gs wa u.moments (at_same (place cont (take m (env u held))) (place cont (env u (held ++ []))) u.world (ap (place cont) (all_there c u fit_u.long) ∙ none_more u cont)))) r.after
        (pending_sim sc last sim m held [] R c t keeps cont to_cont m (omega arith) has_cont u fit_u (pure Continued)
        (λ w fit_w after.
        here p gs wa f instead frs
        (leads_on p gs wa (at_same (place to_cont (env w (held ++ []))) (place to_cont (env w held)) w.world (sym (none_more w to_cont))) (falls c w fit_w to_cont t.cont.keep t.cont.to is_cont keeps.cont)) tt))
    finally_sim P s fit (Done (Returned v) u) r =
        let fit_u = fit_on fit r.after in
        before p gs wa f instead frs (by_on p gs wa r.leads (at_moment p gs wa u.moments (at_same (place ret (take m (env u held) ++ Some v ∷ [])) (place ret (env u (held ++ v ∷ []))) u.world (full u fit_u v ret)))) r.after
        (pending_sim sc last sim m held (v ∷ []) R c t keeps ret to_ret (m + 1) (omega arith) has_ret u fit_u (pure (Returned v))
        (λ w fit_w after. here p gs wa f instead frs (falls_and c w fit_w v to_ret t.ret.keep t.ret.to is_ret keeps.ret) tt))
    finally_sim P s fit (Raised x u) r =
        let fit_u = fit_on fit r.after in
        before p gs wa f instead frs (by_on p gs wa r.leads (at_moment p gs wa u.moments (at_same (place exc (take m (env u held) ++ Some (Ref x) ∷ [])) (place exc (env u (held ++ Ref x ∷ []))) u.world (full u fit_u (Ref x) exc)))) r.after
        (pending_sim sc last sim m held (Ref x ∷ []) R c t keeps exc to_exc (m + 1) (omega arith) has_exc u fit_u (raised x)
        (λ w fit_w after.
        let thrown = thrown_on after.later r.post in
        record {
          sim = record {
            leads = at_moment p gs wa w.moments (throws_on p gs wa builtins stand prev top good f n instead frs m sc held R c w fit_w (held ++ Ref x ∷ []) (Ref x ∷ []) refl to_exc (m + 1) row.Raise (m ∷ []) (first never_block 0) (Ref x ∷ []) is_exc (omega arith)
                (ap (λ z. z ∷ []) (land_at n w fit_w.long (held ++ Ref x ∷ []) held [] (Ref x) m refl c.all)) refl x (raised_again p gs wa builtins stand prev top good f n instead frs sc.covers x w.world thrown));
            after = at_once w;
            post = thrown;
          };
        }))
    finally_sim P s fit (Failed name u) r = record { sim = r }
    finally_sim P s fit (Running rs u) r = record { sim = r }
    finally_sim P s fit Wrong r = record { sim = r }

  -- ---- all statements

  abbrev pub StmtSim : Scope → Stmt → Type 0
  StmtSim sc s = FlowSim (statement p wa.watch prev sc.covers s) sc (HasStmt p gs f n sc s)

  abbrev pub BlockSim : Scope → Block → Type 0
  BlockSim sc b = FlowSim (block p wa.watch prev sc.covers b) sc (HasBlock p gs f n sc b)

  if_sim : (sc : Scope) (e : Expr) (a b : Block) → BlockSim sc a → BlockSim sc b → StmtSim sc (If e a b)
  if_sim sc e a b sim_a sim_b m at held R c t keeps s fit has =
      seq p gs wa f instead frs (sim_test p gs wa builtins stand prev top good f n instead frs sc e m at has.0 has.1 held R c s fit has.2) (λ go u after y. ways go u (fit_on fit after))
    where
      ways : (go : Bool) (u : State) → Fit (suc top) n u → F (at_place (test_place has.0 has.1 held go u) u.world) held u (flow_place t held) R Any ((if go then block p wa.watch prev sc.covers a else block p wa.watch prev sc.covers b) u)
      ways true u fit_u = sim_a m has.0 held R c t keeps u fit_u has.3
      ways false u fit_u = sim_b m has.1 held R c t keeps u fit_u has.4

  try_sim : (sc : Scope) (body : Block) (cs : Clauses) (other : Block) → ((inner : Scope) → inner.covers ≡ covers_within p.classes cs sc.covers → BlockSim inner body) → HandleSim sc cs → BlockSim sc other → StmtSim sc (Try body cs other)
  try_sim sc body cs other sim sim_c sim_o m b held R c t keeps s fit has =
      let inner : Scope = record { hands = has.1; default = has.2; covers = covers_within p.classes cs sc.covers; tried = true } in
      let below = clauses_below sc cs m t has.1 has.2 c.hands c.default has.4 in
      let Raised-here = λ (r : ℕ) (u : State). hand_place p gs wa has.1 has.2 (env u held) r (class_in u.world r) in
      let c2 : Keep m inner held Raised-here = record { all = c.all; default = below.1; hands = below.0; taken = λ r u long. refl } in
      let r = sim inner refl m b held Raised-here c2 (onto t has.0) (keeps_onto has.0 keeps) s fit has.5 in
      tried_by (at_place (place b (env s held)) s.world) held s t (onto t has.0) R Raised-here (block p wa.watch prev inner.covers body s) (block p wa.watch prev sc.covers other) (handle p wa.watch prev sc.covers cs) r.sim
      (λ u after. sim_o m has.0 held R c t keeps u (fit_on fit after) has.3)
      (λ x u after thrown. sim_c m held R c t keeps has.1 has.2 has.4 x u (fit_on fit after) thrown)
      refl

  at_last_sim : (sc : Scope) (body last : Block) → ((inner : Scope) → inner.covers ≡ sc.covers → BlockSim inner body) → BlockSim sc last → StmtSim sc (Finally body last)
  at_last_sim sc body last sim sim_l m b held R c t keeps s fit has =
      let inner : Scope = record { hands = []; default = record { to = has.4; keep = m }; covers = sc.covers; tried = true } in
      let Raised-here = λ (r : ℕ) (u : State). place has.4 (take m (env u held) ++ Some (Ref r) ∷ []) in
      let c2 : Keep m inner held Raised-here = record { all = c.all; default = omega arith; hands = tt; taken = λ r u long. refl } in
      let ways : Ways = record { norm = has.0; brk = record { to = has.1; keep = m }; cont = record { to = has.2; keep = m }; ret = record { to = has.3; keep = m } } in
      let r = sim inner refl m b held Raised-here c2 ways (record { brk = omega arith; cont = omega arith; ret = omega arith }) s fit has.18 in
      finally_sim sc last sim_l m held R c t keeps has.0 has.1 has.2 has.3 has.4 has.5 has.6 has.7 has.8 has.9 has.10 has.11 has.12 has.13 has.14 has.15 has.16 has.17 (at_place (place b (env s held)) s.world) s fit (block p wa.watch prev inner.covers body s) r.sim

  mark_by : (x : Bool) (sc : Scope) (m : ℕ) (held : List Value) (R : ℕ → State → Place) → Keep m sc held R → (s : State) → Fit (suc top) n s → (b q : ℕ) → MarkIf p gs f n x sc b m q → goes (place b (env s held)) (place q (env s held)) s.world
  mark_by true sc m held R c s fit b q is =
      gives_on p gs wa builtins stand prev top good f n instead frs m sc held R c s fit held [] (sym (append-nil held)) b m row.None [] (first q m) [] is (omega arith) refl refl Nothing (env s held) refl (land_first n s fit.long held held [] m (Some Nothing ∷ []) (sym (append-nil held)) c.all)
  mark_by false sc m held R c s fit b q e = at_same (place b (env s held)) (place q (env s held)) s.world (ap (λ k. place k (env s held)) e)

  line_sim : (sc : Scope) (s : Stmt) (rest : Block) → StmtSim sc s → BlockSim sc rest → BlockSim sc (line s rest)
  line_sim sc s rest sim sim_r m b held R c t keeps u fit has =
      moved p gs wa f instead frs (mark_by sc.tried sc m held R c u fit b has.0 has.3)
      (seq p gs wa f instead frs (sim m has.0 held R c (onto t has.1) (keeps_onto has.1 keeps) u fit has.4) (λ flow w after x. by flow w (fit_on fit after)))
    where
      by : (flow : Flow) (w : State) → Fit (suc top) n w → F (at_place (flow_place (onto t has.1) held flow w) w.world) held w (flow_place t held) R Any (next_or flow (block p wa.watch prev sc.covers rest) w)
      by Onward w fit_w = moved p gs wa f instead frs (mark_by sc.tried sc m held R c w fit_w has.1 has.2 has.5) (sim_r m has.2 held R c t keeps w fit_w has.6)
      by Broken w fit_w = here p gs wa f instead frs (stays p gs wa) tt
      by Continued w fit_w = here p gs wa f instead frs (stays p gs wa) tt
      by (Returned v) w fit_w = here p gs wa f instead frs (stays p gs wa) tt

  return_sim : (sc : Scope) (e : Expr) → StmtSim sc (Return e)
  return_sim sc e m b held R c t keeps s fit has =
      seq p gs wa f instead frs (sim_value p gs wa builtins stand prev top good f n instead frs sc e m b has.0 held R c s fit has.1)
      (λ v u after y. here p gs wa f instead frs (gives_back sc c u (fit_on fit after) v has.0 t.ret has.2 keeps.ret) tt)

  do_sim : (sc : Scope) (e : Expr) → StmtSim sc (Do e)
  do_sim sc e m b held R c t keeps s fit has =
      seq p gs wa f instead frs (sim_value p gs wa builtins stand prev top good f n instead frs sc e m b has.0 held R c s fit has.1)
      (λ v u after y. here p gs wa f instead frs (drops c u (fit_on fit after) v has.0 t.norm has.2) tt)

  assign_sim : (sc : Scope) (ts : Targets) (e : Expr) → StmtSim sc (Assign ts e)
  assign_sim sc ts e m b held R c t keeps s fit has =
      seq p gs wa f instead frs (sim_value p gs wa builtins stand prev top good f n instead frs sc e m b has.0 held R c s fit has.1)
      (λ v u after y.
      seq p gs wa f instead frs (hold p gs wa f instead frs (v ∷ []) (targets_sim sc ts m has.0 t.norm held v R c u (fit_on fit after) has.2))
      (λ a w after2 y2. here p gs wa f instead frs (stays p gs wa) tt))

  for_all_sim : (sc : Scope) (target : Target) (subject : Subject) (body : Block) → BlockSim sc body → StmtSim sc (For target subject body)
  for_all_sim sc target subject body sim m b held R c t keeps s fit has =
      seq p gs wa f instead frs (sim_subject p gs wa builtins stand prev top good f n instead frs sc subject m b has.0 held R c s fit has.1)
      (λ walking u after steps.
      for_sim sc target body sim m has.0 held R c t keeps walking (subst (λ k. ForAt p gs f n sc k (HasBind p gs f n sc target []) (HasBlock p gs f n sc body) has.0 m t) (sym steps) has.2) u (fit_on fit after))

  mutual
    pub sim_stmt : (s : Stmt) (sc : Scope) → StmtSim sc s
    sim_stmt Pass sc m b held R c t keeps s fit has = here p gs wa f instead frs (at_same (place b (env s held)) (place t.norm (env s held)) s.world (ap (λ k. place k (env s held)) has)) tt
    sim_stmt Break sc m b held R c t keeps s fit has = here p gs wa f instead frs (falls c s fit b t.brk.keep t.brk.to has keeps.brk) tt
    sim_stmt Continue sc m b held R c t keeps s fit has = here p gs wa f instead frs (falls c s fit b t.cont.keep t.cont.to has keeps.cont) tt
    sim_stmt (Return e) sc m b held R c t keeps s fit has = return_sim sc e m b held R c t keeps s fit has
    sim_stmt (Do e) sc m b held R c t keeps s fit has = do_sim sc e m b held R c t keeps s fit has
    sim_stmt (Assign ts e) sc m b held R c t keeps s fit has = assign_sim sc ts e m b held R c t keeps s fit has
    sim_stmt (Augment target o e) sc m b held R c t keeps s fit has =
        seq p gs wa f instead frs (augment_sim sc target o e m b t.norm held R c s fit has) (λ a u after y. here p gs wa f instead frs (stays p gs wa) tt)
    sim_stmt (If e a x) sc m b held R c t keeps s fit has = if_sim sc e a x (sim_block a sc) (sim_block x sc) m b held R c t keeps s fit has
    sim_stmt (While e body) sc m b held R c t keeps s fit has = loop_sim sc e body (sim_block body sc) m b held R c t keeps s fit has
    sim_stmt (For target subject body) sc m b held R c t keeps s fit has = for_all_sim sc target subject body (sim_block body sc) m b held R c t keeps s fit has
    sim_stmt (Try body cs other) sc m b held R c t keeps s fit has = try_sim sc body cs other (λ inner e. sim_block body inner) (sim_clauses cs sc) (sim_block other sc) m b held R c t keeps s fit has
    sim_stmt (Finally body last) sc m b held R c t keeps s fit has = at_last_sim sc body last (λ inner e. sim_block body inner) (sim_block last sc) m b held R c t keeps s fit has

    pub sim_block : (b : Block) (sc : Scope) → BlockSim sc b
    sim_block done sc m b held R c t keeps s fit has = here p gs wa f instead frs (at_same (place b (env s held)) (place t.norm (env s held)) s.world (ap (λ k. place k (env s held)) has)) tt
    sim_block (line s rest) sc m b held R c t keeps u fit has = line_sim sc s rest (sim_stmt s sc) (sim_block rest sc) m b held R c t keeps u fit has

    sim_clauses : (cs : Clauses) (sc : Scope) → HandleSim sc cs
    sim_clauses no_clauses sc m held R c t keeps hands default has r u fit thrown = no_clauses_sim sc m held R c t keeps hands default has r u fit thrown
    sim_clauses (clause None local body rest) sc m held R c t keeps hands default has r u fit thrown = bare_sim sc local body rest (sim_block body sc) m held R c t keeps hands default has r u fit thrown
    sim_clauses (clause (Some classes) local body rest) sc m held R c t keeps hands default has r u fit thrown = clause_sim sc classes local body rest (sim_block body sc) (sim_clauses rest sc) m held R c t keeps hands default has r u fit thrown
