-- The machine follows each expression and each target.
use Rattle.std.proofs.Common.{◌≡◌, ℕ, suc, ◌+◌, ◌<◌, ◌≤◌, Bool, true, false, List, [], ◌∷◌, ◌++◌, ◌⊎◌, inl, inr, length, get_or, Some, None, Option, refl, sym, ap, ◌∙◌, subst, arith, append_assoc, length-append}
use Rattle.std.specs.Prelude.{map, slice_set, if◌then◌else◌, pos, ℤ}
use Rattle.std.proofs.lemmas.List.{append-nil, map-append, length-set, set-append_left}
use Rattle.rpy_tree.specs.Value.{Value, Word}
use Rattle.rpy_meaning.specs.declared.row.RowOp.{RowOp}
use Rattle.rpy_meaning.specs.declared.row.RowOp.TheVariants as row
use Rattle.rpy_meaning.specs.Tree.{Expr, Local, Constant, Apply, And, Or, Display, Comprehension, Exprs, none, more, Pairs, no_pairs, pair, Subject, Over, UpTo, FromTo, Condition, Always, Where, Target, Name, Attribute, Item, Parts, Targets, no_targets, more_targets, Program}
use Rattle.rpy_meaning.specs.World.{World, bad, give, if_some}
use Rattle.rpy_meaning.specs.Classes.{is_below}
use Rattle.rpy_meaning.specs.Operations.{builtin_classes, unpack}
use Rattle.rpy_meaning.specs.Evaluation.{State, Ending, Done, Eval, then_go, set_local, is_so, pure, Next as Onward}
use Rattle.rpy_meaning.specs.Meaning.{Run, Sem, Before, Behind, answered as told, operate, value, store_pairs, begin, keeps, take, take_parts, bind, target_count, Walking, walk_holds, turns, gather, Gather}
use Rattle.flow_graph.specs.declared.graph.Graphs.{Graphs}
use Rattle.flow_meaning.specs.Machine.{Frame}
use Rattle.flow_stands.proofs.Watches.{Watching}
use Rattle.flow_stands.specs.Places.{range, Scope, Ways, Go, first, first_and, stored}
use Rattle.flow_stands.specs.Stands.{Is, Acts, is_local, some_is_local, Reads, ApplyAt, SidesAt, LocalAt, ConstantAt, DisplayAt, ComprehensionAt, GathersAt, GatherAt, step_of, within, count, Path, HasExpr, HasExprs, HasSides, HasTest, HasNegated, HasPairs, HasSubject, HasCondition, HasBind, HasItems, Stand}
use Rattle.flow_stands.proofs.Worlds.{same}
use Rattle.flow_stands.proofs.Lists.{pick}
use Rattle.flow_stands.proofs.Core.{Place, place, env, env_push, IsBound, After, Fit, fit_on, Catches, Leads, stays, leads_on, at_moment, enter, Runs, before, moved, seq, led, hold, here}
use Rattle.flow_stands.proofs.Calls.{Any, Good, flow_place, gathered, IsOnward}
use Rattle.flow_stands.proofs.Parts.{wide, land_first, land_at, jump_first, jump_and, land_store, catches_more, vals, stay_at, ReadBy, Reading, first_go_on, same_as, jumps, gives_on, acts}
use Rattle.flow_stands.proofs.Tests.{gives_value, meets, local_sim, constant_sim}
use Rattle.flow_stands.proofs.Walks.{turns_sim}
use Rattle.flow_stands.proofs.Forms.{test_place, local_reads, set_bound, not_is, ValueSim, ValuesSim, SidesSim, TestSim, NegatedSim, leaf_sim, last_sim, applied_sim, sides_sim, tests_sim, and_sim, or_sim, and_tests_sim, or_tests_sim, not_sim, not_tests_sim}
use Rattle.flow_stands.proofs.Taken.{item_at, then_at, reached, own, own_inner, own_light, unpack_is, reached_on, there, took, bind_none}

kept_few : (n m keep : ℕ) (held hs rest : List Value) → held ≡ hs ++ rest → n + length hs ≡ keep → n + length held ≡ m → keep ≤ m
kept_few n m keep held hs rest is at all = let e = ap length is in omega (arith, e, at, all, length-append hs rest)

module _ (p : Program) (gs : Graphs) (wa : Watching) (builtins : (k : ℕ) → k < builtin_classes → is_below p.classes k 0 ≡ true) (stand : Stand p gs) (prev : Sem) (top : ℕ) (good : Good p gs wa prev top) (f n : ℕ) (instead : Option Value) (frs : List Frame) where
  abbrev pub F : {A : Type 0} → (Run → ℕ → Type 0) → List Value → State → (A → State → Place) → (ℕ → State → Place) → (A → State → Type 0) → Ending A → Type 0
  F P held s D R X e = Runs p gs wa f instead frs P held s D R X e

  abbrev pub at_place : Place → World → Run → ℕ → Type 0
  at_place = enter p gs wa f instead frs

  abbrev pub Keep : ℕ → Scope → List Value → (ℕ → State → Place) → Type 0
  Keep m sc held R = Catches p gs wa n m sc held R

  abbrev VSim : Scope → Expr → (ℕ → ℕ → ℕ → Type 0) → Type 0
  VSim = ValueSim p gs wa builtins stand prev top good f n instead frs

  abbrev TSim : Scope → Expr → (ℕ → ℕ → ℕ → ℕ → Type 0) → Type 0
  TSim = TestSim p gs wa builtins stand prev top good f n instead frs

  more_held : {m : ℕ} {sc : Scope} {held : List Value} {R : ℕ → State → Place} (v : Value) → Keep m sc held R → Keep (m + 1) sc (held ++ v ∷ []) R
  more_held {m} v c = catches_more p gs wa (v ∷ []) (m + 1) (omega arith) c

  -- ---- operands

  pub values_sim : (sc : Scope) (e : Expr) (es : Exprs) (E Es : ℕ → ℕ → ℕ → Type 0) → VSim sc e E → ValuesSim p gs wa builtins stand prev top good f n instead frs sc es Es
      → ValuesSim p gs wa builtins stand prev top good f n instead frs sc (more e es) (λ b m q. (k : ℕ) × E b m k × Es k (m + 1) q)
  values_sim sc e es E Es sim sims m b q held R c s fit has =
      seq p gs wa f instead frs (sim m b has.0 held R c s fit has.1)
      (λ v t after reads.
      seq p gs wa f instead frs (hold p gs wa f instead frs (v ∷ []) (sims (m + 1) has.0 q (held ++ v ∷ []) R (more_held v c) t (fit_on fit after) has.2))
      (λ vs u after2 many.
      here p gs wa f instead frs
      (same_as p gs wa builtins stand prev top good f n instead frs (place q (env u ((held ++ v ∷ []) ++ vs))) (place q (env u (held ++ (v ∷ vs)))) u.world (ap (λ l. place q (env u l)) (append_assoc held (v ∷ []) vs)))
      (ap suc many.0, bound e es v t u after2 reads many.1)))
    where
      bound : (e : Expr) (es : Exprs) (v : Value) (t u : State) → After t u → ReadBy e v t → ((i : ℕ) → some_is_local es i → IsBound u.locals i) → (i : ℕ) → is_local e i ⊎ some_is_local es i → IsBound u.locals i
      bound e es v t u after reads h i (inl x) = after.bound i (reads i (local_reads e i x))
      bound e es v t u after reads h i (inr x) = h i x

  -- ---- dicts

  abbrev PairsSim : Scope → Pairs → (ℕ → ℕ → ℕ → Type 0) → Type 0
  PairsSim sc ps Stores =
      (m b q : ℕ) (held : List Value) (dict : Value) (R : ℕ → State → Place) → Keep m sc held R → (s : State) → Fit (suc top) n s → Stores b m q
      → F (at_place (place b (env s (held ++ dict ∷ []))) s.world) (held ++ dict ∷ []) s (stay_at q (held ++ dict ∷ [])) R Any (store_pairs p wa.watch prev sc.covers dict ps s)

  display_sim : (sc : Scope) (site : ℕ) (ps : Pairs) (Stores : ℕ → ℕ → ℕ → Type 0) → PairsSim sc ps Stores → VSim sc (Display site ps) (DisplayAt p gs f n sc site Stores)
  display_sim sc site ps Stores sims m b q held R c s fit has =
      seq p gs wa f instead frs (leaf_sim p gs wa builtins stand prev top good f n instead frs m sc held R c s fit b has.0 (row.Dict site) has.2)
      (λ dict t after x.
      seq p gs wa f instead frs (hold p gs wa f instead frs (dict ∷ []) (sims m has.0 has.1 held dict R c t (fit_on fit after) has.3))
      (λ a u after2 y.
      here p gs wa f instead frs (meets p gs wa builtins stand prev top good f n instead frs m sc held R c u (fit_on (fit_on fit after) after2) dict has.1 q has.4) (λ i h. absurd h)))

  pair_sim : (sc : Scope) (key e : Expr) (rest : Pairs) (K E Stores : ℕ → ℕ → ℕ → Type 0) → VSim sc key K → VSim sc e E → PairsSim sc rest Stores
      → PairsSim sc (pair key e rest) (λ b m q. (k l next : ℕ) × K b (m + 1) k × E k (m + 1 + 1) l × Acts p gs f n sc l row.StoreIndex (m ∷ (m + 1) ∷ (m + 2) ∷ []) (m + 3) (first next (m + 1)) × Stores next m q)
  pair_sim sc key e rest K E Stores sim_k sim_e sims m b q held dict R c s fit has =
      let H = held ++ dict ∷ [] in
      let c1 = more_held dict c in
      seq p gs wa f instead frs (sim_k (m + 1) b has.0 H R c1 s fit has.3)
      (λ x t after y.
      let fit_t = fit_on fit after in
      let c2 = more_held x c1 in
      seq p gs wa f instead frs (hold p gs wa f instead frs (x ∷ []) (sim_e (m + 1 + 1) has.0 has.1 (H ++ x ∷ []) R c2 t fit_t has.4))
      (λ v u after2 y2.
      let fit_u = fit_on fit_t after2 in
      let W = (H ++ x ∷ []) ++ v ∷ [] in
      let W_is : W ≡ H ++ (x ∷ v ∷ []) = append_assoc H (x ∷ []) (v ∷ []) in
      let at_dict = land_at n u fit_u.long W held (x ∷ v ∷ []) dict m (W_is ∙ append_assoc held (dict ∷ []) (x ∷ v ∷ [])) c.all in
      let at_key = land_at n u fit_u.long W H (v ∷ []) x (m + 1) W_is c1.all in
      let at_value = land_at n u fit_u.long W (H ++ x ∷ []) [] v (m + 2) refl (let a = c2.all in omega (arith, a)) in
      seq p gs wa f instead frs
      (acts p gs wa builtins stand prev top good f n instead frs (m + 1) sc H R c1 u fit_u W (x ∷ v ∷ []) W_is has.1 (m + 3) row.StoreIndex (m ∷ (m + 1) ∷ (m + 2) ∷ []) (first has.2 (m + 1)) (dict ∷ x ∷ v ∷ []) has.5 (omega arith)
      (ap (λ z. z ∷ get_or (env u W) (m + 1) None ∷ get_or (env u W) (m + 2) None ∷ []) at_dict ∙ ap (λ z. Some dict ∷ z ∷ get_or (env u W) (m + 2) None ∷ []) at_key ∙ ap (λ z. Some dict ∷ Some x ∷ z ∷ []) at_value)
      (x ∷ v ∷ []) (stay_at has.2 H) Any (first_go_on (m + 1) (m + 3) has.2 (m + 1) row.StoreIndex (x ∷ v ∷ []) [] (omega arith)) (λ wt. omega arith) (λ wt. omega arith)
      (λ r w j. (ap (place has.2) (land_first n u fit_u.long W H (x ∷ v ∷ []) (m + 1) (Some r ∷ []) W_is c1.all), tt)))
      (λ r u2 after3 y3. sims m has.2 q held dict R c u2 (fit_on fit_u after3) has.6)))

  -- ---- what is walked

  abbrev pub walk_place : ℕ → List Value → Walking → State → Place
  walk_place q held walking t = place q (env t (held ++ walk_holds walking))

  abbrev pub Steps : Option ℤ → Walking → State → Type 0
  Steps step walking t = walking.step ≡ step

  abbrev SubjectSim : Scope → Subject → (ℕ → ℕ → ℕ → Type 0) → Type 0
  SubjectSim sc subject Begin =
      (m b q : ℕ) (held : List Value) (R : ℕ → State → Place) → Keep m sc held R → (s : State) → Fit (suc top) n s → Begin b m q
      → F (at_place (place b (env s held)) s.world) held s (walk_place q held) R (Steps (step_of subject)) (begin p wa.watch prev sc.covers subject s)

  -- the first place
  zero_place : (m : ℕ) (sc : Scope) (held : List Value) (R : ℕ → State → Place) → Keep m sc held R → (t : State) → Fit (suc top) n t → (over : Value) (b q : ℕ) → Acts p gs f n sc b (row.Word (pos 0)) [] (m + 1) (first_and q (m + 1) (m + 1))
      → Leads p gs wa (at_place (place b (env t (held ++ over ∷ []))) t.world) (at_place (place q (env t (held ++ over ∷ Word (pos 0) ∷ []))) t.world)
  zero_place m sc held R c t fit over b q is =
      leads_on p gs wa
      (gives_value p gs wa builtins stand prev top good f n instead frs (m + 1) sc (held ++ over ∷ []) R (more_held over c) t fit (held ++ over ∷ []) [] (sym (append-nil (held ++ over ∷ []))) b (m + 1) (row.Word (pos 0)) [] q [] (Word (pos 0)) is (omega arith) refl refl refl)
      (same_as p gs wa builtins stand prev top good f n instead frs (place q (env t ((held ++ over ∷ []) ++ Word (pos 0) ∷ []))) (place q (env t (held ++ over ∷ Word (pos 0) ∷ []))) t.world (ap (λ l. place q (env t l)) (append_assoc held (over ∷ []) (Word (pos 0) ∷ []))))

  over_sim : (sc : Scope) (site : ℕ) (e : Expr) (E : ℕ → ℕ → ℕ → Type 0) → VSim sc e E
      → SubjectSim sc (Over site e) (λ b m q. (k z : ℕ) × E b m k × Acts p gs f n sc k (row.Walk site) (m ∷ []) (m + 1) (first_and z m (m + 1)) × Acts p gs f n sc z (row.Word (pos 0)) [] (m + 1) (first_and q (m + 1) (m + 1)))
  over_sim sc site e E sim m b q held R c s fit has =
      seq p gs wa f instead frs (sim m b has.0 held R c s fit has.2)
      (λ x t after y.
      let fit_t = fit_on fit after in
      seq p gs wa f instead frs (last_sim p gs wa builtins stand prev top good f n instead frs m sc held R c t fit_t (x ∷ []) 1 has.0 has.1 (row.Walk site) Any refl has.3 (λ v w j. tt))
      (λ over u after2 y2. here p gs wa f instead frs (zero_place m sc held R c u (fit_on fit_t after2) over has.1 q has.4) refl))

  up_to_sim : (sc : Scope) (e : Expr) (E : ℕ → ℕ → ℕ → Type 0) → VSim sc e E
      → SubjectSim sc (UpTo e) (λ b m q. (z : ℕ) × E b m z × Acts p gs f n sc z (row.Word (pos 0)) [] (m + 1) (first_and q (m + 1) (m + 1)))
  up_to_sim sc e E sim m b q held R c s fit has =
      seq p gs wa f instead frs (sim m b has.0 held R c s fit has.1)
      (λ end t after y. here p gs wa f instead frs (zero_place m sc held R c t (fit_on fit after) end has.0 q has.2) refl)

  from_to_sim : (sc : Scope) (a e : Expr) (step : ℤ) (A E : ℕ → ℕ → ℕ → Type 0) → VSim sc a A → VSim sc e E
      → SubjectSim sc (FromTo a e step) (λ b m q. (k l : ℕ) × A b m k × E k (m + 1) l × Is p gs f n l (m + 2) (Go (record { to = q; places = (range 0 m ++ (m + 1) ∷ []) ++ m ∷ [] })))
  from_to_sim sc a e step A E sim_a sim_e m b q held R c s fit has =
      seq p gs wa f instead frs (sim_a m b has.0 held R c s fit has.2)
      (λ x t after y.
      let fit_t = fit_on fit after in
      let c1 = more_held x c in
      seq p gs wa f instead frs (hold p gs wa f instead frs (x ∷ []) (sim_e (m + 1) has.0 has.1 (held ++ x ∷ []) R c1 t fit_t has.3))
      (λ v u after2 y2.
      let fit_u = fit_on fit_t after2 in
      let W = (held ++ x ∷ []) ++ v ∷ [] in
      let W_is : W ≡ held ++ (x ∷ v ∷ []) = append_assoc held (x ∷ []) (v ∷ []) in
      let swapped : pick (env u W) ((range 0 m ++ (m + 1) ∷ []) ++ m ∷ []) ≡ env u (held ++ v ∷ x ∷ []) =
      map-append (λ i. get_or (env u W) i None) (range 0 m ++ (m + 1) ∷ []) (m ∷ [])
      ∙ ap (λ l. l ++ get_or (env u W) m None ∷ []) (jump_and n u fit_u.long W held (x ∷ v ∷ []) m (m + 1) v W_is c.all (land_at n u fit_u.long W (held ++ x ∷ []) [] v (m + 1) refl c1.all))
      ∙ ap (λ z. env u (held ++ v ∷ []) ++ z ∷ []) (land_at n u fit_u.long W held (v ∷ []) x m W_is c.all)
      ∙ sym (env_push u (held ++ v ∷ []) (x ∷ []))
      ∙ ap (env u) (append_assoc held (v ∷ []) (x ∷ [])) in
      here p gs wa f instead frs
      (jumps p gs wa builtins stand prev top good f n instead frs has.1 (m + 2) (record { to = q; places = (range 0 m ++ (m + 1) ∷ []) ++ m ∷ [] }) W u (env u (held ++ v ∷ x ∷ [])) has.4
      (wide n u fit_u.long W ∙ (let z = length-append (held ++ x ∷ []) (v ∷ []) in let a = c1.all in omega (arith, z, a))) swapped)
      refl))

  -- ---- targets

  abbrev PathSim : Scope → Target → Type 0
  PathSim sc target =
      (path : Path) (m at keep b q : ℕ) (held hs rest before behind : List Value) (R : ℕ → State → Place) → Keep m sc held R → (s : State) → Fit (suc top) n s → (x v : Value)
      → held ≡ before ++ (x ∷ behind) → n + length before ≡ at → reached path x ≡ Some v → held ≡ hs ++ rest → n + length hs ≡ keep → HasBind p gs f n sc target path at m keep b q
      → F (at_place (place b (env s held)) s.world) held s (stay_at q hs) R Any (take p wa.watch prev sc.covers target (own path v) v s)

  -- what a place holds, with more behind
  holds_at : (t : State) → length t.locals ≡ n → (held before behind further : List Value) (x : Value) (at : ℕ) → held ≡ before ++ (x ∷ behind) → n + length before ≡ at → get_or (env t (held ++ further)) at None ≡ Some x
  holds_at t long held before behind further x at is_x at_x =
      land_at n t long (held ++ further) before (behind ++ further) x at (ap (λ l. l ++ further) is_x ∙ append_assoc before (x ∷ behind) further) at_x

  -- a local takes what stands at a place
  pub store_sim : (m w at keep i b q : ℕ) (sc : Scope) (held zs hs rest : List Value) (R : ℕ → State → Place) → Keep m sc held R → (s : State) → Fit (suc top) n s → (v : Value)
      → m + length zs ≡ w → get_or (env s (held ++ zs)) at None ≡ Some v → held ≡ hs ++ rest → n + length hs ≡ keep → i < n → Acts p gs f n sc b row.Copy (at ∷ []) w (stored q keep i w)
      → F (at_place (place b (env s (held ++ zs))) s.world) held s (stay_at q hs) R Any (set_local i v s)
  store_sim m w at keep i b q sc held zs hs rest R c s fit v len is is_hs at_hs lt has =
      let t : State = record s { locals = slice_set s.locals i (Some v) } in
      let W = held ++ zs in
      let l = gives_on p gs wa builtins stand prev top good f n instead frs m sc held R c s fit W zs refl b w row.Copy (at ∷ []) (stored q keep i w) (v ∷ []) has len
      (ap (λ z. z ∷ []) is) refl v (env t hs) refl
      (land_store n s fit.long W hs (rest ++ zs) keep w i v (ap (λ l. l ++ zs) is_hs ∙ append_assoc hs rest zs) at_hs (let a = c.all in let l = length-append held zs in omega (arith, a, l, len))
      ∙ set-append_left s.locals (map Some hs) i (Some v) (let z = fit.long in omega (arith, z, lt))) in
      record {
        sim = record {
          leads = at_moment p gs wa s.moments l;
          after = record { later = same s.world; long = length-set s.locals i (Some v); bound = λ j x. set_bound s.locals i j v x };
          post = tt;
        };
      }

  name_sim : (sc : Scope) (i : ℕ) → PathSim sc (Name i)
  name_sim sc i path m at keep b q held hs rest before behind R c s fit x v is_x at_x is_v is_hs at_hs has =
      let got = took p gs wa builtins stand prev top good f n instead frs m sc held R c s fit path at b has.0 has.1 has.2 x v (land_at n s fit.long held before behind x at is_x at_x) is_v has.4 in
      moved p gs wa f instead frs got.leads (store_sim m has.2 has.1 keep i has.0 q sc held got.zs hs rest R c s fit v got.wide got.is is_hs at_hs has.3 has.5)

  attribute_sim : (sc : Scope) (e : Expr) (name : List ℕ) → VSim sc e (HasExpr p gs f n sc e) → PathSim sc (Attribute e name)
  attribute_sim sc e name sim path m at keep b q held hs rest before behind R c s fit x v is_x at_x is_v is_hs at_hs has =
      moved p gs wa f instead frs (there p gs wa builtins stand prev top good f n instead frs m sc held R c s fit path at b has.0 x v (land_at n s fit.long held before behind x at is_x at_x) is_v has.5)
      (seq p gs wa f instead frs (sim m has.0 has.1 held R c s fit has.6)
      (λ y t after z.
      let fit_t = fit_on fit after in
      let H = held ++ y ∷ [] in
      let got = took p gs wa builtins stand prev top good f n instead frs (m + 1) sc H R (more_held y c) t fit_t path at has.1 has.2 has.3 has.4 x v (holds_at t fit_t.long held before behind (y ∷ []) x at is_x at_x) is_v has.7 in
      let W = H ++ got.zs in
      let W_is : W ≡ held ++ (y ∷ got.zs) = append_assoc held (y ∷ []) got.zs in
      moved p gs wa f instead frs got.leads
      (seq p gs wa f instead frs
      (acts p gs wa builtins stand prev top good f n instead frs m sc held R c t fit_t W (y ∷ got.zs) W_is has.2 has.4 (row.StoreAttr name) (m ∷ has.3 ∷ []) (first q keep) (y ∷ v ∷ []) has.8 (let g = got.wide in omega (arith, g))
      (ap (λ z. z ∷ get_or (env t W) has.3 None ∷ []) (land_at n t fit_t.long W held got.zs y m W_is c.all) ∙ ap (λ z. Some y ∷ z ∷ []) got.is)
      (y ∷ own path v) (stay_at q hs) Any (first_go_on m has.4 q keep (row.StoreAttr name) (y ∷ got.zs) [] (kept_few n m keep held hs rest is_hs at_hs c.all)) (λ wt. let g = got.light wt in omega (arith, g)) (λ wt. let g = got.light wt in let o = own_light wt path v in omega (arith, g, o))
      (λ r w j. (ap (place q) (land_first n t fit_t.long W hs (rest ++ (y ∷ got.zs)) keep (Some r ∷ []) (W_is ∙ ap (λ l. l ++ (y ∷ got.zs)) is_hs ∙ append_assoc hs rest (y ∷ got.zs)) at_hs), tt)))
      (λ r u after2 y2. here p gs wa f instead frs (stays p gs wa) tt))))

  item_sim : (sc : Scope) (a i : Expr) → VSim sc a (HasExpr p gs f n sc a) → VSim sc i (HasExpr p gs f n sc i) → PathSim sc (Item a i)
  item_sim sc a i sim_a sim_i path m at keep b q held hs rest before behind R c s fit x v is_x at_x is_v is_hs at_hs has =
      moved p gs wa f instead frs (there p gs wa builtins stand prev top good f n instead frs m sc held R c s fit path at b has.0 x v (land_at n s fit.long held before behind x at is_x at_x) is_v has.6)
      (seq p gs wa f instead frs (sim_a m has.0 has.1 held R c s fit has.7)
      (λ y t after z.
      let fit_t = fit_on fit after in
      let c1 = more_held y c in
      seq p gs wa f instead frs (hold p gs wa f instead frs (y ∷ []) (sim_i (m + 1) has.1 has.2 (held ++ y ∷ []) R c1 t fit_t has.8))
      (λ k u after2 z2.
      let fit_u = fit_on fit_t after2 in
      let H = held ++ (y ∷ k ∷ []) in
      let H_is : (held ++ y ∷ []) ++ k ∷ [] ≡ H = append_assoc held (y ∷ []) (k ∷ []) in
      let c2 = catches_more p gs wa (y ∷ k ∷ []) (m + 2) (omega arith) c in
      let got = took p gs wa builtins stand prev top good f n instead frs (m + 2) sc H R c2 u fit_u path at has.2 has.3 has.4 has.5 x v (holds_at u fit_u.long held before behind (y ∷ k ∷ []) x at is_x at_x) is_v has.9 in
      let W = H ++ got.zs in
      let W_is : W ≡ held ++ (y ∷ k ∷ got.zs) = append_assoc held (y ∷ k ∷ []) got.zs in
      let W_is_k : W ≡ (held ++ y ∷ []) ++ (k ∷ got.zs) = ap (λ l. l ++ got.zs) (sym H_is) ∙ append_assoc (held ++ y ∷ []) (k ∷ []) got.zs in
      moved p gs wa f instead frs (leads_on p gs wa (same_as p gs wa builtins stand prev top good f n instead frs (place has.2 (env u ((held ++ y ∷ []) ++ k ∷ []))) (place has.2 (env u H)) u.world (ap (λ l. place has.2 (env u l)) H_is)) got.leads)
      (seq p gs wa f instead frs
      (acts p gs wa builtins stand prev top good f n instead frs m sc held R c u fit_u W (y ∷ k ∷ got.zs) W_is has.3 has.5 row.StoreIndex (m ∷ (m + 1) ∷ has.4 ∷ []) (first q keep) (y ∷ k ∷ v ∷ []) has.10 (let g = got.wide in omega (arith, g))
      (ap (λ z. z ∷ get_or (env u W) (m + 1) None ∷ get_or (env u W) has.4 None ∷ []) (land_at n u fit_u.long W held (k ∷ got.zs) y m W_is c.all)
      ∙ ap (λ z. Some y ∷ z ∷ get_or (env u W) has.4 None ∷ []) (land_at n u fit_u.long W (held ++ y ∷ []) got.zs k (m + 1) W_is_k c1.all) ∙ ap (λ z. Some y ∷ Some k ∷ z ∷ []) got.is)
      (y ∷ k ∷ own path v) (stay_at q hs) Any (first_go_on m has.5 q keep row.StoreIndex (y ∷ k ∷ got.zs) [] (kept_few n m keep held hs rest is_hs at_hs c.all)) (λ wt. let g = got.light wt in omega (arith, g)) (λ wt. let g = got.light wt in let o = own_light wt path v in omega (arith, g, o))
      (λ r w j. (ap (place q) (land_first n u fit_u.long W hs (rest ++ (y ∷ k ∷ got.zs)) keep (Some r ∷ []) (W_is ∙ ap (λ l. l ++ (y ∷ k ∷ got.zs)) is_hs ∙ append_assoc hs rest (y ∷ k ∷ got.zs)) at_hs), tt)))
      (λ r u2 after3 y3. here p gs wa f instead frs (stays p gs wa) tt)))))

  abbrev ItemsSim : Scope → Targets → Type 0
  ItemsSim sc parts =
      (path : Path) (m at k i b q : ℕ) (held before behind : List Value) (R : ℕ → State → Place) → Keep m sc held R → (s : State) → Fit (suc top) n s → (x v : Value)
      → held ≡ before ++ (x ∷ behind) → n + length before ≡ at → reached path x ≡ Some v → HasItems p gs f n sc parts k i path at b m q
      → F (at_place (place b (env s held)) s.world) held s (stay_at q held) R Any (take_parts p wa.watch prev sc.covers k i parts v s)

  parts_sim : (sc : Scope) (parts : Targets) → ItemsSim sc parts → PathSim sc (Parts parts)
  parts_sim sc parts sims path m at keep b q held hs rest before behind R c s fit x v is_x at_x is_v is_hs at_hs has =
      let got = took p gs wa builtins stand prev top good f n instead frs m sc held R c s fit path at b has.0 has.3 has.4 x v (land_at n s fit.long held before behind x at is_x at_x) is_v has.5 in
      moved p gs wa f instead frs
      (leads_on p gs wa got.leads
      (gives_on p gs wa builtins stand prev top good f n instead frs m sc held R c s fit (held ++ got.zs) got.zs refl has.0 has.4 row.Copy (has.3 ∷ []) (first has.1 m) (v ∷ []) has.6 got.wide
      (ap (λ z. z ∷ []) got.is) refl v (env s held) refl (land_first n s fit.long (held ++ got.zs) held got.zs m (Some v ∷ []) refl c.all)))
      (led p gs wa f instead frs (sims path m at (target_count parts) 0 has.1 has.2 held before behind R c s fit x v is_x at_x is_v has.7)
      (λ a t after y.
      let fit_t = fit_on fit after in
      (jumps p gs wa builtins stand prev top good f n instead frs has.2 m (first q keep) held t (env t hs) has.8 (wide n t fit_t.long held ∙ c.all) (jump_first n t fit_t.long held hs rest keep is_hs at_hs), tt)))

  -- an item of a tuple was asked for, and is taken
  module _ (sc : Scope) (target : Target) (ts : Targets) (sim : PathSim sc target) (sims : ItemsSim sc ts) (path : Path) (m at k i b q : ℕ) (held front back : List Value) (R : ℕ → State → Place) (c : Keep m sc held R) (s : State) (fit : Fit (suc top) n s) (x v : Value)
      (is_x : held ≡ front ++ (x ∷ back)) (at_x : n + length front ≡ at) (is_v : reached path x ≡ Some v) (has : HasItems p gs f n sc (more_targets target ts) k i path at b m q) where
    abbrev Goal : Ending (Unit {0}) → Type 0
    Goal e = F (at_place (place b (env s held)) s.world) held s (stay_at q held) R Any e

    abbrev others : Value → Eval (Unit {0})
    others y = λ u. then_go (take p wa.watch prev sc.covers target (y ∷ []) y u) (λ z. take_parts p wa.watch prev sc.covers k (suc i) ts v)

    abbrev behind_item : Value → Eval Value
    behind_item y = λ u. then_go (wa.watch (Behind (row.Unpack k i)) (y ∷ []) u) (λ a. pure y)

    abbrev asking : Unit {0} → Eval Value
    asking a = λ u. then_go (told p wa.watch prev (unpack k i v u.world) [] u) behind_item

    there_x : get_or (env s held) at None ≡ Some x
    there_x = land_at n s fit.long held front back x at is_x at_x

    taken_on : (y : Value) → item_at (k, i) v ≡ Some y → Goal (others y s)
    taken_on y e =
        seq p gs wa f instead frs
        (subst (λ held_by. F (at_place (place b (env s held)) s.world) held s (stay_at has.0 held) R Any (take p wa.watch prev sc.covers target held_by y s)) (own_inner path (k, i) y)
        (sim (path ++ (k, i) ∷ []) m at m b has.0 held held [] front back R c s fit x y is_x at_x (reached_on path (k, i) x v is_v ∙ ap (then_at Some) e) (sym (append-nil held)) c.all has.1))
        (λ a u after z. sims path m at k (suc i) has.0 q held front back R c u (fit_on fit after) x v is_x at_x is_v has.2)

    asked_on : (o : Option Value) → item_at (k, i) v ≡ o → Goal (then_go (then_go (told p wa.watch prev (unpack k i v s.world) [] s) behind_item) others)
    asked_on None e =
        subst (λ a. Goal (then_go (then_go (told p wa.watch prev a [] s) behind_item) others)) (sym (unpack_is (k, i) v s.world ∙ ap (λ o. if_some bad o give s.world) e))
        (record { sim = bind_none p gs wa builtins stand prev top good f n instead frs m sc held R c s fit target path (k, i) at m b has.0 x there_x (reached_on path (k, i) x v is_v ∙ ap (then_at Some) e) has.1 s.moments })
    asked_on (Some y) e =
        subst (λ a. Goal (then_go (then_go (told p wa.watch prev a [] s) behind_item) others)) (sym (unpack_is (k, i) v s.world ∙ ap (λ o. if_some bad o give s.world) e))
        (subst (λ e. Goal (then_go (then_go e (λ a. pure y)) others)) (sym (wa.quiet (Behind (row.Unpack k i)) refl (y ∷ []) s)) (taken_on y e))

    item_sim_on : Goal (take_parts p wa.watch prev sc.covers k i (more_targets target ts) v s)
    item_sim_on = subst (λ e. Goal (then_go (then_go e asking) others)) (sym (wa.quiet (Before (row.Unpack k i)) refl [] s)) (asked_on (item_at (k, i) v) refl)

  items_sim : (sc : Scope) (t : Target) (ts : Targets) → PathSim sc t → ItemsSim sc ts → ItemsSim sc (more_targets t ts)
  items_sim sc target ts sim sims path m at k i b q held before behind R c s fit x v is_x at_x is_v has =
      item_sim_on sc target ts sim sims path m at k i b q held before behind R c s fit x v is_x at_x is_v has

  -- a target takes the value at a place
  abbrev BindSim : Scope → Target → (ℕ → ℕ → ℕ → ℕ → ℕ → Type 0) → Type 0
  BindSim sc target Bind =
      (m at keep b q : ℕ) (held hs rest before behind : List Value) (R : ℕ → State → Place) → Keep m sc held R → (s : State) → Fit (suc top) n s → (v : Value)
      → held ≡ before ++ (v ∷ behind) → n + length before ≡ at → held ≡ hs ++ rest → n + length hs ≡ keep → Bind at m keep b q
      → F (at_place (place b (env s held)) s.world) held s (stay_at q hs) R Any (bind p wa.watch prev sc.covers target v s)

  plain : (sc : Scope) (target : Target) → PathSim sc target → BindSim sc target (HasBind p gs f n sc target [])
  plain sc target sim m at keep b q held hs rest before behind R c s fit v is_v at_v is_hs at_hs has = sim [] m at keep b q held hs rest before behind R c s fit v v is_v at_v refl is_hs at_hs has

  -- ---- comprehensions

  abbrev ConditionSim : Scope → Condition → (ℕ → ℕ → ℕ → ℕ → Type 0) → Type 0
  ConditionSim sc condition Test =
      (m b so other : ℕ) (held : List Value) (R : ℕ → State → Place) → Keep m sc held R → (s : State) → Fit (suc top) n s → Test b m so other
      → F (at_place (place b (env s held)) s.world) held s (test_place so other held) R Any (keeps p wa.watch prev sc.covers condition s)

  -- what is done with an item
  gather_sim : (sc : Scope) (item : Expr) (target : Target) (condition : Condition) (E : ℕ → ℕ → ℕ → Type 0) (Bind : ℕ → ℕ → ℕ → ℕ → ℕ → Type 0) (Test : ℕ → ℕ → ℕ → ℕ → Type 0) → VSim sc item E → BindSim sc target Bind → ConditionSim sc condition Test
      → (m all turn bound advance : ℕ) (held vs : List Value) (list : Value) (R : ℕ → State → Place) → Keep m sc held R → Keep all sc ((held ++ list ∷ []) ++ vs) R → (t : Ways) → t.norm ≡ advance
      → Bind all (all + 1) all turn bound → GatherAt p gs f n sc E Test m bound all advance
      → (v : Value) (s : State) → Fit (suc top) n s
      → F (at_place (place turn (env s (((held ++ list ∷ []) ++ vs) ++ v ∷ []))) s.world) ((held ++ list ∷ []) ++ vs) s (flow_place t ((held ++ list ∷ []) ++ vs)) R IsOnward
      (gather p wa.watch prev (bind p wa.watch prev sc.covers target) (keeps p wa.watch prev sc.covers condition) (value p wa.watch prev sc.covers item) sc.covers list v s)
  gather_sim sc item target condition E Bind Test sim sim_b sim_c m all turn bound advance held vs list R c c2 t is_norm at_bind has v s fit =
      let W = (held ++ list ∷ []) ++ vs in
      seq p gs wa f instead frs
      (hold p gs wa f instead frs (v ∷ []) (sim_b (all + 1) all all turn bound (W ++ v ∷ []) W (v ∷ []) W [] R (more_held v c2) s fit v refl c2.all refl c2.all at_bind))
      (λ a u after y.
      let fit_u = fit_on fit after in
      seq p gs wa f instead frs (sim_c all bound has.0 advance W R c2 u fit_u has.2)
      (λ wanted u2 after2 y2. ways wanted u2 (fit_on fit_u after2)))
    where
      W : List Value
      W = (held ++ list ∷ []) ++ vs

      onward : (u : State) → Leads p gs wa (at_place (place advance (env u ((held ++ list ∷ []) ++ vs))) u.world) (at_place (flow_place t ((held ++ list ∷ []) ++ vs) Onward u) u.world)
      onward u = same_as p gs wa builtins stand prev top good f n instead frs (place advance (env u ((held ++ list ∷ []) ++ vs))) (place t.norm (env u ((held ++ list ∷ []) ++ vs))) u.world (ap (λ k. place k (env u ((held ++ list ∷ []) ++ vs))) (sym is_norm))

      ways : (wanted : Bool) (u : State) → Fit (suc top) n u → F (at_place (test_place has.0 advance ((held ++ list ∷ []) ++ vs) wanted u) u.world) ((held ++ list ∷ []) ++ vs) u (flow_place t ((held ++ list ∷ []) ++ vs)) R IsOnward
          ((if wanted then (λ u. then_go (value p wa.watch prev sc.covers item u) (λ x u. then_go (operate p wa.watch prev (x ∷ []) sc.covers row.AddItem (list ∷ x ∷ []) u) (λ a u. Done Onward u))) else pure Onward) u)
      ways false u fit_u = here p gs wa f instead frs (onward u) refl
      ways true u fit_u =
          seq p gs wa f instead frs (sim all has.0 has.1 ((held ++ list ∷ []) ++ vs) R c2 u fit_u has.3)
          (λ x u3 after3 y3.
          let fit_3 = fit_on fit_u after3 in
          let With-list = (held ++ list ∷ []) ++ vs in
          let V = With-list ++ x ∷ [] in
          let V_is : V ≡ held ++ (list ∷ (vs ++ x ∷ [])) = append_assoc (held ++ list ∷ []) vs (x ∷ []) ∙ append_assoc held (list ∷ []) (vs ++ x ∷ []) in
          seq p gs wa f instead frs
          (acts p gs wa builtins stand prev top good f n instead frs all sc With-list R c2 u3 fit_3 V (x ∷ []) refl has.1 (all + 1) row.AddItem (m ∷ all ∷ []) (first advance all) (list ∷ x ∷ []) has.4 (omega arith)
          (ap (λ z. z ∷ get_or (env u3 V) all None ∷ []) (land_at n u3 fit_3.long V held (vs ++ x ∷ []) list m V_is c.all) ∙ ap (λ z. Some list ∷ z ∷ []) (land_at n u3 fit_3.long V With-list [] x all refl c2.all))
          (x ∷ []) (stay_at advance With-list) Any (first_go_on all (all + 1) advance all row.AddItem (x ∷ []) [] (omega arith)) (λ wt. omega arith) (λ wt. omega arith)
          (λ r w j. (ap (place advance) (land_first n u3 fit_3.long V With-list (x ∷ []) all (Some r ∷ []) refl c2.all), tt)))
          (λ r u4 after4 y4. here p gs wa f instead frs (onward u4) refl))

  -- the turns of a comprehension
  pub gathers_sim : (sc : Scope) (item : Expr) (target : Target) (condition : Condition) (E : ℕ → ℕ → ℕ → Type 0) (Bind : ℕ → ℕ → ℕ → ℕ → ℕ → Type 0) (Test : ℕ → ℕ → ℕ → ℕ → Type 0) → VSim sc item E → BindSim sc target Bind → ConditionSim sc condition Test
      → (m head whole : ℕ) (held : List Value) (list : Value) (R : ℕ → State → Place) → Keep m sc held R → (walking : Walking)
      → ((next : Value) (s : State) → Fit top n s → F (at_place (place head (env s ((held ++ list ∷ []) ++ walking.over ∷ next ∷ []))) s.world) (held ++ list ∷ []) s (flow_place (gathered whole (m + 1)) (held ++ list ∷ [])) R IsOnward (prev (Gather sc.covers item target condition list (record walking { at = next })) s))
      → GathersAt p gs f n sc walking.step E Bind Test head m whole → (s : State) → Fit (suc top) n s
      → F (at_place (place head (env s ((held ++ list ∷ []) ++ walk_holds walking))) s.world) (held ++ list ∷ []) s (flow_place (gathered whole (m + 1)) (held ++ list ∷ [])) R IsOnward
      (turns p wa.watch prev (gather p wa.watch prev (bind p wa.watch prev sc.covers target) (keeps p wa.watch prev sc.covers condition) (value p wa.watch prev sc.covers item) sc.covers list) (λ rest. prev (Gather sc.covers item target condition list rest)) walking s)
  gathers_sim sc item target condition E Bind Test sim sim_b sim_c m head whole held list R c walking rest has s fit =
      let c1 = more_held list c in
      turns_sim p gs wa builtins stand prev top good f n instead frs (m + 1) sc (held ++ list ∷ []) R c1 (gathered whole (m + 1)) (record { brk = omega arith; cont = omega arith; ret = omega arith })
      (gather p wa.watch prev (bind p wa.watch prev sc.covers target) (keeps p wa.watch prev sc.covers condition) (value p wa.watch prev sc.covers item) sc.covers list) (λ rest. prev (Gather sc.covers item target condition list rest))
      IsOnward IsOnward head has.0 has.2 (λ u. refl) (λ u e. refl) (λ v u e. e) walking has.3
      (λ v u fit_u.
      gather_sim sc item target condition E Bind Test sim sim_b sim_c m (m + 1 + 2) has.0 has.1 has.2 held (walk_holds walking) list R c (catches_more p gs wa (walk_holds walking) (m + 1 + 2) (omega arith) c1)
      (within p gs f n (gathered whole (m + 1)) (record { to = has.2; keep = m + 1 + 2 }) (record { to = whole; keep = m + 1 })) refl has.4 has.5 v u fit_u)
      rest s fit

  comprehension_sim : (sc : Scope) (site : ℕ) (item : Expr) (target : Target) (subject : Subject) (condition : Condition)
      → VSim sc item (HasExpr p gs f n sc item) → BindSim sc target (HasBind p gs f n sc target []) → SubjectSim sc subject (HasSubject p gs f n sc subject) → ConditionSim sc condition (HasCondition p gs f n sc condition)
      → VSim sc (Comprehension site item target subject condition)
      (ComprehensionAt p gs f n sc site (HasSubject p gs f n sc subject) (GathersAt p gs f n sc (step_of subject) (HasExpr p gs f n sc item) (HasBind p gs f n sc target []) (HasCondition p gs f n sc condition)))
  comprehension_sim sc site item target subject condition sim sim_b sim_s sim_c m b q held R c s fit has =
      seq p gs wa f instead frs (leaf_sim p gs wa builtins stand prev top good f n instead frs m sc held R c s fit b has.0 (row.Comprehension site) has.3)
      (λ list t after y.
      let fit_t = fit_on fit after in
      let c1 = more_held list c in
      seq p gs wa f instead frs (hold p gs wa f instead frs (list ∷ []) (sim_s (m + 1) has.0 has.1 (held ++ list ∷ []) R c1 t fit_t has.4))
      (λ walking u after2 steps.
      let fit_u = fit_on fit_t after2 in
      let turns_at = subst (λ k. GathersAt p gs f n sc k (HasExpr p gs f n sc item) (HasBind p gs f n sc target []) (HasCondition p gs f n sc condition) has.1 m has.2) (sym steps) has.5 in
      seq p gs wa f instead frs
      (hold p gs wa f instead frs (list ∷ [])
      (gathers_sim sc item target condition (HasExpr p gs f n sc item) (HasBind p gs f n sc target []) (HasCondition p gs f n sc condition) sim sim_b sim_c m has.1 has.2 held list R c walking
      (λ next v fit_v. good.gather f n instead frs m sc held R has.1 has.2 item target condition list (record walking { at = next }) v turns_at c fit_v)
      turns_at u fit_u))
      (λ flow v after3 is.
      here p gs wa f instead frs
      (leads_on p gs wa
      (same_as p gs wa builtins stand prev top good f n instead frs (flow_place (gathered has.2 (m + 1)) (held ++ list ∷ []) flow v) (place has.2 (env v (held ++ list ∷ []))) v.world (ap (λ w. flow_place (gathered has.2 (m + 1)) (held ++ list ∷ []) w v) is))
      (meets p gs wa builtins stand prev top good f n instead frs m sc held R c v (fit_on fit_u after3) list has.2 q has.6))
      (λ i h. absurd h))))

  -- ---- all expressions

  read_one : (a : Expr) (t : State) → ((i : ℕ) → Reads a i → IsBound t.locals i) → (i : ℕ) → is_local a i ⊎ ⊥ → IsBound t.locals i
  read_one a t reads i (inl h) = reads i (local_reads a i h)
  read_one a t reads i (inr h) = absurd h

  no_sides : (B : Type 0) (sc : Scope) (e : Expr) → SidesSim p gs wa builtins stand prev top good f n instead frs B sc e (λ b m c q. ⊥)
  no_sides B sc e m b c q held R k s fit has D K go = absurd has

  apply_sim : (sc : Scope) (o : RowOp) (es : Exprs) → ValuesSim p gs wa builtins stand prev top good f n instead frs sc es (HasExprs p gs f n sc es) → NegatedSim p gs wa builtins stand prev top good f n instead frs sc es (HasNegated p gs f n sc es)
      → VSim sc (Apply o es) (ApplyAt p gs f n sc o (count es) (HasExprs p gs f n sc es) (HasNegated p gs f n sc es))
  apply_sim sc o es sims negated m b q held R c s fit (inl has) =
      applied_sim p gs wa builtins stand prev top good f n instead frs sc o es (HasExprs p gs f n sc es) sims m b q held R c s fit has
  apply_sim sc o es sims negated m b q held R c s fit (inr (e, has)) =
      subst (λ o. F (at_place (place b (env s held)) s.world) held s (vals q held) R (ReadBy (Apply o es)) (value p wa.watch prev sc.covers (Apply o es) s)) (sym e)
      (not_sim p gs wa builtins stand prev top good f n instead frs sc es (HasNegated p gs f n sc es) negated m b q held R c s fit has)

  apply_tests_sim : (sc : Scope) (o : RowOp) (es : Exprs) → ValuesSim p gs wa builtins stand prev top good f n instead frs sc es (HasExprs p gs f n sc es) → NegatedSim p gs wa builtins stand prev top good f n instead frs sc es (HasNegated p gs f n sc es)
      → TSim sc (Apply o es) (HasTest p gs f n sc (Apply o es))
  apply_tests_sim sc o es sims negated m b so other held R c s fit (inl has) =
      tests_sim p gs wa builtins stand prev top good f n instead frs sc (Apply o es) (ApplyAt p gs f n sc o (count es) (HasExprs p gs f n sc es) (HasNegated p gs f n sc es)) (SidesAt p gs f n sc o (count es) (HasExprs p gs f n sc es))
      (apply_sim sc o es sims negated) (sides_sim p gs wa builtins stand prev top good f n instead frs Bool sc o es (HasExprs p gs f n sc es) sims) m b so other held R c s fit has
  apply_tests_sim sc o es sims negated m b so other held R c s fit (inr (e, has)) =
      subst (λ o. F (at_place (place b (env s held)) s.world) held s (test_place so other held) R (Reading (Apply o es)) (then_go (value p wa.watch prev sc.covers (Apply o es) s) is_so)) (sym e)
      (not_tests_sim p gs wa builtins stand prev top good f n instead frs sc es (HasNegated p gs f n sc es) negated m b so other held R c s fit has)

  mutual
    pub sim_value : (sc : Scope) (e : Expr) → VSim sc e (HasExpr p gs f n sc e)
    sim_value sc (Local i) m b q held R c s fit has = local_sim p gs wa builtins stand prev top good f n instead frs m sc held R c s fit i b q has
    sim_value sc (Constant v) m b q held R c s fit has = constant_sim p gs wa builtins stand prev top good f n instead frs m sc held R c s fit v b q has
    sim_value sc (Apply o es) m b q held R c s fit has = apply_sim sc o es (sim_values sc es) (sim_negated sc es) m b q held R c s fit has
    sim_value sc (And a e) m b q held R c s fit has =
        and_sim p gs wa builtins stand prev top good f n instead frs sc a e (HasExpr p gs f n sc a) (HasExpr p gs f n sc e) (HasSides p gs f n sc a) (sim_value sc a) (sim_sides sc a) (sim_value sc e) m b q held R c s fit has
    sim_value sc (Or a e) m b q held R c s fit has =
        or_sim p gs wa builtins stand prev top good f n instead frs sc a e (HasExpr p gs f n sc a) (HasExpr p gs f n sc e) (HasSides p gs f n sc a) (sim_value sc a) (sim_sides sc a) (sim_value sc e) m b q held R c s fit has
    sim_value sc (Display site pairs) m b q held R c s fit has = display_sim sc site pairs (HasPairs p gs f n sc pairs) (sim_pairs sc pairs) m b q held R c s fit has
    sim_value sc (Comprehension site item target subject condition) m b q held R c s fit has =
        comprehension_sim sc site item target subject condition (sim_value sc item) (plain sc target (sim_path sc target)) (sim_subject sc subject) (sim_condition sc condition) m b q held R c s fit has

    pub sim_values : (sc : Scope) (es : Exprs) → ValuesSim p gs wa builtins stand prev top good f n instead frs sc es (HasExprs p gs f n sc es)
    sim_values sc none m b q held R c s fit has =
        here p gs wa f instead frs
        (same_as p gs wa builtins stand prev top good f n instead frs (place b (env s held)) (place q (env s (held ++ []))) s.world (ap (λ k. place k (env s held)) has ∙ ap (λ l. place q (env s l)) (sym (append-nil held))))
        (refl, λ i h. absurd h)
    sim_values sc (more e es) m b q held R c s fit has = values_sim sc e es (HasExpr p gs f n sc e) (HasExprs p gs f n sc es) (sim_value sc e) (sim_values sc es) m b q held R c s fit has

    sim_sides : (sc : Scope) (e : Expr) → SidesSim p gs wa builtins stand prev top good f n instead frs Value sc e (HasSides p gs f n sc e)
    sim_sides sc (Apply o es) = sides_sim p gs wa builtins stand prev top good f n instead frs Value sc o es (HasExprs p gs f n sc es) (sim_values sc es)
    sim_sides sc (Local i) = no_sides Value sc (Local i)
    sim_sides sc (Constant v) = no_sides Value sc (Constant v)
    sim_sides sc (And a e) = no_sides Value sc (And a e)
    sim_sides sc (Or a e) = no_sides Value sc (Or a e)
    sim_sides sc (Display site pairs) = no_sides Value sc (Display site pairs)
    sim_sides sc (Comprehension site item target subject condition) = no_sides Value sc (Comprehension site item target subject condition)

    pub sim_test : (sc : Scope) (e : Expr) → TSim sc e (HasTest p gs f n sc e)
    sim_test sc (And a e) m b so other held R c s fit has = and_tests_sim p gs wa builtins stand prev top good f n instead frs sc a e (HasTest p gs f n sc a) (HasTest p gs f n sc e) (sim_test sc a) (sim_test sc e) m b so other held R c s fit has
    sim_test sc (Or a e) m b so other held R c s fit has = or_tests_sim p gs wa builtins stand prev top good f n instead frs sc a e (HasTest p gs f n sc a) (HasTest p gs f n sc e) (sim_test sc a) (sim_test sc e) m b so other held R c s fit has
    sim_test sc (Apply o es) m b so other held R c s fit has = apply_tests_sim sc o es (sim_values sc es) (sim_negated sc es) m b so other held R c s fit has
    sim_test sc (Local i) m b so other held R c s fit has =
        tests_sim p gs wa builtins stand prev top good f n instead frs sc (Local i) (LocalAt p gs f n sc i) (λ b m c q. ⊥)
        (λ m b q held R c s fit has. local_sim p gs wa builtins stand prev top good f n instead frs m sc held R c s fit i b q has) (no_sides Bool sc (Local i)) m b so other held R c s fit has
    sim_test sc (Constant v) m b so other held R c s fit has =
        tests_sim p gs wa builtins stand prev top good f n instead frs sc (Constant v) (ConstantAt p gs f n sc v) (λ b m c q. ⊥)
        (λ m b q held R c s fit has. constant_sim p gs wa builtins stand prev top good f n instead frs m sc held R c s fit v b q has) (no_sides Bool sc (Constant v)) m b so other held R c s fit has
    sim_test sc (Display site pairs) m b so other held R c s fit has =
        tests_sim p gs wa builtins stand prev top good f n instead frs sc (Display site pairs) (DisplayAt p gs f n sc site (HasPairs p gs f n sc pairs)) (λ b m c q. ⊥)
        (display_sim sc site pairs (HasPairs p gs f n sc pairs) (sim_pairs sc pairs)) (no_sides Bool sc (Display site pairs)) m b so other held R c s fit has
    sim_test sc (Comprehension site item target subject condition) m b so other held R c s fit has =
        tests_sim p gs wa builtins stand prev top good f n instead frs sc (Comprehension site item target subject condition) (HasExpr p gs f n sc (Comprehension site item target subject condition)) (λ b m c q. ⊥)
        (comprehension_sim sc site item target subject condition (sim_value sc item) (plain sc target (sim_path sc target)) (sim_subject sc subject) (sim_condition sc condition)) (no_sides Bool sc (Comprehension site item target subject condition)) m b so other held R c s fit has

    sim_negated : (sc : Scope) (es : Exprs) → NegatedSim p gs wa builtins stand prev top good f n instead frs sc es (HasNegated p gs f n sc es)
    sim_negated sc none m b so other held R c s fit has = absurd has
    sim_negated sc (more a none) m b so other held R c s fit has =
        (led p gs wa f instead frs (sim_test sc a m b so other held R c s fit has) (λ go t after reads. (stays p gs wa, λ i h. read_one a t reads i h)), not_is wa p prev sc.covers a s)
    sim_negated sc (more a (more e es)) m b so other held R c s fit has = absurd has

    sim_pairs : (sc : Scope) (ps : Pairs) → PairsSim sc ps (HasPairs p gs f n sc ps)
    sim_pairs sc no_pairs m b q held dict R c s fit has =
        here p gs wa f instead frs (same_as p gs wa builtins stand prev top good f n instead frs (place b (env s (held ++ dict ∷ []))) (place q (env s (held ++ dict ∷ []))) s.world (ap (λ k. place k (env s (held ++ dict ∷ []))) has)) tt
    sim_pairs sc (pair key e rest) m b q held dict R c s fit has =
        pair_sim sc key e rest (HasExpr p gs f n sc key) (HasExpr p gs f n sc e) (HasPairs p gs f n sc rest) (sim_value sc key) (sim_value sc e) (sim_pairs sc rest) m b q held dict R c s fit has

    pub sim_subject : (sc : Scope) (subject : Subject) → SubjectSim sc subject (HasSubject p gs f n sc subject)
    sim_subject sc (Over site e) m b q held R c s fit has = over_sim sc site e (HasExpr p gs f n sc e) (sim_value sc e) m b q held R c s fit has
    sim_subject sc (UpTo e) m b q held R c s fit has = up_to_sim sc e (HasExpr p gs f n sc e) (sim_value sc e) m b q held R c s fit has
    sim_subject sc (FromTo a e step) m b q held R c s fit has = from_to_sim sc a e step (HasExpr p gs f n sc a) (HasExpr p gs f n sc e) (sim_value sc a) (sim_value sc e) m b q held R c s fit has

    pub sim_condition : (sc : Scope) (condition : Condition) → ConditionSim sc condition (HasCondition p gs f n sc condition)
    sim_condition sc Always m b so other held R c s fit has =
        here p gs wa f instead frs (same_as p gs wa builtins stand prev top good f n instead frs (place b (env s held)) (place so (env s held)) s.world (ap (λ k. place k (env s held)) has)) tt
    sim_condition sc (Where e) m b so other held R c s fit has = led p gs wa f instead frs (sim_test sc e m b so other held R c s fit has) (λ go t after reads. (stays p gs wa, tt))

    sim_path : (sc : Scope) (target : Target) → PathSim sc target
    sim_path sc (Name i) path m at keep b q held hs rest before behind R c s fit x v is_x at_x is_v is_hs at_hs has = name_sim sc i path m at keep b q held hs rest before behind R c s fit x v is_x at_x is_v is_hs at_hs has
    sim_path sc (Attribute e name) path m at keep b q held hs rest before behind R c s fit x v is_x at_x is_v is_hs at_hs has =
        attribute_sim sc e name (sim_value sc e) path m at keep b q held hs rest before behind R c s fit x v is_x at_x is_v is_hs at_hs has
    sim_path sc (Item a i) path m at keep b q held hs rest before behind R c s fit x v is_x at_x is_v is_hs at_hs has =
        item_sim sc a i (sim_value sc a) (sim_value sc i) path m at keep b q held hs rest before behind R c s fit x v is_x at_x is_v is_hs at_hs has
    sim_path sc (Parts parts) path m at keep b q held hs rest before behind R c s fit x v is_x at_x is_v is_hs at_hs has =
        parts_sim sc parts (sim_items sc parts) path m at keep b q held hs rest before behind R c s fit x v is_x at_x is_v is_hs at_hs has

    sim_items : (sc : Scope) (parts : Targets) → ItemsSim sc parts
    sim_items sc no_targets path m at k i b q held before behind R c s fit x v is_x at_x is_v has =
        here p gs wa f instead frs (same_as p gs wa builtins stand prev top good f n instead frs (place b (env s held)) (place q (env s held)) s.world (ap (λ k. place k (env s held)) has)) tt
    sim_items sc (more_targets t ts) path m at k i b q held before behind R c s fit x v is_x at_x is_v has =
        items_sim sc t ts (sim_path sc t) (sim_items sc ts) path m at k i b q held before behind R c s fit x v is_x at_x is_v has

  pub sim_bind : (sc : Scope) (target : Target) → BindSim sc target (HasBind p gs f n sc target [])
  sim_bind sc target = plain sc target (sim_path sc target)
