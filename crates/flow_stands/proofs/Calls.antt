-- The machine calls a function as the tree does.
use Rattle.std.proofs.Common.{◌≡◌, ℕ, suc, ◌+◌, ◌-◌, ◌<◌, ◌≤◌, ◌⊎◌, inl, inr, Bool, true, false, cond, List, [], ◌∷◌, ◌++◌, length, take, Some, None, Option, refl, sym, ap, ◌∙◌, subst, arith, length-append}
use Rattle.std.specs.Prelude.{map, slice_get, nat_lt, if◌then◌else◌, replicate, unwrap_or}
use Rattle.std.proofs.lemmas.List.{append-nil, length-map, length-replicate}
use Rattle.std.proofs.lemmas.Bool.{ltb-false}
use Rattle.rpy_base.specs.declared.outcome.Outcome.TheVariants as outcome
use Rattle.rpy_tree.specs.Value.{Value, Ref, Nothing}
use Rattle.rpy_meaning.specs.declared.row.RowOp.TheVariants as row
use Rattle.rpy_meaning.specs.Costs.{entry_cost}
use Rattle.rpy_meaning.specs.Tree.{Expr, Target, Condition, Block, Program, Function}
use Rattle.rpy_meaning.specs.World.{World}
use Rattle.rpy_meaning.specs.Evaluation.{State, Ending, Done, Raised, Failed, Running, Wrong, Eval, ◌>>◌, pay, then_go, wrong, values_of, Flow, Next as Onward, Broken, Continued, Returned, parameters, with_value, leaving, result_of}
use Rattle.rpy_meaning.specs.Meaning.{Run, Body, Loop, Turns, Gather, Walking, walk_holds, Entry, over, Sem, called, entered as entering, frame as locals_of}
use Rattle.flow_graph.specs.declared.graph.Exit.TheVariants as exit
use Rattle.flow_graph.specs.declared.graph.Block as graph
use Rattle.flow_graph.specs.declared.graph.Graphs.{Graphs}
use Rattle.flow_meaning.specs.Machine.{bind, Frame, State as Spot, world_of, Calling, At, Returning, Throwing, Goes, Stops, Strays, block_in, jump, taken, begun, given, entered, returns, raises, step}
use Rattle.flow_meaning.specs.Moments.{is_way, is_at, is_behind, stopped}
use Rattle.flow_meaning.specs.Roots.{and_some, waiting_roots, roots}
use Rattle.flow_stands.proofs.Watches.{Counts, Passed, Halted, Watching}
use Rattle.flow_stands.specs.Places.{range, Scope, Ways, first, first_and, Go, Plain, GiveBack, GiveUp, link, act, numbered}
use Rattle.flow_stands.specs.Stands.{head_block, return_block, raise_block, end_block, Is, HasExpr, HasTest, HasBind, HasCondition, HasBlock, WhileAt, ForAt, GathersAt, outside, no_try, HasFunction, IfFunction}
use Rattle.flow_stands.proofs.Worlds.{total, total_append, Weight, Later, same, later_on, Sound, Passes}
use Rattle.flow_stands.proofs.Lists.{Env, pick, named, bound, taken_is, bound_short, named_push, look_named, pick_first, get_at, take_first, total_some}
use Rattle.flow_stands.proofs.Core.{Place, place, env, Fit, Catches, Ends, By, by_on, Leads, leads_on, at_moment, not_at, not_behind, step_by, step_go, step_stops, step_strays, halts_at, enter, jump_to, enter_block, block_point, wrong_run, Sim, Runs, before, same_place}

abbrev pub Any : {A : Type 0} → A → State → Type 0
Any a t = Unit {0}

-- where a statement goes on to, by how it was left
abbrev pub flow_place : Ways → List Value → Flow → State → Place
flow_place t held Onward u = place t.norm (env u held)
flow_place t held Broken u = place t.brk.to (take t.brk.keep (env u held))
flow_place t held Continued u = place t.cont.to (take t.cont.keep (env u held))
flow_place t held (Returned v) u = place t.ret.to (take t.ret.keep (env u held) ++ Some v ∷ [])

pub record Keeps (t : Ways) (m : ℕ) : Type 0 where
  pub brk : t.brk.keep ≤ m
  pub cont : t.cont.keep ≤ m
  pub ret : t.ret.keep ≤ m

-- a comprehension's turns end in one way
abbrev pub gathered : ℕ → ℕ → Ways
gathered whole m = record { norm = whole; brk = record { to = whole; keep = m }; cont = record { to = whole; keep = m }; ret = record { to = whole; keep = m } }

abbrev pub IsOnward : Flow → State → Type 0
IsOnward flow t = flow ≡ Onward

longer : (v : Value) (k : ℕ) (o : Option (List Value)) (vs : List Value) → ((us : List Value) → o ≡ Some us → length us ≡ k) → with_value v o ≡ Some vs → length vs ≡ suc k
longer v k None vs h e = absurd (cc e)
longer v k (Some us) vs h e = let x : (v ∷ us) ≡ vs = cc in let y = h us refl in sym (ap length x) ∙ ap suc y

parameters_length : (defaults : List (Option Value)) (args vs : List Value) → parameters defaults args ≡ Some vs → length vs ≡ length defaults
parameters_length [] [] vs e = let x : [] ≡ vs = cc in ap length (sym x)
parameters_length [] (v ∷ args) vs e = absurd (cc e)
parameters_length (d ∷ defaults) (v ∷ args) vs e = longer v (length defaults) (parameters defaults args) vs (λ us z. parameters_length defaults args us z) e
parameters_length (None ∷ defaults) [] vs e = absurd (cc e)
parameters_length (Some v ∷ defaults) [] vs e = longer v (length defaults) (parameters defaults []) vs (λ us z. parameters_length defaults [] us z) e

module _ (p : Program) (gs : Graphs) (wa : Watching) where
  -- where exceptions leave a function
  abbrev pub leaves_by : ℕ → State → Place
  leaves_by r t = place raise_block (take 0 (env t []) ++ Some (Ref r) ∷ [])

  -- what is asked of the meaning with fewer steps than `top`
  pub record Good (sem : Sem) (top : ℕ) : Type 0 where
    pub body : (f n : ℕ) (instead : Option Value) (frs : List Frame) (b : ℕ) (body : Block) (s : State) → HasBlock p gs f n no_try body b n (outside n) → Fit top n s
        → Runs p gs wa f instead frs (enter p gs wa f instead frs (place b (env s [])) s.world) [] s (flow_place (outside n) []) leaves_by Any (sem (Body body) s)
    pub loop : (f n : ℕ) (instead : Option Value) (frs : List Frame) (m : ℕ) (sc : Scope) (held : List Value) (R : ℕ → State → Place) (b : ℕ) (t : Ways) (e : Expr) (body : Block) (s : State)
        → WhileAt p gs f n sc (HasTest p gs f n sc e) (HasBlock p gs f n sc body) b m t → Catches p gs wa n m sc held R → Keeps t m → Fit top n s
        → Runs p gs wa f instead frs (enter p gs wa f instead frs (place b (env s held)) s.world) held s (flow_place t held) R Any (sem (Loop sc.covers e body) s)
    pub turns : (f n : ℕ) (instead : Option Value) (frs : List Frame) (m : ℕ) (sc : Scope) (held : List Value) (R : ℕ → State → Place) (b : ℕ) (t : Ways) (target : Target) (body : Block) (walking : Walking) (s : State)
        → ForAt p gs f n sc walking.step (HasBind p gs f n sc target []) (HasBlock p gs f n sc body) b m t → Catches p gs wa n m sc held R → Keeps t m → Fit top n s
        → Runs p gs wa f instead frs (enter p gs wa f instead frs (place b (env s (held ++ walk_holds walking))) s.world) held s (flow_place t held) R Any (sem (Turns sc.covers target body walking) s)
    pub gather : (f n : ℕ) (instead : Option Value) (frs : List Frame) (m : ℕ) (sc : Scope) (held : List Value) (R : ℕ → State → Place) (b whole : ℕ) (item : Expr) (target : Target) (condition : Condition) (list : Value) (walking : Walking) (s : State)
        → GathersAt p gs f n sc walking.step (HasExpr p gs f n sc item) (HasBind p gs f n sc target []) (HasCondition p gs f n sc condition) b m whole → Catches p gs wa n m sc held R → Fit top n s
        → Runs p gs wa f instead frs (enter p gs wa f instead frs (place b (env s ((held ++ list ∷ []) ++ walk_holds walking))) s.world) (held ++ list ∷ []) s (flow_place (gathered whole (m + 1)) (held ++ list ∷ [])) R IsOnward (sem (Gather sc.covers item target condition list walking) s)

  -- the function g runs, and these wait
  module _ (frames : List Frame) (g : ℕ) (other : Option Value) where
    abbrev go_in : Place → World → Run → ℕ → Type 0
    go_in = enter p gs wa g other frames

    module _ (n : ℕ) (is_return : Is p gs g n return_block 1 GiveBack) (is_raise : Is p gs g n raise_block 1 GiveUp) (is_end : Is p gs g n end_block n (Plain row.None (first_and return_block 0 n))) where
      pub returns_value : (v : Value) (w : World) → Leads p gs wa (go_in (place return_block (Some v ∷ [])) w) (Ends p gs wa (Returning (unwrap_or other v) frames w))
      returns_value v w =
          let base = is_return.0 in
          leads_on p gs wa (enter_block p gs wa g other frames return_block 1 base is_return.1 is_return.2 GiveBack (Some v ∷ []) w is_return.3 refl)
          (step_go p gs wa (At g [] (exit.Return (base + 0)) (named base (Some v ∷ [])) other frames w) (Returning (unwrap_or other v) frames w) (refl, refl) (ap (returns other frames w) (look_named base 0 (Some v ∷ []))))

      pub raises_value : (r : ℕ) (w : World) → Leads p gs wa (go_in (place raise_block (Some (Ref r) ∷ [])) w) (Ends p gs wa (Throwing r frames w))
      raises_value r w =
          let base = is_raise.0 in
          leads_on p gs wa (enter_block p gs wa g other frames raise_block 1 base is_raise.1 is_raise.2 GiveUp (Some (Ref r) ∷ []) w is_raise.3 refl)
          (step_go p gs wa (At g [] (exit.Raise (base + 0)) (named base (Some (Ref r) ∷ [])) other frames w) (Throwing r frames w) (refl, refl) (ap (raises frames w) (look_named base 0 (Some (Ref r) ∷ []))))

      ends_none : (e : Env) (w : World) → length e ≡ n → Leads p gs wa (go_in (place end_block e) w) (Ends p gs wa (Returning (unwrap_or other Nothing) frames w))
      ends_none e w len =
          let base = is_end.0 in
          let j = first_and return_block 0 n in
          let o = act base n is_end.1 is_end.2 row.None [] _ in
          let at1 = At g (o ∷ []) (exit.Goto (link base j)) (named base e) other frames w in
          let at2 = At g [] (exit.Goto (link base j)) (named base e ++ bind (base + n) (Some Nothing) ∷ []) other frames w in
          let pushed : named base e ++ bind (base + n) (Some Nothing) ∷ [] ≡ named base (e ++ Some Nothing ∷ []) = ap (λ k. named base e ++ bind (base + k) (Some Nothing) ∷ []) (sym len) ∙ sym (named_push base e (Some Nothing)) in
          leads_on p gs wa (enter_block p gs wa g other frames end_block n base is_end.1 is_end.2 (Plain row.None j) e w is_end.3 len)
          (leads_on p gs wa (step_go p gs wa at1 at2 (refl, refl) refl)
          (leads_on p gs wa (jump_to p gs wa g other frames at2 base (e ++ Some Nothing ∷ []) j w (refl, refl) (ap (λ c. jump gs g frames w other c (link base j)) pushed))
          (leads_on p gs wa (same_place p gs wa g other frames _ (place return_block (Some Nothing ∷ [])) w (ap (λ v. place return_block (v ∷ [])) (get_at n e (Some Nothing) [] len)))
          (returns_value Nothing w))))

      pub left_at : (flow : Flow) (t : State) → length t.locals ≡ n → Leads p gs wa (go_in (flow_place (outside n) [] flow t) t.world) (Ends p gs wa (Returning (unwrap_or other (result_of flow)) frames t.world))
      left_at Onward t len = ends_none (env t []) t.world (ap length (append-nil t.locals) ∙ len)
      left_at Broken t len =
          leads_on p gs wa (same_place p gs wa g other frames (place end_block (take n (env t []))) (place end_block t.locals) t.world (ap (place end_block) (take_first n t.locals [] len)))
          (ends_none t.locals t.world len)
      left_at Continued t len =
          leads_on p gs wa (same_place p gs wa g other frames (place end_block (take n (env t []))) (place end_block t.locals) t.world (ap (place end_block) (take_first n t.locals [] len)))
          (ends_none t.locals t.world len)
      left_at (Returned v) t len = returns_value v t.world

  -- The function g is called, is entered, runs and is left. Q says of an ending what is asked.
  module _ (frames : List Frame) (g : ℕ) (args : List Value) (other : Option Value) (s0 : State) (prev : Sem) (top : ℕ) (good : Good prev top) (Q : World → ℕ → (Run → ℕ → Type 0) → Ending Value → Type 0)
      (wrong_so : (at : Spot) (w : World) (j : ℕ) → Ends p gs wa at (wrong_run p gs wa) j → Q w j (Ends p gs wa at) Wrong)
      (stops_so : (at : Spot) (w : World) (j k : ℕ) → roots at ≡ roots (Calling g args other frames w) → Ends p gs wa at (over (Some outcome.Running) (roots at) (record s0 { world = w })) j → Q w j (Ends p gs wa at) (Running args (record s0 { world = w; moments = k })))
      (leaves_so : (at : Spot) (w : World) (j : ℕ) (s1 : State) (n : ℕ) (is_return : Is p gs g n return_block 1 GiveBack) (is_raise : Is p gs g n raise_block 1 GiveUp) (is_end : Is p gs g n end_block n (Plain row.None (first_and return_block 0 n))) (e : Ending Flow) → Later w s1.world → length s1.locals ≡ n → s1.moments ≡ j
      → Sim p gs wa g other frames (Ends p gs wa at) [] s1 (flow_place (outside n) []) leaves_by Any e → Q w j (Ends p gs wa at) (leaving s0.locals args other e)) where
    abbrev inside_of : Place → World → Run → ℕ → Type 0
    inside_of = enter p gs wa g other frames

    abbrev spent : World → World
    spent w = record w { left = w.left - 1 }

    abbrev inside : Function → List Value → World → ℕ → State
    inside fn us w k = record s0 { world = w; locals = locals_of p wa.watch prev fn us; moments = k }

    begins_to : (at : Spot) (fn : Function) (us : List Value) (w : World) (j k : ℕ) (b : graph.Block) → Counts wa.stops (is_at p gs at) j k → is_behind p at ≡ false → step p gs at ≡ Goes (At g b.ops b.exit (taken b.inputs us) other frames w) → block_in (slice_get gs.graphs g) 0 ≡ Some b
        → By p gs wa j k (Ends p gs wa at) (inside_of (place head_block (env (inside fn us w 0) [])) w)
    begins_to at fn us w j k b counts behind e is =
        let ls = map Some us ++ replicate (fn.locals - length us) None in
        let same : taken b.inputs us ≡ bound b.inputs (ls ++ []) = taken_is b.inputs us ∙ sym (bound_short b.inputs (map Some us) (fn.locals - length us)) ∙ ap (bound b.inputs) (sym (append-nil ls)) in
        record {
          by = λ q r.
              (step_by p gs wa at (At g b.ops b.exit (taken b.inputs us) other frames w) j k k e counts (not_behind p gs wa at k behind)).by q
              (subst (λ c. Ends p gs wa (At g b.ops b.exit c other frames w) q k) (sym same)
              (subst (λ ob. block_point p gs wa g other frames ob (ls ++ []) w q k) is r));
        }

    runs_body : (at : Spot) (fn : Function) (us : List Value) (w : World) (j k : ℕ) → Counts wa.stops true j k → is_at p gs at ≡ true → is_behind p at ≡ false → HasFunction p gs g fn → length us ≤ fn.locals → 1 ≤ w.left → w.left < suc top → Sound w.heap
        → step p gs at ≡ begun g us other frames (spent w) (block_in (slice_get gs.graphs g) 0)
        → Q w j (Ends p gs wa at) (leaving s0.locals args other (prev (Body fn.body) (inside fn us (spent w) k)))
    runs_body at fn us w j k counts here behind has le some low sound e =
        let n = fn.locals in
        let is_head = has.2 in
        let s1 = inside fn us (spent w) k in
        let s2 = inside fn us (spent w) j in
        let b = numbered is_head.0 n is_head.1 is_head.2 (Go (first has.0 n)) in
        let long : length s1.locals ≡ n = omega (arith, length-append (map Some us) (replicate (n - length us) None), length-map us Some, length-replicate {A = Option Value} (n - length us) None, le) in
        let wide : length (env s1 []) ≡ n = ap length (append-nil s1.locals) ∙ long in
        let l1 = begins_to at fn us (spent w) j k b (subst (λ b. Counts wa.stops b j k) (sym here) counts) behind (e ∙ ap (begun g us other frames (spent w)) is_head.3) is_head.3 in
        let l2 = enter_block p gs wa g other frames head_block n is_head.0 is_head.1 is_head.2 (Go (first has.0 n)) (env s1 []) (spent w) is_head.3 wide in
        let l3 = jump_to p gs wa g other frames (At g [] b.exit (named is_head.0 (env s1 [])) other frames (spent w)) is_head.0 (env s1 []) (first has.0 n) (spent w) (refl, refl) refl in
        let pf : pick (env s1 []) (range 0 n) ≡ env s1 [] = pick_first n s1.locals [] long ∙ sym (append-nil s1.locals) in
        let l4 = same_place p gs wa g other frames (place has.0 (pick (env s1 []) (range 0 n))) (place has.0 (env s1 [])) (spent w) (ap (place has.0) pf) in
        let fit : Fit top n s1 = record { low = omega (arith, some, low); long = long; sound = sound } in
        let r = before p gs wa g other frames (by_on p gs wa l1 (at_moment p gs wa k (leads_on p gs wa l2 (leads_on p gs wa l3 l4)))) (record { later = same (spent w); long = refl; bound = λ i x. x }) (good.body g n other frames has.0 fn.body s1 has.7 fit) in
        let later : Later w (spent w) = record { left = omega arith; kinds = λ r c e. e } in
        leaves_so at w j s2 n has.3 has.4 has.6 (prev (Body fn.body) s1) later long refl r.sim

    -- the entry is paid
    abbrev paid_by : Bool → Function → List Value → World → ℕ → Ending Value
    paid_by b fn us w k =
        then_go (if b then Running args (record s0 { world = w; moments = k }) else Done tt (record s0 { world = spent w; moments = k })) (λ (u : Unit {0}) s. leaving s.locals args other (prev (Body fn.body) (record s { locals = locals_of p wa.watch prev fn us })))

    pays_sim : (at : Spot) (fn : Function) (us : List Value) (w : World) (j k : ℕ) (b : Bool) → Counts wa.stops true j k → is_at p gs at ≡ true → is_behind p at ≡ false → HasFunction p gs g fn → length us ≤ fn.locals → w.left < suc top → Sound w.heap → nat_lt w.left 1 ≡ b
        → roots at ≡ roots (Calling g args other frames w)
        → step p gs at ≡ cond b (Stops w) (begun g us other frames (spent w) (block_in (slice_get gs.graphs g) 0))
        → Q w j (Ends p gs wa at) (paid_by b fn us w k)
    pays_sim at fn us w j k true counts here behind has le low sound z rs e = stops_so at w j k rs (step_stops p gs wa at w j k (subst (λ b. Counts wa.stops b j k) (sym here) counts) e)
    pays_sim at fn us w j k false counts here behind has le low sound z rs e = runs_body at fn us w j k counts here behind has le (ltb-false w.left 1 z) low sound e

    -- before it, where the run may be stopped
    abbrev paying : Function → List Value → Unit {0} → Eval Value
    paying fn us a = pay entry_cost args >> (λ s. leaving s.locals args other (prev (Body fn.body) (record s { locals = locals_of p wa.watch prev fn us })))

    -- an entry that can be paid, or is not
    is_entered : (us : List Value) (w : World) (b : Bool) (block : graph.Block) → is_way (cond b (Stops w) (begun g us other frames (spent w) (Some block))) ≡ true
    is_entered us w true block = refl
    is_entered us w false block = refl

    given_sim : (at : Spot) (fn : Function) (w : World) (j : ℕ) (o : Option (List Value)) → parameters fn.defaults args ≡ o → HasFunction p gs g fn → w.left < suc top → Sound w.heap
        → roots at ≡ roots (Calling g args other frames w) → world_of at ≡ w → is_at p gs at ≡ is_way (step p gs at) → is_behind p at ≡ false
        → step p gs at ≡ given gs g other frames w o
        → Q w j (Ends p gs wa at) (entering p wa.watch prev fn args other o (record s0 { world = w; moments = j }))
    given_sim at fn w j None z has low sound rs ws here behind e = wrong_so at w j (step_strays p gs wa at j j (not_at p gs wa at j (here ∙ ap is_way e)) e)
    given_sim at fn w j (Some us) z has low sound rs ws here behind e = by (wa.either Entry args (record s0 { world = w; moments = j }))
      where
        le : length us ≤ fn.locals
        le = let long = parameters_length fn.defaults args us z in let few = has.1 in omega (arith, long, few)

        at_it : is_at p gs at ≡ true
        at_it =
            let is_head = has.2 in
            here ∙ ap is_way (e ∙ ap (λ ob. cond (nat_lt w.left 1) (Stops w) (begun g us other frames (spent w) ob)) is_head.3) ∙ is_entered us w (nat_lt w.left 1) (numbered is_head.0 fn.locals is_head.1 is_head.2 (Go (first has.0 fn.locals)))

        by : Passed wa.stops wa.watch Entry args (record s0 { world = w; moments = j }) ⊎ Halted wa.stops wa.watch Entry args (record s0 { world = w; moments = j })
            → Q w j (Ends p gs wa at) (entering p wa.watch prev fn args other (Some us) (record s0 { world = w; moments = j }))
        by (inl (k, counts, same)) =
            subst (λ x. Q w j (Ends p gs wa at) (then_go x (paying fn us))) (sym same)
            (pays_sim at fn us w j k (nat_lt w.left 1) counts at_it behind has le low sound refl rs e)
        by (inr (on, one, last, same)) =
            subst (λ x. Q w j (Ends p gs wa at) (then_go x (paying fn us))) (sym same)
            (stops_so at w j j rs
            (subst (λ u. Ends p gs wa at (over (Some outcome.Running) (roots at) (record s0 { world = u })) j) ws
            (subst (λ c. Ends p gs wa at (stopped at) c) (sym last) (halts_at p gs wa at on at_it))))

    takes_sim : (at : Spot) (fn : Function) (w : World) (j : ℕ) (b : Bool) → HasFunction p gs g fn → w.left < suc top → Sound w.heap
        → roots at ≡ roots (Calling g args other frames w) → world_of at ≡ w → is_at p gs at ≡ is_way (step p gs at) → is_behind p at ≡ false
        → step p gs at ≡ cond b Strays (given gs g other frames w (parameters fn.defaults args))
        → Q w j (Ends p gs wa at) ((if b then wrong else entering p wa.watch prev fn args other (parameters fn.defaults args)) (record s0 { world = w; moments = j }))
    takes_sim at fn w j true has low sound rs ws here behind e = wrong_so at w j (step_strays p gs wa at j j (not_at p gs wa at j (here ∙ ap is_way e)) e)
    takes_sim at fn w j false has low sound rs ws here behind e = given_sim at fn w j (parameters fn.defaults args) refl has low sound rs ws here behind e

    pub called_any : (at : Spot) (w : World) (j : ℕ) (of : Option Function) → IfFunction p gs g of → w.left < suc top → Sound w.heap
        → roots at ≡ roots (Calling g args other frames w) → world_of at ≡ w → is_at p gs at ≡ is_way (step p gs at) → is_behind p at ≡ false
        → step p gs at ≡ entered gs g args other frames w of
        → Q w j (Ends p gs wa at) (called p wa.watch prev of args other (record s0 { world = w; moments = j }))
    called_any at w j None has low sound rs ws here behind e = wrong_so at w j (step_strays p gs wa at j j (not_at p gs wa at j (here ∙ ap is_way e)) e)
    called_any at w j (Some fn) has low sound rs ws here behind e = takes_sim at fn w j fn.takes_more has low sound rs ws here behind e

  -- the function g was called: who waits goes on with what D and R say, and what is behind the call is watched first
  module _ (f : ℕ) (instead : Option Value) (frs : List Frame) (frame : Frame) (held vs : List Value) (s0 : State) (D : Value → State → Place) (R : ℕ → State → Place) (X : Value → State → Type 0) (behind : Value → Eval Value)
      (given_back : (v : Value) (w : World) (k : ℕ) → Runs p gs wa f instead frs (Ends p gs wa (Returning v (frame ∷ frs) w)) held (record s0 { world = w; moments = k }) D R X (behind v (record s0 { world = w; moments = k })))
      (thrown_back : (r : ℕ) (w : World) (k : ℕ) → By p gs wa k k (Ends p gs wa (Throwing r (frame ∷ frs) w)) (enter p gs wa f instead frs (R r (record s0 { world = w; moments = k })) w))
      (used : (wt : Weight) → total wt.of (waiting_roots (frame ∷ frs)) ≤ total wt.of (values_of s0.locals) + total wt.of held + total wt.of vs + total wt.of (and_some instead (waiting_roots frs))) where
    module _ (g : ℕ) (args : List Value) (other : Option Value) (passes : Passes vs args other) where
      used_all : (wt : Weight) → total wt.of (and_some other (waiting_roots (frame ∷ frs))) ≤ total wt.of args + total wt.of (values_of s0.locals) + total wt.of held + total wt.of (and_some instead (waiting_roots frs))
      used_all wt = omega (arith, total_some wt.of other (waiting_roots (frame ∷ frs)), used wt, passes wt)

      module _ (n : ℕ) (is_return : Is p gs g n return_block 1 GiveBack) (is_raise : Is p gs g n raise_block 1 GiveUp) (is_end : Is p gs g n end_block n (Plain row.None (first_and return_block 0 n))) where
        -- the body was left
        leaves_sim : (P : Run → ℕ → Type 0) (w : World) (j : ℕ) (s1 : State) (e : Ending Flow) → Later w s1.world → length s1.locals ≡ n → s1.moments ≡ j → Sim p gs wa g other (frame ∷ frs) P [] s1 (flow_place (outside n) []) leaves_by Any e
            → Runs p gs wa f instead frs P held (record s0 { world = w; moments = j }) D R X (then_go (leaving s0.locals args other e) behind)
        leaves_sim P w j s1 (Done flow t) later long same_j r =
            before p gs wa f instead frs
            (by_on p gs wa (subst (λ k. By p gs wa k t.moments P (enter p gs wa g other (frame ∷ frs) (flow_place (outside n) [] flow t) t.world)) same_j r.leads)
            (at_moment p gs wa t.moments (left_at (frame ∷ frs) g other n is_return is_raise is_end flow t (r.after.long ∙ long))))
            (record { later = later_on later r.after.later; long = refl; bound = λ i b. b })
            (given_back (unwrap_or other (result_of flow)) t.world t.moments)
        leaves_sim P w j s1 (Raised x t) later long same_j r =
            record {
              sim = record {
                leads =
                    by_on p gs wa (subst (λ k. By p gs wa k t.moments P (enter p gs wa g other (frame ∷ frs) (leaves_by x t) t.world)) same_j r.leads)
                    (by_on p gs wa (at_moment p gs wa t.moments (raises_value (frame ∷ frs) g other n is_return is_raise is_end x t.world)) (thrown_back x t.world t.moments));
                after = record { later = later_on later r.after.later; long = refl; bound = λ i b. b };
                post = r.post;
              };
            }
        leaves_sim P w j s1 (Failed name t) later long same_j r = record { sim = subst (λ k. P (over (Some (outcome.Failed name)) [] t) k) same_j r }
        leaves_sim P w j s1 (Running rs t) later long same_j r =
            record {
              sim = record {
                used = r.used;
                ends = subst (λ k. P (over (Some outcome.Running) r.used t) k) same_j r.ends;
                more = λ wt. omega (arith, r.more wt, used_all wt, total_append wt.of (rs ++ values_of t.locals) args, total_append wt.of rs (values_of t.locals));
              };
            }
        leaves_sim P w j s1 Wrong later long same_j r = record { sim = subst (λ k. P (wrong_run p gs wa) k) same_j r }

      pub called_sim : (prev : Sem) (top : ℕ) (good : Good prev top) (at : Spot) (w : World) (j : ℕ) (of : Option Function) → IfFunction p gs g of → w.left < suc top → Sound w.heap
          → roots at ≡ and_some other (waiting_roots (frame ∷ frs)) → world_of at ≡ w → is_at p gs at ≡ is_way (step p gs at) → is_behind p at ≡ false
          → step p gs at ≡ entered gs g args other (frame ∷ frs) w of
          → Runs p gs wa f instead frs (Ends p gs wa at) held (record s0 { world = w; moments = j }) D R X (then_go (called p wa.watch prev of args other (record s0 { world = w; moments = j })) behind)
      called_sim prev top good at w j of has low sound rs ws here behind_not e =
          called_any (frame ∷ frs) g args other s0 prev top good (λ w j P e. Runs p gs wa f instead frs P held (record s0 { world = w; moments = j }) D R X (then_go e behind))
          (λ at w j x. record { sim = x })
          (λ at w j k same x. record { sim = record { used = roots at; ends = x; more = λ wt. let z = ap (total wt.of) same in omega (arith, z, used_all wt) } })
          (λ at w j s1 n is_return is_raise is_end e later long same_j x. leaves_sim n is_return is_raise is_end (Ends p gs wa at) w j s1 e later long same_j x)
          at w j of has low sound rs ws here behind_not e
