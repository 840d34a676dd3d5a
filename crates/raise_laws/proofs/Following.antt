-- Whole ways of a call of a graph that raises.
use Rattle.std.proofs.Common.{◌≡◌, ◌≤◌, ◌⊎◌, inl, inr, ℕ, zero, suc, ◌+◌, ◌-◌, Bool, ◌&&◌, ◌||◌, List, [], ◌∷◌, ◌++◌, Option, Some, None, ℤ, refl, sym, ap, ◌∙◌, subst, arith, append_assoc}
use Rattle.std.specs.Prelude.{slice_get, cond, not}
use Rattle.std.proofs.lemmas.List.{append-nil}
use Rattle.rpy_base.specs.declared.outcome.Outcome.{Outcome}
use Rattle.rpy_base.specs.declared.outcome.Outcome.TheVariants.{Failed, Returned, Running}
use Rattle.rpy_base.specs.declared.outcome.FailName.{FailName}
use Rattle.csub_tree.specs.declared.stuck.StuckReason.{StuckReason}
use Rattle.csub_tree.specs.State.{Value, Core, Event, Over}
use Rattle.csub_tree.specs.Operation.{word_of}
use Rattle.csub_tree.specs.Statement as st
use Rattle.csub_tree.specs.Statement.{fail_name_of}
use Rattle.ll_code.specs.State.{Frame, State, Calling, At, Returning, Throwing, Next, Goes, Puts, Tells, Ends, Sticks}
use Rattle.ll_code.specs.Machine.{step, goes_on, block_in, resumed}
use Rattle.ll_code.specs.declared.program.LlOp.{LlOp}
use Rattle.ll_code.specs.declared.program.LlOp.TheVariants as op
use Rattle.ll_code.specs.declared.program.LlExit.{LlExit}
use Rattle.ll_code.specs.declared.program.LlExit.TheVariants as exit
use Rattle.ll_code.specs.declared.program.LlBlock.{LlBlock}
use Rattle.ll_code.specs.declared.program.LlGraph.{LlGraph}
use Rattle.ll_code.specs.declared.program.LlProgram.{LlProgram}
use Rattle.ll_live.specs.Live.{among, live, reads, sets, set_by}
use Rattle.ll_held.specs.Roots.{kept, operation_in, under_way, read_by, waits_for, waiting_roots, slots, roots, core_of}
use Rattle.ll_leads.specs.Lifted.{over, next_over}
use Rattle.ll_leads.specs.Path.{Path, Stay, Go, Put, Tell, Leads, stored, total}
use Rattle.ll_leads.proofs.Joined.{leads_then, leads_more}
use Rattle.ll_leads.proofs.Lifting.{entered_over, leaves_over, operates_over, caught_over, lifted, lifted_total}
use Rattle.rpy_meaning.specs.declared.row.Covers.{Covers}
use Rattle.rtyper_raising.specs.Raising.{raising_blocks}
use Rattle.lower_laws.proofs.Small.{flown}
use Rattle.raise_laws.specs.Raising.{CallsLack, CallsRaise, CallsReturn, IsRaising, Lacks, LeadsPlainly, RaisedOr, class_named, with_graph}
use Rattle.raise_laws.proofs.Apart.{AllWait, IsApart, same_graph}
use Rattle.raise_laws.proofs.Blocks.{Behind, Nothing, Throws, blocks_end}
use Rattle.raise_laws.proofs.Stepping.{AtFailure, Back, Begins, Here, Inner, NextStands, Out, Stands, block_there, class_is, plain_there, step_stands}

-- ---- what waits below

ends_over : (frames : List Frame) (p : LlProgram) (args : List (List ℕ)) (x : State) (outcome : Outcome) (core : Core) → ((n : ℤ) → outcome ≡ Returned n → ⊥) → step p args x ≡ Ends outcome core → step p args (over frames x) ≡ Ends outcome core
ends_over frames p args (Calling g values below core2) outcome core other h = entered_over frames p args g values below core2 (slice_get p.graphs g) ∙ ap (next_over frames) h
ends_over frames p args (At [] e below core2) outcome core other h = leaves_over frames p args e below core2 ∙ ap (next_over frames) h
ends_over frames p args (At (o ∷ ops) e below core2) outcome core other h = operates_over frames p args o ops e below core2 ∙ ap (next_over frames) h
ends_over frames p args (Returning value (inner ∷ below) core2) outcome core other h = absurd (cc)
ends_over frames p args (Throwing value (inner ∷ below) core2) outcome core other h = caught_over frames p args value inner.ops inner.exit below (resumed inner core2) ∙ ap (next_over frames) h
ends_over frames p args (Throwing value [] core2) outcome core other h = absurd (cc)
ends_over frames p args (Returning value [] core2) outcome core other h = absurd (by (word_of value) h)
  where
    by : (o : Option ℤ) → goes_on (Returning value []) (st.on (λ n. Over (Returned n) (record core2 { vars = [] })) o) ≡ Ends outcome core → ⊥
    by None k = absurd (cc)
    by (Some n) k = (let q : Returned n ≡ outcome = cc in other n (sym q))

waiting_more : (p : LlProgram) (frames below : List Frame) → waiting_roots p (frames ++ below) ≡ waiting_roots p frames ++ waiting_roots p below
waiting_more p [] below = refl
waiting_more p (frame ∷ frames) below = ap (λ vs. kept (waits_for p frame) 0 frame.vars ++ vs) (waiting_more p frames below) ∙ sym (append_assoc (kept (waits_for p frame) 0 frame.vars) (waiting_roots p frames) (waiting_roots p below))

own_more : (p : LlProgram) (frames below : List Frame) (own : List Value) → own ++ waiting_roots p (frames ++ below) ≡ (own ++ waiting_roots p frames) ++ waiting_roots p below
own_more p frames below own = ap (λ vs. own ++ vs) (waiting_more p frames below) ∙ sym (append_assoc own (waiting_roots p frames) (waiting_roots p below))

roots_more : (p : LlProgram) (below : List Frame) (x : State) → roots p (over below x) ≡ roots p x ++ waiting_roots p below
roots_more p below (Calling g values frames core) = own_more p frames below (values ++ slots core)
roots_more p below (At ops e frames core) = own_more p frames below (kept (live ops e) 0 core.vars ++ slots core)
roots_more p below (Returning value frames core) = own_more p frames below (value ∷ slots core)
roots_more p below (Throwing value frames core) = own_more p frames below (value ∷ slots core)

core_over : (frames : List Frame) (s : State) → core_of (over frames s) ≡ core_of s
core_over frames (Calling g values below core) = refl
core_over frames (At ops e below core) = refl
core_over frames (Returning value below core) = refl
core_over frames (Throwing value below core) = refl

name_of : (number : ℕ) (core : Core) (name : FailName) (end : Core) (o : Option FailName) → goes_on (At [] (exit.Fail number) []) (st.fail core o) ≡ Ends (Failed name) end → o ≡ Some name
name_of number core name end None h = absurd (cc)
name_of number core name end (Some other) h = cc

not_run : (number : ℕ) (core end : Core) (o : Option FailName) → goes_on (At [] (exit.Fail number) []) (st.fail core o) ≡ Ends Running end → ⊥
not_run number core end None h = absurd (cc)
not_run number core end (Some other) h = absurd (cc)

kept_same : (a b : ℕ → Bool) → ((v : ℕ) → a v ≡ b v) → (n : ℕ) (values : List Value) → kept a n values ≡ kept b n values
kept_same a b h n [] = refl
kept_same a b h n (x ∷ values) = ap (λ c. cond c (x ∷ kept a (suc n) values) (kept a (suc n) values)) (h n) ∙ ap (λ vs. cond (b n) (x ∷ vs) vs) (kept_same a b h (suc n) values)

module _ (p : LlProgram) (raised : ℕ → Value) (covers : Covers) (f : ℕ) (graph : LlGraph) (r : IsRaising p raised covers f graph) (args : List (List ℕ)) (start : Core) where
  abbrev Q : LlProgram
  Q = with_graph p f graph

  abbrev Both : State → State → Type 0
  Both = Stands p raised covers f graph r args start

  -- ---- roots

  live_same : (ops extra : List LlOp) (e : LlExit) (v : ℕ) → Behind p raised covers e extra → live (ops ++ extra) e v ≡ live ops e v
  live_same [] extra e v (Nothing h) = refl
  live_same [] extra e v (Throws n class h raises) = refl
  live_same (o ∷ ops) extra e v behind = ap (λ b. among v (reads o) || (not (sets (set_by o) v) && b)) (live_same ops extra e v behind)

  read_same : (ops extra : List LlOp) (e : LlExit) (k v : ℕ) → Behind p raised covers e extra → read_by (slice_get (ops ++ extra) k) v ≡ read_by (slice_get ops k) v
  read_same [] extra e k v (Nothing h) = refl
  read_same [] extra e zero v (Throws n class h raises) = refl
  read_same [] extra e (suc k) v (Throws n class h raises) = refl
  read_same (o ∷ ops) extra e zero v behind = refl
  read_same (o ∷ ops) extra e (suc k) v behind = read_same ops extra e k v behind

  apart_waits : (frames : List Frame) → AllWait p f frames → (more other : List Value) → more ≡ other → waiting_roots p frames ++ more ≡ waiting_roots Q frames ++ other
  apart_waits [] apart more other h = h
  apart_waits (frame ∷ frames) apart more other h =
      ap (λ vs. (kept (waits_for p frame) 0 frame.vars ++ waiting_roots p frames) ++ vs) h
      ∙ ap (λ vs. (vs ++ waiting_roots p frames) ++ other) (kept_same (waits_for p frame) (waits_for Q frame) same 0 frame.vars)
      ∙ append_assoc (kept (waits_for Q frame) 0 frame.vars) (waiting_roots p frames) other
      ∙ ap (λ vs. kept (waits_for Q frame) 0 frame.vars ++ vs) (apart_waits frames apart.3 other other refl)
      ∙ sym (append_assoc (kept (waits_for Q frame) 0 frame.vars) (waiting_roots Q frames) other)
    where
      same : (v : ℕ) → waits_for p frame v ≡ waits_for Q frame v
      same v = ap (λ o. read_by (operation_in (block_in o frame.block) (frame.at - 1)) v || (not (sets frame.into v) && live frame.ops frame.exit v)) (sym (same_graph p f args graph frame.graph apart.0))

  top_waits : (frame : Frame) (extra : List LlOp) → frame.graph ≡ f → Behind p raised covers frame.exit extra → (v : ℕ) → waits_for p (record frame { ops = frame.ops ++ extra }) v ≡ waits_for Q frame v
  top_waits frame extra of behind v =
      ap (λ b. read_by (under_way p frame) v || (not (sets frame.into v) && b)) (live_same frame.ops extra frame.exit v behind)
      ∙ ap (λ b. b || (not (sets frame.into v) && live frame.ops frame.exit v)) (graph_read of)
    where
      by : (o : Option LlBlock) → slice_get graph.blocks frame.block ≡ o → read_by (operation_in (slice_get (raising_blocks covers graph.blocks r.made).0 frame.block) (frame.at - 1)) v ≡ read_by (operation_in o (frame.at - 1)) v
      by None e = ap (λ o. read_by (operation_in o (frame.at - 1)) v) (blocks_end covers graph.blocks r.made frame.block e)
      by (Some block) e = (let it = block_there p raised covers f graph r args start frame.block block e in ap (λ o. read_by (operation_in o (frame.at - 1)) v) it.at ∙ read_same block.ops it.extra block.exit (frame.at - 1) v it.behind)

      graph_read : frame.graph ≡ f → read_by (under_way p frame) v ≡ read_by (under_way Q frame) v
      graph_read of =
          ap (λ g. read_by (operation_in (block_in (slice_get p.graphs g) frame.block) (frame.at - 1)) v) of
          ∙ ap (λ o. read_by (operation_in (block_in o frame.block) (frame.at - 1)) v) r.is
          ∙ by (slice_get graph.blocks frame.block) refl
          ∙ sym (ap (λ g. read_by (operation_in (block_in (slice_get Q.graphs g) frame.block) (frame.at - 1)) v) of
          ∙ ap (λ o. read_by (operation_in (block_in o frame.block) (frame.at - 1)) v) (plain_there p raised covers f graph r args start))

  top_roots : (frame : Frame) (extra : List LlOp) → frame.graph ≡ f → Behind p raised covers frame.exit extra → waiting_roots p (record frame { ops = frame.ops ++ extra } ∷ []) ≡ waiting_roots Q (frame ∷ [])
  top_roots frame extra of behind = ap (λ vs. vs ++ []) (kept_same (waits_for p (record frame { ops = frame.ops ++ extra })) (waits_for Q frame) (top_waits frame extra of behind) 0 frame.vars)

  inner_roots : (s : State) (frame more : Frame) → IsApart p f s → waiting_roots p (more ∷ []) ≡ waiting_roots Q (frame ∷ []) → roots p (over (more ∷ []) s) ≡ roots Q (over (frame ∷ []) s)
  inner_roots s frame more apart h = roots_more p (more ∷ []) s ∙ by s apart ∙ sym (roots_more Q (frame ∷ []) s)
    where
      joined : (frames : List Frame) → AllWait p f frames → (own : List Value) → (own ++ waiting_roots p frames) ++ waiting_roots p (more ∷ []) ≡ (own ++ waiting_roots Q frames) ++ waiting_roots Q (frame ∷ [])
      joined frames wait own =
          append_assoc own (waiting_roots p frames) (waiting_roots p (more ∷ []))
          ∙ ap (λ vs. own ++ vs) (apart_waits frames wait (waiting_roots p (more ∷ [])) (waiting_roots Q (frame ∷ [])) h)
          ∙ sym (append_assoc own (waiting_roots Q frames) (waiting_roots Q (frame ∷ [])))

      by : (s : State) → IsApart p f s → roots p s ++ waiting_roots p (more ∷ []) ≡ roots Q s ++ waiting_roots Q (frame ∷ [])
      by (Calling g values frames core) apart = joined frames apart.1 (values ++ slots core)
      by (At ops e frames core) apart = joined frames apart.3 (kept (live ops e) 0 core.vars ++ slots core)
      by (Returning value frames core) apart = joined frames apart (value ∷ slots core)
      by (Throwing value frames core) apart = joined frames apart (value ∷ slots core)

  roots_same : {u x : State} → Both u x → roots p x ≡ roots Q u
  roots_same (Begins values) = refl
  roots_same (Here ops extra e core of calls behind early) = ap (λ vs. (vs ++ slots core) ++ []) (kept_same (live (ops ++ extra) e) (live ops e) (λ v. live_same ops extra e v behind) 0 core.vars)
  roots_same (Back value core) = refl
  roots_same (Out value core) = refl
  roots_same (Inner s frame extra apart of calls behind back) = inner_roots s frame (record frame { ops = frame.ops ++ extra }) apart (top_roots frame extra of behind)

  core_same : {u x : State} → Both u x → core_of x ≡ core_of u
  core_same (Begins values) = refl
  core_same (Here ops extra e core of calls behind early) = refl
  core_same (Back value core) = refl
  core_same (Out value core) = refl
  core_same (Inner s frame extra apart of calls behind back) = core_over (record frame { ops = frame.ops ++ extra } ∷ []) s ∙ sym (core_over (frame ∷ []) s)

  -- ---- ways

  stored_at : (o : LlOp) (ops more : List LlOp) (e : LlExit) (frames below : List Frame) (core : Core) → stored (At (o ∷ more) e below core) ≡ stored (At (o ∷ ops) e frames core)
  stored_at (op.SetField n b k x) ops more e frames below core = refl
  stored_at (op.SetItem n b i x) ops more e frames below core = refl
  stored_at other ops more e frames below core = refl

  stored_over : (frames below : List Frame) (s : State) → stored (over below s) ≡ stored (over frames s)
  stored_over frames below (Calling g values wait core) = refl
  stored_over frames below (At [] e wait core) = refl
  stored_over frames below (At (o ∷ ops) e wait core) = stored_at o ops ops e (wait ++ frames) (wait ++ below) core
  stored_over frames below (Returning value wait core) = refl
  stored_over frames below (Throwing value wait core) = refl

  stored_same : {u x : State} → Both u x → stored x ≡ stored u
  stored_same (Begins values) = refl
  stored_same (Here [] extra e core of calls (Nothing h) early) = refl
  stored_same (Here [] extra e core of calls (Throws n class h raises) early) = refl
  stored_same (Here (o ∷ ops) extra e core of calls behind early) = stored_at o ops (ops ++ extra) e [] [] core
  stored_same (Back value core) = refl
  stored_same (Out value core) = refl
  stored_same (Inner s frame extra apart of calls behind back) = stored_over (frame ∷ []) (record frame { ops = frame.ops ++ extra } ∷ []) s

  record Along (most : ℕ) (x : State) (text : List ℕ) (u : State) : Type 0 where
    state : State
    leads : Leads p args most x text state
    stands : Both u state

  -- what fails goes no further
  fails_at : {s x : State} → AtFailure p raised covers f graph r args start s x → (n : Next) → ((name : FailName) (core : Core) → n ≡ Ends (Failed name) core → ⊥) → ((reason : StuckReason) → n ≡ Sticks reason → ⊥) → step Q args s ≡ n → ⊥
  fails_at a n ends sticks h = by (fail_name_of a.number) (sym (ap (step Q args) a.plain) ∙ h)
    where
      by : (o : Option FailName) → goes_on (At [] (exit.Fail a.number) []) (st.fail a.core o) ≡ n → ⊥
      by None k = sticks _ (sym k)
      by (Some name) k = ends name _ (sym k)

  abbrev Steps : Next → Next → Type 0
  Steps = NextStands p raised covers f graph r args start

  abbrev Fails_now : State → State → Type 0
  Fails_now = AtFailure p raised covers f graph r args start

  joined_go : {s x u y : State} {text : List ℕ} (rest : ℕ) → Both s x → step p args x ≡ Goes y → Along rest y text u → Along (stored s + rest) x text u
  joined_go {s = s} {x = x} rest stands e it =
      let same : stored x ≡ stored s = stored_same stands in
      let few : total it.leads.path ≤ rest = it.leads.few in
      record { state = it.state; leads = record { path = Go e it.leads.path; few = omega (arith, same, few) }; stands = it.stands }

  joined_put : {s x u y : State} {text : List ℕ} {byte : ℕ} (rest : ℕ) → Both s x → step p args x ≡ Puts byte y → Along rest y text u → Along (stored s + rest) x (byte ∷ text) u
  joined_put {s = s} {x = x} rest stands e it =
      let same : stored x ≡ stored s = stored_same stands in
      let few : total it.leads.path ≤ rest = it.leads.few in
      record { state = it.state; leads = record { path = Put e it.leads.path; few = omega (arith, same, few) }; stands = it.stands }

  joined_tell : {s x u y : State} {text : List ℕ} {event : Event} (rest : ℕ) → Both s x → step p args x ≡ Tells event y → Along rest y text u → Along (stored s + rest) x text u
  joined_tell {s = s} {x = x} rest stands e it =
      let same : stored x ≡ stored s = stored_same stands in
      let few : total it.leads.path ≤ rest = it.leads.few in
      record { state = it.state; leads = record { path = Tell e it.leads.path; few = omega (arith, same, few) }; stands = it.stands }

  along : {s x u : State} {text : List ℕ} → Both s x → (path : Path Q args s text u) → Along (total path) x text u
  along {x = x} stands (Stay s) = record { state = x; leads = record { path = Stay x; few = omega arith }; stands = stands }
  along {s = s} {x = x} {u = u} stands (Go {t = t} {text = text} h path) = by (λ y st. along st path) (step_stands p raised covers f graph r args start stands)
    where
      by : ((y : State) → Both t y → Along (total path) y text u) → Steps (step Q args s) (step p args x) ⊎ Fails_now s x → Along (stored s + total path) x text u
      by go (inl k) = (let it = subst (λ n. Steps n (step p args x)) h k in joined_go (total path) stands it.1 (go it.0 it.2))
      by go (inr k) = absurd (fails_at k (Goes t) (λ name core e. absurd (cc)) (λ reason e. absurd (cc)) h)
  along {s = s} {x = x} {u = u} stands (Put {t = t} {text = text} {byte = byte} h path) = by (λ y st. along st path) (step_stands p raised covers f graph r args start stands)
    where
      by : ((y : State) → Both t y → Along (total path) y text u) → Steps (step Q args s) (step p args x) ⊎ Fails_now s x → Along (stored s + total path) x (byte ∷ text) u
      by go (inl k) = (let it = subst (λ n. Steps n (step p args x)) h k in joined_put (total path) stands it.1 (go it.0 it.2))
      by go (inr k) = absurd (fails_at k (Puts byte t) (λ name core e. absurd (cc)) (λ reason e. absurd (cc)) h)
  along {s = s} {x = x} {u = u} stands (Tell {t = t} {text = text} {event = event} h path) = by (λ y st. along st path) (step_stands p raised covers f graph r args start stands)
    where
      by : ((y : State) → Both t y → Along (total path) y text u) → Steps (step Q args s) (step p args x) ⊎ Fails_now s x → Along (stored s + total path) x text u
      by go (inl k) = (let it = subst (λ n. Steps n (step p args x)) h k in joined_tell (total path) stands it.1 (go it.0 it.2))
      by go (inr k) = absurd (fails_at k (Tells event t) (λ name core e. absurd (cc)) (λ reason e. absurd (cc)) h)

  -- ---- where it ends

  back_is : {u x : State} → Both u x → (value : Value) (end : Core) → u ≡ Returning value [] end → x ≡ Returning value [] end
  back_is (Begins values) value end h = absurd (cc)
  back_is (Here ops extra e core of calls behind early) value end h = absurd (cc)
  back_is (Back v core) value end h = h
  back_is (Out v core) value end h = absurd (cc)
  back_is (Inner (Calling g values frames core) frame extra apart of calls behind back) value end h = absurd (cc)
  back_is (Inner (At ops e frames core) frame extra apart of calls behind back) value end h = absurd (cc)
  back_is (Inner (Throwing v frames core) frame extra apart of calls behind back) value end h = absurd (cc)
  back_is (Inner (Returning v [] core) frame extra apart of calls behind back) value end h = absurd (cc)
  back_is (Inner (Returning v (inner ∷ frames) core) frame extra apart of calls behind back) value end h = absurd (cc)

  over_leads : (frames : List Frame) {most : ℕ} {s t : State} {text : List ℕ} → Leads p args most s text t → Leads p args most (over frames s) text (over frames t)
  over_leads frames l = (let same : total (lifted frames p args l.path) ≡ total l.path = lifted_total frames p args l.path in let few : total l.path ≤ _ = l.few in record { path = lifted frames p args l.path; few = omega (arith, same, few) })

-- from where the call begins
begun : (p : LlProgram) (raised : ℕ → Value) (covers : Covers) (f : ℕ) (graph : LlGraph) (r : IsRaising p raised covers f graph) (args : List (List ℕ)) (most : ℕ) (values : List Value) (core : Core) (text : List ℕ) (last : State)
    → LeadsPlainly p args f graph most values core text last → Along p raised covers f graph r args core most (Calling f values [] core) text last
begun p raised covers f graph r args most values core text last l =
    let it = along p raised covers f graph r args core (Begins values) l.path in
    record { state = it.state; leads = leads_more (total l.path) most l.few it.leads; stands = it.stands }

pub calls_return : CallsReturn
calls_return p raised covers f graph r args most values frames core text value end l =
    let it = begun p raised covers f graph r args most values core text (Returning value [] end) l in
    let there : it.state ≡ Returning value [] end = back_is p raised covers f graph r args core it.stands value end refl in
    over_leads p raised covers f graph r args core frames (subst (λ t. Leads p args most (Calling f values [] core) text t) there it.leads)

pub calls_raise : CallsRaise
calls_raise p raised covers f graph r args most values frames core text last name l h = by (begun p raised covers f graph r args most values core text last l)
  where
    Goal : Type 0
    Goal = RaisedOr p args raised most (Calling f values frames core) text name frames core (class_named name covers)

    fails_too : (x : State) → core_of x ≡ core_of last → Leads p args most (Calling f values [] core) text x → (step p args x ≡ Ends (Failed name) (core_of last)) × (class_named name covers ≡ None) → Goal
    fails_too x same leads k = subst (RaisedOr p args raised most (Calling f values frames core) text name frames core) (sym k.1) (record {
      last = over frames x;
      leads = over_leads p raised covers f graph r args core frames leads;
      ends = ends_over frames p args x (Failed name) (core_of last) (λ n e. absurd (cc)) k.0 ∙ ap (λ c. Ends (Failed name) c) (sym (core_over frames x ∙ same));
    })

    raises_now : (x : State) → Leads p args most (Calling f values [] core) text x → Fails_now p raised covers f graph r args core last x → Goal
    raises_now x leads k =
        let named : fail_name_of k.number ≡ Some name = name_of k.number k.core name (core_of last) (fail_name_of k.number) (sym (ap (step (with_graph p f graph) args) k.plain) ∙ h) in
        let flies = flown {p = p} {args = args} {g = k.raiser} {k = k.number} {x = raised k.class} {frames = frames} {core = k.core} k.raises in
        let way : Leads p args most (Calling f values frames core) text (At (op.Call None k.raiser [] ∷ []) (exit.Fail k.number) frames k.core) = over_leads p raised covers f graph r args core frames (subst (λ t. Leads p args most (Calling f values [] core) text t) k.raising leads) in
        subst (RaisedOr p args raised most (Calling f values frames core) text name frames core) (sym (class_is covers k.number name named ∙ k.covered)) (record {
          end = flies.end;
          leads = subst (λ t. Leads p args most (Calling f values frames core) t (Throwing (raised k.class) frames flies.end)) (append-nil text) (leads_more (most + 0) most (omega arith) (leads_then way flies.leads));
          memory = flies.same ∙ k.memory;
        })

    by : Along p raised covers f graph r args core most (Calling f values [] core) text last → Goal
    by it = one (step_stands p raised covers f graph r args core it.stands)
      where
        one : Steps p raised covers f graph r args core (step (with_graph p f graph) args last) (step p args it.state) ⊎ Fails_now p raised covers f graph r args core last it.state → Goal
        one (inl k) = fails_too it.state (core_same p raised covers f graph r args core it.stands) it.leads (subst (λ n. Steps p raised covers f graph r args core n (step p args it.state)) h k)
        one (inr k) = raises_now it.state it.leads k

pub calls_lack : CallsLack
calls_lack p raised covers f graph r args most values frames core text last l h = by (begun p raised covers f graph r args most values core text last l)
  where
    by : Along p raised covers f graph r args core most (Calling f values [] core) text last → Lacks p (with_graph p f graph) args most (Calling f values frames core) text frames last
    by it = one (step_stands p raised covers f graph r args core it.stands)
      where
        same : core_of it.state ≡ core_of last
        same = core_same p raised covers f graph r args core it.stands

        lacks_too : (step p args it.state ≡ Ends Running (core_of last)) × Unit {0} → Lacks p (with_graph p f graph) args most (Calling f values frames core) text frames last
        lacks_too k = record {
          last = over frames it.state;
          leads = over_leads p raised covers f graph r args core frames it.leads;
          ends = ends_over frames p args it.state Running (core_of last) (λ n e. absurd (cc)) k.0 ∙ ap (λ c. Ends Running c) (sym (core_over frames it.state ∙ same));
          core = core_over frames it.state ∙ same;
          holds = roots_more p frames it.state ∙ ap (λ vs. vs ++ waiting_roots p frames) (roots_same p raised covers f graph r args core it.stands);
        }

        one : Steps p raised covers f graph r args core (step (with_graph p f graph) args last) (step p args it.state) ⊎ Fails_now p raised covers f graph r args core last it.state → Lacks p (with_graph p f graph) args most (Calling f values frames core) text frames last
        one (inl k) = lacks_too (subst (λ n. Steps p raised covers f graph r args core n (step p args it.state)) h k)
        one (inr k) = absurd (not_run k.number k.core (core_of last) (fail_name_of k.number) (sym (ap (step (with_graph p f graph) args) k.plain) ∙ h))
