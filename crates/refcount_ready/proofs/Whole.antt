-- Each state of a run is ready.
use Rattle.std.proofs.Common.{◌≡◌, ◌<◌, ℕ, zero, suc, ◌+◌, true, List, [], ◌∷◌, ◌++◌, length, map, take, drop, Option, Some, None, refl, sym, ap, ◌∙◌, subst, arith}
use Rattle.std.specs.Prelude.{slice_get}
use Rattle.csub_tree.specs.State.{Value, Ptr, Block, Core, Event}
use Rattle.csub_tree.specs.Layout.{shape_at, constant, joined, cell_constants, static_values, static_block}
use Rattle.csub_tree.specs.Statement.{read}
use Rattle.csub_tree.specs.declared.tree.CConst.{CConst}
use Rattle.csub_tree.specs.declared.tree.CStatic.{CStatic}
use Rattle.ll_code.specs.Machine.{step, start, shapes_of}
use Rattle.ll_code.specs.Meaning.{Ran, Ended, Unfinished, run, follow}
use Rattle.ll_code.specs.State.{Frame, State, Calling, At, Returning, Throwing, Next, Goes, Puts, Tells, Ends, Sticks}
use Rattle.ll_code.specs.Typed.{IsWellTyped, operation_ok, exit_ok, begins_run}
use Rattle.ll_code.specs.declared.program.LlType.{LlType}
use Rattle.ll_code.specs.declared.program.LlOp.{LlOp}
use Rattle.ll_code.specs.declared.program.LlExit.{LlExit}
use Rattle.ll_code.specs.declared.program.LlGraph.{LlGraph}
use Rattle.ll_code.specs.declared.program.LlProgram.{LlProgram}
use Rattle.ll_held.specs.Held.{IsBelow}
use Rattle.ll_held.specs.Places.{IsPlaced}
use Rattle.ll_held.specs.Quiet.{ReadsInputs}
use Rattle.ll_held.specs.Roots.{roots}
use Rattle.ll_held.proofs.Keeping.{constant_apart, or_left}
use Rattle.ll_held.proofs.Placing.{whole_run_placed}
use Rattle.ll_laws.specs.Fits.{AllFit, CoreFits}
use Rattle.ll_laws.specs.States.{StateFits, RanFits, FramesFit, CallingFits}
use Rattle.ll_laws.proofs.Runs.{whole_run_fits}
use Rattle.ll_laws.proofs.Values.{and_left, and_right}
use Rattle.ll_live.specs.Live.{among, reads, live}
use Rattle.ll_points.specs.Agrees.{Slots, Agrees, op_agrees}
use Rattle.ll_points.specs.Points.{AllLead, StateLeads, RanLeads, FramesLead}
use Rattle.ll_points.proofs.Runs.{whole_run_leads}
use Rattle.refcount_transform.specs.Plan.{plan_of}
use Rattle.refcount_transform.specs.Changes.{around_of}
use Rattle.refcount_laws.specs.Ghost.{Ghost, one, hit}
use Rattle.refcount_laws.specs.Owned.{owned, hits_by, Roomy}
use Rattle.refcount_laws.specs.Run.{IsReady, ReadyNext, ReadyAlong}
use Rattle.refcount_laws.specs.Whole.{Call, AllWait, BothAt, ReadyAt, ReadyFor, ReadyToGoOn, beside}
use Rattle.refcount_typed.specs.Leads.{LeadsToRoots}
use Rattle.refcount_typed.specs.Numbered.{HasNumbers}
use Rattle.refcount_checks.specs.Countable.{most, is_countable}
use Rattle.refcount_ready.specs.Along.{EachState, IsSmall, LeavesStatics}
use Rattle.refcount_ready.proofs.Tests.{stands_placed, all_roots}
use Rattle.refcount_ready.proofs.Pointers.{pointing}
use Rattle.refcount_ready.proofs.Keeps.{CoreKeeps, FramesKeep, FrameKeeps, CallingKeeps, AtKeeps, ReturningKeeps, StateKeeps, NextKeeps}
use Rattle.refcount_ready.proofs.Stepping.{based, step_keeps}
use Rattle.refcount_ready.proofs.Operating.{one_same, op_ready}
use Rattle.refcount_ready.proofs.Leaving.{leave_ready, enter_ready, go_on_ready}
use Rattle.refcount_ready.proofs.Room.{owns_at, roomy}

-- ---- where a run starts

-- constants are no blocks
none_in : (cs : List CConst) (j m : ℕ) → read (map constant cs) j ≡ Ptr m → ⊥
none_in [] j m e = cc
none_in (c ∷ cs) zero m e = constant_apart c m e
none_in (c ∷ cs) (suc j) m e = none_in cs j m e

none_taken : (n : ℕ) (values : List Value) → ((j m : ℕ) → read values j ≡ Ptr m → ⊥) → (j m : ℕ) → read (take n values) j ≡ Ptr m → ⊥
none_taken zero values none j m e = cc
none_taken (suc n) [] none j m e = cc
none_taken (suc n) (v ∷ values) none zero m e = none zero m e
none_taken (suc n) (v ∷ values) none (suc j) m e = none_taken n values (λ j m e. none (suc j) m e) j m e

none_dropped : (n : ℕ) (values : List Value) → ((j m : ℕ) → read values j ≡ Ptr m → ⊥) → (j m : ℕ) → read (drop n values) j ≡ Ptr m → ⊥
none_dropped zero values none j m e = none j m e
none_dropped (suc n) [] none j m e = cc
none_dropped (suc n) (v ∷ values) none j m e = none_dropped n values (λ j m e. none (suc j) m e) j m e

statics_apart : (p : LlProgram) (statics : List CStatic) (s : ℕ) (block : Block) → slice_get (map (static_block (shapes_of p.structs)) statics) s ≡ Some block → ((j m : ℕ) → read block.fields j ≡ Ptr m → ⊥) × ((j m : ℕ) → read block.items j ≡ Ptr m → ⊥)
statics_apart p [] s block e = absurd (cc)
statics_apart p (static ∷ statics) zero block e =
    let f : static_block (shapes_of p.structs) static ≡ block = cc in
    subst (λ b. ((j m : ℕ) → read b.fields j ≡ Ptr m → ⊥) × ((j m : ℕ) → read b.items j ≡ Ptr m → ⊥)) f
    (none_taken (shape_at (shapes_of p.structs) static.kind).size (static_values static) (none_in (joined (map cell_constants static.cells))), none_dropped (shape_at (shapes_of p.structs) static.kind).size (static_values static) (none_in (joined (map cell_constants static.cells))))
statics_apart p (static ∷ statics) (suc s) block e = statics_apart p statics s block e

pub start_keeps : (p : LlProgram) → IsWellTyped p → (steps : ℕ) → StateKeeps p (start p steps)
start_keeps p ok steps = by (slice_get p.graphs p.entry) refl (and_right _ _ ok)
  where
    by : (o : Option LlGraph) → slice_get p.graphs p.entry ≡ o → begins_run o ≡ true → StateKeeps p (start p steps)
    by None e h = absurd (cc)
    by (Some graph) e h = (
      graph,
      record {
        of = e;
        set = refl;
        waiting = tt;
        keeps = record { counted = λ b block f. absurd (cc); apart = statics_apart p p.statics; set_type = refl; set_value = refl; slot_type = λ m f. absurd (cc); slot_value = λ m f. absurd (cc) };
      },
    )

-- ---- states

module _ (p : LlProgram) (ok : IsWellTyped p) (slots : Slots) (agrees : Agrees slots p) (leads : LeadsToRoots p) (numbers : HasNumbers p) (closed : ReadsInputs p) (countable : is_countable p ≡ true) where
  module _ (calls : List Call) (others frames : List Frame) (core : Core) (waits : AllWait p calls frames others) where
    -- what the slots hold is owned
    slot_owned : (kind value : Option ℕ) (x y : Value) (m n : ℕ) → x ≡ Ptr m → kind ≡ Some n → 0 < hits_by kind x (Ptr m) + hits_by value y (Ptr m)
    slot_owned kind value x y m n e f = subst (λ k. 0 < hits_by k x (Ptr m) + hits_by value y (Ptr m)) (sym f) (subst (λ x. 0 < hit (Ptr m) x + hits_by value y (Ptr m)) (sym e) (let z : one m m ≡ 1 = one_same m in omega (arith, z)))

    held_type : CoreKeeps p core → (m : ℕ) → core.exc_type ≡ Ptr m → 0 < beside p calls frames core (Ptr m)
    held_type keeps m e =
        let w : (n : ℕ) × ((plan_of p).slots.kind ≡ Some n) = keeps.slot_type m e in
        let z : 0 < hits_by (plan_of p).slots.kind core.exc_type (Ptr m) + hits_by (plan_of p).slots.value core.exc_value (Ptr m) = slot_owned (plan_of p).slots.kind (plan_of p).slots.value core.exc_type core.exc_value m w.0 e w.1 in
        omega (arith, z)

    held_value : CoreKeeps p core → (m : ℕ) → core.exc_value ≡ Ptr m → 0 < beside p calls frames core (Ptr m)
    held_value keeps m e =
        let w : (n : ℕ) × ((plan_of p).slots.value ≡ Some n) = keeps.slot_value m e in
        let z : 0 < hits_by (plan_of p).slots.value core.exc_value (Ptr m) + hits_by (plan_of p).slots.kind core.exc_type (Ptr m) = slot_owned (plan_of p).slots.value (plan_of p).slots.kind core.exc_value core.exc_type m w.0 e w.1 in
        omega (arith, z)

    room : (types : List LlType) (ops : List LlOp) (e : LlExit) (t : State) (g : Ghost) (h : List (Option Block)) → (both : BothAt p calls others ops e frames core t g h) → IsBelow most core.blocks (roots p (At ops e frames core)) → (k : ℕ) → k < most → Roomy g k
    room types ops e t g h both few k lt =
        roomy p (based p ok slots agrees leads countable) core.blocks core.statics g both.stands.near (λ r. owned (around_of (plan_of p) both.graph.types) (live ops e) core.vars r + beside p calls frames core r) both.counts (roots p (At ops e frames core))
        (owns_at p both.graph.types calls ops e frames others core waits) few k lt

  at_ready : (o : LlOp) (ops : List LlOp) (e : LlExit) (frames : List Frame) (core : Core) → StateFits p (At (o ∷ ops) e frames core) → StateLeads p slots (At (o ∷ ops) e frames core) → IsPlaced p (At (o ∷ ops) e frames core) → StateKeeps p (At (o ∷ ops) e frames core)
      → IsSmall p (At (o ∷ ops) e frames core) → LeavesStatics p (At (o ∷ ops) e frames core) → (calls : List Call) (others : List Frame) (t : State) (g : Ghost) (h : List (Option Block)) → BothAt p calls others (o ∷ ops) e frames core t g h
      → (graph : LlGraph) → slice_get p.graphs core.function ≡ Some graph → ReadyAt p graph (beside p calls frames core) o ops e core g
  at_ready o ops e frames core (g1, fit) (g2, lead) (placed, behind) (g3, keeps) small writes calls others t g h both graph there =
      with (subst (λ g. CoreFits p g.types core) s1 fit.fits) (subst (λ g. operation_ok p g.types o ≡ true) s1 (and_left _ _ fit.left)) (subst (λ g. AllLead p core.blocks core.statics g.types core.vars) s2 lead.vars) (subst (λ g. op_agrees slots g.types o ≡ true) s2 (and_left _ _ lead.left)) (subst (AtKeeps p (o ∷ ops) e frames core) s3 keeps)
    where
      s1 : g1 ≡ graph
      s1 = let z : Some g1 ≡ Some graph = sym fit.of ∙ there in cc

      s2 : g2 ≡ graph
      s2 = let z : Some g2 ≡ Some graph = sym lead.of ∙ there in cc

      s3 : g3 ≡ graph
      s3 = let z : Some g3 ≡ Some graph = sym keeps.of ∙ there in cc

      with : CoreFits p graph.types core → operation_ok p graph.types o ≡ true → AllLead p core.blocks core.statics graph.types core.vars → op_agrees slots graph.types o ≡ true → AtKeeps p (o ∷ ops) e frames core graph → ReadyAt p graph (beside p calls frames core) o ops e core g
      with fits h leads_ agree keeps = record {
        placed = placed;
        roots = all_roots p leads core.function graph there;
        fits = fits.vars.count;
        pointing = pointing p (based p ok slots agrees leads countable) core.blocks core.statics keeps.keeps.counted graph.types core.vars fits.vars leads_ (live (o ∷ ops) e) keeps.set;
        apart = keeps.keeps.apart;
        room = room calls others frames core both.waits graph.types (o ∷ ops) e t g _ both small.few 1 (omega arith);
        ok = h;
        ready = op_ready p ok slots agrees leads numbers countable graph core fits leads_ lead.memory keeps.keeps (beside p calls frames core) (held_type calls others frames core both.waits keeps.keeps) (held_value calls others frames core both.waits keeps.keeps) g
            (room calls others frames core both.waits graph.types (o ∷ ops) e t g _ both small.few) ops o (stands_placed p graph core.function core.block core.at o ops e there placed) h agree
            (λ v n a u. keeps.set v n (or_left (among v (reads o)) _ a) u) writes small.short keeps.number;
      }

  pub is_ready : (s : State) → StateFits p s → StateLeads p slots s → IsPlaced p s → StateKeeps p s → IsSmall p s → LeavesStatics p s → IsReady p s
  is_ready (At (o ∷ ops) e frames core) fit lead placed keeps small writes calls others t g h both = at_ready o ops e frames core fit lead placed keeps small writes calls others t g h both
  is_ready (At [] e frames core) (g1, fit) (g2, lead) placed (g3, keeps) small writes calls others t g h both = λ graph there.
      let s1 : g1 ≡ graph = (let z : Some g1 ≡ Some graph = sym fit.of ∙ there in cc) in
      let s2 : g2 ≡ graph = (let z : Some g2 ≡ Some graph = sym lead.of ∙ there in cc) in
      let s3 : g3 ≡ graph = (let z : Some g3 ≡ Some graph = sym keeps.of ∙ there in cc) in
      leave_ready p ok slots agrees leads countable graph core there (subst (λ g. CoreFits p g.types core) s1 fit.fits) (subst (λ g. AllLead p core.blocks core.statics g.types core.vars) s2 lead.vars) lead.memory keeps.keeps e (subst (λ g. exit_ok p g e ≡ true) s1 fit.end) lead.end
      (subst (AtKeeps p [] e frames core) s3 keeps).set g (room calls others frames core both.waits graph.types [] e t g h both small.few)
  is_ready (Calling f values frames core) (g1, fit) (g2, lead) placed (g3, keeps) small writes calls others t g h both = λ graph there.
      let s1 : g1 ≡ graph = (let z : Some g1 ≡ Some graph = sym fit.of ∙ there in cc) in
      let s2 : g2 ≡ graph = (let z : Some g2 ≡ Some graph = sym lead.of ∙ there in cc) in
      let s3 : g3 ≡ graph = (let z : Some g3 ≡ Some graph = sym keeps.of ∙ there in cc) in
      enter_ready p ok slots agrees leads countable f values frames core graph (subst (CallingFits p f values frames core) s1 fit) (subst (λ g. AllLead p core.blocks core.statics g.types values) s2 lead.given) (subst (CallingKeeps p f values frames core) s3 keeps)
  is_ready (Returning value frames core) fit lead placed keeps small writes calls others t g h both = back calls frames others fit lead keeps both.waits
    where
      back : (calls : List Call) (frames others : List Frame) → StateFits p (Returning value frames core) → StateLeads p slots (Returning value frames core) → StateKeeps p (Returning value frames core) → AllWait p calls frames others → ReadyFor p calls (Returning value frames core) g
      back [] frames others fit lead keeps w = tt
      back (call ∷ calls) [] others fit lead keeps w = tt
      back (call ∷ calls) (frame ∷ frames) [] fit lead keeps w = absurd w
      back (call ∷ calls) (frame ∷ frames) (other ∷ others) (t1, fit) (g2, lead) (g3, keeps) (w, ws) = λ graph there.
          let s3 : g3 ≡ graph = (let z : Some g3 ≡ Some graph = sym keeps.of ∙ there in cc) in
          waits_ready graph (subst (ReturningKeeps p value (frame ∷ frames) core) s3 keeps) fit.waiting lead.waiting
        where
          waits_ready : (graph : LlGraph) → ReturningKeeps p value (frame ∷ frames) core graph → FramesFit p (length core.blocks) t1 (frame ∷ frames) → FramesLead p slots core g2.result (frame ∷ frames) → ReadyToGoOn p graph.result call value frame core
          waits_ready graph keeps (f1, w1, rest1) (f2, w2, rest2) = by keeps.waiting
            where
              by : FramesKeep p graph.result (frame ∷ frames) → ReadyToGoOn p graph.result call value frame core
              by (f3, fk, rest3) =
                  let q1 : f1 ≡ call.graph = (let z : Some f1 ≡ Some call.graph = sym w1.of ∙ w.there in cc) in
                  let q2 : f2 ≡ call.graph = (let z : Some f2 ≡ Some call.graph = sym w2.of ∙ w.there in cc) in
                  let q3 : f3 ≡ call.graph = (let z : Some f3 ≡ Some call.graph = sym fk.of ∙ w.there in cc) in
                  go_on_ready p ok slots agrees leads countable graph call value frame other core keeps.sound keeps.keeps (subst (λ g. FrameKeeps p graph.result g frame) q3 fk) w
                  (subst (λ g. AllFit p (length core.blocks) g.types frame.vars) q1 w1.vars) (subst (λ g. AllLead p core.blocks core.statics g.types frame.vars) q2 w2.vars)
  is_ready (Throwing value frames core) fit lead placed keeps small writes calls others t g h both = absurd both

  -- ---- runs

  module _ (args : List (List ℕ)) (steps : ℕ) (small : EachState (IsSmall p) p args steps) (writes : EachState (LeavesStatics p) p args steps) where
    -- the run comes to this state
    record ComesTo (j : ℕ) (s : State) : Type 0 where
      text : List ℕ
      events : List Event
      is : run p args j (start p steps) [] [] ≡ Unfinished s text events

    -- one step on at the end of a run
    abbrev on_from : Ran → Ran
    on_from (Unfinished s text events) = follow (run p args 0) text events (step p args s)
    on_from (Ended ending left text events) = Ended ending left text events

    one_on : (j : ℕ) (s : State) (text : List ℕ) (events : List Event) → run p args (suc j) s text events ≡ on_from (run p args j s text events)
    unfolding run
    one_on zero s text events = refl
    one_on (suc j) s text events = by (step p args s) (one_on j)
      where
        by : (next : Next) → ((s : State) (text : List ℕ) (events : List Event) → run p args (suc j) s text events ≡ on_from (run p args j s text events)) → follow (run p args (suc j)) text events next ≡ on_from (follow (run p args j) text events next)
        by (Goes s) go = go s text events
        by (Puts byte s) go = go s (text ++ byte ∷ []) events
        by (Tells event s) go = go s text (events ++ event ∷ [])
        by (Ends outcome core) go = refl
        by (Sticks reason) go = refl

    fits_at : (j : ℕ) (s : State) → ComesTo j s → StateFits p s
    fits_at j s c = subst (RanFits p) c.is (whole_run_fits p ok args steps j)

    leads_at : (j : ℕ) (s : State) → ComesTo j s → StateLeads p slots s
    leads_at j s c = subst (RanLeads p slots) c.is (whole_run_leads p slots ok agrees args steps j)

    -- what comes next
    abbrev ComesNext : ℕ → Next → Type 0
    ComesNext j (Goes s) = ComesTo j s
    ComesNext j (Puts byte s) = ComesTo j s
    ComesNext j (Tells event s) = ComesTo j s
    ComesNext j (Ends outcome core) = Unit {0}
    ComesNext j (Sticks reason) = Unit {0}

    run_none : (s : State) (text : List ℕ) (events : List Event) → run p args 0 s text events ≡ Unfinished s text events
    unfolding run
    run_none s text events = refl

    comes_next : (j : ℕ) (s : State) → ComesTo j s → ComesNext (suc j) (step p args s)
    comes_next j s c = by (step p args s) (one_on j (start p steps) [] [] ∙ ap on_from c.is)
      where
        by : (next : Next) → run p args (suc j) (start p steps) [] [] ≡ follow (run p args 0) c.text c.events next → ComesNext (suc j) next
        by (Goes s) e = record { text = c.text; events = c.events; is = e ∙ run_none s c.text c.events }
        by (Puts byte s) e = record { text = c.text ++ byte ∷ []; events = c.events; is = e ∙ run_none s (c.text ++ byte ∷ []) c.events }
        by (Tells event s) e = record { text = c.text; events = c.events ++ event ∷ []; is = e ∙ run_none s c.text (c.events ++ event ∷ []) }
        by (Ends outcome core) e = tt
        by (Sticks reason) e = tt

    keeps_next : (j : ℕ) (s : State) → ComesTo j s → StateKeeps p s → NextKeeps p (step p args s)
    keeps_next j s c keeps = step_keeps p ok slots agrees leads countable closed args s (fits_at j s c) (leads_at j s c) (whole_run_placed p args steps j s c.text c.events c.is) (writes j s c.text c.events c.is) keeps

    along : (k j : ℕ) (s : State) → ComesTo j s → StateKeeps p s → ReadyAlong p args k s
    unfolding ReadyAlong
    along zero j s c keeps = tt
    along (suc k) j s c keeps =
        (is_ready s (fits_at j s c) (leads_at j s c) (whole_run_placed p args steps j s c.text c.events c.is) keeps (small j s c.text c.events c.is) (writes j s c.text c.events c.is), by (step p args s) (comes_next j s c) (keeps_next j s c keeps) (along k))
      where
        by : (next : Next) → ComesNext (suc j) next → NextKeeps p next → ((j : ℕ) (s : State) → ComesTo j s → StateKeeps p s → ReadyAlong p args k s) → ReadyNext (ReadyAlong p args k) next
        by (Goes s) c keeps go = go (suc j) s c keeps
        by (Puts byte s) c keeps go = go (suc j) s c keeps
        by (Tells event s) c keeps go = go (suc j) s c keeps
        by (Ends outcome core) c keeps go = tt
        by (Sticks reason) c keeps go = tt

    pub along_all : (k : ℕ) → ReadyAlong p args k (start p steps)
    along_all k = along k 0 (start p steps) (record { text = []; events = []; is = run_none (start p steps) [] [] }) (start_keeps p ok steps)
