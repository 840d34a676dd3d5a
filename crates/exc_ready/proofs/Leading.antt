-- In each state of a run of a program that passes the test, pointers lead to their structs, and what is raised to that of exceptions.
use Rattle.std.proofs.Common.{◌≡◌, ℕ, zero, suc, ◌-◌, Bool, true, false, ◌&&◌, ◌||◌, List, [], ◌∷◌, ◌++◌, length, map, replicate, Option, Some, None, Result, Ok, Err, refl, sym, ap, ◌∙◌, subst, ℤ, arith}
use Rattle.std.specs.Prelude.{slice_get, slice_set, cond}
use Rattle.rpy_base.specs.declared.outcome.Outcome.TheVariants.{Returned}
use Rattle.csub_tree.specs.Layout.{static_block}
use Rattle.csub_tree.specs.State.{Value, Unset, Null, Block, Core, After, Onward, Puts as PutsByte, Told, Over, Stuck, Event}
use Rattle.csub_tree.specs.Operation.{is_unset, word_of, flag_of}
use Rattle.csub_tree.specs.Statement as st
use Rattle.csub_tree.specs.Statement.{read, operand, operands, any_unset, reached, on_block, fun_of, same_result, same_types, fail_name_of, taken_by}
use Rattle.csub_tree.specs.declared.stuck.StuckReason.{StuckReason}
use Rattle.csub_tree.specs.declared.stuck.StuckReason.TheVariants.{Unset as IsUnset, Signature}
use Rattle.csub_tree.specs.declared.tree.CType.{CType}
use Rattle.csub_tree.specs.declared.tree.CType.TheVariants as c
use Rattle.csub_tree.specs.declared.tree.COperand.{COperand}
use Rattle.ll_code.specs.State.{Frame, State, Calling, At, Returning, Throwing, Next, Goes, Puts, Tells, Ends, Sticks}
use Rattle.ll_code.specs.Machine.{does, goes_on, shapes_of, block_in, set_all, begins, jump, branch, caught, waiting, resumed, called, called_as, called_value, enters, entered, returned, thrown, given, operates, gives_back, type_in, leaves, step, start, param_types, c_result, c_type}
use Rattle.ll_code.specs.Meaning.{Ran, Ended, Unfinished, run, follow}
use Rattle.ll_code.specs.Typed as typed
use Rattle.ll_code.specs.Typed.{IsWellTyped, has_type, all_given, all_taken, operation_ok, operations_ok, link_ok, exit_ok, result_ok, params_ok, graph_ok, graphs_ok, structs_ok, is_kind, are_types, is_counted, begins_run, call_ok}
use Rattle.ll_code.specs.declared.program.LlStage.TheVariants as stage
use Rattle.ll_code.specs.declared.program.LlType.{LlType}
use Rattle.ll_code.specs.declared.program.LlType.TheVariants as type
use Rattle.ll_code.specs.declared.program.LlLink.{LlLink}
use Rattle.ll_code.specs.declared.program.LlOp.{LlOp}
use Rattle.ll_code.specs.declared.program.LlOp.TheVariants as op
use Rattle.ll_code.specs.declared.program.LlExit.{LlExit}
use Rattle.ll_code.specs.declared.program.LlExit.TheVariants as exit
use Rattle.ll_code.specs.declared.program.LlBlock.{LlBlock}
use Rattle.ll_code.specs.declared.program.LlGraph.{LlGraph}
use Rattle.ll_code.specs.declared.program.LlProgram.{LlProgram}
use Rattle.ll_laws.specs.States.{AtFits, FramesFit, StateFits, NextFits}
use Rattle.ll_laws.proofs.Values.{and_left, and_right, has_type_is}
use Rattle.ll_laws.proofs.Steps.{step_fits}
use Rattle.ll_laws.proofs.Runs.{start_fits}
use Rattle.ll_held.specs.Places.{PlacedAt, AllBehind, IsPlaced}
use Rattle.ll_held.specs.Roots.{core_of}
use Rattle.ll_held.proofs.Placing.{NextPlaced, step_placed, start_placed, whole_run_placed}
use Rattle.ll_points.specs.Points.{Leads, LeadsBy, AllLead, MemoryLeads}
use Rattle.ll_points.proofs.Leading.{Grows, grows_same, all_more, same_memory, unset_leads, vars_set}
use Rattle.ll_points.proofs.Cores.{CoreLeads, Follows, AfterLeads, operation_leads}
use Rattle.ll_points.proofs.Given.{read_filled, same_given, takes_leads, inputs_lead, parameters_lead, asked_lead, taken_leads}
use Rattle.ll_points.proofs.Statics.{statics_lead, statics_stand}
use Rattle.exc_laws.specs.Ready.{uses_slots, raised_next}
use Rattle.exc_laws.proofs.Jumps.{graph_at}
use Rattle.exc_ready.specs.Raisable.{IsRaisable, root_of, is_exception, raises_alike, exit_raises_alike, ops_raisable}
use Rattle.exc_ready.specs.Along.{EachState, RaisedLeads}
use Rattle.exc_ready.proofs.Passes.{ops_pass, exit_passes, slots_alone}

module _ (p : LlProgram) where
  -- ---- states

  -- a call of this graph that waits for a result of this type
  record Waits (core : Core) (result : LlType) (graph : LlGraph) (frame : Frame) : Type 0 where
    of : slice_get p.graphs frame.graph ≡ Some graph
    vars : AllLead p core.blocks core.statics graph.types frame.vars
    into : result_ok graph.types frame.into result ≡ true

  abbrev FramesPoint : Core → LlType → List Frame → Type 0
  FramesPoint core result [] = Unit {0}
  FramesPoint core result (frame ∷ frames) = (graph : LlGraph) × Waits core result graph frame × FramesPoint core graph.result frames

  record CallingPoints (f : ℕ) (values : List Value) (frames : List Frame) (core : Core) (graph : LlGraph) : Type 0 where
    of : slice_get p.graphs f ≡ Some graph
    given : AllLead p core.blocks core.statics graph.types values
    waiting : FramesPoint core graph.result frames
    memory : MemoryLeads p None core

  record AtPoints (frames : List Frame) (core : Core) (graph : LlGraph) : Type 0 where
    of : slice_get p.graphs core.function ≡ Some graph
    leads : CoreLeads p None graph.types core
    waiting : FramesPoint core graph.result frames

  -- a graph with a result of this type gives a value of a type, or an exception
  record LeavesPoints (t : LlType) (value : Value) (frames : List Frame) (core : Core) (result : LlType) : Type 0 where
    leads : LeadsBy p core.blocks core.statics t value
    waiting : FramesPoint core result frames
    memory : MemoryLeads p None core

  abbrev StatePoints : State → Type 0
  StatePoints (Calling f values frames core) = (graph : LlGraph) × CallingPoints f values frames core graph
  StatePoints (At ops e frames core) = (graph : LlGraph) × AtPoints frames core graph
  StatePoints (Returning value frames core) = (t : LlType) × LeavesPoints t value frames core t
  StatePoints (Throwing value frames core) = (t : LlType) × LeavesPoints (type.Ptr (root_of p)) value frames core t

  abbrev NextPoints : Next → Type 0
  NextPoints (Goes s) = StatePoints s
  NextPoints (Puts byte s) = StatePoints s
  NextPoints (Tells event s) = StatePoints s
  NextPoints (Ends outcome core) = Unit {0}
  NextPoints (Sticks reason) = Unit {0}

  frames_more : (core next : Core) → Grows core.blocks core.statics next.blocks next.statics → (result : LlType) (frames : List Frame) → FramesPoint core result frames → FramesPoint next result frames
  frames_more core next grows result [] h = tt
  frames_more core next grows result (frame ∷ frames) (g, w, h) =
      (g, record { of = w.of; vars = all_more p core.blocks core.statics next.blocks next.statics grows g.types frame.vars w.vars; into = w.into }, frames_more core next grows g.result frames h)

  module _ (ok : IsWellTyped p) (raw : p.stage ≡ stage.Raw) (passes : IsRaisable p) (args : List (List ℕ)) where
    structs : structs_ok p.structs 0 p.structs ≡ true
    structs = and_left _ _ (and_left _ _ (and_left _ _ ok))

    good_at : (f : ℕ) (g : LlGraph) → slice_get p.graphs f ≡ Some g → graph_ok p g ≡ true
    good_at f g of = graph_at p p.graphs f g (and_right _ _ (and_left _ _ ok)) of

    params_good : (g : LlGraph) → graph_ok p g ≡ true → params_ok p g.types 0 g.params ≡ true
    params_good g good = and_right _ _ (and_left _ _ (and_left _ _ good))

    result_good : (g : LlGraph) → graph_ok p g ≡ true → is_kind p.structs g.result ≡ true
    result_good g good = and_right _ _ (and_left _ _ (and_left _ _ (and_left _ _ good)))

    either : (b : Bool) (x y : Next) → NextPoints x → NextPoints y → NextPoints (cond b x y)
    either true x y h k = h
    either false x y h k = k

    given_points : (value : Value) (go : Value → Next) → NextPoints (go value) → NextPoints (given value go)
    given_points value go h = either (is_unset value) (Sticks IsUnset) (go value) tt h

    exception_leads : (g : LlGraph) (core : Core) → CoreLeads p None g.types core → (a : ℕ) → is_exception (root_of p) g.types a ≡ true → Leads p core.blocks core.statics (root_of p) (read core.vars a)
    exception_leads g core fit a h = fit.vars a (type.Ptr (root_of p)) (has_type_is (type.Ptr (root_of p)) (slice_get g.types a) h)

    -- ---- a graph that runs

    module _ (g : LlGraph) (frames : List Frame) (core : Core) (of : slice_get p.graphs core.function ≡ Some g) (fit : CoreLeads p None g.types core) (waits : FramesPoint core g.result frames) where
      followed : (ops : List LlOp) (e : LlExit) (next : Core) → Follows p None g.types core next → StatePoints (At ops e frames next)
      followed ops e next f = (g, record { of = ap (slice_get p.graphs) f.graph ∙ of; leads = f.leads; waiting = frames_more core next f.grows g.result frames waits })

      goes : (ops : List LlOp) (e : LlExit) (after : After) → AfterLeads p None g.types core after → NextPoints (goes_on (At ops e frames) after)
      goes ops e (Onward next) f = followed ops e next f
      goes ops e (PutsByte byte next) f = followed ops e next f
      goes ops e (Told event next) f = followed ops e next f
      goes ops e (Over outcome next) f = tt
      goes ops e (Stuck reason) f = tt

      begun : (to : ℕ) (xs : List COperand) (o : Option LlBlock) → typed.enters p g.types o xs ≡ true → NextPoints (begins frames core to (operands core.vars xs) o)
      begun to xs None h = tt
      begun to xs (Some block) h =
          let vars : List Value = set_all core.vars block.inputs (operands core.vars xs) in (
            g,
            record {
              of = of;
              leads = record { vars = inputs_lead p None structs g.types core fit core.vars block.inputs xs fit.vars h; memory = same_memory p None core core.function to 0 vars core.steps fit.memory };
              waiting = frames_more core (record core { block = to; at = 0; vars = vars }) (grows_same core.blocks core.statics) g.result frames waits;
            },
          )

      jumped : (link : LlLink) → link_ok p g link ≡ true → NextPoints (jump p frames core link)
      jumped link h =
          either (any_unset (operands core.vars link.args)) (Sticks IsUnset) (begins frames core link.to (operands core.vars link.args) (block_in (slice_get p.graphs core.function) link.to)) tt
          (subst (λ o. NextPoints (begins frames core link.to (operands core.vars link.args) (block_in o link.to))) (sym of) (begun link.to link.args (slice_get g.blocks link.to) h))

      branched : (there elsewhere : LlLink) (o : Option Bool) → link_ok p g there ≡ true → link_ok p g elsewhere ≡ true → NextPoints (branch p frames core there elsewhere o)
      branched there elsewhere None h k = tt
      branched there elsewhere (Some true) h k = jumped there h
      branched there elsewhere (Some false) h k = jumped elsewhere k

      throws : (value : Value) → Leads p core.blocks core.statics (root_of p) value → StatePoints (Throwing value frames core)
      throws value h = (g.result, record { leads = h; waiting = waits; memory = fit.memory })

      gives : (value : Value) → LeadsBy p core.blocks core.statics g.result value → StatePoints (Returning value frames core)
      gives value h = (g.result, record { leads = h; waiting = waits; memory = fit.memory })

      gives_points : (x : Option COperand) → typed.return_ok p g x ≡ true → NextPoints (gives_back x frames core)
      gives_points None h = gives Unset (unset_leads p core.blocks core.statics g.result)
      gives_points (Some x) h = given_points (operand core.vars x) (λ value. Goes (Returning value frames core)) (gives (operand core.vars x) (takes_leads p None structs g.types core fit g.result x h))

    caught_points : (value : Value) (ops : List LlOp) (e : LlExit) (g : LlGraph) (frames : List Frame) (core : Core) → slice_get p.graphs core.function ≡ Some g → CoreLeads p None g.types core → FramesPoint core g.result frames
        → exit_ok p g e ≡ true → exit_raises_alike (root_of p) g.types e ≡ true → Leads p core.blocks core.statics (root_of p) value → NextPoints (caught p value ops e frames core)
    caught_points value (o ∷ ops) e g frames core of fit waits h k l = throws g frames core of fit waits value l
    caught_points value [] (exit.OnRaise a (Some link) without) g frames core of fit waits h k l =
        jumped g frames (record core { vars = slice_set core.vars a value }) of
        (record {
          vars = vars_set p core.blocks core.statics g.types core.vars a (type.Ptr (root_of p)) value fit.vars (has_type_is (type.Ptr (root_of p)) (slice_get g.types a) k) l;
          memory = same_memory p None core core.function core.block core.at (slice_set core.vars a value) core.steps fit.memory;
        })
        (frames_more core (record core { vars = slice_set core.vars a value }) (grows_same core.blocks core.statics) g.result frames waits) link (and_right _ _ (and_left _ _ h))
    caught_points value [] (exit.OnRaise a None without) g frames core of fit waits h k l = throws g frames core of fit waits value l
    caught_points value [] other g frames core of fit waits h k l = throws g frames core of fit waits value l

    module _ (g : LlGraph) (frames : List Frame) (core : Core) (of : slice_get p.graphs core.function ≡ Some g) (fit : CoreLeads p None g.types core) (waits : FramesPoint core g.result frames) (ops : List LlOp) (e : LlExit) where
      waiting_points : (into : Option ℕ) (result : LlType) → result_ok g.types into result ≡ true → FramesPoint core result (waiting core into ops e ∷ frames)
      waiting_points into result h = (g, record { of = of; vars = fit.vars; into = h }, waits)

      call_points : (into : Option ℕ) (f : ℕ) (xs : List COperand) (o : Option LlGraph) → slice_get p.graphs f ≡ o → call_ok p g.types into o xs ≡ true → NextPoints (called f (operands core.vars xs) (waiting core into ops e ∷ frames) core)
      call_points into f xs None is h = absurd (cc)
      call_points into f xs (Some other) is h =
          let good : graph_ok p other ≡ true = good_at f other is in
          either (any_unset (operands core.vars xs)) (Sticks IsUnset) (Goes (Calling f (operands core.vars xs) (waiting core into ops e ∷ frames) core)) tt (
            other,
            record {
              of = is;
              given = λ a t k. parameters_lead p None structs other.types 0 g core fit other.params xs (params_good other good) (and_right _ _ h) a t (ap (slice_get other.types) (omega arith) ∙ k);
              waiting = waiting_points into other.result (and_left _ _ h);
              memory = fit.memory;
            },
          )

      called_as_points : (into : Option ℕ) (result : LlType) (params : List LlType) (f : ℕ) (xs : List COperand) (o : Option LlGraph) → slice_get p.graphs f ≡ o
          → is_kind p.structs result ≡ true → are_types p.structs params ≡ true → result_ok g.types into result ≡ true → all_taken p g.types params xs ≡ true
          → NextPoints (called_as (c_result result) (map c_type params) f (operands core.vars xs) (waiting core into ops e ∷ frames) core o)
      called_as_points into result params f xs None is a b x d = tt
      called_as_points into result params f xs (Some other) is a b x d = tested (same_result (c_result other.result) (c_result result) && same_types (param_types other) (map c_type params)) refl
        where
          tested : (t : Bool) → (same_result (c_result other.result) (c_result result) && same_types (param_types other) (map c_type params)) ≡ t
              → NextPoints (cond t (Goes (Calling f (operands core.vars xs) (waiting core into ops e ∷ frames) core)) (Sticks Signature))
          tested false h = tt
          tested true h = (
            other,
            record {
              of = is;
              given = λ v t k. asked_lead p None structs other.types 0 g core fit other.params params xs (params_good other (good_at f other is)) b (and_right _ _ h) d v t (ap (slice_get other.types) (omega arith) ∙ k);
              waiting = waiting_points into other.result (subst (λ r. result_ok g.types into r ≡ true) (sym (same_given p.structs other.result result (result_good other (good_at f other is)) a (and_left _ _ h))) x);
              memory = fit.memory;
            },
          )

      called_value_points : (into : Option ℕ) (result : LlType) (params : List LlType) (o : Option ℕ) (xs : List COperand)
          → is_kind p.structs result ≡ true → are_types p.structs params ≡ true → result_ok g.types into result ≡ true → all_taken p g.types params xs ≡ true
          → NextPoints (called_value p (c_result result) (map c_type params) o (operands core.vars xs) (waiting core into ops e ∷ frames) core)
      called_value_points into result params None xs a b x d = tt
      called_value_points into result params (Some f) xs a b x d = called_as_points into result params f xs (slice_get p.graphs f) refl a b x d

      operates_points : (o : LlOp) → operation_ok p g.types o ≡ true → exit_ok p g e ≡ true → exit_raises_alike (root_of p) g.types e ≡ true → raises_alike (root_of p) g.types o ≡ true → uses_slots o ≡ false
          → NextPoints (operates p args o ops e frames core)
      operates_points (op.Call into f xs) h end k r s = call_points into f xs (slice_get p.graphs f) refl h
      operates_points (op.CallFn into result params b xs) h end k r s =
          either (is_unset (read core.vars b) || any_unset (operands core.vars xs)) (Sticks IsUnset)
          (called_value p (c_result result) (map c_type params) (fun_of (read core.vars b)) (operands core.vars xs) (waiting core into ops e ∷ frames) core) tt
          (called_value_points into result params (fun_of (read core.vars b)) xs (and_right _ _ (and_left _ _ (and_left _ _ (and_left _ _ h)))) (and_right _ _ (and_left _ _ (and_left _ _ h)))
          (and_right _ _ (and_left _ _ h)) (and_right _ _ h))
      operates_points (op.Raise a) h end k r s =
          given_points (read core.vars a) (λ value. caught p value ops e frames core) (caught_points (read core.vars a) ops e g frames core of fit waits end k (exception_leads g core fit a r))
      operates_points (op.Free a) h end k r s = absurd (let f : true ≡ false = sym (and_left (is_counted p.stage) _ h) ∙ ap is_counted raw in cc)
      operates_points (op.ExcType a n) h end k r s = absurd (cc)
      operates_points (op.ExcValue a n) h end k r s = absurd (cc)
      operates_points (op.ExcSet a b) h end k r s = absurd (cc)
      operates_points op.ExcClear h end k r s = absurd (cc)
      operates_points other h end k r s = goes g frames core of fit waits ops e (does p args core other) (operation_leads p None g.types core fit structs args other h refl)

    leaves_points : (g : LlGraph) (frames : List Frame) (core : Core) → slice_get p.graphs core.function ≡ Some g → CoreLeads p None g.types core → FramesPoint core g.result frames → (e : LlExit) → exit_ok p g e ≡ true
        → exit_raises_alike (root_of p) g.types e ≡ true → NextPoints (leaves p e frames core)
    leaves_points g frames core of fit waits (exit.Goto link) h k = jumped g frames core of fit waits link h
    leaves_points g frames core of fit waits (exit.If a there elsewhere) h k = branched g frames core of fit waits there elsewhere (flag_of (read core.vars a)) (and_right _ _ (and_left _ _ h)) (and_right _ _ h)
    leaves_points g frames core of fit waits (exit.OnRaise a by without) h k = jumped g frames core of fit waits without (and_right _ _ h)
    leaves_points g frames core of fit waits (exit.Return x) h k = gives_points g frames core of fit waits x h
    leaves_points g frames core of fit waits (exit.Raise a) h k =
        given_points (read core.vars a) (λ value. Goes (Throwing value frames core)) (throws g frames core of fit waits (read core.vars a) (exception_leads g core fit a k))
    leaves_points g frames core of fit waits (exit.Fail number) h k = one (fail_name_of number)
      where
        one : (o : Option _) → NextPoints (goes_on (At [] (exit.Fail number) frames) (st.fail core o))
        one None = tt
        one (Some name) = tt
    leaves_points g frames core of fit waits (exit.Raised a) h k = by (type_in (slice_get p.graphs core.function) a)
      where
        named : (o : Option (List ℕ)) → NextPoints (goes_on (At [] (exit.Raised a) frames) (st.raised_as core o))
        named None = tt
        named (Some name) = tt

        found : (r : Result Block StuckReason) → NextPoints (goes_on (At [] (exit.Raised a) frames) (on_block (λ block. st.raised_as core (st.bytes_of block.items)) r))
        found (Ok block) = named (st.bytes_of block.items)
        found (Err reason) = tt

        by : (o : Option CType) → NextPoints (goes_on (At [] (exit.Raised a) frames) (st.raised core (shapes_of p.structs) o (read core.vars a)))
        by (Some (c.Ptr n)) = found (reached core (shapes_of p.structs) n (read core.vars a))
        by other = tt

    -- ---- calls that begin and end

    entered_points : (f : ℕ) (values : List Value) (frames : List Frame) (core : Core) (g : LlGraph) → CallingPoints f values frames core g → NextPoints (entered f values frames core (slice_get p.graphs f))
    entered_points f values frames core g l = subst (λ o. NextPoints (entered f values frames core o)) (sym l.of) (one (slice_get g.blocks 0))
      where
        one : (b : Option LlBlock) → NextPoints (enters f values frames core g b)
        one None = tt
        one (Some block) =
            let vars : List Value = values ++ replicate (length g.types - length g.params) Unset in (
              g,
              record {
                of = l.of;
                leads = record {
                  vars = λ a t e. subst (LeadsBy p core.blocks core.statics t) (sym (read_filled values (length g.types - length g.params) a)) (l.given a t e);
                  memory = same_memory p None core f 0 0 vars core.steps l.memory;
                };
                waiting = frames_more core (record core { function = f; block = 0; at = 0; vars = vars }) (grows_same core.blocks core.statics) g.result frames l.waiting;
              },
            )

    returned_points : (value : Value) (frames : List Frame) (core : Core) (t : LlType) → LeavesPoints t value frames core t → NextPoints (returned value frames core)
    returned_points value [] core t l = one (word_of value)
      where
        one : (o : Option ℤ) → NextPoints (goes_on (Returning value []) (st.on (λ n. Over (Returned n) (record core { vars = [] })) o))
        one None = tt
        one (Some n) = tt
    returned_points value (frame ∷ frames) core t l = back l.waiting
      where
        back : FramesPoint core t (frame ∷ frames) → NextPoints (returned value (frame ∷ frames) core)
        back (g, w, rest) =
            let vars : List Value = taken_by frame.vars frame.into value in (
              g,
              record {
                of = w.of;
                leads = record {
                  vars = taken_leads p None structs core g.types frame.vars frame.into t value w.vars w.into l.leads;
                  memory = same_memory p None core frame.graph frame.block frame.at vars core.steps l.memory;
                };
                waiting = frames_more core (record core { function = frame.graph; block = frame.block; at = frame.at; vars = vars }) (grows_same core.blocks core.statics) g.result frames rest;
              },
            )

    -- the exit behind a call that waits
    thrown_points : (value : Value) (frames : List Frame) (core : Core) (t u : LlType) → LeavesPoints (type.Ptr (root_of p)) value frames core t → FramesFit p (length core.blocks) u frames → AllBehind p frames → NextPoints (thrown p value frames core)
    thrown_points value [] core t u l fit b = tt
    thrown_points value (frame ∷ frames) core t u l (other, waits, more) (b, bs) = back l.waiting
      where
        end : (g : LlGraph) → slice_get p.graphs frame.graph ≡ Some g → exit_ok p g frame.exit ≡ true
        end g of = let e : Some other ≡ Some g = sym waits.of ∙ of in let same : other ≡ g = cc in subst (λ g. exit_ok p g frame.exit ≡ true) same waits.exit

        back : FramesPoint core t (frame ∷ frames) → NextPoints (thrown p value (frame ∷ frames) core)
        back (g, w, rest) =
            caught_points value frame.ops frame.exit g frames (resumed frame core) w.of
            (record { vars = w.vars; memory = same_memory p None core frame.graph frame.block frame.at frame.vars core.steps l.memory })
            (frames_more core (resumed frame core) (grows_same core.blocks core.statics) g.result frames rest) (end g w.of)
            (exit_passes p passes frame.graph frame.block b.before (b.call ∷ frame.ops) frame.exit b.placed g w.of) l.leads

    -- ---- steps and runs

    at_points : (ops : List LlOp) (e : LlExit) (frames : List Frame) (core : Core) (g h : LlGraph) → AtFits p ops e frames core h → PlacedAt p core.function core.block core.at ops e → AtPoints frames core g → NextPoints (step p args (At ops e frames core))
    at_points ops e frames core g h fit place l =
        let same_of : Some h ≡ Some g = sym fit.of ∙ l.of in let same : h ≡ g = cc in
        by ops (subst (λ g. operations_ok p g.types ops ≡ true) same fit.left) (subst (λ g. exit_ok p g e ≡ true) same fit.end) (ops_pass p passes core.function core.block core.at ops e place g l.of)
        (exit_passes p passes core.function core.block core.at ops e place g l.of)
      where
        by : (ops : List LlOp) → operations_ok p g.types ops ≡ true → exit_ok p g e ≡ true → ops_raisable (root_of p) g.types ops e ≡ true → exit_raises_alike (root_of p) g.types e ≡ true → NextPoints (step p args (At ops e frames core))
        by [] left end h k = leaves_points g frames core l.of l.leads l.waiting e end k
        by (o ∷ ops) left end h k =
            operates_points g frames core l.of l.leads l.waiting ops e o (and_left _ _ left) end k (and_left _ _ (and_left _ _ (and_left _ _ h))) (slots_alone p passes (root_of p) g.types (o ∷ ops) e h)

    step_points : (s : State) → StateFits p s → IsPlaced p s → StatePoints s → NextPoints (step p args s)
    step_points (Calling f values frames core) fit place (g, l) = entered_points f values frames core g l
    step_points (At ops e frames core) (h, fit) place (g, l) = at_points ops e frames core g h fit place.0 l
    step_points (Returning value frames core) fit place (t, l) = returned_points value frames core t l
    step_points (Throwing value frames core) (u, fit) place (t, l) = thrown_points value frames core t u l fit.waiting place

    abbrev RanPoints : Ran → Type 0
    RanPoints (Unfinished s text events) = StatePoints s
    RanPoints (Ended ending left text events) = Unit {0}

    on_next : (k : ℕ) → ((s : State) (text : List ℕ) (events : List Event) → StateFits p s → IsPlaced p s → StatePoints s → RanPoints (run p args k s text events)) → (text : List ℕ) (events : List Event) (next : Next)
        → NextFits p next → NextPlaced p next → NextPoints next → RanPoints (follow (run p args k) text events next)
    on_next k go text events (Goes s) f h w = go s text events f h w
    on_next k go text events (Puts byte s) f h w = go s (text ++ byte ∷ []) events f h w
    on_next k go text events (Tells event s) f h w = go s text (events ++ event ∷ []) f h w
    on_next k go text events (Ends outcome core) f h w = tt
    on_next k go text events (Sticks reason) f h w = tt

    run_points : (k : ℕ) (s : State) (text : List ℕ) (events : List Event) → StateFits p s → IsPlaced p s → StatePoints s → RanPoints (run p args k s text events)
    unfolding run
    run_points zero s text events f h w = w
    run_points (suc k) s text events f h w = on_next k (run_points k) text events (step p args s) (step_fits p ok args s f) (step_placed p args s h) (step_points s f h w)

    -- ---- the start

    abbrev first : ℕ → Core
    first steps = record { function = p.entry; block = 0; at = 0; vars = []; callers = []; blocks = []; statics = map (static_block (shapes_of p.structs)) p.statics; exc_type = Null; exc_value = Null; steps = steps }

    first_memory : (steps : ℕ) → MemoryLeads p None (first steps)
    first_memory steps = record {
      each = λ b block e. absurd (cc);
      each_static = statics_lead p [] (first steps).statics structs (statics_stand p) 0 p.statics (and_right _ _ (and_left _ _ (and_left _ _ ok)));
      stand = statics_stand p;
      held = (refl, refl);
    }

    begins_points : (steps : ℕ) (o : Option LlGraph) → slice_get p.graphs p.entry ≡ o → begins_run o ≡ true → StatePoints (start p steps)
    begins_points steps None e h = absurd (cc)
    begins_points steps (Some g) e h = (g, record { of = e; given = λ a t is. unset_leads p [] (first steps).statics t; waiting = tt; memory = first_memory steps })

    -- ---- what is raised

    raised_leads : (s : State) → IsPlaced p s → StatePoints s → RaisedLeads p s
    raised_leads (Calling f values frames core) place l = tt
    raised_leads (At ops e frames core) place (g, l) = λ a is. by ops e a is (ops_pass p passes core.function core.block core.at ops e place.0 g l.of) (exit_passes p passes core.function core.block core.at ops e place.0 g l.of)
      where
        by : (ops : List LlOp) (e : LlExit) (a : ℕ) → raised_next ops e ≡ Some a → ops_raisable (root_of p) g.types ops e ≡ true → exit_raises_alike (root_of p) g.types e ≡ true → Leads p core.blocks core.statics (root_of p) (read core.vars a)
        by [] (exit.Raise b) a is h k = let same : b ≡ a = cc in subst (λ a. Leads p core.blocks core.statics (root_of p) (read core.vars a)) same (exception_leads g core l.leads b k)
        by [] other a is h k = absurd (cc)
        by (op.Raise b ∷ ops) e a is h k = let same : b ≡ a = cc in subst (λ a. Leads p core.blocks core.statics (root_of p) (read core.vars a)) same (exception_leads g core l.leads b (and_left _ _ (and_left _ _ (and_left _ _ h))))
        by (other ∷ ops) e a is h k = absurd (cc)
    raised_leads (Returning value frames core) place l = tt
    raised_leads (Throwing value frames core) place (t, l) = l.leads

    ran_points : (steps : ℕ) → EachState StatePoints p args steps
    ran_points steps = λ k s text events e. subst RanPoints e (run_points k (start p steps) [] [] (start_fits p ok steps) (start_placed p args steps) (begins_points steps (slice_get p.graphs p.entry) refl (and_right _ _ ok)))

    pub state_raised_leads : (steps : ℕ) → EachState (RaisedLeads p) p args steps
    state_raised_leads steps = λ k s text events e. raised_leads s (whole_run_placed p args steps k s text events e) (ran_points steps k s text events e)

    -- ---- the slots stay clear

    slots_clear : (s : State) → StatePoints s → ((core_of s).exc_type ≡ Null) × ((core_of s).exc_value ≡ Null)
    slots_clear (Calling f values frames core) (g, l) = l.memory.held
    slots_clear (At ops e frames core) (g, l) = l.leads.memory.held
    slots_clear (Returning value frames core) (t, l) = l.memory.held
    slots_clear (Throwing value frames core) (t, l) = l.memory.held

    pub state_clear : (steps : ℕ) → EachState (λ s. ((core_of s).exc_type ≡ Null) × ((core_of s).exc_value ≡ Null)) p args steps
    state_clear steps = λ k s text events e. slots_clear s (ran_points steps k s text events e)
