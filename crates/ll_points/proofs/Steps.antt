-- Each step of a well-typed program that raises and frees nothing leads from a state whose pointers lead to one whose do.
use Rattle.std.proofs.Common.{◌≡◌, ℕ, zero, suc, ◌-◌, Bool, true, false, ◌&&◌, ◌||◌, List, [], ◌∷◌, ◌++◌, length, map, replicate, Option, Some, None, Result, Ok, Err, refl, sym, ap, ◌∙◌, subst, arith}
use Rattle.std.specs.Prelude.{slice_get, cond}
use Rattle.csub_tree.specs.State.{Value, Unset, Word, Block, Core, After, Onward, Puts as PutsByte, Told, Over, Stuck}
use Rattle.csub_tree.specs.Operation.{is_unset, flag_of}
use Rattle.csub_tree.specs.Statement.{read, operand, operands, any_unset, on_block, reached, taken_by, ended, fail, fail_name_of, raised, raised_as, bytes_of, fun_of, same_result, same_types}
use Rattle.csub_tree.specs.declared.stuck.StuckReason.{StuckReason}
use Rattle.csub_tree.specs.declared.stuck.StuckReason.TheVariants.{Unset as IsUnset, Signature}
use Rattle.csub_tree.specs.declared.tree.CType.{CType}
use Rattle.csub_tree.specs.declared.tree.CType.TheVariants as c
use Rattle.csub_tree.specs.declared.tree.COperand.{COperand}
use Rattle.rpy_base.specs.declared.outcome.FailName.{FailName}
use Rattle.ll_code.specs.declared.program.LlType.{LlType}
use Rattle.ll_code.specs.declared.program.LlLink.{LlLink}
use Rattle.ll_code.specs.declared.program.LlOp.{LlOp}
use Rattle.ll_code.specs.declared.program.LlOp.TheVariants as op
use Rattle.ll_code.specs.declared.program.LlExit.{LlExit}
use Rattle.ll_code.specs.declared.program.LlExit.TheVariants as exit
use Rattle.ll_code.specs.declared.program.LlBlock.{LlBlock}
use Rattle.ll_code.specs.declared.program.LlGraph.{LlGraph}
use Rattle.ll_code.specs.declared.program.LlProgram.{LlProgram}
use Rattle.ll_code.specs.State.{Frame, State, Calling, At, Returning, Throwing, Next, Goes, Sticks}
use Rattle.ll_code.specs.Machine.{c_type, c_result, goes_on, set_all, begins, block_in, jump, branch, waiting, called, param_types, called_as, called_value, enters, entered, returned, given, operates, gives_back, type_in, leaves, step, does, shapes_of}
use Rattle.ll_code.specs.Typed as typed
use Rattle.ll_code.specs.Typed.{IsWellTyped, given_takes, all_given, all_taken, takes, result_ok, operation_ok, operations_ok, exit_ok, link_ok, block_ok, blocks_ok, graph_ok, graphs_ok, structs_ok, params_ok, is_type, are_types, is_kind, is_type_given, call_ok}
use Rattle.ll_laws.specs.States.{AtFits, StateFits}
use Rattle.ll_laws.proofs.Values.{and_left, and_right}
use Rattle.ll_points.specs.Agrees.{Slots, Agrees, op_agrees, ops_agree, exit_agrees, block_agrees, blocks_agree, graphs_agree}
use Rattle.ll_points.specs.Points.{LeadsBy, AllLead, FramesLead, CallingLeads, AtLeads, ReturningLeads, StateLeads, NextLeads}
use Rattle.ll_points.proofs.Leading.{grows_same, frames_more, same_memory, unset_leads}
use Rattle.ll_points.proofs.Cores.{CoreLeads, Follows, AfterLeads, operation_leads}
use Rattle.ll_points.proofs.Given.{read_filled, same_given, takes_leads, inputs_lead, parameters_lead, asked_lead, taken_leads}

-- ---- lists

graph_at : (p : LlProgram) (graphs : List LlGraph) (n : ℕ) (g : LlGraph) → graphs_ok p graphs ≡ true → slice_get graphs n ≡ Some g → graph_ok p g ≡ true
graph_at p [] n g ok e = absurd (cc)
graph_at p (x ∷ graphs) zero g ok e = let f : x ≡ g = cc in subst (λ g. graph_ok p g ≡ true) f (and_left _ _ ok)
graph_at p (x ∷ graphs) (suc n) g ok e = graph_at p graphs n g (and_right _ _ ok) e

graph_agrees : (slots : Slots) (graphs : List LlGraph) (n : ℕ) (g : LlGraph) → graphs_agree slots graphs ≡ true → slice_get graphs n ≡ Some g → blocks_agree slots g.types g.blocks ≡ true
graph_agrees slots [] n g ok e = absurd (cc)
graph_agrees slots (x ∷ graphs) zero g ok e = let f : x ≡ g = cc in subst (λ g. blocks_agree slots g.types g.blocks ≡ true) f (and_left _ _ ok)
graph_agrees slots (x ∷ graphs) (suc n) g ok e = graph_agrees slots graphs n g (and_right _ _ ok) e

block_agree : (slots : Slots) (types : List LlType) (blocks : List LlBlock) (n : ℕ) (b : LlBlock) → blocks_agree slots types blocks ≡ true → slice_get blocks n ≡ Some b → block_agrees slots types b ≡ true
block_agree slots types [] n b ok e = absurd (cc)
block_agree slots types (x ∷ blocks) zero b ok e = let f : x ≡ b = cc in subst (λ b. block_agrees slots types b ≡ true) f (and_left _ _ ok)
block_agree slots types (x ∷ blocks) (suc n) b ok e = block_agree slots types blocks n b (and_right _ _ ok) e

raise_never : (slots : Slots) (types : List LlType) (a : ℕ) → op_agrees slots types (op.Raise a) ≡ true → ⊥
raise_never None types a h = cc
raise_never (Some (k, v)) types a h = cc

module _ (p : LlProgram) (slots : Slots) (all : graphs_ok p p.graphs ≡ true) (structs : structs_ok p.structs 0 p.structs ≡ true) (agrees : Agrees slots p) where
  choice_next : (b : Bool) (x y : Next) → NextLeads p slots x → NextLeads p slots y → NextLeads p slots (cond b x y)
  choice_next true x y h k = h
  choice_next false x y h k = k

  agrees_at : (n : ℕ) (g : LlGraph) → slice_get p.graphs n ≡ Some g → (to : ℕ) (b : LlBlock) → slice_get g.blocks to ≡ Some b → block_agrees slots g.types b ≡ true
  agrees_at n g e to b f = block_agree slots g.types g.blocks to b (graph_agrees slots p.graphs n g agrees e) f

  params_of : (g : LlGraph) → graph_ok p g ≡ true → params_ok p g.types 0 g.params ≡ true
  params_of g good = and_right _ _ (and_left _ _ (and_left _ _ good))

  result_of : (g : LlGraph) → graph_ok p g ≡ true → is_kind p.structs g.result ≡ true
  result_of g good = and_right _ _ (and_left _ _ (and_left _ _ (and_left _ _ good)))

  -- ---- a graph that runs

  module _ (g : LlGraph) (frames : List Frame) (core : Core) (of : slice_get p.graphs core.function ≡ Some g) (fit : CoreLeads p slots g.types core) (waits : FramesLead p slots core g.result frames) where
    followed : (ops : List LlOp) (exit : LlExit) (next : Core) → ops_agree slots g.types ops ≡ true → exit_agrees exit ≡ true → Follows p slots g.types core next → StateLeads p slots (At ops exit frames next)
    followed ops exit next h k f = (
      g,
      record { of = ap (slice_get p.graphs) f.graph ∙ of; vars = f.leads.vars; left = h; end = k; waiting = frames_more p slots core next f.grows g.result frames waits; memory = f.leads.memory },
    )

    goes_lead : (ops : List LlOp) (exit : LlExit) (after : After) → ops_agree slots g.types ops ≡ true → exit_agrees exit ≡ true → AfterLeads p slots g.types core after → NextLeads p slots (goes_on (At ops exit frames) after)
    goes_lead ops exit (Onward next) h k f = followed ops exit next h k f
    goes_lead ops exit (PutsByte byte next) h k f = followed ops exit next h k f
    goes_lead ops exit (Told event next) h k f = followed ops exit next h k f
    goes_lead ops exit (Over outcome next) h k f = tt
    goes_lead ops exit (Stuck reason) h k f = tt

    -- ---- links

    begins_leads : (to : ℕ) (xs : List COperand) (o : Option LlBlock) → slice_get g.blocks to ≡ o → typed.enters p g.types o xs ≡ true → NextLeads p slots (begins frames core to (operands core.vars xs) o)
    begins_leads to xs None e h = tt
    begins_leads to xs (Some b) e h =
        let agree : block_agrees slots g.types b ≡ true = agrees_at core.function g of to b e in
        let vars : List Value = set_all core.vars b.inputs (operands core.vars xs) in (
          g,
          record {
            of = of;
            vars = inputs_lead p slots structs g.types core fit core.vars b.inputs xs fit.vars h;
            left = and_left _ _ agree;
            end = and_right _ _ agree;
            waiting = frames_more p slots core (record core { block = to; at = 0; vars = vars }) (grows_same core.blocks core.statics) g.result frames waits;
            memory = same_memory p slots core core.function to 0 vars core.steps fit.memory;
          },
        )

    jump_leads : (link : LlLink) → link_ok p g link ≡ true → NextLeads p slots (jump p frames core link)
    jump_leads link h =
        choice_next (any_unset (operands core.vars link.args)) (Sticks IsUnset) (begins frames core link.to (operands core.vars link.args) (block_in (slice_get p.graphs core.function) link.to)) tt
        (subst (λ o. NextLeads p slots (begins frames core link.to (operands core.vars link.args) (block_in o link.to))) (sym of) (begins_leads link.to link.args (slice_get g.blocks link.to) refl h))

    branch_leads : (there elsewhere : LlLink) (o : Option Bool) → link_ok p g there ≡ true → link_ok p g elsewhere ≡ true → NextLeads p slots (branch p frames core there elsewhere o)
    branch_leads there elsewhere None h k = tt
    branch_leads there elsewhere (Some true) h k = jump_leads there h
    branch_leads there elsewhere (Some false) h k = jump_leads elsewhere k

    -- ---- exits

    given_leads : (value : Value) (go : Value → Next) → NextLeads p slots (go value) → NextLeads p slots (given value go)
    given_leads value go h = choice_next (is_unset value) (Sticks IsUnset) (go value) tt h

    gives : (value : Value) → LeadsBy p core.blocks core.statics g.result value → StateLeads p slots (Returning value frames core)
    gives value h = (g, record { of = of; leads = h; waiting = waits; memory = fit.memory })

    gives_back_leads : (x : Option COperand) → typed.return_ok p g x ≡ true → NextLeads p slots (gives_back x frames core)
    gives_back_leads None h = gives Unset (unset_leads p core.blocks core.statics g.result)
    gives_back_leads (Some x) h = given_leads (operand core.vars x) (λ value. Goes (Returning value frames core)) (gives (operand core.vars x) (takes_leads p slots structs g.types core fit g.result x h))

    raised_as_leads : (exit : LlExit) (o : Option (List ℕ)) → NextLeads p slots (goes_on (At [] exit frames) (raised_as core o))
    raised_as_leads exit None = tt
    raised_as_leads exit (Some name) = tt

    on_block_leads : (exit : LlExit) (r : Result Block StuckReason) → NextLeads p slots (goes_on (At [] exit frames) (on_block (λ block. raised_as core (bytes_of block.items)) r))
    on_block_leads exit (Ok block) = raised_as_leads exit (bytes_of block.items)
    on_block_leads exit (Err reason) = tt

    raised_leads : (exit : LlExit) (t : Option CType) (value : Value) → NextLeads p slots (goes_on (At [] exit frames) (raised core (shapes_of p.structs) t value))
    raised_leads exit (Some (c.Ptr n)) value = on_block_leads exit (reached core (shapes_of p.structs) n value)
    raised_leads exit other value = tt

    fail_leads : (exit : LlExit) (o : Option FailName) → NextLeads p slots (goes_on (At [] exit frames) (fail core o))
    fail_leads exit None = tt
    fail_leads exit (Some name) = tt

    leaves_leads : (exit : LlExit) → exit_ok p g exit ≡ true → exit_agrees exit ≡ true → NextLeads p slots (leaves p exit frames core)
    leaves_leads (exit.Goto link) h k = jump_leads link h
    leaves_leads (exit.If a there elsewhere) h k = branch_leads there elsewhere (flag_of (read core.vars a)) (and_right _ _ (and_left _ _ h)) (and_right _ _ h)
    leaves_leads (exit.OnRaise a by without) h k = absurd (cc)
    leaves_leads (exit.Return x) h k = gives_back_leads x h
    leaves_leads (exit.Raise a) h k = absurd (cc)
    leaves_leads (exit.Fail number) h k = fail_leads (exit.Fail number) (fail_name_of number)
    leaves_leads (exit.Raised a) h k = raised_leads (exit.Raised a) (type_in (slice_get p.graphs core.function) a) (read core.vars a)

  -- ---- calls

  entered_leads : (f : ℕ) (values : List Value) (frames : List Frame) (core : Core) (g : LlGraph) → CallingLeads p slots f values frames core g → NextLeads p slots (entered f values frames core (slice_get p.graphs f))
  entered_leads f values frames core g fit = subst (λ o. NextLeads p slots (entered f values frames core o)) (sym fit.of) (enters_leads (slice_get g.blocks 0) refl)
    where
      filled : (n : ℕ) → AllLead p core.blocks core.statics g.types (values ++ replicate n Unset)
      filled n = λ a t e. subst (LeadsBy p core.blocks core.statics t) (sym (read_filled values n a)) (fit.given a t e)

      enters_leads : (o : Option LlBlock) → slice_get g.blocks 0 ≡ o → NextLeads p slots (enters f values frames core g o)
      enters_leads None e = tt
      enters_leads (Some b) e =
          let agree : block_agrees slots g.types b ≡ true = agrees_at f g fit.of 0 b e in
          let vars : List Value = values ++ replicate (length g.types - length g.params) Unset in (
            g,
            record {
              of = fit.of;
              vars = filled (length g.types - length g.params);
              left = and_left _ _ agree;
              end = and_right _ _ agree;
              waiting = frames_more p slots core (record core { function = f; block = 0; at = 0; vars = vars }) (grows_same core.blocks core.statics) g.result frames fit.waiting;
              memory = same_memory p slots core f 0 0 vars core.steps fit.memory;
            },
          )

  module _ (g : LlGraph) (frames : List Frame) (core : Core) (of : slice_get p.graphs core.function ≡ Some g) (fit : CoreLeads p slots g.types core) (waits : FramesLead p slots core g.result frames)
      (ops : List LlOp) (exit : LlExit) (left : ops_agree slots g.types ops ≡ true) (end : exit_agrees exit ≡ true) where
    waiting_leads : (into : Option ℕ) (result : LlType) → result_ok g.types into result ≡ true → FramesLead p slots core result (waiting core into ops exit ∷ frames)
    waiting_leads into result h = (g, record { of = of; vars = fit.vars; into = h; ops = left; exit = end }, waits)

    call_leads : (into : Option ℕ) (f : ℕ) (xs : List COperand) (o : Option LlGraph) → slice_get p.graphs f ≡ o → call_ok p g.types into o xs ≡ true → NextLeads p slots (called f (operands core.vars xs) (waiting core into ops exit ∷ frames) core)
    call_leads into f xs None e h = absurd (cc)
    call_leads into f xs (Some other) e h =
        let good : graph_ok p other ≡ true = graph_at p p.graphs f other all e in
        choice_next (any_unset (operands core.vars xs)) (Sticks IsUnset) (Goes (Calling f (operands core.vars xs) (waiting core into ops exit ∷ frames) core)) tt (
          other,
          record {
            of = e;
            given = λ a t is. parameters_lead p slots structs other.types 0 g core fit other.params xs (params_of other good) (and_right _ _ h) a t (ap (slice_get other.types) (omega arith) ∙ is);
            waiting = waiting_leads into other.result (and_left _ _ h);
            memory = fit.memory;
          },
        )

    called_as_leads : (into : Option ℕ) (result : LlType) (params : List LlType) (f : ℕ) (xs : List COperand) (o : Option LlGraph) → slice_get p.graphs f ≡ o
        → is_kind p.structs result ≡ true → are_types p.structs params ≡ true → result_ok g.types into result ≡ true → all_taken p g.types params xs ≡ true
        → NextLeads p slots (called_as (c_result result) (map c_type params) f (operands core.vars xs) (waiting core into ops exit ∷ frames) core o)
    called_as_leads into result params f xs None e a b c d = tt
    called_as_leads into result params f xs (Some other) e a b c d = tested (same_result (c_result other.result) (c_result result) && same_types (param_types other) (map c_type params)) refl
      where
        good : graph_ok p other ≡ true
        good = graph_at p p.graphs f other all e

        tested : (t : Bool) → (same_result (c_result other.result) (c_result result) && same_types (param_types other) (map c_type params)) ≡ t
            → NextLeads p slots (cond t (Goes (Calling f (operands core.vars xs) (waiting core into ops exit ∷ frames) core)) (Sticks Signature))
        tested false h = tt
        tested true h = (
          other,
          record {
            of = e;
            given = λ v t is. asked_lead p slots structs other.types 0 g core fit other.params params xs (params_of other good) b (and_right _ _ h) d v t (ap (slice_get other.types) (omega arith) ∙ is);
            waiting = waiting_leads into other.result (subst (λ r. result_ok g.types into r ≡ true) (sym (same_given p.structs other.result result (result_of other good) a (and_left _ _ h))) c);
            memory = fit.memory;
          },
        )

    called_value_leads : (into : Option ℕ) (result : LlType) (params : List LlType) (o : Option ℕ) (xs : List COperand)
        → is_kind p.structs result ≡ true → are_types p.structs params ≡ true → result_ok g.types into result ≡ true → all_taken p g.types params xs ≡ true
        → NextLeads p slots (called_value p (c_result result) (map c_type params) o (operands core.vars xs) (waiting core into ops exit ∷ frames) core)
    called_value_leads into result params None xs a b c d = tt
    called_value_leads into result params (Some f) xs a b c d = called_as_leads into result params f xs (slice_get p.graphs f) refl a b c d

    operates_leads : (args : List (List ℕ)) (o : LlOp) → operation_ok p g.types o ≡ true → op_agrees slots g.types o ≡ true → NextLeads p slots (operates p args o ops exit frames core)
    operates_leads args (op.Call into f xs) h k = call_leads into f xs (slice_get p.graphs f) refl h
    operates_leads args (op.CallFn into result params b xs) h k =
        choice_next (is_unset (read core.vars b) || any_unset (operands core.vars xs)) (Sticks IsUnset)
        (called_value p (c_result result) (map c_type params) (fun_of (read core.vars b)) (operands core.vars xs) (waiting core into ops exit ∷ frames) core) tt
        (called_value_leads into result params (fun_of (read core.vars b)) xs (and_right _ _ (and_left _ _ (and_left _ _ (and_left _ _ h)))) (and_right _ _ (and_left _ _ (and_left _ _ h)))
        (and_right _ _ (and_left _ _ h)) (and_right _ _ h))
    operates_leads args (op.Raise a) h k = absurd (raise_never slots g.types a k)
    operates_leads args other h k = goes_lead g frames core of fit waits ops exit (does p args core other) left end (operation_leads p slots g.types core fit structs args other h k)

  at_leads : (args : List (List ℕ)) (ops : List LlOp) (exit : LlExit) (frames : List Frame) (core : Core) (g : LlGraph) → AtLeads p slots ops exit frames core g → operations_ok p g.types ops ≡ true → exit_ok p g exit ≡ true
      → NextLeads p slots (step p args (At ops exit frames core))
  at_leads args [] exit frames core g l h k = leaves_leads g frames core l.of (record { vars = l.vars; memory = l.memory }) l.waiting exit k l.end
  at_leads args (o ∷ ops) exit frames core g l h k =
      operates_leads g frames core l.of (record { vars = l.vars; memory = l.memory }) l.waiting ops exit (and_right _ _ l.left) l.end args o (and_left _ _ h) (and_left _ _ l.left)

  -- ---- back to who waits

  ended_leads : (value : Value) (core : Core) → NextLeads p slots (goes_on (Returning value []) (ended core value))
  ended_leads (Word z) core = tt
  ended_leads other core = tt

  returned_leads : (value : Value) (frames : List Frame) (core : Core) (g : LlGraph) → ReturningLeads p slots value frames core g → NextLeads p slots (returned value frames core)
  returned_leads value [] core g l = ended_leads value core
  returned_leads value (frame ∷ frames) core g l = back l.waiting
    where
      vars : List Value
      vars = taken_by frame.vars frame.into value

      back : FramesLead p slots core g.result (frame ∷ frames) → NextLeads p slots (returned value (frame ∷ frames) core)
      back (h, w, rest) = (
        h,
        record {
          of = w.of;
          vars = taken_leads p slots structs core h.types frame.vars frame.into g.result value w.vars w.into l.leads;
          left = w.ops;
          end = w.exit;
          waiting = frames_more p slots core (record core { function = frame.graph; block = frame.block; at = frame.at; vars = vars }) (grows_same core.blocks core.statics) h.result frames rest;
          memory = same_memory p slots core frame.graph frame.block frame.at vars core.steps l.memory;
        },
      )

  -- ---- steps

  same_graph : (args : List (List ℕ)) (ops : List LlOp) (exit : LlExit) (frames : List Frame) (core : Core) (g h : LlGraph) → AtFits p ops exit frames core g → AtLeads p slots ops exit frames core h
      → NextLeads p slots (step p args (At ops exit frames core))
  same_graph args ops exit frames core g h fit l =
      let e : Some g ≡ Some h = sym fit.of ∙ l.of in let same : g ≡ h = cc in
      at_leads args ops exit frames core h l (subst (λ g. operations_ok p g.types ops ≡ true) same fit.left) (subst (λ g. exit_ok p g exit ≡ true) same fit.end)

  pub step_leads : (args : List (List ℕ)) (s : State) → StateFits p s → StateLeads p slots s → NextLeads p slots (step p args s)
  step_leads args (Calling f values frames core) fit (g, l) = entered_leads f values frames core g l
  step_leads args (At ops exit frames core) (g, fit) (h, l) = same_graph args ops exit frames core g h fit l
  step_leads args (Returning value frames core) fit (g, l) = returned_leads value frames core g l
  step_leads args (Throwing value frames core) fit l = absurd l
