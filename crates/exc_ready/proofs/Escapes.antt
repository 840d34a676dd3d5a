-- In the run of any program an exception leaves none but a graph that is marked.
use Rattle.std.proofs.Common.{◌≡◌, ℕ, zero, suc, Bool, true, false, ◌&&◌, ◌||◌, List, [], ◌∷◌, ◌++◌, map, Option, Some, None, Result, Ok, Err, refl, sym, ap, ◌∙◌, subst, ℤ}
use Rattle.std.specs.Prelude.{slice_get, slice_set, cond, not}
use Rattle.rpy_base.specs.declared.outcome.Outcome.TheVariants.{Returned}
use Rattle.csub_tree.specs.State.{Value, Block, Core, After, Onward, Puts as PutsByte, Told, Over, Stuck, Event}
use Rattle.csub_tree.specs.Operation.{is_unset, word_of, flag_of}
use Rattle.csub_tree.specs.Statement as st
use Rattle.csub_tree.specs.Statement.{read, operand, operands, any_unset, reached, on_block, fun_of, same_result, same_types, fail_name_of}
use Rattle.csub_tree.specs.declared.stuck.StuckReason.{StuckReason}
use Rattle.csub_tree.specs.declared.stuck.StuckReason.TheVariants.{Unset as IsUnset, Signature}
use Rattle.csub_tree.specs.declared.tree.CType.{CType}
use Rattle.csub_tree.specs.declared.tree.CType.TheVariants as c
use Rattle.ll_code.specs.State.{Frame, State, Calling, At, Returning, Throwing, Next, Goes, Puts, Tells, Ends, Sticks}
use Rattle.ll_code.specs.Machine.{does, goes_on, shapes_of, block_in, begins, jump, branch, caught, waiting, resumed, called_as, called_value, enters, entered, returned, given, operates, type_in, leaves, step, start, param_types, c_result, c_type}
use Rattle.ll_code.specs.Meaning.{Ran, Ended, Unfinished, run, follow}
use Rattle.ll_code.specs.declared.program.LlLink.{LlLink}
use Rattle.ll_code.specs.declared.program.LlOp.{LlOp}
use Rattle.ll_code.specs.declared.program.LlOp.TheVariants as op
use Rattle.ll_code.specs.declared.program.LlExit.{LlExit}
use Rattle.ll_code.specs.declared.program.LlExit.TheVariants as exit
use Rattle.ll_code.specs.declared.program.LlBlock.{LlBlock}
use Rattle.ll_code.specs.declared.program.LlGraph.{LlGraph}
use Rattle.ll_code.specs.declared.program.LlProgram.{LlProgram}
use Rattle.ll_held.specs.Places.{PlacedAt, IsPlaced}
use Rattle.ll_held.proofs.Placing.{AfterMoves, does_moves, NextPlaced, step_placed, start_placed}
use Rattle.exc_transform.specs.Explicit.{is_marked}
use Rattle.exc_transform.specs.Raising.{may_raise, catches, is_last, ops_leave, exit_leaves}
use Rattle.exc_laws.specs.Ready.{marks_of, any_of}
use Rattle.exc_laws.specs.Stands.{Leaving}
use Rattle.exc_laws.proofs.Tests.{or_first, or_second}
use Rattle.exc_laws.proofs.Marks.{block_leaving, unmarked}
use Rattle.exc_ready.specs.Along.{EachState, LeavesMarked}
use Rattle.exc_ready.proofs.Placed.{placed_holds}

module _ (p : LlProgram) where
  abbrev pub Marked : ℕ → Type 0
  Marked f = is_marked (marks_of p) f ≡ true

  -- ---- who waits: where the call of a marked graph is not caught, its own graph is marked; the first graph is the entry

  abbrev pub Escapes : ℕ → List Frame → Type 0
  Escapes f [] = f ≡ p.entry
  Escapes f (frame ∷ frames) = (Marked f → (is_last frame.ops && catches frame.exit) ≡ false → Marked frame.graph) × Escapes frame.graph frames

  abbrev pub StateEscapes : State → Type 0
  StateEscapes (Calling f values frames core) = Escapes f frames
  StateEscapes (At ops e frames core) = Escapes core.function frames
  StateEscapes (Returning value frames core) = Escapes core.function frames
  StateEscapes (Throwing value frames core) = Marked core.function × Escapes core.function frames

  abbrev pub NextEscapes : Next → Type 0
  NextEscapes (Goes s) = StateEscapes s
  NextEscapes (Puts byte s) = StateEscapes s
  NextEscapes (Tells event s) = StateEscapes s
  NextEscapes (Ends outcome core) = Unit {0}
  NextEscapes (Sticks reason) = Unit {0}

  -- ---- what is placed

  next_leaves : (e : LlExit) (o : LlOp) (ops : List LlOp) → (exit_leaves e || ops_leave (marks_of p) (any_of p) ops e) ≡ true → (exit_leaves e || ops_leave (marks_of p) (any_of p) (o ∷ ops) e) ≡ true
  next_leaves e o ops h = one (exit_leaves e) h
    where
      one : (b : Bool) → (b || ops_leave (marks_of p) (any_of p) ops e) ≡ true → (b || ops_leave (marks_of p) (any_of p) (o ∷ ops) e) ≡ true
      one true h = refl
      one false h = or_second (may_raise (marks_of p) (any_of p) o && not (is_last ops && catches e)) (ops_leave (marks_of p) (any_of p) ops e) h

  pub placed_leaving : (f n place : ℕ) (ops : List LlOp) (e : LlExit) → PlacedAt p f n place ops e → Leaving p f ops e
  placed_leaving f n place ops e h =
      placed_holds p (λ ops e. Leaving p f ops e) (λ e o ops leaving k. leaving (next_leaves e o ops k)) f n place ops e (λ graph block of at. block_leaving p f graph of n block at) h

  -- an exception of this operation is caught, or the graph is marked
  op_leaving : (f n place : ℕ) (o : LlOp) (ops : List LlOp) (e : LlExit) → PlacedAt p f n place (o ∷ ops) e → may_raise (marks_of p) (any_of p) o ≡ true → (is_last ops && catches e) ≡ false → Marked f
  op_leaving f n place o ops e h may not_caught =
      placed_leaving f n place (o ∷ ops) e h
      (or_second (exit_leaves e) (ops_leave (marks_of p) (any_of p) (o ∷ ops) e)
      (or_first (may_raise (marks_of p) (any_of p) o && not (is_last ops && catches e)) (ops_leave (marks_of p) (any_of p) ops e) (ap (λ b. b && not (is_last ops && catches e)) may ∙ ap not not_caught)))

  -- ---- steps

  module _ (args : List (List ℕ)) where
    either : (b : Bool) (x y : Next) → NextEscapes x → NextEscapes y → NextEscapes (cond b x y)
    either true x y h k = h
    either false x y h k = k

    goes : (ops : List LlOp) (e : LlExit) (frames : List Frame) (core : Core) → Escapes core.function frames → (after : After) → AfterMoves core after → NextEscapes (goes_on (At ops e frames) after)
    goes ops e frames core w (Onward next) m = subst (λ f. Escapes f frames) (sym m.function) w
    goes ops e frames core w (PutsByte byte next) m = subst (λ f. Escapes f frames) (sym m.function) w
    goes ops e frames core w (Told event next) m = subst (λ f. Escapes f frames) (sym m.function) w
    goes ops e frames core w (Over outcome next) m = tt
    goes ops e frames core w (Stuck reason) m = tt

    begun : (frames : List Frame) (core : Core) (to : ℕ) (values : List Value) (o : Option LlBlock) → Escapes core.function frames → NextEscapes (begins frames core to values o)
    begun frames core to values None w = tt
    begun frames core to values (Some block) w = w

    jumped : (frames : List Frame) (core : Core) (link : LlLink) → Escapes core.function frames → NextEscapes (jump p frames core link)
    jumped frames core link w =
        either (any_unset (operands core.vars link.args)) (Sticks IsUnset) (begins frames core link.to (operands core.vars link.args) (block_in (slice_get p.graphs core.function) link.to)) tt
        (begun frames core link.to (operands core.vars link.args) (block_in (slice_get p.graphs core.function) link.to) w)

    branched : (frames : List Frame) (core : Core) (there elsewhere : LlLink) (o : Option Bool) → Escapes core.function frames → NextEscapes (branch p frames core there elsewhere o)
    branched frames core there elsewhere None w = tt
    branched frames core there elsewhere (Some true) w = jumped frames core there w
    branched frames core there elsewhere (Some false) w = jumped frames core elsewhere w

    caught_escapes : (value : Value) (ops : List LlOp) (e : LlExit) (frames : List Frame) (core : Core) → ((is_last ops && catches e) ≡ false → Marked core.function) → Escapes core.function frames → NextEscapes (caught p value ops e frames core)
    caught_escapes value (o ∷ ops) e frames core out w = (out refl, w)
    caught_escapes value [] (exit.OnRaise a (Some link) without) frames core out w = jumped frames (record core { vars = slice_set core.vars a value }) link w
    caught_escapes value [] (exit.OnRaise a None without) frames core out w = (out refl, w)
    caught_escapes value [] other frames core out w = (out refl, w)

    given_escapes : (value : Value) (go : Value → Next) → NextEscapes (go value) → NextEscapes (given value go)
    given_escapes value go h = either (is_unset value) (Sticks IsUnset) (go value) tt h

    -- ---- calls

    calls_as : (result : Option CType) (params : List CType) (f : ℕ) (values : List Value) (frames : List Frame) (core : Core) (o : Option LlGraph) → Escapes f frames → NextEscapes (called_as result params f values frames core o)
    calls_as result params f values frames core None w = tt
    calls_as result params f values frames core (Some graph) w = either (same_result (c_result graph.result) result && same_types (param_types graph) params) (Goes (Calling f values frames core)) (Sticks Signature) w tt

    calls_value : (result : Option CType) (params : List CType) (o : Option ℕ) (values : List Value) (frames : List Frame) (core : Core) → ((f : ℕ) → Escapes f frames) → NextEscapes (called_value p result params o values frames core)
    calls_value result params None values frames core w = tt
    calls_value result params (Some f) values frames core w = calls_as result params f values frames core (slice_get p.graphs f) (w f)

    entered_escapes : (f : ℕ) (values : List Value) (frames : List Frame) (core : Core) (o : Option LlGraph) → Escapes f frames → NextEscapes (entered f values frames core o)
    entered_escapes f values frames core None w = tt
    entered_escapes f values frames core (Some graph) w = one (slice_get graph.blocks 0)
      where
        one : (b : Option LlBlock) → NextEscapes (enters f values frames core graph b)
        one None = tt
        one (Some block) = w

    any_marked : (f : ℕ) → Marked f → any_of p ≡ true
    any_marked f m = by (any_of p) refl
      where
        by : (b : Bool) → any_of p ≡ b → any_of p ≡ true
        by true e = e
        by false e = absurd (let x : true ≡ false = sym m ∙ unmarked p f e in cc)

    operates_escapes : (o : LlOp) (ops : List LlOp) (e : LlExit) (frames : List Frame) (core : Core) → PlacedAt p core.function core.block core.at (o ∷ ops) e → Escapes core.function frames → NextEscapes (operates p args o ops e frames core)
    operates_escapes (op.Call into f xs) ops e frames core h w =
        either (any_unset (operands core.vars xs)) (Sticks IsUnset) (Goes (Calling f (operands core.vars xs) (waiting core into ops e ∷ frames) core)) tt
        (λ m out. op_leaving core.function core.block core.at (op.Call into f xs) ops e h m out, w)
    operates_escapes (op.CallFn into result params b xs) ops e frames core h w =
        either (is_unset (read core.vars b) || any_unset (operands core.vars xs)) (Sticks IsUnset)
        (called_value p (c_result result) (map c_type params) (fun_of (read core.vars b)) (operands core.vars xs) (waiting core into ops e ∷ frames) core) tt
        (calls_value (c_result result) (map c_type params) (fun_of (read core.vars b)) (operands core.vars xs) (waiting core into ops e ∷ frames) core
        (λ f. (λ m out. op_leaving core.function core.block core.at (op.CallFn into result params b xs) ops e h (any_marked f m) out, w)))
    operates_escapes (op.Raise a) ops e frames core h w =
        given_escapes (read core.vars a) (λ value. caught p value ops e frames core) (caught_escapes (read core.vars a) ops e frames core (λ out. op_leaving core.function core.block core.at (op.Raise a) ops e h refl out) w)
    operates_escapes other ops e frames core h w = goes ops e frames core w (does p args core other) (does_moves core p args other)

    leaves_escapes : (e : LlExit) (frames : List Frame) (core : Core) → PlacedAt p core.function core.block core.at [] e → Escapes core.function frames → NextEscapes (leaves p e frames core)
    leaves_escapes (exit.Goto link) frames core h w = jumped frames core link w
    leaves_escapes (exit.If a there elsewhere) frames core h w = branched frames core there elsewhere (flag_of (read core.vars a)) w
    leaves_escapes (exit.OnRaise a by without) frames core h w = jumped frames core without w
    leaves_escapes (exit.Return None) frames core h w = w
    leaves_escapes (exit.Return (Some x)) frames core h w = given_escapes (operand core.vars x) (λ value. Goes (Returning value frames core)) w
    leaves_escapes (exit.Raise a) frames core h w =
        given_escapes (read core.vars a) (λ value. Goes (Throwing value frames core)) (placed_leaving core.function core.block core.at [] (exit.Raise a) h refl, w)
    leaves_escapes (exit.Fail number) frames core h w = one (fail_name_of number)
      where
        one : (o : Option _) → NextEscapes (goes_on (At [] (exit.Fail number) frames) (st.fail core o))
        one None = tt
        one (Some name) = tt
    leaves_escapes (exit.Raised a) frames core h w = by (type_in (slice_get p.graphs core.function) a)
      where
        named : (o : Option (List ℕ)) → NextEscapes (goes_on (At [] (exit.Raised a) frames) (st.raised_as core o))
        named None = tt
        named (Some name) = tt

        found : (r : Result Block StuckReason) → NextEscapes (goes_on (At [] (exit.Raised a) frames) (on_block (λ block. st.raised_as core (st.bytes_of block.items)) r))
        found (Ok block) = named (st.bytes_of block.items)
        found (Err reason) = tt

        by : (o : Option CType) → NextEscapes (goes_on (At [] (exit.Raised a) frames) (st.raised core (shapes_of p.structs) o (read core.vars a)))
        by (Some (c.Ptr n)) = found (reached core (shapes_of p.structs) n (read core.vars a))
        by other = tt

    ended_escapes : (value : Value) (core : Core) → NextEscapes (returned value [] core)
    ended_escapes value core = one (word_of value)
      where
        one : (o : Option ℤ) → NextEscapes (goes_on (Returning value []) (st.on (λ n. Over (Returned n) (record core { vars = [] })) o))
        one None = tt
        one (Some n) = tt

    pub step_escapes : (s : State) → IsPlaced p s → StateEscapes s → NextEscapes (step p args s)
    step_escapes (Calling f values frames core) h w = entered_escapes f values frames core (slice_get p.graphs f) w
    step_escapes (At [] e frames core) h w = leaves_escapes e frames core h.0 w
    step_escapes (At (o ∷ ops) e frames core) h w = operates_escapes o ops e frames core h.0 w
    step_escapes (Returning value [] core) h w = ended_escapes value core
    step_escapes (Returning value (frame ∷ frames) core) h w = w.1
    step_escapes (Throwing value [] core) h w = tt
    step_escapes (Throwing value (frame ∷ frames) core) h w = caught_escapes value frame.ops frame.exit frames (resumed frame core) (w.1.0 w.0) w.1.1

    -- ---- runs

    abbrev pub RanEscapes : Ran → Type 0
    RanEscapes (Unfinished s text events) = StateEscapes s
    RanEscapes (Ended ending left text events) = Unit {0}

    on_next : (k : ℕ) → ((s : State) (text : List ℕ) (events : List Event) → IsPlaced p s → StateEscapes s → RanEscapes (run p args k s text events)) → (text : List ℕ) (events : List Event) (next : Next) → NextPlaced p next → NextEscapes next
        → RanEscapes (follow (run p args k) text events next)
    on_next k go text events (Goes s) h w = go s text events h w
    on_next k go text events (Puts byte s) h w = go s (text ++ byte ∷ []) events h w
    on_next k go text events (Tells event s) h w = go s text (events ++ event ∷ []) h w
    on_next k go text events (Ends outcome core) h w = tt
    on_next k go text events (Sticks reason) h w = tt

    run_escapes : (k : ℕ) (s : State) (text : List ℕ) (events : List Event) → IsPlaced p s → StateEscapes s → RanEscapes (run p args k s text events)
    unfolding run
    run_escapes zero s text events h w = w
    run_escapes (suc k) s text events h w = on_next k (run_escapes k) text events (step p args s) (step_placed p args s h) (step_escapes s h w)

    pub state_escapes : (steps : ℕ) → EachState StateEscapes p args steps
    state_escapes steps = λ k s text events e. subst RanEscapes e (run_escapes k (start p steps) [] [] (start_placed p args steps) refl)

    leaves_marked : (s : State) → StateEscapes s → LeavesMarked p s
    leaves_marked (Throwing value frames core) w = w.0
    leaves_marked other w = tt

pub exceptions_leave_marked : (p : LlProgram) (args : List (List ℕ)) (steps : ℕ) → EachState (LeavesMarked p) p args steps
exceptions_leave_marked p args steps = λ k s text events e. leaves_marked p args s (state_escapes p args steps k s text events e)
