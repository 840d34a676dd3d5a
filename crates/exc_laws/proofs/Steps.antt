-- The machine of the explicit program follows each step of the program.
use Rattle.std.proofs.Common.{◌≡◌, ◌<◌, ◌≤◌, ℕ, zero, suc, ◌+◌, ◌-◌, Bool, true, false, ◌&&◌, ◌||◌, ◌==◌, List, [], ◌∷◌, ◌++◌, length, map, replicate, Option, Some, None, Ok, refl, sym, ap, ◌∙◌, subst, arith, ◌⊎◌, inl, inr, ℤ}
use Rattle.std.specs.Prelude.{slice_get, slice_set, cond, is_some, not}
use Rattle.std.proofs.lemmas.Option.{slice_get_within}
use Rattle.rpy_base.specs.declared.outcome.Outcome.TheVariants.{Returned}
use Rattle.csub_tree.specs.State.{Value, Unset, Flag, Null, Ptr, Static, Core, After, Onward, Puts as PutsByte, Told, Over, Stuck}
use Rattle.csub_tree.specs.Operation.{is_unset, compared, word_of}
use Rattle.csub_tree.specs.Statement as st
use Rattle.csub_tree.specs.Statement.{read, operands, any_unset, taken_by, ended, fun_of, same_result, same_types}
use Rattle.csub_tree.specs.declared.stuck.StuckReason.TheVariants.{Unset as IsUnset, Signature}
use Rattle.csub_tree.specs.declared.tree.COperand.{COperand}
use Rattle.csub_tree.specs.declared.tree.COperand.TheVariants.{Var}
use Rattle.ll_code.specs.State.{Frame, State, Calling, At, Returning, Throwing, Next, Goes, Puts, Tells, Ends, Sticks}
use Rattle.ll_code.specs.Machine.{step, does, goes_on, jump, branch, begins, block_in, set_all, c_type, c_result, param_types, caught, waiting, resumed, called, called_value, called_as, entered, enters, returned, thrown, given}
use Rattle.ll_code.specs.Typed.{IsWellTyped, is_counted, link_ok, points, operation_ok, operations_ok, exit_ok, graph_ok, graphs_ok, result_ok, params_ok, is_type_given}
use Rattle.ll_code.specs.declared.program.LlStage.TheVariants as stage
use Rattle.ll_code.specs.declared.program.LlType.{LlType}
use Rattle.ll_code.specs.declared.program.LlLink.{LlLink}
use Rattle.ll_code.specs.declared.program.LlOp.{LlOp}
use Rattle.ll_code.specs.declared.program.LlOp.TheVariants as op
use Rattle.ll_code.specs.declared.program.LlExit.{LlExit}
use Rattle.ll_code.specs.declared.program.LlExit.TheVariants as exit
use Rattle.ll_code.specs.declared.program.LlBlock.{LlBlock}
use Rattle.ll_code.specs.declared.program.LlGraph.{LlGraph}
use Rattle.ll_code.specs.declared.program.LlProgram.{LlProgram}
use Rattle.ll_laws.specs.Fits.{CoreFits, exception}
use Rattle.ll_laws.specs.States.{FramesFit, CallingFits, LeavesFits, AtFits, StateFits}
use Rattle.ll_laws.proofs.Values.{and_left, and_right, is_same, is_less}
use Rattle.ll_laws.proofs.Operations.{length_set}
use Rattle.exc_transform.specs.declared.pieces.Ending.{Ending}
use Rattle.exc_transform.specs.declared.pieces.Ending.TheVariants.{Leaves, Raises, Tested}
use Rattle.exc_transform.specs.Explicit.{graphs_calm, is_marked, is_tested, default_of, led_to, same_led, giving, raising, taking, raised_ops, way_ops, way_exit, testing}
use Rattle.exc_transform.specs.Raising.{may_raise, catches, is_last, ops_leave, exit_leaves, some_raises, raises_within}
use Rattle.ll_live.specs.Live.{among, variables_in, reads, set_by}
use Rattle.exc_transform.specs.Live.{read_behind, handler_reads, exit_reads, as_operands, live}
use Rattle.exc_transform.specs.Pieces.{explicit, called as called_ending, test_types, onward, on_by, on, link_to, test_exit, ending_in, ops_by, exit_by, piece_ops, piece_exit, piece, rest_block, rest_blocks, way_block, behind_by, behind}
use Rattle.exc_transform.proofs.Without.{raises_is, tested_calm}
use Rattle.ll_live.specs.Live.{sets}
use Rattle.exc_laws.specs.Ready.{marks_of, any_of, exceptions_of, IsClosed, IsWhole, ReadyAt, IsReady, is_pointer}
use Rattle.exc_laws.specs.Stands.{explicit_graph, around_in, From, needs, Beside, IsClear, PieceAt, TestAt, Leaving, Testing, Tests, Waits, Wait, SameHandled, StandsCalling, StandsAt, StandsReturning, StandsThrowing, Stands}
use Rattle.ll_held.specs.Roots.{read_by}
use Rattle.ll_held.specs.Places.{PlacedAt, IsPlaced}
use Rattle.ll_held.specs.Held.{Held}
use Rattle.ll_held.specs.Quiet.{is_quiet, StaticsAreApart}
use Rattle.ll_held.proofs.Placing.{under_is}
use Rattle.exc_laws.specs.Follows.{Leads, Follows}
use Rattle.exc_laws.proofs.Tests.{or_first, or_second, equals, length_both}
use Rattle.exc_laws.proofs.Lives.{among_own, reads_needed, rest_needed, more_needed, handled_needed, needed_live, live_needed, behind_reads}
use Rattle.exc_laws.proofs.Typed.{is_there, all_there, reads_there, handler_there, exit_reads_there}
use Rattle.exc_laws.proofs.Marks.{unmarked, block_leaving, block_testing}
use Rattle.exc_laws.proofs.Operations.{SameOn, operands_same, Done, SameAfter, does_same}
use Rattle.exc_laws.proofs.Slots.{set_here, set_elsewhere, one, then, Tested as TestedRun, tests_run, Raised, raising_run, taking_run}
use Rattle.exc_laws.proofs.Waiting.{sets_within, result_within, taken_size, taken_same, taken_apart, own_values, none_unset}
use Rattle.exc_laws.proofs.Jumps.{not_same, graph_at, graph_made, none_made, parameters_same, more_types, set_all_size, jump_follows}
use Rattle.exc_laws.proofs.Places.{block_placed}
use Rattle.exc_laws.proofs.Exits.{follows_later, does_now, comes_now, default_run, exit_follows, thrown_follows}

-- the core behind a link that passes variables to themselves
abbrev passed : Core → ℕ → List ℕ → Core
passed core to vs = record core { block = to; at = 0; vars = set_all core.vars vs (operands core.vars (as_operands vs)) }

-- a variable of a list whose variables have types
all_within : (types : List LlType) (w : ℕ) (vs : List ℕ) → all_there types vs ≡ true → among w vs ≡ true → w < length types
all_within types w [] h k = absurd (cc)
all_within types w (v ∷ vs) h k = one (all_within types w vs (and_right (is_there (slice_get types v)) _ h)) (v == w) refl k
  where
    typed : (o : Option LlType) → slice_get types v ≡ o → is_there o ≡ true → v < length types
    typed None e i = absurd (cc)
    typed (Some t) e i = slice_get_within types v t e

    one : (among w vs ≡ true → w < length types) → (b : Bool) → (v == w) ≡ b → (b || among w vs) ≡ true → w < length types
    one go true e k = subst (λ w. w < length types) (is_same v w e) (typed (slice_get types v) refl (and_left _ _ h))
    one go false e k = go k

module _ (p : LlProgram) (ok : IsWellTyped p) (raw : p.stage ≡ stage.Raw) (raises : graphs_calm p.graphs ≡ false) (closed : IsClosed p) (args : List (List ℕ)) where
  all_graphs : graphs_ok p p.graphs ≡ true
  all_graphs = and_right _ _ (and_left _ _ ok)

  good : (f : ℕ) (g : LlGraph) → slice_get p.graphs f ≡ Some g → graph_ok p g ≡ true
  good f g e = graph_at p p.graphs f g all_graphs e

  -- ---- a graph that runs

  module _ (graph : LlGraph) (frames x_frames : List Frame) (core x_core : Core) (of : slice_get p.graphs core.function ≡ Some graph) (beside : Beside core x_core) (clear : IsClear x_core) (fit : CoreFits p graph.types core)
      (size : length x_core.vars ≡ length (explicit_graph p graph).types) (wait : Wait p core.function frames x_frames) where
    -- the variables that are written are in both
    within_both : (o : LlOp) → operation_ok p graph.types o ≡ true → (v : ℕ) → sets (set_by o) v ≡ true → (v < length core.vars) × (v < length x_core.vars)
    within_both o h v s =
        let lt : v < length graph.types = sets_within p graph.types o h v s in let count : length core.vars ≡ length graph.types = fit.vars.count in
        let more : length graph.types ≤ length (explicit_graph p graph).types = more_types p raises args graph in (omega (arith, lt, count), omega (arith, lt, more, size))

    -- ---- an operation that stays in its block

    written : (o : LlOp) (rest : List LlOp) (e : LlExit) (next x_next : Core) → operation_ok p graph.types o ≡ true → Done (set_by o) core x_core next x_next
        → ((v : ℕ) → needs p false (o ∷ rest) e v ≡ true → read x_core.vars v ≡ read core.vars v) → (v : ℕ) → needs p false rest e v ≡ true → read x_next.vars v ≡ read next.vars v
    written o rest e next x_next h d same v n =
        ap (λ vars. read vars v) d.x_vars
        ∙ taken_same core.vars x_core.vars (set_by o) d.written v (within_both o h v) (λ s. same v (rest_needed p false o rest e v s (more_needed p (may_raise (marks_of p) (any_of p) o) rest e v n)))
        ∙ sym (ap (λ vars. read vars v) d.vars)

    goes_follows : (o : LlOp) (rest : List LlOp) (e : LlExit) (x_ops : List LlOp) (x_exit : LlExit) (x : State) (after x_after : After) → operation_ok p graph.types o ≡ true
        → ((v : ℕ) → needs p false (o ∷ rest) e v ≡ true → read x_core.vars v ≡ read core.vars v) → Leaving p core.function rest e → Testing p graph rest e → PieceAt p graph rest e x_ops x_exit
        → SameAfter (set_by o) core x_core after x_after → step (explicit p) args x ≡ goes_on (At x_ops x_exit x_frames) x_after → Follows p args x (goes_on (At rest e frames) after)
    goes_follows o rest e x_ops x_exit x after x_after h same leaving tests left s stepped = on_after after x_after s stepped
      where
        stands : (next x_next : Core) → Done (set_by o) core x_core next x_next → StandsAt p rest e frames next x_ops x_exit x_frames x_next graph
        stands next x_next d = record {
          of = ap (slice_get p.graphs) d.graph ∙ of;
          beside = d.beside;
          clear = (d.kind ∙ clear.0, d.value ∙ clear.1);
          size = ap length d.x_vars ∙ taken_size x_core.vars (set_by o) d.written ∙ size;
          vars = written o rest e next x_next h d same;
          leaving = subst (λ f. Leaving p f rest e) (sym d.graph) leaving;
          testing = tests;
          left = inl left;
          waiting = subst (λ f. Wait p f frames x_frames) (sym d.graph) wait;
        }

        on_after : (after x_after : After) → SameAfter (set_by o) core x_core after x_after → step (explicit p) args x ≡ goes_on (At x_ops x_exit x_frames) x_after → Follows p args x (goes_on (At rest e frames) after)
        on_after (Onward next) (Onward x_next) d f = comes_now p raises closed args x (At rest e frames next) (At x_ops x_exit x_frames x_next) f (graph, stands next x_next d)
        on_after (PutsByte byte next) (PutsByte x_byte x_next) d f = (At x_ops x_exit x_frames x_next, does_now p raises closed args x (Puts byte (At x_ops x_exit x_frames x_next)) (f ∙ ap (λ b. Puts b (At x_ops x_exit x_frames x_next)) d.0), (graph, stands next x_next d.1))
        on_after (Told event next) (Told x_event x_next) d f = (At x_ops x_exit x_frames x_next, does_now p raises closed args x (Tells event (At x_ops x_exit x_frames x_next)) (f ∙ ap (λ b. Tells b (At x_ops x_exit x_frames x_next)) d.0), (graph, stands next x_next d.1))
        on_after (Over outcome next) (Over x_outcome x_next) d f = (x_next, does_now p raises closed args x (Ends outcome x_next) (f ∙ ap (λ o. Ends o x_next) d.0), d.1)
        on_after (Stuck reason) (Stuck x_reason) d f = does_now p raises closed args x (Sticks reason) (f ∙ ap Sticks d)
        on_after after x_after d f = absurd d

    -- ---- calls

    -- the call waits on both sides
    waits_for : (f : ℕ) (o : LlOp) (into : Option ℕ) (rest : List LlOp) (e : LlExit) (x_ops : List LlOp) (x_exit : LlExit) → PlacedAt p core.function core.block core.at (o ∷ rest) e → PlacedAt (explicit p) x_core.function x_core.block x_core.at (o ∷ x_ops) x_exit → set_by o ≡ into
        → ((v : ℕ) → needs p false (o ∷ rest) e v ≡ true → read x_core.vars v ≡ read core.vars v) → Leaving p core.function rest e → Testing p graph rest e
        → (PieceAt p graph rest e x_ops x_exit × (is_marked (marks_of p) f ≡ false)) ⊎ Tests p graph (waiting core into rest e) (waiting x_core into x_ops x_exit) → Waits p f graph (waiting core into rest e) (waiting x_core into x_ops x_exit)
    waits_for f o into rest e x_ops x_exit place x_place is same leaving tests left = record {
      of = of;
      same = beside.function;
      into = refl;
      size = size;
      vars = λ v n s. same v (rest_needed p false o rest e v (ap (λ a. sets a v) is ∙ s) (more_needed p (may_raise (marks_of p) (any_of p) o) rest e v n));
      leaving = leaving;
      testing = tests;
      under = λ v r.
          (let h : among v (reads o) ≡ true = ap (λ u. read_by u v) (sym (under_is (explicit p) o x_ops x_exit into x_core x_place)) ∙ r in
          (ap (λ u. read_by u v) (under_is p o rest e into core place) ∙ h, same v (reads_needed p false o rest e v h)));
      left = left;
    }

    -- a call waits behind a test, or makes no exception
    tested_for : (o : LlOp) (into : Option ℕ) (rest : List LlOp) (e : LlExit) (way : ℕ) → set_by o ≡ into → is_tested (marks_of p) (any_of p) o ≡ true → may_raise (marks_of p) (any_of p) o ≡ true
        → ((v : ℕ) → needs p false (o ∷ rest) e v ≡ true → read x_core.vars v ≡ read core.vars v) → ReadyAt p (o ∷ rest) e core → Leaving p core.function (o ∷ rest) e → Testing p graph (o ∷ rest) e
        → From (explicit_graph p graph).blocks way (way_block (around_in p graph) rest e ∷ rest_blocks (around_in p graph) rest e way (is_some (onward rest e)) (behind (around_in p graph) (way + 2) rest e))
        → Tests p graph (waiting core into rest e) (waiting x_core into (testing (exceptions_of p) (length graph.types) (length graph.types + 1)) (test_exit (around_in p graph) rest e way))
    tested_for o into rest e way is tested may same ready leaving tests blocks = record {
      test = record { room = tests (or_second (exit_leaves e) _ (or_first (may_raise (marks_of p) (any_of p) o) _ may)); way = way; left = refl; end = refl; blocks = blocks };
      handled = λ v h.
          (let free : sets (set_by o) v ≡ false = apart v h (ready.apart v) in
          let n : needs p false (o ∷ rest) e v ≡ true = rest_needed p false o rest e v free (subst (λ b. needs p b rest e v ≡ true) (sym may) (handled_needed p rest e v h)) in
          record { same = same v n; set = ready.set v (needed_live p e v (o ∷ rest) n); apart = ap (λ a. sets a v) (sym is) ∙ free });
      out = λ h. leaving (or_second (exit_leaves e) _ (or_first _ (ops_leave (marks_of p) (any_of p) rest e) (both may h)));
    }
      where
        apart : (v : ℕ) → among v (handler_reads rest e) ≡ true → not (among v (handler_reads rest e) && sets (set_by o) v) ≡ true → sets (set_by o) v ≡ false
        apart v h k = free (sets (set_by o) v) (ap (λ b. not (b && sets (set_by o) v)) (sym h) ∙ k)
          where
            free : (b : Bool) → not b ≡ true → b ≡ false
            free true h = absurd (cc)
            free false h = refl

        both : may_raise (marks_of p) (any_of p) o ≡ true → (is_last rest && catches e) ≡ false → (may_raise (marks_of p) (any_of p) o && not (is_last rest && catches e)) ≡ true
        both m h = ap (λ b. b && not (is_last rest && catches e)) m ∙ ap not h

    -- a call is made on both sides
    call_follows : (into : Option ℕ) (f : ℕ) (xs : List COperand) (rest : List LlOp) (e : LlExit) (x_ops : List LlOp) (x_exit : LlExit) → SameOn (variables_in xs) core.vars x_core.vars
        → Waits p f graph (waiting core into rest e) (waiting x_core into x_ops x_exit)
        → Follows p args (At (op.Call into f xs ∷ x_ops) x_exit x_frames x_core) (called f (operands core.vars xs) (waiting core into rest e ∷ frames) core)
    call_follows into f xs rest e x_ops x_exit same w = set (any_unset (operands core.vars xs)) refl
      where
        stepped : (b : Bool) → any_unset (operands core.vars xs) ≡ b
            → step (explicit p) args (At (op.Call into f xs ∷ x_ops) x_exit x_frames x_core) ≡ cond b (Sticks IsUnset) (Goes (Calling f (operands core.vars xs) (waiting x_core into x_ops x_exit ∷ x_frames) x_core))
        stepped b i =
            ap (λ vs. called f vs (waiting x_core into x_ops x_exit ∷ x_frames) x_core) (operands_same core.vars x_core.vars xs same)
            ∙ ap (λ b. cond b (Sticks IsUnset) (Goes (Calling f (operands core.vars xs) (waiting x_core into x_ops x_exit ∷ x_frames) x_core))) i

        set : (b : Bool) → any_unset (operands core.vars xs) ≡ b
            → Follows p args (At (op.Call into f xs ∷ x_ops) x_exit x_frames x_core) (cond b (Sticks IsUnset) (Goes (Calling f (operands core.vars xs) (waiting core into rest e ∷ frames) core)))
        set true i = does_now p raises closed args (At (op.Call into f xs ∷ x_ops) x_exit x_frames x_core) (Sticks IsUnset) (stepped true i)
        set false i =
            comes_now p raises closed args (At (op.Call into f xs ∷ x_ops) x_exit x_frames x_core) (Calling f (operands core.vars xs) (waiting core into rest e ∷ frames) core)
            (Calling f (operands core.vars xs) (waiting x_core into x_ops x_exit ∷ x_frames) x_core) (stepped false i) (record { called = refl; given = refl; beside = beside; clear = clear; waiting = (graph, w, wait) })

    -- a function value is called on both sides
    module _ (into : Option ℕ) (result : LlType) (params : List LlType) (b : ℕ) (xs : List COperand) (rest : List LlOp) (e : LlExit) (x_ops : List LlOp) (x_exit : LlExit) (same : SameOn (b ∷ variables_in xs) core.vars x_core.vars)
        (w : (f : ℕ) → Waits p f graph (waiting core into rest e) (waiting x_core into x_ops x_exit)) where
      abbrev Asks : State
      Asks = At (op.CallFn into result params b xs ∷ x_ops) x_exit x_frames x_core

      abbrev Called : Option ℕ → Next
      Called o = called_value (explicit p) (c_result result) (map c_type params) o (operands core.vars xs) (waiting x_core into x_ops x_exit ∷ x_frames) x_core

      asked : (t : Bool) → (is_unset (read core.vars b) || any_unset (operands core.vars xs)) ≡ t → step (explicit p) args Asks ≡ cond t (Sticks IsUnset) (Called (fun_of (read core.vars b)))
      asked t i =
          ap (λ v. cond (is_unset v || any_unset (operands x_core.vars xs)) (Sticks IsUnset) (called_value (explicit p) (c_result result) (map c_type params) (fun_of v) (operands x_core.vars xs) (waiting x_core into x_ops x_exit ∷ x_frames) x_core))
          (same b (or_first (b == b) _ (equals b b refl)))
          ∙ ap (λ vs. cond (is_unset (read core.vars b) || any_unset vs) (Sticks IsUnset) (called_value (explicit p) (c_result result) (map c_type params) (fun_of (read core.vars b)) vs (waiting x_core into x_ops x_exit ∷ x_frames) x_core))
          (operands_same core.vars x_core.vars xs (λ v h. same v (or_second (b == v) _ h)))
          ∙ ap (λ t. cond t (Sticks IsUnset) (Called (fun_of (read core.vars b)))) i

      typed_follows : (f : ℕ) (t : Bool) → step (explicit p) args Asks ≡ cond t (Goes (Calling f (operands core.vars xs) (waiting x_core into x_ops x_exit ∷ x_frames) x_core)) (Sticks Signature)
          → Follows p args Asks (cond t (Goes (Calling f (operands core.vars xs) (waiting core into rest e ∷ frames) core)) (Sticks Signature))
      typed_follows f false i = does_now p raises closed args Asks (Sticks Signature) i
      typed_follows f true i =
          comes_now p raises closed args Asks (Calling f (operands core.vars xs) (waiting core into rest e ∷ frames) core) (Calling f (operands core.vars xs) (waiting x_core into x_ops x_exit ∷ x_frames) x_core) i
          (record { called = refl; given = refl; beside = beside; clear = clear; waiting = (graph, w f, wait) })

      found_follows : (f : ℕ) (o : Option LlGraph) → slice_get p.graphs f ≡ o → step (explicit p) args Asks ≡ Called (Some f)
          → Follows p args Asks (called_as (c_result result) (map c_type params) f (operands core.vars xs) (waiting core into rest e ∷ frames) core o)
      found_follows f None i s =
          does_now p raises closed args Asks (Sticks Signature) (s ∙ ap (λ o. called_as (c_result result) (map c_type params) f (operands core.vars xs) (waiting x_core into x_ops x_exit ∷ x_frames) x_core o) (none_made p raises args f i))
      found_follows f (Some other) i s =
          typed_follows f (same_result (c_result other.result) (c_result result) && same_types (param_types other) (map c_type params))
          (s ∙ ap (λ o. called_as (c_result result) (map c_type params) f (operands core.vars xs) (waiting x_core into x_ops x_exit ∷ x_frames) x_core o) (graph_made p raises args f other i)
          ∙ ap (λ ts. cond (same_result (c_result other.result) (c_result result) && same_types ts (map c_type params)) (Goes (Calling f (operands core.vars xs) (waiting x_core into x_ops x_exit ∷ x_frames) x_core)) (Sticks Signature))
          (parameters_same p other (good f other i)))

      value_follows : Follows p args Asks (cond (is_unset (read core.vars b) || any_unset (operands core.vars xs)) (Sticks IsUnset) (called_value p (c_result result) (map c_type params) (fun_of (read core.vars b)) (operands core.vars xs) (waiting core into rest e ∷ frames) core))
      value_follows = set (is_unset (read core.vars b) || any_unset (operands core.vars xs)) refl
        where
          named : (o : Option ℕ) → step (explicit p) args Asks ≡ Called o → Follows p args Asks (called_value p (c_result result) (map c_type params) o (operands core.vars xs) (waiting core into rest e ∷ frames) core)
          named None s = does_now p raises closed args Asks (Sticks Signature) s
          named (Some f) s = found_follows f (slice_get p.graphs f) refl s

          set : (t : Bool) → (is_unset (read core.vars b) || any_unset (operands core.vars xs)) ≡ t
              → Follows p args Asks (cond t (Sticks IsUnset) (called_value p (c_result result) (map c_type params) (fun_of (read core.vars b)) (operands core.vars xs) (waiting core into rest e ∷ frames) core))
          set true i = does_now p raises closed args Asks (Sticks IsUnset) (asked true i)
          set false i = named (fun_of (read core.vars b)) (asked false i)

    -- ---- an exception is raised

    room_for : raises_within (marks_of p) (any_of p) graph.blocks ≡ true → length graph.types + 1 < length x_core.vars
    room_for h =
        let a : length (graph.types ++ test_types (exceptions_of p) (raises_within (marks_of p) (any_of p) graph.blocks)) ≡ length graph.types + length (test_types (exceptions_of p) (raises_within (marks_of p) (any_of p) graph.blocks)) =
        length_both graph.types (test_types (exceptions_of p) (raises_within (marks_of p) (any_of p) graph.blocks)) in
        let b : length (test_types (exceptions_of p) (raises_within (marks_of p) (any_of p) graph.blocks)) ≡ 2 = ap (λ b. length (test_types (exceptions_of p) b)) h in
        omega (arith, a, b, size)

    -- the exception is caught in its block: the variable a takes it, and then the link is taken
    landed_follows : (x mid : State) (count : ℕ) (a v : ℕ) (by : LlLink) (x_after : Core) → Leads (explicit p) args x mid count → mid ≡ At [] (exit.Goto by) x_frames x_after → Beside core x_after → IsClear x_after
        → length x_after.vars ≡ length x_core.vars → a < length graph.types → link_ok p graph by ≡ true → read x_after.vars a ≡ read core.vars v
        → ((w : ℕ) → among w (read_behind a by) ≡ true → (a ≡ w → ⊥) → read x_after.vars w ≡ read core.vars w)
        → Follows p args x (jump p frames (record core { vars = slice_set core.vars a (read core.vars v) }) by)
    landed_follows x mid count a v by x_after leads is beside_after clear_after size_after lt fine taken same =
        jump_follows p raises args closed graph frames x_frames (record core { vars = slice_set core.vars a (read core.vars v) }) x_after of
        (record { function = beside_after.function; blocks = beside_after.blocks; statics = beside_after.statics; steps = beside_after.steps }) clear_after (length_set core.vars a (read core.vars v) ∙ fit.vars.count) (size_after ∙ size) wait x mid count by leads
        (ap (step (explicit p) args) is) fine (λ w h. one w h (a == w) refl)
      where
        one : (w : ℕ) → among w (variables_in by.args) ≡ true → (b : Bool) → (a == w) ≡ b → read x_after.vars w ≡ read (slice_set core.vars a (read core.vars v)) w
        one w h true i =
            let j : a ≡ w = is_same a w i in let count : length core.vars ≡ length graph.types = fit.vars.count in
            ap (read x_after.vars) (sym j) ∙ taken ∙ sym (ap (read (slice_set core.vars a (read core.vars v))) (sym j) ∙ set_here core.vars a (read core.vars v) Unset (omega (arith, lt, count)))
        one w h false i =
            same w (behind_reads w a (variables_in by.args) h i) (not_same a w i) ∙ sym (set_elsewhere core.vars a w (read core.vars v) Unset (not_same a w i))

    -- a value that another variable holds is taken, by the slots where the variables are of two types
    giving_follows : (a v : ℕ) (by : LlLink) → a < length graph.types → v < length graph.types → length graph.types + 1 < length x_core.vars → link_ok p graph by ≡ true → read x_core.vars v ≡ read core.vars v → is_unset (read core.vars v) ≡ false → IsWhole p core (read core.vars v)
        → ((w : ℕ) → among w (read_behind a by) ≡ true → (w < length graph.types) × (read x_core.vars w ≡ read core.vars w))
        → Follows p args (At (giving (exceptions_of p) graph.types (length graph.types) a v) (exit.Goto by) x_frames x_core) (jump p frames (record core { vars = slice_set core.vars a (read core.vars v) }) by)
    giving_follows a v by a_within within room fine same set whole reads = choose (same_led (led_to graph.types a) (led_to graph.types v))
      where
        wider : length graph.types ≤ length x_core.vars
        wider = omega (arith, room)

        choose : (b : Bool) → Follows p args (At (cond b (op.Set a (Var v) ∷ []) (raising (exceptions_of p) (length graph.types) v ++ taking (exceptions_of p) graph.types a)) (exit.Goto by) x_frames x_core)
            (jump p frames (record core { vars = slice_set core.vars a (read core.vars v) }) by)
        choose true =
            landed_follows (At (op.Set a (Var v) ∷ []) (exit.Goto by) x_frames x_core) (At [] (exit.Goto by) x_frames (record x_core { at = x_core.at + 1; vars = slice_set x_core.vars a (read core.vars v) })) 1 a v by
            (record x_core { at = x_core.at + 1; vars = slice_set x_core.vars a (read core.vars v) })
            (one (explicit p) args (At (op.Set a (Var v) ∷ []) (exit.Goto by) x_frames x_core) (At [] (exit.Goto by) x_frames (record x_core { at = x_core.at + 1; vars = slice_set x_core.vars a (read core.vars v) }))
            (ap (λ w. goes_on (At [] (exit.Goto by) x_frames) (st.set x_core a w)) same
            ∙ ap (λ b. goes_on (At [] (exit.Goto by) x_frames) (cond b (Stuck IsUnset) (st.assigned x_core a (read core.vars v)))) set) refl)
            refl (record { function = beside.function; blocks = beside.blocks; statics = beside.statics; steps = beside.steps }) clear (length_set x_core.vars a (read core.vars v)) a_within fine
            (set_here x_core.vars a (read core.vars v) Unset (omega (arith, a_within, wider))) (λ w h ne. set_elsewhere x_core.vars a w (read core.vars v) Unset ne ∙ (reads w h).1)
        choose false = from (raising_run p args core x_core beside (length graph.types) (exit.Goto by) x_frames v (read core.vars v) (taking (exceptions_of p) graph.types a) within room same set whole)
          where
            from : Raised (explicit p) args (length graph.types) (exit.Goto by) x_frames x_core (read core.vars v) (raising (exceptions_of p) (length graph.types) v ++ taking (exceptions_of p) graph.types a) (taking (exceptions_of p) graph.types a)
                → Follows p args (At (raising (exceptions_of p) (length graph.types) v ++ taking (exceptions_of p) graph.types a) (exit.Goto by) x_frames x_core) (jump p frames (record core { vars = slice_set core.vars a (read core.vars v) }) by)
            from r =
                let sizes : length r.core_after.vars ≡ length x_core.vars = r.kept.size in
                landed_follows (At (raising (exceptions_of p) (length graph.types) v ++ taking (exceptions_of p) graph.types a) (exit.Goto by) x_frames x_core)
                (At [] (exit.Goto by) x_frames (record r.core_after { at = r.core_after.at + 1 + 1; vars = slice_set r.core_after.vars a r.core_after.exc_value; exc_type = Null; exc_value = Null })) (1 + 1 + r.count) a v by
                (record r.core_after { at = r.core_after.at + 1 + 1; vars = slice_set r.core_after.vars a r.core_after.exc_value; exc_type = Null; exc_value = Null })
                (then (explicit p) args (At (raising (exceptions_of p) (length graph.types) v ++ taking (exceptions_of p) graph.types a) (exit.Goto by) x_frames x_core) (At (taking (exceptions_of p) graph.types a) (exit.Goto by) x_frames r.core_after)
                (At [] (exit.Goto by) x_frames (record r.core_after { at = r.core_after.at + 1 + 1; vars = slice_set r.core_after.vars a r.core_after.exc_value; exc_type = Null; exc_value = Null })) r.count (1 + 1) r.leads
                (taking_run (explicit p) args (length graph.types) (exit.Goto by) x_frames r.core_after (exceptions_of p) graph.types a))
                refl (record { function = r.kept.beside.function ∙ beside.function; blocks = r.kept.beside.blocks ∙ beside.blocks; statics = r.kept.beside.statics ∙ beside.statics; steps = r.kept.beside.steps ∙ beside.steps }) (refl, refl)
                (length_set r.core_after.vars a r.core_after.exc_value ∙ r.kept.size) a_within fine
                (set_here r.core_after.vars a r.core_after.exc_value Unset (omega (arith, a_within, wider, sizes)) ∙ r.slot)
                (λ w h ne. set_elsewhere r.core_after.vars a w r.core_after.exc_value Unset ne ∙ r.kept.vars w (reads w h).0 ∙ (reads w h).1)

    pointer_within : (a : ℕ) → points (slice_get graph.types a) ≡ true → a < length graph.types
    pointer_within a h = one (slice_get graph.types a) refl h
      where
        one : (o : Option LlType) → slice_get graph.types a ≡ o → points o ≡ true → a < length graph.types
        one None e h = absurd (cc)
        one (Some t) e h = slice_get_within graph.types a t e

    module _ (v : ℕ) (h : points (slice_get graph.types v) ≡ true) (same_v : read x_core.vars v ≡ read core.vars v) (set : is_unset (read core.vars v) ≡ false) (whole : IsWhole p core (read core.vars v)) (room : length graph.types + 1 < length x_core.vars) where
      throws : is_marked (marks_of p) core.function ≡ true → Follows p args (At (raising (exceptions_of p) (length graph.types) v) (exit.Return (default_of graph.result)) x_frames x_core) (Goes (Throwing (read core.vars v) frames core))
      throws marked = thrown_follows p raises closed args graph frames x_frames core x_core of beside clear fit.vars.count size wait v (pointer_within v h) room same_v set whole marked

      caught_follows : (rest : List LlOp) (e : LlExit) → exit_ok p graph e ≡ true → ((w : ℕ) → among w (handler_reads rest e) ≡ true → read x_core.vars w ≡ read core.vars w)
          → ((is_last rest && catches e) ≡ false → is_marked (marks_of p) core.function ≡ true)
          → Follows p args (At (raised_ops (exceptions_of p) graph.types (length graph.types) v rest e) (way_exit graph.result rest e) x_frames x_core) (caught p (read core.vars v) rest e frames core)
      caught_follows [] (exit.OnRaise a (Some by) without) k same out =
          giving_follows a v by (pointer_within a (and_right _ _ (and_left _ _ (and_left _ _ k)))) (pointer_within v h) room (and_right _ _ (and_left _ _ k)) same_v set whole
          (λ w i. (all_within graph.types w (read_behind a by) (handler_there p graph [] (exit.OnRaise a (Some by) without) k) i, same w i))
      caught_follows [] (exit.OnRaise a None without) k same out = throws (out refl)
      caught_follows [] (exit.Goto l) k same out = throws (out refl)
      caught_follows [] (exit.If a there elsewhere) k same out = throws (out refl)
      caught_follows [] (exit.Return x) k same out = throws (out refl)
      caught_follows [] (exit.Raise a) k same out = throws (out refl)
      caught_follows [] (exit.Fail n) k same out = throws (out refl)
      caught_follows [] (exit.Raised a) k same out = throws (out refl)
      caught_follows (o ∷ rest) e k same out = throws (out refl)

    raise_follows : (v : ℕ) (rest : List LlOp) (e : LlExit) → points (slice_get graph.types v) ≡ true → exit_ok p graph e ≡ true → ((w : ℕ) → needs p false (op.Raise v ∷ rest) e w ≡ true → read x_core.vars w ≡ read core.vars w)
        → ReadyAt p (op.Raise v ∷ rest) e core → Leaving p core.function (op.Raise v ∷ rest) e → length graph.types + 1 < length x_core.vars
        → Follows p args (At (raised_ops (exceptions_of p) graph.types (length graph.types) v rest e) (way_exit graph.result rest e) x_frames x_core) (given (read core.vars v) (λ value. caught p value rest e frames core))
    raise_follows v rest e h k same ready leaving room =
        let here : needs p false (op.Raise v ∷ rest) e v ≡ true = reads_needed p false (op.Raise v) rest e v (among_own v) in
        let set : is_unset (read core.vars v) ≡ false = ready.set v (needed_live p e v (op.Raise v ∷ rest) here) in
        subst (Follows p args (At (raised_ops (exceptions_of p) graph.types (length graph.types) v rest e) (way_exit graph.result rest e) x_frames x_core))
        (sym (ap (λ b. cond b (Sticks IsUnset) (caught p (read core.vars v) rest e frames core)) set))
        (caught_follows v h (same v here) set (ready.whole v refl) room rest e k (λ w i. same w (rest_needed p false (op.Raise v) rest e w refl (handled_needed p rest e w i)))
        (λ i. leaving (or_second (exit_leaves e) _ (or_first _ (ops_leave (marks_of p) (any_of p) rest e) (ap not i)))))

    -- ---- what is left of a piece

    no_free : (a : ℕ) → operation_ok p graph.types (op.Free a) ≡ true → ⊥
    no_free a h = absurd (let f : true ≡ false = sym (and_left (is_counted p.stage) _ h) ∙ ap is_counted raw in cc)

    abbrev SameNeeds : List LlOp → LlExit → Type 0
    SameNeeds ops e = (v : ℕ) → needs p false ops e v ≡ true → read x_core.vars v ≡ read core.vars v

    rest_leaving : (o : LlOp) (rest : List LlOp) (e : LlExit) → Leaving p core.function (o ∷ rest) e → Leaving p core.function rest e
    rest_leaving o rest e leaving h = leaving (more (exit_leaves e) (may_raise (marks_of p) (any_of p) o && not (is_last rest && catches e)) (ops_leave (marks_of p) (any_of p) rest e) h)
      where
        more : (a b c : Bool) → (a || c) ≡ true → (a || (b || c)) ≡ true
        more true b c h = refl
        more false b c h = or_second b c h

    rest_testing : (o : LlOp) (rest : List LlOp) (e : LlExit) → Testing p graph (o ∷ rest) e → Testing p graph rest e
    rest_testing o rest e tests h = tests (more (exit_leaves e) (may_raise (marks_of p) (any_of p) o) (some_raises (marks_of p) (any_of p) rest) h)
      where
        more : (a b c : Bool) → (a || c) ≡ true → (a || (b || c)) ≡ true
        more true b c h = refl
        more false b c h = or_second b c h

    -- an operation that is tested is a call
    tested_follows : (o : LlOp) (rest : List LlOp) (e : LlExit) (way : ℕ) → PlacedAt p core.function core.block core.at (o ∷ rest) e
        → PlacedAt (explicit p) x_core.function x_core.block x_core.at (o ∷ testing (exceptions_of p) (length graph.types) (length graph.types + 1)) (test_exit (around_in p graph) rest e way) → is_tested (marks_of p) (any_of p) o ≡ true → SameNeeds (o ∷ rest) e → ReadyAt p (o ∷ rest) e core → Leaving p core.function (o ∷ rest) e → Testing p graph (o ∷ rest) e
        → From (explicit_graph p graph).blocks way (way_block (around_in p graph) rest e ∷ rest_blocks (around_in p graph) rest e way (is_some (onward rest e)) (behind (around_in p graph) (way + 2) rest e))
        → Follows p args (At (o ∷ testing (exceptions_of p) (length graph.types) (length graph.types + 1)) (test_exit (around_in p graph) rest e way) x_frames x_core) (step p args (At (o ∷ rest) e frames core))
    tested_follows (op.Call into f xs) rest e way place x_place t same ready leaving tests at =
        call_follows into f xs rest e (testing (exceptions_of p) (length graph.types) (length graph.types + 1)) (test_exit (around_in p graph) rest e way) (λ v h. same v (reads_needed p false (op.Call into f xs) rest e v h))
        (waits_for f (op.Call into f xs) into rest e (testing (exceptions_of p) (length graph.types) (length graph.types + 1)) (test_exit (around_in p graph) rest e way) place x_place refl same (rest_leaving (op.Call into f xs) rest e leaving) (rest_testing (op.Call into f xs) rest e tests)
        (inr (tested_for (op.Call into f xs) into rest e way refl t t same ready leaving tests at)))
    tested_follows (op.CallFn into result params b xs) rest e way place x_place t same ready leaving tests at =
        value_follows into result params b xs rest e (testing (exceptions_of p) (length graph.types) (length graph.types + 1)) (test_exit (around_in p graph) rest e way) (λ v h. same v (reads_needed p false (op.CallFn into result params b xs) rest e v h))
        (λ f. waits_for f (op.CallFn into result params b xs) into rest e (testing (exceptions_of p) (length graph.types) (length graph.types + 1)) (test_exit (around_in p graph) rest e way) place x_place refl same
        (rest_leaving (op.CallFn into result params b xs) rest e leaving) (rest_testing (op.CallFn into result params b xs) rest e tests) (inr (tested_for (op.CallFn into result params b xs) into rest e way refl t t same ready leaving tests at)))
    tested_follows other rest e way place x_place t same ready leaving tests at = absurd (cc)

    called_leaves : (b : Bool) → called_ending b ≡ Leaves → b ≡ false
    called_leaves true e = absurd (cc)
    called_leaves false e = refl

    -- any other raises nothing
    passed_follows : (o : LlOp) (rest : List LlOp) (e : LlExit) (way : ℕ) → PlacedAt p core.function core.block core.at (o ∷ rest) e
        → PlacedAt (explicit p) x_core.function x_core.block x_core.at (o ∷ piece_ops (around_in p graph) rest e) (piece_exit (around_in p graph) rest e way) → ending_in (around_in p graph) o ≡ Leaves → operation_ok p graph.types o ≡ true → SameNeeds (o ∷ rest) e → ReadyAt p (o ∷ rest) e core → Leaving p core.function (o ∷ rest) e
        → Testing p graph (o ∷ rest) e → From (explicit_graph p graph).blocks way (behind (around_in p graph) way rest e)
        → Follows p args (At (o ∷ piece_ops (around_in p graph) rest e) (piece_exit (around_in p graph) rest e way) x_frames x_core) (step p args (At (o ∷ rest) e frames core))
    passed_follows (op.Call into f xs) rest e way place x_place t h same ready leaving tests at =
        call_follows into f xs rest e (piece_ops (around_in p graph) rest e) (piece_exit (around_in p graph) rest e way) (λ v h. same v (reads_needed p false (op.Call into f xs) rest e v h))
        (waits_for f (op.Call into f xs) into rest e (piece_ops (around_in p graph) rest e) (piece_exit (around_in p graph) rest e way) place x_place refl same (rest_leaving (op.Call into f xs) rest e leaving) (rest_testing (op.Call into f xs) rest e tests)
        (inl (record { way = way; left = refl; end = refl; blocks = at }, called_leaves (is_marked (marks_of p) f) t)))
    passed_follows (op.CallFn into result params b xs) rest e way place x_place t h same ready leaving tests at =
        value_follows into result params b xs rest e (piece_ops (around_in p graph) rest e) (piece_exit (around_in p graph) rest e way) (λ v h. same v (reads_needed p false (op.CallFn into result params b xs) rest e v h))
        (λ f. waits_for f (op.CallFn into result params b xs) into rest e (piece_ops (around_in p graph) rest e) (piece_exit (around_in p graph) rest e way) place x_place refl same (rest_leaving (op.CallFn into result params b xs) rest e leaving)
        (rest_testing (op.CallFn into result params b xs) rest e tests) (inl (record { way = way; left = refl; end = refl; blocks = at }, unmarked p f (called_leaves (any_of p) t))))
    passed_follows (op.Raise a) rest e way place x_place t h same ready leaving tests at = absurd (cc)
    passed_follows (op.Free a) rest e way place x_place t h same ready leaving tests at = absurd (no_free a h)
    passed_follows other rest e way place x_place t h same ready leaving tests at =
        goes_follows other rest e (piece_ops (around_in p graph) rest e) (piece_exit (around_in p graph) rest e way) (At (other ∷ piece_ops (around_in p graph) rest e) (piece_exit (around_in p graph) rest e way) x_frames x_core)
        (does p args core other) (does p args x_core other) h same (rest_leaving other rest e leaving) (rest_testing other rest e tests) (record { way = way; left = refl; end = refl; blocks = at })
        (does_same core x_core beside p args other refl ready.slots (λ v i. same v (reads_needed p false other rest e v i))) refl

    piece_follows : (ops : List LlOp) (e : LlExit) (way : ℕ) → PlacedAt p core.function core.block core.at ops e
        → PlacedAt (explicit p) x_core.function x_core.block x_core.at (piece_ops (around_in p graph) ops e) (piece_exit (around_in p graph) ops e way) → From (explicit_graph p graph).blocks way (behind (around_in p graph) way ops e) → operations_ok p graph.types ops ≡ true → exit_ok p graph e ≡ true → SameNeeds ops e → ReadyAt p ops e core
        → Leaving p core.function ops e → Testing p graph ops e → Follows p args (At (piece_ops (around_in p graph) ops e) (piece_exit (around_in p graph) ops e way) x_frames x_core) (step p args (At ops e frames core))
    piece_follows [] e way place x_place at h k same ready leaving tests = exit_follows p raises closed args graph frames x_frames core x_core of beside clear fit.vars.count size wait e k same ready leaving (λ f. room_for (tests (or_first (exit_leaves e) false f)))
    piece_follows (o ∷ rest) e way place x_place at h k same ready leaving tests = by (ending_in (around_in p graph) o) refl x_place at
      where
        by : (y : Ending) → ending_in (around_in p graph) o ≡ y
            → PlacedAt (explicit p) x_core.function x_core.block x_core.at (ops_by (around_in p graph) o rest e y (piece_ops (around_in p graph) rest e)) (exit_by (around_in p graph) rest e way y (piece_exit (around_in p graph) rest e way)) → From (explicit_graph p graph).blocks way (behind_by (around_in p graph) rest e way y (behind (around_in p graph) (way + 2) rest e) (behind (around_in p graph) way rest e))
            → Follows p args (At (ops_by (around_in p graph) o rest e y (piece_ops (around_in p graph) rest e)) (exit_by (around_in p graph) rest e way y (piece_exit (around_in p graph) rest e way)) x_frames x_core) (step p args (At (o ∷ rest) e frames core))
        by (Raises v) f x_place at = raised_op o v (raises_is (marks_of p) (any_of p) o v f) (and_left _ _ h) same ready leaving tests
          where
            raised_op : (o : LlOp) (v : ℕ) → o ≡ op.Raise v → operation_ok p graph.types o ≡ true → SameNeeds (o ∷ rest) e → ReadyAt p (o ∷ rest) e core → Leaving p core.function (o ∷ rest) e → Testing p graph (o ∷ rest) e
                → Follows p args (At (raised_ops (exceptions_of p) graph.types (length graph.types) v rest e) (way_exit graph.result rest e) x_frames x_core) (step p args (At (o ∷ rest) e frames core))
            raised_op (op.Raise w) v i h same ready leaving tests =
                let j : w ≡ v = cc in
                subst (λ v. Follows p args (At (raised_ops (exceptions_of p) graph.types (length graph.types) v rest e) (way_exit graph.result rest e) x_frames x_core) (step p args (At (op.Raise w ∷ rest) e frames core))) j
                (raise_follows w rest e (and_right _ _ h) k same ready leaving (room_for (tests (or_second (exit_leaves e) _ refl))))
            raised_op other v i h same ready leaving tests = absurd (cc)
        by Tested f x_place at = tested_follows o rest e way place x_place (tested_calm (marks_of p) (any_of p) o f).1 same ready leaving tests at
        by Leaves f x_place at = passed_follows o rest e way place x_place f (and_left _ _ h) same ready leaving tests at

  -- ---- back to who waits

  returned_follows : (value : Value) (frames : List Frame) (core : Core) (t : LlType) (x_value : Value) (x_frames : List Frame) (x_core : Core) → StandsReturning p value frames core x_value x_frames x_core → LeavesFits p t value frames core t
      → Follows p args (Returning x_value x_frames x_core) (returned value frames core)
  returned_follows value [] core t x_value [] x_core s fit = one (word_of value) refl
    where
      stepped : (o : Option ℤ) → word_of value ≡ o → step (explicit p) args (Returning x_value [] x_core) ≡ goes_on (Returning x_value []) (st.on (λ n. Over (Returned n) (record x_core { vars = [] })) o)
      stepped o e = ap (λ w. goes_on (Returning x_value []) (ended x_core w)) s.gives ∙ ap (λ o. goes_on (Returning x_value []) (st.on (λ n. Over (Returned n) (record x_core { vars = [] })) o)) e

      one : (o : Option ℤ) → word_of value ≡ o → Follows p args (Returning x_value [] x_core) (goes_on (Returning value []) (st.on (λ n. Over (Returned n) (record core { vars = [] })) o))
      one None e = does_now p raises closed args (Returning x_value [] x_core) (Sticks IsUnset) (stepped None e)
      one (Some n) e = (record x_core { vars = [] }, does_now p raises closed args (Returning x_value [] x_core) (Ends (Returned n) (record x_core { vars = [] })) (stepped (Some n) e), s.beside.steps)
  returned_follows value [] core t x_value (x_frame ∷ x_frames) x_core s fit = absurd s.waiting
  returned_follows value (frame ∷ frames) core t x_value [] x_core s fit = absurd s.waiting
  returned_follows value (frame ∷ frames) core t x_value (x_frame ∷ x_frames) x_core s fit = back s.waiting fit.waiting
    where
      same_graph : (g h : LlGraph) (o : Option LlGraph) → o ≡ Some g → o ≡ Some h → g ≡ h
      same_graph g h o e f = let i : Some g ≡ Some h = sym e ∙ f in cc

      left_at : (graph : LlGraph) → Waits p core.function graph frame x_frame
          → PieceAt p graph frame.ops frame.exit x_frame.ops x_frame.exit ⊎ (TestAt p graph frame.ops frame.exit x_frame.ops x_frame.exit × SameHandled frame.ops frame.exit (record (resumed frame core) { vars = taken_by frame.vars frame.into value }) (record (resumed x_frame x_core) { vars = taken_by x_frame.vars x_frame.into x_value }))
      left_at graph w = one w.left
        where
          one : (PieceAt p graph frame.ops frame.exit x_frame.ops x_frame.exit × (is_marked (marks_of p) core.function ≡ false)) ⊎ Tests p graph frame x_frame
              → PieceAt p graph frame.ops frame.exit x_frame.ops x_frame.exit ⊎ (TestAt p graph frame.ops frame.exit x_frame.ops x_frame.exit × SameHandled frame.ops frame.exit (record (resumed frame core) { vars = taken_by frame.vars frame.into value }) (record (resumed x_frame x_core) { vars = taken_by x_frame.vars x_frame.into x_value }))
          one (inl h) = inl h.0
          one (inr h) = inr (h.test, λ v i. taken_apart x_frame.vars x_frame.into x_value v (ap (λ o. sets o v) w.into ∙ (h.handled v i).apart) ∙ (h.handled v i).same ∙ sym (taken_apart frame.vars frame.into value v (h.handled v i).apart))

      back : Wait p core.function (frame ∷ frames) (x_frame ∷ x_frames) → FramesFit p (length core.blocks) t (frame ∷ frames) → Follows p args (Returning x_value (x_frame ∷ x_frames) x_core) (returned value (frame ∷ frames) core)
      back (graph, w, more) (other, fits, _) =
          let same : other ≡ graph = same_graph other graph (slice_get p.graphs frame.graph) fits.of w.of in
          let result : result_ok graph.types frame.into t ≡ true = subst (λ (g : LlGraph). result_ok g.types frame.into t ≡ true) same fits.into in
          let count : length frame.vars ≡ length graph.types = subst (λ (g : LlGraph). length frame.vars ≡ length g.types) same fits.vars.count in
          let wider : length graph.types ≤ length (explicit_graph p graph).types = more_types p raises args graph in
          let size : length x_frame.vars ≡ length (explicit_graph p graph).types = w.size in
          comes_now p raises closed args (Returning x_value (x_frame ∷ x_frames) x_core) (At frame.ops frame.exit frames (record (resumed frame core) { vars = taken_by frame.vars frame.into value }))
          (At x_frame.ops x_frame.exit x_frames (record (resumed x_frame x_core) { vars = taken_by x_frame.vars x_frame.into x_value })) refl (
            graph,
            record {
              of = w.of;
              beside = record { function = w.same; blocks = s.beside.blocks; statics = s.beside.statics; steps = s.beside.steps };
              clear = s.clear;
              size = taken_size x_frame.vars x_frame.into x_value ∙ w.size;
              vars = λ v n.
                  (ap (λ i. read (taken_by x_frame.vars i x_value) v) w.into ∙ ap (λ y. read (taken_by x_frame.vars frame.into y) v) s.gives
                  ∙ taken_same frame.vars x_frame.vars frame.into value v (λ b. (let lt : v < length graph.types = result_within graph.types frame.into t v result b in (omega (arith, lt, count), omega (arith, lt, wider, size)))) (w.vars v n));
              leaving = w.leaving;
              testing = w.testing;
              left = left_at graph w;
              waiting = more;
            },
          )

  -- ---- an exception leaves a call

  module _ (graph : LlGraph) (rest : List LlOp) (e : LlExit) (way : ℕ) (frames x_frames : List Frame) (core x_core : Core) (value : Value) (of : slice_get p.graphs core.function ≡ Some graph) (beside : Beside core x_core)
      (count : length core.vars ≡ length graph.types) (size : length x_core.vars ≡ length (explicit_graph p graph).types) (wait : Wait p core.function frames x_frames) (set : is_unset value ≡ false) (slot : x_core.exc_value ≡ value)
      (kind : is_pointer x_core.exc_type ≡ true) (known : StaticsAreApart core → (b : ℕ) → x_core.exc_type ≡ Ptr b → Held core.blocks (value ∷ []) b) (same : (w : ℕ) → among w (handler_reads rest e) ≡ true → read x_core.vars w ≡ read core.vars w) (fine : exit_ok p graph e ≡ true)
      (out : (is_last rest && catches e) ≡ false → is_marked (marks_of p) core.function ≡ true) where
    goes_out : is_marked (marks_of p) core.function ≡ true → Follows p args (At [] (exit.Return (default_of graph.result)) x_frames x_core) (Goes (Throwing value frames core))
    goes_out marked =
        let run = default_run p raises closed args graph.result x_frames x_core in
        comes_now p raises closed args (At [] (exit.Return (default_of graph.result)) x_frames x_core) (Throwing value frames core) (Returning run.0 x_frames x_core) run.1
        (record { beside = beside; set = set; slot = slot; kind = kind; known = known; gives = run.2; marked = marked; waiting = wait })

    taken_follows : (a : ℕ) (by : LlLink) → a < length graph.types → link_ok p graph by ≡ true → ((w : ℕ) → among w (read_behind a by) ≡ true → read x_core.vars w ≡ read core.vars w)
        → Follows p args (At (taking (exceptions_of p) graph.types a) (exit.Goto by) x_frames x_core) (jump p frames (record core { vars = slice_set core.vars a value }) by)
    taken_follows a by lt ok reads =
        jump_follows p raises args closed graph frames x_frames (record core { vars = slice_set core.vars a value })
        (record x_core { at = x_core.at + 1 + 1; vars = slice_set x_core.vars a x_core.exc_value; exc_type = Null; exc_value = Null }) of
        (record { function = beside.function; blocks = beside.blocks; statics = beside.statics; steps = beside.steps }) (refl, refl) (length_set core.vars a value ∙ count) (length_set x_core.vars a x_core.exc_value ∙ size) wait
        (At (taking (exceptions_of p) graph.types a) (exit.Goto by) x_frames x_core)
        (At [] (exit.Goto by) x_frames (record x_core { at = x_core.at + 1 + 1; vars = slice_set x_core.vars a x_core.exc_value; exc_type = Null; exc_value = Null })) (1 + 1) by
        (taking_run (explicit p) args (length graph.types) (exit.Goto by) x_frames x_core (exceptions_of p) graph.types a) refl ok (λ w h. one w h (a == w) refl)
      where
        one : (w : ℕ) → among w (variables_in by.args) ≡ true → (b : Bool) → (a == w) ≡ b → read (slice_set x_core.vars a x_core.exc_value) w ≡ read (slice_set core.vars a value) w
        one w h true i =
            let j : a ≡ w = is_same a w i in let wider : length graph.types ≤ length (explicit_graph p graph).types = more_types p raises args graph in
            ap (read (slice_set x_core.vars a x_core.exc_value)) (sym j) ∙ set_here x_core.vars a x_core.exc_value Unset (omega (arith, lt, wider, size)) ∙ slot
            ∙ sym (ap (read (slice_set core.vars a value)) (sym j) ∙ set_here core.vars a value Unset (omega (arith, lt, count)))
        one w h false i =
            set_elsewhere x_core.vars a w x_core.exc_value Unset (not_same a w i) ∙ reads w (behind_reads w a (variables_in by.args) h i) ∙ sym (set_elsewhere core.vars a w value Unset (not_same a w i))

    -- the block for the exceptions of the call
    way_follows : (ops : List LlOp) (x : LlExit) → ops ≡ rest → x ≡ e → Follows p args (At (way_ops (exceptions_of p) graph.types ops x) (way_exit graph.result ops x) x_frames x_core) (caught p value ops x frames core)
    way_follows [] (exit.OnRaise a (Some by) without) i j =
        let ok : exit_ok p graph (exit.OnRaise a (Some by) without) ≡ true = ap (exit_ok p graph) j ∙ fine in
        taken_follows a by (pointer_in a (and_right _ _ (and_left _ _ (and_left _ _ ok)))) (and_right _ _ (and_left _ _ ok)) (λ w h. same w (ap (λ ops. among w (handler_reads ops e)) (sym i) ∙ ap (λ x. among w (handler_reads [] x)) (sym j) ∙ h))
      where
        pointer_in : (a : ℕ) → points (slice_get graph.types a) ≡ true → a < length graph.types
        pointer_in a h = one (slice_get graph.types a) refl h
          where
            one : (o : Option LlType) → slice_get graph.types a ≡ o → points o ≡ true → a < length graph.types
            one None e h = absurd (cc)
            one (Some t) e h = slice_get_within graph.types a t e
    way_follows [] (exit.OnRaise a None without) i j = goes_out (out (ap (λ ops. is_last ops && catches e) (sym i) ∙ ap catches (sym j)))
    way_follows [] (exit.Goto l) i j = goes_out (out (ap (λ ops. is_last ops && catches e) (sym i) ∙ ap catches (sym j)))
    way_follows [] (exit.If a there elsewhere) i j = goes_out (out (ap (λ ops. is_last ops && catches e) (sym i) ∙ ap catches (sym j)))
    way_follows [] (exit.Return x) i j = goes_out (out (ap (λ ops. is_last ops && catches e) (sym i) ∙ ap catches (sym j)))
    way_follows [] (exit.Raise a) i j = goes_out (out (ap (λ ops. is_last ops && catches e) (sym i) ∙ ap catches (sym j)))
    way_follows [] (exit.Fail n) i j = goes_out (out (ap (λ ops. is_last ops && catches e) (sym i) ∙ ap catches (sym j)))
    way_follows [] (exit.Raised a) i j = goes_out (out (ap (λ ops. is_last ops && catches e) (sym i) ∙ ap catches (sym j)))
    way_follows (o ∷ ops) x i j = goes_out (out (ap (λ ops. is_last ops && catches e) (sym i)))

  -- ---- a test

  none_pointer : (w : Value) → w ≡ Null → compared w Null ≡ Ok (Flag true)
  none_pointer w e = ap (λ w. compared w Null) e

  some_pointer : (w : Value) → is_pointer w ≡ true → compared w Null ≡ Ok (Flag false)
  some_pointer (Ptr n) h = refl
  some_pointer (Static g) h = refl
  some_pointer other h = absurd (cc)

  room_in : (graph : LlGraph) (vars : List Value) → raises_within (marks_of p) (any_of p) graph.blocks ≡ true → length vars ≡ length (explicit_graph p graph).types → length graph.types + 1 < length vars
  room_in graph vars h size =
      let a : length (graph.types ++ test_types (exceptions_of p) (raises_within (marks_of p) (any_of p) graph.blocks)) ≡ length graph.types + length (test_types (exceptions_of p) (raises_within (marks_of p) (any_of p) graph.blocks)) =
      length_both graph.types (test_types (exceptions_of p) (raises_within (marks_of p) (any_of p) graph.blocks)) in
      let b : length (test_types (exceptions_of p) (raises_within (marks_of p) (any_of p) graph.blocks)) ≡ 2 = ap (λ b. length (test_types (exceptions_of p) b)) h in
      omega (arith, a, b, size)

  -- a link that passes variables to themselves
  own_jump : (graph : LlGraph) (frames : List Frame) (core : Core) (to : ℕ) (block : LlBlock) (vs : List ℕ) → slice_get p.graphs core.function ≡ Some graph → slice_get (explicit_graph p graph).blocks to ≡ Some block → block.inputs ≡ vs
      → ((v : ℕ) → among v vs ≡ true → is_unset (read core.vars v) ≡ false)
      → jump (explicit p) frames core (link_to to (as_operands vs)) ≡ Goes (At block.ops block.exit frames (record core { block = to; at = 0; vars = set_all core.vars vs (operands core.vars (as_operands vs)) }))
  own_jump graph frames core to block vs of at inputs set =
      ap (λ b. cond b (Sticks IsUnset) (begins frames core to (operands core.vars (as_operands vs)) (block_in (slice_get (explicit p).graphs core.function) to))) (none_unset core.vars vs set)
      ∙ ap (λ o. begins frames core to (operands core.vars (as_operands vs)) (block_in o to)) (graph_made p raises args core.function graph of)
      ∙ ap (begins frames core to (operands core.vars (as_operands vs))) at
      ∙ ap (λ is. Goes (At block.ops block.exit frames (record core { block = to; at = 0; vars = set_all core.vars is (operands core.vars (as_operands vs)) }))) inputs

  -- what is needed has a type
  needed_within : (graph : LlGraph) (v : ℕ) (e : LlExit) → exit_ok p graph e ≡ true → (raises : Bool) (ops : List LlOp) → operations_ok p graph.types ops ≡ true → needs p raises ops e v ≡ true → v < length graph.types
  needed_within graph v e k raises [] h n = all_within graph.types v (exit_reads raises e) (exit_reads_there p graph raises e k) n
  needed_within graph v e k raises (o ∷ ops) h n = one (needed_within graph v e k (may_raise (marks_of p) (any_of p) o) ops (and_right (operation_ok p graph.types o) _ h)) (among v (reads o)) refl n
    where
      later : (needs p (may_raise (marks_of p) (any_of p) o) ops e v ≡ true → v < length graph.types) → (s : Bool) → (not s && needs p (may_raise (marks_of p) (any_of p) o) ops e v) ≡ true → v < length graph.types
      later go true n = absurd (cc)
      later go false n = go n

      one : (needs p (may_raise (marks_of p) (any_of p) o) ops e v ≡ true → v < length graph.types) → (b : Bool) → among v (reads o) ≡ b → (b || (not (sets (set_by o) v) && needs p (may_raise (marks_of p) (any_of p) o) ops e v)) ≡ true → v < length graph.types
      one go true i n = all_within graph.types v (reads o) (reads_there p graph.types o (and_left _ _ h)) i
      one go false i n = later go (sets (set_by o) v) n

  -- ---- a call that raised nothing goes on behind its test

  module _ (graph : LlGraph) (frames x_frames : List Frame) (core x_core : Core) (of : slice_get p.graphs core.function ≡ Some graph) (beside : Beside core x_core) (clear : IsClear x_core) (fit : CoreFits p graph.types core)
      (size : length x_core.vars ≡ length (explicit_graph p graph).types) (wait : Wait p core.function frames x_frames) (x mid : State) (before : ℕ) (leads : Leads (explicit p) args x mid before) (quiet : is_quiet mid ≡ true) where
    link_on : (ops : List LlOp) (e : LlExit) (link : LlLink) → onward ops e ≡ Some link → exit_ok p graph e ≡ true → ((v : ℕ) → needs p false ops e v ≡ true → read x_core.vars v ≡ read core.vars v)
        → step (explicit p) args mid ≡ jump (explicit p) x_frames x_core link → Follows p args x (step p args (At ops e frames core))
    link_on [] (exit.Goto l) link i h same stepped =
        let j : link ≡ l = cc in jump_follows p raises args closed graph frames x_frames core x_core of beside clear fit.vars.count size wait x mid before l leads (stepped ∙ ap (jump (explicit p) x_frames x_core) j) h same
    link_on [] (exit.OnRaise a by without) link i h same stepped =
        let j : link ≡ without = cc in jump_follows p raises args closed graph frames x_frames core x_core of beside clear fit.vars.count size wait x mid before without leads (stepped ∙ ap (jump (explicit p) x_frames x_core) j) (and_right _ _ h) same
    link_on [] (exit.If a there elsewhere) link i h same stepped = absurd (cc)
    link_on [] (exit.Return o) link i h same stepped = absurd (cc)
    link_on [] (exit.Raise a) link i h same stepped = absurd (cc)
    link_on [] (exit.Fail n) link i h same stepped = absurd (cc)
    link_on [] (exit.Raised a) link i h same stepped = absurd (cc)
    link_on (o ∷ ops) e link i h same stepped = absurd (cc)

    rest_on : (ops : List LlOp) (e : LlExit) (way : ℕ) → PlacedAt p core.function core.block core.at ops e → slice_get (explicit_graph p graph).blocks (way + 1) ≡ Some (rest_block (around_in p graph) ops e (way + 2)) → From (explicit_graph p graph).blocks (way + 2) (behind (around_in p graph) (way + 2) ops e)
        → operations_ok p graph.types ops ≡ true → exit_ok p graph e ≡ true → ((v : ℕ) → needs p false ops e v ≡ true → read x_core.vars v ≡ read core.vars v) → ReadyAt p ops e core → Leaving p core.function ops e → Testing p graph ops e
        → step (explicit p) args mid ≡ jump (explicit p) x_frames x_core (link_to (way + 1) (as_operands (live (marks_of p) (any_of p) ops e))) → Follows p args x (step p args (At ops e frames core))
    rest_on ops e way place at more h k same ready leaving tests stepped =
        follows_later p raises closed args x (At (piece_ops (around_in p graph) ops e) (piece_exit (around_in p graph) ops e (way + 2)) x_frames (passed x_core (way + 1) (live (marks_of p) (any_of p) ops e))) (1 + before) (step p args (At ops e frames core)) (then (explicit p) args x mid (At (piece_ops (around_in p graph) ops e) (piece_exit (around_in p graph) ops e (way + 2)) x_frames (passed x_core (way + 1) (live (marks_of p) (any_of p) ops e))) before 1 leads (one (explicit p) args mid (At (piece_ops (around_in p graph) ops e) (piece_exit (around_in p graph) ops e (way + 2)) x_frames (passed x_core (way + 1) (live (marks_of p) (any_of p) ops e))) (stepped ∙ jumped) quiet))
        (piece_follows graph frames x_frames core (passed x_core (way + 1) (live (marks_of p) (any_of p) ops e)) of (record { function = beside.function; blocks = beside.blocks; statics = beside.statics; steps = beside.steps }) clear fit (set_all_size (live (marks_of p) (any_of p) ops e) (operands x_core.vars (as_operands (live (marks_of p) (any_of p) ops e))) x_core.vars ∙ size) wait
        ops e (way + 2) place
        (record { block = rest_block (around_in p graph) ops e (way + 2); of = ap (λ f. block_in (slice_get (explicit p).graphs f) (way + 1)) beside.function ∙ ap (λ o. block_in o (way + 1)) (graph_made p raises args core.function graph of) ∙ at; left = refl; end = refl })
        more h k (λ v n. own_values x_core.vars x_core.vars (live (marks_of p) (any_of p) ops e) (λ v. refl) v ∙ same v n) ready leaving tests)
      where
        jumped : jump (explicit p) x_frames x_core (link_to (way + 1) (as_operands (live (marks_of p) (any_of p) ops e))) ≡ Goes (At (piece_ops (around_in p graph) ops e) (piece_exit (around_in p graph) ops e (way + 2)) x_frames (passed x_core (way + 1) (live (marks_of p) (any_of p) ops e)))
        jumped =
            own_jump graph x_frames x_core (way + 1) (rest_block (around_in p graph) ops e (way + 2)) (live (marks_of p) (any_of p) ops e) (ap (slice_get p.graphs) beside.function ∙ of) at refl
            (λ v i. ap is_unset (same v (live_needed p e v ops i)) ∙ ready.set v i)

  test_follows : (ops : List LlOp) (e : LlExit) (frames : List Frame) (core : Core) (x_ops : List LlOp) (x_exit : LlExit) (x_frames : List Frame) (x_core : Core) (graph : LlGraph) → StandsAt p ops e frames core x_ops x_exit x_frames x_core graph
      → TestAt p graph ops e x_ops x_exit → PlacedAt p core.function core.block core.at ops e → AtFits p ops e frames core graph → ReadyAt p ops e core → Follows p args (At x_ops x_exit x_frames x_core) (step p args (At ops e frames core))
  test_follows ops e frames core x_ops x_exit x_frames x_core graph s t place fit ready =
      from (tests_run (explicit p) args (length graph.types) x_ops x_exit x_frames x_core (exceptions_of p) true t.left (room_in graph x_core.vars t.room s.size) (none_pointer x_core.exc_type s.clear.0))
    where
      from : TestedRun (explicit p) args (length graph.types) x_ops x_exit x_frames x_core true → Follows p args (At x_ops x_exit x_frames x_core) (step p args (At ops e frames core))
      from run = way (onward ops e) refl
        where
          same : (v : ℕ) → needs p false ops e v ≡ true → read run.core_after.vars v ≡ read core.vars v
          same v n = run.kept.vars v (needed_within graph v e fit.end false ops fit.left n) ∙ s.vars v n

          beside : Beside core run.core_after
          beside = record { function = run.kept.beside.function ∙ s.beside.function; blocks = run.kept.beside.blocks ∙ s.beside.blocks; statics = run.kept.beside.statics ∙ s.beside.statics; steps = run.kept.beside.steps ∙ s.beside.steps }

          clear : IsClear run.core_after
          clear = (run.kind ∙ s.clear.0, run.value ∙ s.clear.1)

          stepped : step (explicit p) args (At [] x_exit x_frames run.core_after) ≡ jump (explicit p) x_frames run.core_after (on (around_in p graph) ops e t.way)
          stepped =
              ap (λ x. step (explicit p) args (At [] x x_frames run.core_after)) t.end
              ∙ ap (branch (explicit p) x_frames run.core_after (on (around_in p graph) ops e t.way) (link_to t.way (as_operands (handler_reads ops e)))) run.flag

          way : (o : Option LlLink) → onward ops e ≡ o → Follows p args (At x_ops x_exit x_frames x_core) (step p args (At ops e frames core))
          way (Some link) i =
              link_on graph frames x_frames core run.core_after s.of beside clear fit.fits (run.kept.size ∙ s.size) s.waiting (At x_ops x_exit x_frames x_core) (At [] x_exit x_frames run.core_after) run.count run.leads refl ops e link i fit.end same
              (stepped ∙ ap (λ o. jump (explicit p) x_frames run.core_after (on_by (around_in p graph) ops e t.way o)) i)
          way None i =
              let blocks : From (explicit_graph p graph).blocks (t.way + 1) (rest_block (around_in p graph) ops e (t.way + 2) ∷ behind (around_in p graph) (t.way + 2) ops e) =
              subst (λ o. From (explicit_graph p graph).blocks (t.way + 1) (rest_blocks (around_in p graph) ops e t.way (is_some o) (behind (around_in p graph) (t.way + 2) ops e))) i t.blocks.1 in
              let two : t.way + 1 + 1 ≡ t.way + 2 = omega arith in
              rest_on graph frames x_frames core run.core_after s.of beside clear fit.fits (run.kept.size ∙ s.size) s.waiting (At x_ops x_exit x_frames x_core) (At [] x_exit x_frames run.core_after) run.count run.leads refl ops e t.way place
              blocks.0 (subst (λ n. From (explicit_graph p graph).blocks n (behind (around_in p graph) (t.way + 2) ops e)) two blocks.1) fit.left fit.end same ready s.leaving s.testing
              (stepped ∙ ap (λ o. jump (explicit p) x_frames run.core_after (on_by (around_in p graph) ops e t.way o)) i)

  at_follows : (ops : List LlOp) (e : LlExit) (frames : List Frame) (core : Core) (x_ops : List LlOp) (x_exit : LlExit) (x_frames : List Frame) (x_core : Core) (graph : LlGraph) → StandsAt p ops e frames core x_ops x_exit x_frames x_core graph → PlacedAt p core.function core.block core.at ops e
      → PlacedAt (explicit p) x_core.function x_core.block x_core.at x_ops x_exit → AtFits p ops e frames core graph → ReadyAt p ops e core → Follows p args (At x_ops x_exit x_frames x_core) (step p args (At ops e frames core))
  at_follows ops e frames core x_ops x_exit x_frames x_core graph s place x_place fit ready = one s.left
    where
      one : PieceAt p graph ops e x_ops x_exit ⊎ (TestAt p graph ops e x_ops x_exit × SameHandled ops e core x_core) → Follows p args (At x_ops x_exit x_frames x_core) (step p args (At ops e frames core))
      one (inl t) =
          subst (λ l. Follows p args (At l x_exit x_frames x_core) (step p args (At ops e frames core))) (sym t.left)
          (subst (λ x. Follows p args (At (piece_ops (around_in p graph) ops e) x x_frames x_core) (step p args (At ops e frames core))) (sym t.end)
          (piece_follows graph frames x_frames core x_core s.of s.beside s.clear fit.fits s.size s.waiting ops e t.way place
          (record { block = x_place.block; of = x_place.of; left = x_place.left ∙ t.left; end = x_place.end ∙ t.end }) t.blocks fit.left fit.end s.vars ready s.leaving s.testing))
      one (inr t) = test_follows ops e frames core x_ops x_exit x_frames x_core graph s t.0 place fit ready

  -- ---- an exception comes to who waits

  thrown_follows_on : (value : Value) (frame : Frame) (frames : List Frame) (core : Core) (t : LlType) (x_value : Value) (x_frame : Frame) (x_frames : List Frame) (x_core : Core) → StandsThrowing p value (frame ∷ frames) core x_value (x_frame ∷ x_frames) x_core
      → LeavesFits p exception value (frame ∷ frames) core t → Follows p args (Returning x_value (x_frame ∷ x_frames) x_core) (thrown p value (frame ∷ frames) core)
  thrown_follows_on value frame frames core t x_value x_frame x_frames x_core s fit = to s.waiting fit.waiting
    where
      not_both : (b : Bool) → b ≡ true → b ≡ false → ⊥
      not_both b i j = absurd (let k : true ≡ false = sym i ∙ j in cc)

      tested : (graph : LlGraph) → Waits p core.function graph frame x_frame → Wait p frame.graph frames x_frames → length frame.vars ≡ length graph.types → exit_ok p graph frame.exit ≡ true → Tests p graph frame x_frame
          → Follows p args (Returning x_value (x_frame ∷ x_frames) x_core) (thrown p value (frame ∷ frames) core)
      tested graph w more count fine tests =
          from (tests_run (explicit p) args (length graph.types) x_frame.ops x_frame.exit x_frames (record (resumed x_frame x_core) { vars = taken_by x_frame.vars x_frame.into x_value }) (exceptions_of p) false tests.test.left
          (room_in graph (taken_by x_frame.vars x_frame.into x_value) tests.test.room (taken_size x_frame.vars x_frame.into x_value ∙ w.size)) (some_pointer x_core.exc_type s.kind))
        where
          from : TestedRun (explicit p) args (length graph.types) x_frame.ops x_frame.exit x_frames (record (resumed x_frame x_core) { vars = taken_by x_frame.vars x_frame.into x_value }) false
              → Follows p args (Returning x_value (x_frame ∷ x_frames) x_core) (thrown p value (frame ∷ frames) core)
          from run =
              follows_later p raises closed args (Returning x_value (x_frame ∷ x_frames) x_core) (At (way_ops (exceptions_of p) graph.types frame.ops frame.exit) (way_exit graph.result frame.ops frame.exit) x_frames (passed run.core_after tests.test.way (handler_reads frame.ops frame.exit))) (1 + (run.count + 1)) (caught p value frame.ops frame.exit frames (resumed frame core))
              (then (explicit p) args (Returning x_value (x_frame ∷ x_frames) x_core) (At [] x_frame.exit x_frames run.core_after) (At (way_ops (exceptions_of p) graph.types frame.ops frame.exit) (way_exit graph.result frame.ops frame.exit) x_frames (passed run.core_after tests.test.way (handler_reads frame.ops frame.exit))) (run.count + 1) 1
              (then (explicit p) args (Returning x_value (x_frame ∷ x_frames) x_core) (At x_frame.ops x_frame.exit x_frames (record (resumed x_frame x_core) { vars = taken_by x_frame.vars x_frame.into x_value })) (At [] x_frame.exit x_frames run.core_after) 1 run.count
              (one (explicit p) args (Returning x_value (x_frame ∷ x_frames) x_core) (At x_frame.ops x_frame.exit x_frames (record (resumed x_frame x_core) { vars = taken_by x_frame.vars x_frame.into x_value })) refl refl) run.leads)
              (one (explicit p) args (At [] x_frame.exit x_frames run.core_after) (At (way_ops (exceptions_of p) graph.types frame.ops frame.exit) (way_exit graph.result frame.ops frame.exit) x_frames (passed run.core_after tests.test.way (handler_reads frame.ops frame.exit))) stepped refl))
              (way_follows graph frame.ops frame.exit tests.test.way frames x_frames (resumed frame core) (passed run.core_after tests.test.way (handler_reads frame.ops frame.exit)) value w.of
              (record { function = run.kept.beside.function ∙ w.same; blocks = run.kept.beside.blocks ∙ s.beside.blocks; statics = run.kept.beside.statics ∙ s.beside.statics; steps = run.kept.beside.steps ∙ s.beside.steps }) count
              (set_all_size (handler_reads frame.ops frame.exit) (operands run.core_after.vars (as_operands (handler_reads frame.ops frame.exit))) run.core_after.vars ∙ run.kept.size ∙ taken_size x_frame.vars x_frame.into x_value ∙ w.size) more s.set (run.value ∙ s.slot) (ap is_pointer run.kind ∙ s.kind) (λ apart b e. s.known apart b (sym run.kind ∙ e))
              (λ v i. own_values run.core_after.vars run.core_after.vars (handler_reads frame.ops frame.exit) (λ v. refl) v ∙ same v i) fine tests.out frame.ops frame.exit refl refl)
            where
              same : (v : ℕ) → among v (handler_reads frame.ops frame.exit) ≡ true → read run.core_after.vars v ≡ read frame.vars v
              same v i =
                  run.kept.vars v (all_within graph.types v (handler_reads frame.ops frame.exit) (handler_there p graph frame.ops frame.exit fine) i)
                  ∙ taken_apart x_frame.vars x_frame.into x_value v (ap (λ o. sets o v) w.into ∙ (tests.handled v i).apart) ∙ (tests.handled v i).same

              stepped : step (explicit p) args (At [] x_frame.exit x_frames run.core_after) ≡ Goes (At (way_ops (exceptions_of p) graph.types frame.ops frame.exit) (way_exit graph.result frame.ops frame.exit) x_frames (passed run.core_after tests.test.way (handler_reads frame.ops frame.exit)))
              stepped =
                  ap (λ x. step (explicit p) args (At [] x x_frames run.core_after)) tests.test.end
                  ∙ ap (branch (explicit p) x_frames run.core_after (on (around_in p graph) frame.ops frame.exit tests.test.way) (link_to tests.test.way (as_operands (handler_reads frame.ops frame.exit)))) run.flag
                  ∙ own_jump graph x_frames run.core_after tests.test.way (way_block (around_in p graph) frame.ops frame.exit) (handler_reads frame.ops frame.exit) (ap (slice_get p.graphs) (run.kept.beside.function ∙ w.same) ∙ w.of) tests.test.blocks.0 refl
                  (λ v i. ap is_unset (same v i) ∙ (tests.handled v i).set)

      one_of : (graph : LlGraph) → Waits p core.function graph frame x_frame → Wait p frame.graph frames x_frames → length frame.vars ≡ length graph.types → exit_ok p graph frame.exit ≡ true
          → (PieceAt p graph frame.ops frame.exit x_frame.ops x_frame.exit × (is_marked (marks_of p) core.function ≡ false)) ⊎ Tests p graph frame x_frame → Follows p args (Returning x_value (x_frame ∷ x_frames) x_core) (thrown p value (frame ∷ frames) core)
      one_of graph w more count fine (inl h) = absurd (not_both (is_marked (marks_of p) core.function) s.marked h.1)
      one_of graph w more count fine (inr h) = tested graph w more count fine h

      same_graph : (g h : LlGraph) (o : Option LlGraph) → o ≡ Some g → o ≡ Some h → g ≡ h
      same_graph g h o e f = let i : Some g ≡ Some h = sym e ∙ f in cc

      to : Wait p core.function (frame ∷ frames) (x_frame ∷ x_frames) → FramesFit p (length core.blocks) t (frame ∷ frames) → Follows p args (Returning x_value (x_frame ∷ x_frames) x_core) (thrown p value (frame ∷ frames) core)
      to (graph, w, more) (other, fits, _) =
          let same : other ≡ graph = same_graph other graph (slice_get p.graphs frame.graph) fits.of w.of in
          one_of graph w more (subst (λ (g : LlGraph). length frame.vars ≡ length g.types) same fits.vars.count) (subst (λ g. exit_ok p g frame.exit ≡ true) same fits.exit) w.left

  -- ---- a graph is called

  unset_at : (n k : ℕ) → read (replicate n Unset) k ≡ Unset
  unset_at zero k = refl
  unset_at (suc n) zero = refl
  unset_at (suc n) (suc k) = unset_at n k

  read_filled : (values : List Value) (n k : ℕ) → read (values ++ replicate n Unset) k ≡ read values k
  read_filled [] n k = unset_at n k
  read_filled (v ∷ values) n zero = refl
  read_filled (v ∷ values) n (suc k) = read_filled values n k

  length_filled : (n : ℕ) → length (replicate n Unset) ≡ n
  length_filled zero = refl
  length_filled (suc n) = ap suc (length_filled n)

  params_within : (types : List LlType) (n : ℕ) (vs : List ℕ) → params_ok p types n vs ≡ true → n ≤ length types → n + length vs ≤ length types
  params_within types n [] h le = omega (arith, le)
  params_within types n (v ∷ vs) h le =
      let same : v ≡ n = is_same v n (and_left _ _ (and_left _ _ h)) in let lt : v < length types = typed (slice_get types v) refl (and_right (v == n) _ (and_left _ _ h)) in
      let more : n + 1 + length vs ≤ length types = params_within types (n + 1) vs (and_right _ _ h) (omega (arith, same, lt)) in omega (arith, more)
    where
      typed : (o : Option LlType) → slice_get types v ≡ o → is_type_given p.structs o ≡ true → v < length types
      typed None e h = absurd (cc)
      typed (Some t) e h = slice_get_within types v t e

  some_at : {A : Type 0} (xs : List A) (n : ℕ) → n < length xs → (x : A) × (slice_get xs n ≡ Some x)
  some_at [] n lt = absurd (omega (arith, lt))
  some_at (x ∷ xs) zero lt = (x, refl)
  some_at (x ∷ xs) (suc n) lt = some_at xs n (omega (arith, lt))

  params_of : (g : LlGraph) → graph_ok p g ≡ true → params_ok p g.types 0 g.params ≡ true
  params_of g fine = and_right _ _ (and_left _ _ (and_left _ _ fine))

  calling_follows : (f : ℕ) (values : List Value) (frames : List Frame) (core : Core) (x_f : ℕ) (x_values : List Value) (x_frames : List Frame) (x_core : Core) (graph : LlGraph) → StandsCalling p f values frames core x_f x_values x_frames x_core
      → CallingFits p f values frames core graph → Follows p args (Calling x_f x_values x_frames x_core) (entered f values frames core (slice_get p.graphs f))
  calling_follows f values frames core x_f x_values x_frames x_core graph s fit =
      subst (λ o. Follows p args (Calling x_f x_values x_frames x_core) (entered f values frames core o)) (sym fit.of)
      (begun (some_at graph.blocks 0 (is_less 0 (length graph.blocks) (and_right _ _ (and_left _ _ (good f graph fit.of))))))
    where
      wide : length graph.params ≤ length graph.types
      wide = let e : 0 + length graph.params ≤ length graph.types = params_within graph.types 0 graph.params (params_of graph (good f graph fit.of)) (omega arith) in omega (arith, e)

      full : length (values ++ replicate (length (explicit_graph p graph).types - length graph.params) Unset) ≡ length (explicit_graph p graph).types
      full =
          let a : length (values ++ replicate (length (explicit_graph p graph).types - length graph.params) Unset) ≡ length values + length (replicate (length (explicit_graph p graph).types - length graph.params) Unset) =
          length_both values (replicate (length (explicit_graph p graph).types - length graph.params) Unset) in
          let b : length (replicate (length (explicit_graph p graph).types - length graph.params) Unset) ≡ length (explicit_graph p graph).types - length graph.params = length_filled (length (explicit_graph p graph).types - length graph.params) in
          let c : length values ≡ length graph.params = fit.count in let d : length graph.types ≤ length (explicit_graph p graph).types = more_types p raises args graph in let e : length graph.params ≤ length graph.types = wide in
          omega (arith, a, b, c, d, e)

      begun : (block : LlBlock) × (slice_get graph.blocks 0 ≡ Some block) → Follows p args (Calling x_f x_values x_frames x_core) (enters f values frames core graph (slice_get graph.blocks 0))
      begun (block, is) = subst (λ o. Follows p args (Calling x_f x_values x_frames x_core) (enters f values frames core graph o)) (sym is) (at (block_placed (around_in p graph) graph.blocks 0 block is))
        where
          at : (way : ℕ) × (slice_get (explicit_graph p graph).blocks 0 ≡ Some (piece (around_in p graph) block.inputs block.ops block.exit way)) × From (explicit_graph p graph).blocks way (behind (around_in p graph) way block.ops block.exit)
              → Follows p args (Calling x_f x_values x_frames x_core) (enters f values frames core graph (Some block))
          at (way, there, more) =
              comes_now p raises closed args (Calling x_f x_values x_frames x_core)
              (At block.ops block.exit frames (record core { function = f; block = 0; at = 0; vars = values ++ replicate (length graph.types - length graph.params) Unset }))
              (At (piece_ops (around_in p graph) block.ops block.exit) (piece_exit (around_in p graph) block.ops block.exit way) x_frames
              (record x_core { function = f; block = 0; at = 0; vars = values ++ replicate (length (explicit_graph p graph).types - length graph.params) Unset }))
              (ap (λ f. entered f x_values x_frames x_core (slice_get (explicit p).graphs f)) s.called ∙ ap (λ vs. entered f vs x_frames x_core (slice_get (explicit p).graphs f)) s.given
              ∙ ap (entered f values x_frames x_core) (graph_made p raises args f graph fit.of) ∙ ap (enters f values x_frames x_core (explicit_graph p graph)) there) (
                graph,
                record {
                  of = fit.of;
                  beside = record { function = refl; blocks = s.beside.blocks; statics = s.beside.statics; steps = s.beside.steps };
                  clear = s.clear;
                  size = full;
                  vars = λ v n. read_filled values (length (explicit_graph p graph).types - length graph.params) v ∙ sym (read_filled values (length graph.types - length graph.params) v);
                  leaving = block_leaving p f graph fit.of 0 block is;
                  testing = block_testing p graph.blocks 0 block is;
                  left = inl (record { way = way; left = refl; end = refl; blocks = more });
                  waiting = s.waiting;
                },
              )

  -- ---- steps

  same_one : (g h : LlGraph) (o : Option LlGraph) → o ≡ Some g → o ≡ Some h → g ≡ h
  same_one g h o e f = let i : Some g ≡ Some h = sym e ∙ f in cc

  pub step_follows : (s x : State) → Stands p s x → IsPlaced p s → IsPlaced (explicit p) x → StateFits p s → IsReady p s → Follows p args x (step p args s)
  step_follows (Calling f values frames core) (Calling x_f x_values x_frames x_core) s place x_place (graph, fit) ready = calling_follows f values frames core x_f x_values x_frames x_core graph s fit
  step_follows (At ops e frames core) (At x_ops x_exit x_frames x_core) (graph, s) (place, behind) (x_place, x_behind) (other, fit) ready =
      at_follows ops e frames core x_ops x_exit x_frames x_core graph s place x_place (subst (AtFits p ops e frames core) (same_one other graph (slice_get p.graphs core.function) fit.of s.of) fit) ready
  step_follows (Returning value frames core) (Returning x_value x_frames x_core) s place x_place (t, fit) ready = returned_follows value frames core t x_value x_frames x_core s fit
  step_follows (Throwing value [] core) (Returning x_value x_frames x_core) s place x_place (t, fit) ready = absurd ready
  step_follows (Throwing value (frame ∷ frames) core) (Returning x_value [] x_core) s place x_place (t, fit) ready = absurd s.waiting
  step_follows (Throwing value (frame ∷ frames) core) (Returning x_value (x_frame ∷ x_frames) x_core) s place x_place (t, fit) ready = thrown_follows_on value frame frames core t x_value x_frame x_frames x_core s fit
  step_follows s x stands place x_place fit ready = absurd stands
