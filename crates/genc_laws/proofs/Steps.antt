-- The machine of the C file follows each step of the low-level machine.
use Rattle.std.proofs.Common.{◌≡◌, ◌<◌, ◌≤◌, ℕ, zero, suc, ◌+◌, ◌-◌, Bool, true, false, ◌&&◌, ◌||◌, List, [], ◌∷◌, ◌++◌, length, map, take, drop, replicate, Option, Some, None, Result, Ok, Err, refl, sym, ap, ◌∙◌, subst, arith, ℤ, inl, inr}
use Rattle.std.specs.Prelude.{slice_get, slice_set, cond, option_map}
use Rattle.std.proofs.lemmas.Option.{slice_get_within}
use Rattle.rpy_base.specs.declared.outcome.Outcome.TheVariants.{Returned}
use Rattle.rpy_base.specs.declared.outcome.FailName.{FailName}
use Rattle.csub_tree.specs.State.{Value, Unset, Fun, Block, Caller, Core, After, Onward, Puts as PutsByte, Told, Over, Stuck}
use Rattle.csub_tree.specs.Layout.{Shape}
use Rattle.csub_tree.specs.Operation.{is_unset, flag_of, word_of}
use Rattle.csub_tree.specs.Statement as st
use Rattle.csub_tree.specs.Statement.{read, any_unset, give_back, back_to, last_of, ended, taken_by, fail, fail_name_of, raised, raised_as, on_block, reached, bytes_of, fun_of, same_result, same_types}
use Rattle.csub_tree.specs.Machine as c_machine
use Rattle.csub_tree.specs.Machine.{stmt_at}
use Rattle.csub_tree.specs.declared.stuck.StuckReason.{StuckReason}
use Rattle.csub_tree.specs.declared.stuck.StuckReason.TheVariants.{Unset as IsUnset, Signature}
use Rattle.csub_tree.specs.declared.tree.CType.{CType}
use Rattle.csub_tree.specs.declared.tree.CType.TheVariants as c
use Rattle.csub_tree.specs.declared.tree.COperand.{COperand}
use Rattle.csub_tree.specs.declared.tree.CStmt.{CStmt}
use Rattle.csub_tree.specs.declared.tree.CStmt.TheVariants as stmt
use Rattle.ll_code.specs.State.{Frame, State, Calling, At, Returning, Throwing, Goes, Sticks}
use Rattle.ll_code.specs.Machine.{step, operates, leaves, does, goes_on, jump, begins, branch, block_in, c_type, c_result, param_types, type_or_word, waiting, called, called_value, called_as, enters, entered, returned, gives_back, type_in, shapes_of}
use Rattle.ll_code.specs.Typed as typed
use Rattle.ll_code.specs.Typed.{IsWellTyped, operation_ok, operations_ok, exit_ok, link_ok, call_ok, all_given, all_taken, graph_ok, graphs_ok, params_ok, begins_run, has_type, result_ok, points, names_chars, return_ok, takes}
use Rattle.ll_code.specs.declared.program.LlStage.TheVariants as stage
use Rattle.ll_code.specs.declared.program.LlType.{LlType}
use Rattle.ll_code.specs.declared.program.LlType.TheVariants as type
use Rattle.ll_code.specs.declared.program.LlLink.{LlLink}
use Rattle.ll_code.specs.declared.program.LlOp.{LlOp}
use Rattle.ll_code.specs.declared.program.LlOp.TheVariants as op
use Rattle.ll_code.specs.declared.program.LlExit.{LlExit}
use Rattle.ll_code.specs.declared.program.LlExit.TheVariants as exit
use Rattle.ll_code.specs.declared.program.LlBlock.{LlBlock}
use Rattle.ll_code.specs.declared.program.LlGraph.{LlGraph}
use Rattle.ll_code.specs.declared.program.LlProgram.{LlProgram}
use Rattle.ll_laws.specs.Fits.{Fits, CoreFits}
use Rattle.ll_laws.specs.States.{FramesFit, CallingFits, AtFits, LeavesFits, StateFits}
use Rattle.ll_laws.proofs.Values.{and_left, and_right, is_less, has_type_is}
use Rattle.genc_lower.specs.Lower as lower
use Rattle.genc_lower.specs.Lower.{order_of, lowered, function_of, statement, link_code, link_crosses, exit_code, exit_crosses, blocks_code, function_code, any_crosses, in_order, waiting_types}
use Rattle.genc_laws.specs.Same.{renamed, SameVars, SameMemory, Done, SameAfter, stays}
use Rattle.genc_laws.specs.Stands.{count_of, LeftAt, Wait, StandsCalling, StandsAt, StandsReturning, Stands}
use Rattle.genc_laws.specs.Follows.{Leads, weight, IsAtLink, Follows}
use Rattle.genc_laws.proofs.Values.{length_map, get_map, unset_same, word_same, flag_same, any_unset_same}
use Rattle.genc_laws.proofs.Memory.{vars_set, raised_same}
use Rattle.genc_laws.proofs.Operations.{shapes_same, place_of, taken, all_taken_same, does_same}
use Rattle.genc_laws.proofs.Leading.{drop_next, nothing, onward, then, standing, stepped}
use Rattle.genc_laws.proofs.Places.{get_left, some_at, length_both, order_at, block_left, variables_are}
use Rattle.genc_laws.proofs.Links.{Linked, link_runs}
use Rattle.genc_laws.proofs.Calls.{read_filled, length_filled, last_caller, but_last, given_count, taken_count, same_count, operands_count, params_short, fun_same, all_given_same, called_vars, called_size}

-- ---- rules of graphs

graph_at : (p : LlProgram) (graphs : List LlGraph) (n : ℕ) (g : LlGraph) → graphs_ok p graphs ≡ true → slice_get graphs n ≡ Some g → graph_ok p g ≡ true
graph_at p [] n g ok e = absurd (cc)
graph_at p (x ∷ graphs) zero g ok e = let f : x ≡ g = cc in subst (λ g. graph_ok p g ≡ true) f (and_left _ _ ok)
graph_at p (x ∷ graphs) (suc n) g ok e = graph_at p graphs n g (and_right _ _ ok) e

pub params_of : (p : LlProgram) (g : LlGraph) → graph_ok p g ≡ true → params_ok p g.types 0 g.params ≡ true
params_of p g good = and_right _ _ (and_left _ _ (and_left _ _ good))

pub entry_of : (p : LlProgram) → IsWellTyped p → (entry : LlGraph) × (slice_get p.graphs p.entry ≡ Some entry) × (begins_run (Some entry) ≡ true)
entry_of p ok = one (slice_get p.graphs p.entry) refl (and_right _ _ ok)
  where
    one : (o : Option LlGraph) → slice_get p.graphs p.entry ≡ o → begins_run o ≡ true → (entry : LlGraph) × (slice_get p.graphs p.entry ≡ Some entry) × (begins_run (Some entry) ≡ true)
    one None e h = absurd (cc)
    one (Some entry) e h = (entry, e, h)

not_raw : (p : LlProgram) → p.stage ≡ stage.Counted → typed.is_raw p.stage ≡ false
not_raw p counted = ap typed.is_raw counted

same_graph : (g h : LlGraph) (o : Option LlGraph) → o ≡ Some g → o ≡ Some h → g ≡ h
same_graph g h o e f = let i : Some g ≡ Some h = sym e ∙ f in cc

module _ (p : LlProgram) (ok : IsWellTyped p) (counted : p.stage ≡ stage.Counted) (args : List (List ℕ)) where
  all_graphs : graphs_ok p p.graphs ≡ true
  all_graphs = and_right _ _ (and_left _ _ ok)

  pub good_graph : (f : ℕ) (graph : LlGraph) → slice_get p.graphs f ≡ Some graph → graph_ok p graph ≡ true
  good_graph f graph e = graph_at p p.graphs f graph all_graphs e

  pub entry_within : p.entry ≤ length p.graphs - 1
  entry_within = let e = entry_of p ok in let lt : p.entry < length p.graphs = slice_get_within p.graphs p.entry e.0 e.1 in omega (arith, lt)

  pub function_at : (g : ℕ) (graph : LlGraph) → slice_get p.graphs g ≡ Some graph → slice_get (lowered p).functions (function_of (order_of p) g) ≡ Some (function_code (order_of p) graph)
  function_at g graph e = let entry = entry_of p ok in order_at (function_code (order_of p)) p entry.0 entry.1 g graph e

  abbrev Code : LlGraph → Core → Type 0
  Code graph c_core = slice_get (lowered p).functions c_core.function ≡ Some (function_code (order_of p) graph)

  abbrev Vars : LlGraph → List Value → List Value → Type 0
  Vars graph vars c_vars = SameVars (order_of p) (length graph.types) (count_of graph) vars c_vars

  -- the memory is the same, whatever runs
  again : (core c_core : Core) (f b a c_f c_b c_a : ℕ) (vs c_vs : List Value) (cs c_cs : List Caller) → SameMemory (order_of p) core c_core
      → SameMemory (order_of p) (record core { function = f; block = b; at = a; vars = vs; callers = cs }) (record c_core { function = c_f; block = c_b; at = c_a; vars = c_vs; callers = c_cs })
  again core c_core f b a c_f c_b c_a vs c_vs cs c_cs m = record { blocks = m.blocks; statics = m.statics; exc_type = m.exc_type; exc_value = m.exc_value; steps = m.steps }

  left_next : (graph : LlGraph) (o : LlOp) (ops : List LlOp) (exit : LlExit) (block at : ℕ) → LeftAt (order_of p) graph (o ∷ ops) exit block at → LeftAt (order_of p) graph ops exit block (at + 1)
  left_next graph o ops exit block at l = record {
    stmts = l.stmts;
    next = l.next;
    of = l.of;
    left = drop_next l.stmts at (statement (order_of p) o) (map (statement (order_of p)) ops ++ exit_code (order_of p) graph l.next exit) l.left;
    ways = l.ways;
    wait = l.wait;
  }

  -- ---- in a graph that runs

  module _ (graph : LlGraph) (frames : List Frame) (core c_core : Core) (is : slice_get p.graphs core.function ≡ Some graph) (function : c_core.function ≡ function_of (order_of p) core.function)
      (vars : Vars graph core.vars c_core.vars) (memory : SameMemory (order_of p) core c_core) (wait : Wait p frames c_core.callers) where
    here : Code graph c_core
    here = ap (slice_get (lowered p).functions) function ∙ function_at core.function graph is

    abbrev Same : After → After → Type 0
    Same = SameAfter (order_of p) (length graph.types) (count_of graph) core c_core

    -- ---- operations

    stands_on : (ops : List LlOp) (exit : LlExit) (next c_next : Core) → Done (order_of p) (length graph.types) (count_of graph) core c_core next c_next
        → LeftAt (order_of p) graph ops exit c_core.block (c_core.at + 1) → StandsAt p ops exit frames next c_next graph
    stands_on ops exit next c_next d left = record {
      of = ap (slice_get p.graphs) d.graph ∙ is;
      function = d.function ∙ function ∙ ap (function_of (order_of p)) (sym d.graph);
      left = subst (λ b. LeftAt (order_of p) graph ops exit b c_next.at) (sym d.block) (subst (λ a. LeftAt (order_of p) graph ops exit c_core.block a) (sym d.at) left);
      vars = d.vars;
      memory = d.memory;
      waiting = subst (Wait p frames) (sym d.callers) wait;
    }

    after_follows : (from : State) (ops : List LlOp) (exit : LlExit) (after c_after : After) → 1 ≤ weight from → LeftAt (order_of p) graph ops exit c_core.block (c_core.at + 1) → Same after c_after
        → c_machine.step (lowered p) args c_core ≡ c_after → Follows p args from c_core (goes_on (At ops exit frames) after)
    after_follows from ops exit (Onward next) (Onward c_next) w left same e =
        record { later = c_next; count = 1; leads = onward (lowered p) args c_core c_next e; stands = (graph, stands_on ops exit next c_next same left); pays = omega (arith, w) }
    after_follows from ops exit (PutsByte byte next) (PutsByte c_byte c_next) w left same e =
        (c_next, e ∙ ap (λ b. PutsByte b c_next) same.0, (graph, stands_on ops exit next c_next same.1 left), omega arith)
    after_follows from ops exit (Told event next) (Told c_event c_next) w left same e =
        (c_next, e ∙ ap (λ b. Told b c_next) same.0, (graph, stands_on ops exit next c_next same.1 left), omega arith)
    after_follows from ops exit (Over outcome next) (Over c_outcome c_next) w left same e = (c_next, e ∙ ap (λ o. Over o c_next) same.0, same.1)
    after_follows from ops exit (Stuck reason) (Stuck c_reason) w left same e =
        inl (record { later = c_core; count = 0; leads = nothing (lowered p) args c_core; stuck = e ∙ ap Stuck same })
    after_follows from ops exit after c_after w left same e = absurd same

    -- ---- ends

    abbrev is_final : After → Bool
    is_final (Over outcome core) = true
    is_final (Stuck reason) = true
    is_final other = false

    end_follows : (from : State) (to : Core → State) (after c_after : After) → is_final after ≡ true → Same after c_after → c_machine.step (lowered p) args c_core ≡ c_after → Follows p args from c_core (goes_on to after)
    end_follows from to (Over outcome next) (Over c_outcome c_next) f same e = (c_next, e ∙ ap (λ o. Over o c_next) same.0, same.1)
    end_follows from to (Stuck reason) (Stuck c_reason) f same e = inl (record { later = c_core; count = 0; leads = nothing (lowered p) args c_core; stuck = e ∙ ap Stuck same })
    end_follows from to (Onward next) c_after f same e = absurd (cc)
    end_follows from to (PutsByte byte next) c_after f same e = absurd (cc)
    end_follows from to (Told event next) c_after f same e = absurd (cc)
    end_follows from to after c_after f same e = absurd same

    fail_same : (o : Option FailName) → Same (fail core o) (fail c_core o)
    fail_same None = refl
    fail_same (Some name) = (refl, memory.steps)

    fail_final : (o : Option FailName) → is_final (fail core o) ≡ true
    fail_final None = refl
    fail_final (Some name) = refl

    raised_final : (shapes : List Shape) (t : Option CType) (value : Value) → is_final (raised core shapes t value) ≡ true
    raised_final shapes (Some (c.Ptr n)) value = found (reached core shapes n value)
      where
        named : (o : Option (List ℕ)) → is_final (raised_as core o) ≡ true
        named None = refl
        named (Some name) = refl

        found : (r : Result Block StuckReason) → is_final (on_block (λ block. raised_as core (bytes_of block.items)) r) ≡ true
        found (Ok block) = named (bytes_of block.items)
        found (Err reason) = refl
    raised_final shapes other value = refl

    -- ---- links

    module _ (good : graph_ok p graph ≡ true) where
      -- a link stands at a place that is some statements on
      jump_follows : (from : State) (base : Core) (before : ℕ) (stmts : List CStmt) (link : LlLink) → 1 ≤ weight from → Leads (lowered p) args c_core base before → base.function ≡ c_core.function → base.callers ≡ c_core.callers
          → Vars graph core.vars base.vars → SameMemory (order_of p) core base → slice_get (blocks_code (order_of p) graph) base.block ≡ Some stmts → drop base.at stmts ≡ link_code (order_of p) graph link
          → link_ok p graph link ≡ true → (link_crosses graph link ≡ true → any_crosses graph graph.blocks ≡ true) → IsAtLink from → Follows p args from c_core (jump p frames core link)
      jump_follows from base before stmts link w leads same_function same_callers base_vars base_memory of left fine room at_link =
          set (any_unset (st.operands core.vars link.args)) refl
        where
          base_here : Code graph base
          base_here = ap (slice_get (lowered p).functions) same_function ∙ here

          landed : (block : LlBlock) → slice_get graph.blocks link.to ≡ Some block → Linked p args graph base base_here stmts of link core.vars block.inputs
              → Follows p args from c_core (begins frames core link.to (st.operands core.vars link.args) (Some block))
          landed block at l = record {
            later = record base { block = link.to; at = 0; vars = l.now };
            count = suc l.count + before;
            leads = then (lowered p) args c_core base (record base { block = link.to; at = 0; vars = l.now }) before (suc l.count) leads l.leads;
            stands = (
              graph,
              record {
                of = is;
                function = same_function ∙ function;
                left = block_left (order_of p) graph link.to block at;
                vars = l.vars_same;
                memory = record { blocks = base_memory.blocks; statics = base_memory.statics; exc_type = base_memory.exc_type; exc_value = base_memory.exc_value; steps = base_memory.steps };
                waiting = subst (Wait p frames) (sym same_callers) wait;
              },
            );
            pays = omega (arith, w);
          }

          begun : any_unset (st.operands core.vars link.args) ≡ false → (o : Option LlBlock) → slice_get graph.blocks link.to ≡ o → typed.enters p graph.types o link.args ≡ true
              → Follows p args from c_core (begins frames core link.to (st.operands core.vars link.args) o)
          begun free None at h = absurd (cc)
          begun free (Some block) at h = landed block at (link_runs p args graph base base_here stmts of link block core.vars at fine room free base_vars left)

          set : (b : Bool) → any_unset (st.operands core.vars link.args) ≡ b
              → Follows p args from c_core (cond b (Sticks IsUnset) (begins frames core link.to (st.operands core.vars link.args) (block_in (slice_get p.graphs core.function) link.to)))
          set true e = inr (refl, at_link)
          set false e = subst (λ o. Follows p args from c_core (begins frames core link.to (st.operands core.vars link.args) (block_in o link.to))) (sym is) (begun e (slice_get graph.blocks link.to) refl fine)

      -- ---- exits

      step_is : (s : CStmt) (rest : List CStmt) (stmts : List CStmt) → slice_get (blocks_code (order_of p) graph) c_core.block ≡ Some stmts → drop c_core.at stmts ≡ s ∷ rest
          → c_machine.step (lowered p) args c_core ≡ c_machine.does (lowered p) args c_core s
      step_is s rest stmts of left = stepped (lowered p) args c_core s (standing (lowered p) args c_core (function_code (order_of p) graph) stmts rest s here of left)

      stuck_now : (from : State) (reason : StuckReason) → c_machine.step (lowered p) args c_core ≡ Stuck reason → Follows p args from c_core (Sticks reason)
      stuck_now from reason e = inl (record { later = c_core; count = 0; leads = nothing (lowered p) args c_core; stuck = e })

      at_block : ℕ → Core
      at_block block = record c_core { block = block; at = 0 }

      or_first : (a b : Bool) → a ≡ true → (a || b) ≡ true
      or_first true b e = refl
      or_first false b e = absurd (cc)

      or_second : (a b : Bool) → b ≡ true → (a || b) ≡ true
      or_second true b e = refl
      or_second false b e = e

      test_follows : (a : ℕ) (there elsewhere : LlLink) → has_type type.Bool (slice_get graph.types a) ≡ true → link_ok p graph there ≡ true → link_ok p graph elsewhere ≡ true
          → LeftAt (order_of p) graph [] (exit.If a there elsewhere) c_core.block c_core.at → (o : Option Bool) → flag_of (read core.vars a) ≡ o
          → Follows p args (At [] (exit.If a there elsewhere) frames core) c_core (branch p frames core there elsewhere o)
      unfolding at_block
      test_follows a there elsewhere t h k left o e = way o e
        where
          from : State
          from = At [] (exit.If a there elsewhere) frames core

          flags : (o : Option Bool) → flag_of (read core.vars a) ≡ o → c_machine.step (lowered p) args c_core ≡ st.on (λ b. st.goes_to c_core (cond b left.next (left.next + 1))) o
          flags o e =
              step_is (stmt.If a left.next (left.next + 1)) [] left.stmts left.of left.left
              ∙ ap (st.on (λ b. st.goes_to c_core (cond b left.next (left.next + 1)))) (ap flag_of (vars.at a (place_of graph.types type.Bool a t)) ∙ flag_same (order_of p) (read core.vars a) ∙ e)

          way : (o : Option Bool) → flag_of (read core.vars a) ≡ o → Follows p args (At [] (exit.If a there elsewhere) frames core) c_core (branch p frames core there elsewhere o)
          way None e = stuck_now (At [] (exit.If a there elsewhere) frames core) IsUnset (flags None e)
          way (Some true) e =
              jump_follows (At [] (exit.If a there elsewhere) frames core) (at_block left.next) 1 (link_code (order_of p) graph there) there (omega arith) (onward (lowered p) args c_core (at_block left.next) (flags (Some true) e)) refl refl vars
              (record { blocks = memory.blocks; statics = memory.statics; exc_type = memory.exc_type; exc_value = memory.exc_value; steps = memory.steps }) left.ways.0 refl h
              (λ x. left.wait (or_first (link_crosses graph there) (link_crosses graph elsewhere) x)) tt
          way (Some false) e =
              jump_follows (At [] (exit.If a there elsewhere) frames core) (at_block (left.next + 1)) 1 (link_code (order_of p) graph elsewhere) elsewhere (omega arith) (onward (lowered p) args c_core (at_block (left.next + 1)) (flags (Some false) e)) refl refl vars
              (record { blocks = memory.blocks; statics = memory.statics; exc_type = memory.exc_type; exc_value = memory.exc_value; steps = memory.steps }) left.ways.1 refl k
              (λ x. left.wait (or_second (link_crosses graph there) (link_crosses graph elsewhere) x)) tt

      -- the function is about to return
      about_to : (from : State) (value : Value) (what : Option COperand) (stmts : List CStmt) → 1 ≤ weight from → slice_get (blocks_code (order_of p) graph) c_core.block ≡ Some stmts → drop c_core.at stmts ≡ stmt.Return what ∷ []
          → give_back c_core what ≡ back_to c_core (renamed (order_of p) value) (last_of c_core.callers) → Follows p args from c_core (Goes (Returning value frames core))
      about_to from value what stmts w of left gives = record {
        later = c_core;
        count = 0;
        leads = nothing (lowered p) args c_core;
        stands = record { what = what; statement = standing (lowered p) args c_core (function_code (order_of p) graph) stmts [] (stmt.Return what) here of left; gives = gives; memory = memory; waiting = wait };
        pays = omega (arith, w);
      }

      return_follows : (x : Option COperand) → return_ok p graph x ≡ true → LeftAt (order_of p) graph [] (exit.Return x) c_core.block c_core.at
          → Follows p args (At [] (exit.Return x) frames core) c_core (gives_back x frames core)
      return_follows None h left = about_to (At [] (exit.Return None) frames core) Unset None left.stmts (omega arith) left.of left.left refl
      return_follows (Some x) h left = set (is_unset (st.operand core.vars x)) refl
        where
          same : st.operand c_core.vars (lower.operand (order_of p) x) ≡ renamed (order_of p) (st.operand core.vars x)
          same = taken p graph.types (count_of graph) core c_core vars graph.result x h

          gives : (b : Bool) → is_unset (st.operand core.vars x) ≡ b
              → give_back c_core (Some (lower.operand (order_of p) x)) ≡ cond b (Stuck IsUnset) (back_to c_core (renamed (order_of p) (st.operand core.vars x)) (last_of c_core.callers))
          gives b e =
              ap (λ v. cond (is_unset v) (Stuck IsUnset) (back_to c_core v (last_of c_core.callers))) same
              ∙ ap (λ b. cond b (Stuck IsUnset) (back_to c_core (renamed (order_of p) (st.operand core.vars x)) (last_of c_core.callers))) (unset_same (order_of p) (st.operand core.vars x) ∙ e)

          set : (b : Bool) → is_unset (st.operand core.vars x) ≡ b
              → Follows p args (At [] (exit.Return (Some x)) frames core) c_core (cond b (Sticks IsUnset) (Goes (Returning (st.operand core.vars x) frames core)))
          set true e = stuck_now (At [] (exit.Return (Some x)) frames core) IsUnset (step_is (stmt.Return (Some (lower.operand (order_of p) x))) [] left.stmts left.of left.left ∙ gives true e)
          set false e = about_to (At [] (exit.Return (Some x)) frames core) (st.operand core.vars x) (Some (lower.operand (order_of p) x)) left.stmts (omega arith) left.of left.left (gives false e)

      -- the type of a variable of the graph
      type_same : (a : ℕ) (o : Option LlType) → slice_get graph.types a ≡ o → names_chars p.structs o ≡ true
          → c_machine.does (lowered p) args c_core (stmt.Raised a) ≡ raised c_core (shapes_of p.structs) (type_in (slice_get p.graphs core.function) a) (read c_core.vars a)
      type_same a None e h = absurd (cc)
      type_same a (Some t) e h =
          ap (λ s. raised c_core s (st.type_in (slice_get (lowered p).functions c_core.function) a) (read c_core.vars a)) (shapes_same p.structs)
          ∙ ap (λ t. raised c_core (shapes_of p.structs) t (read c_core.vars a))
          (ap (λ o. st.type_in o a) here ∙ ap (λ l. slice_get l a) (variables_are p graph (params_of p graph good))
          ∙ get_left (map c_type graph.types) (waiting_types graph) a (c_type t) (get_map c_type graph.types a ∙ ap (option_map c_type) e)
          ∙ sym (ap (λ o. type_in o a) is ∙ ap (option_map c_type) e))

      chars_within : (a : ℕ) (o : Option LlType) → slice_get graph.types a ≡ o → names_chars p.structs o ≡ true → a < length graph.types
      chars_within a None e h = absurd (cc)
      chars_within a (Some t) e h = slice_get_within graph.types a t e

      leaves_follows : (exit : LlExit) → exit_ok p graph exit ≡ true → LeftAt (order_of p) graph [] exit c_core.block c_core.at → Follows p args (At [] exit frames core) c_core (leaves p exit frames core)
      leaves_follows (exit.Goto link) h left =
          jump_follows (At [] (exit.Goto link) frames core) c_core 0 left.stmts link (omega arith) (nothing (lowered p) args c_core) refl refl vars memory left.of left.left h left.wait tt
      leaves_follows (exit.If a there elsewhere) h left = test_follows a there elsewhere (and_left _ _ (and_left _ _ h)) (and_right _ _ (and_left _ _ h)) (and_right _ _ h) left (flag_of (read core.vars a)) refl
      leaves_follows (exit.OnRaise a by without) h left = absurd (let f : true ≡ false = sym (and_left (typed.is_raw p.stage) _ (and_left _ _ (and_left _ _ h))) ∙ not_raw p counted in cc)
      leaves_follows (exit.Return x) h left = return_follows x h left
      leaves_follows (exit.Raise a) h left = absurd (let f : true ≡ false = sym (and_left (typed.is_raw p.stage) _ h) ∙ not_raw p counted in cc)
      leaves_follows (exit.Fail number) h left =
          end_follows (At [] (exit.Fail number) frames core) (At [] (exit.Fail number) frames) (fail core (fail_name_of number)) (fail c_core (fail_name_of number)) (fail_final (fail_name_of number)) (fail_same (fail_name_of number))
          (step_is (stmt.Fail number) [] left.stmts left.of left.left)
      leaves_follows (exit.Raised a) h left =
          end_follows (At [] (exit.Raised a) frames core) (At [] (exit.Raised a) frames) (raised core (shapes_of p.structs) (type_in (slice_get p.graphs core.function) a) (read core.vars a))
          (raised c_core (shapes_of p.structs) (type_in (slice_get p.graphs core.function) a) (read c_core.vars a))
          (raised_final (shapes_of p.structs) (type_in (slice_get p.graphs core.function) a) (read core.vars a))
          (raised_same (order_of p) (length graph.types) (count_of graph) core c_core vars memory (shapes_of p.structs) (type_in (slice_get p.graphs core.function) a) (read core.vars a) (read c_core.vars a)
          (vars.at a (chars_within a (slice_get graph.types a) refl h)))
          (step_is (stmt.Raised a) [] left.stmts left.of left.left ∙ type_same a (slice_get graph.types a) refl h)

      -- ---- calls

      entered_follows : (from : State) (into : Option ℕ) (f : ℕ) (other : LlGraph) (values c_values : List Value) (ops : List LlOp) (exit : LlExit) → 1 ≤ weight from → slice_get p.graphs f ≡ Some other
          → c_values ≡ map (renamed (order_of p)) values → length values ≡ length other.params → LeftAt (order_of p) graph ops exit c_core.block (c_core.at + 1)
          → c_machine.step (lowered p) args c_core ≡ Onward (st.entered c_core into (function_of (order_of p) f) c_values (function_code (order_of p) other))
          → Follows p args from c_core (Goes (Calling f values (waiting core into ops exit ∷ frames) core))
      entered_follows from into f other values c_values ops exit w e same many left steps = record {
        later = st.entered c_core into (function_of (order_of p) f) c_values (function_code (order_of p) other);
        count = 1;
        leads = onward (lowered p) args c_core (st.entered c_core into (function_of (order_of p) f) c_values (function_code (order_of p) other)) steps;
        stands = (
          other,
          record {
            of = e;
            function = refl;
            block = refl;
            at = refl;
            size = called_size p other c_values (params_of p other (good_graph f other e)) (ap length same ∙ length_map (renamed (order_of p)) values ∙ many);
            vars = λ a. called_vars (order_of p) values c_values (length (function_code (order_of p) other).locals) a same;
            memory = record { blocks = memory.blocks; statics = memory.statics; exc_type = memory.exc_type; exc_value = memory.exc_value; steps = memory.steps };
            waiting = (
              c_core.callers,
              record { function = c_core.function; block = c_core.block; at = c_core.at + 1; vars = c_core.vars; into = into },
              graph,
              refl,
              record { of = is; function = function; into = refl; left = left; vars = vars },
              wait,
            );
          },
        );
        pays = omega (arith, w);
      }

      call_follows : (into : Option ℕ) (f : ℕ) (xs : List COperand) (ops : List LlOp) (exit : LlExit) (o : Option LlGraph) → slice_get p.graphs f ≡ o → call_ok p graph.types into o xs ≡ true
          → LeftAt (order_of p) graph (op.Call into f xs ∷ ops) exit c_core.block c_core.at
          → Follows p args (At (op.Call into f xs ∷ ops) exit frames core) c_core (called f (st.operands core.vars xs) (waiting core into ops exit ∷ frames) core)
      call_follows into f xs ops exit None e h left = absurd (cc)
      call_follows into f xs ops exit (Some other) e h left = set (any_unset (st.operands core.vars xs)) refl
        where
          same : st.operands c_core.vars (map (lower.operand (order_of p)) xs) ≡ map (renamed (order_of p)) (st.operands core.vars xs)
          same = all_given_same p graph.types (count_of graph) core c_core vars other.types other.params xs (and_right (result_ok graph.types into other.result) (all_given p graph.types other.types other.params xs) h)

          steps : (b : Bool) → any_unset (st.operands core.vars xs) ≡ b → c_machine.step (lowered p) args c_core
              ≡ cond b (Stuck IsUnset) (Onward (st.entered c_core into (function_of (order_of p) f) (st.operands c_core.vars (map (lower.operand (order_of p)) xs)) (function_code (order_of p) other)))
          steps b k =
              step_is (stmt.Call into (function_of (order_of p) f) (map (lower.operand (order_of p)) xs)) (map (statement (order_of p)) ops ++ exit_code (order_of p) graph left.next exit) left.stmts left.of left.left
              ∙ ap (λ o. st.call c_core into (function_of (order_of p) f) (st.operands c_core.vars (map (lower.operand (order_of p)) xs)) o) (function_at f other e)
              ∙ ap (λ b. cond b (Stuck IsUnset) (Onward (st.entered c_core into (function_of (order_of p) f) (st.operands c_core.vars (map (lower.operand (order_of p)) xs)) (function_code (order_of p) other))))
              (ap any_unset same ∙ any_unset_same (order_of p) (st.operands core.vars xs) ∙ k)

          set : (b : Bool) → any_unset (st.operands core.vars xs) ≡ b
              → Follows p args (At (op.Call into f xs ∷ ops) exit frames core) c_core (cond b (Sticks IsUnset) (Goes (Calling f (st.operands core.vars xs) (waiting core into ops exit ∷ frames) core)))
          set true k = stuck_now (At (op.Call into f xs ∷ ops) exit frames core) IsUnset (steps true k)
          set false k =
              entered_follows (At (op.Call into f xs ∷ ops) exit frames core) into f other (st.operands core.vars xs) (st.operands c_core.vars (map (lower.operand (order_of p)) xs)) ops exit (omega arith) e same
              (operands_count core.vars xs ∙ given_count p graph.types other.types other.params xs (and_right _ _ h)) (left_next graph (op.Call into f xs) ops exit c_core.block c_core.at left) (steps false k)

      -- ---- calls of function values

      module _ (into : Option ℕ) (result : LlType) (params : List LlType) (b : ℕ) (xs : List COperand) (ops : List LlOp) (exit : LlExit) (fit : Fits p (length core.blocks) type.Fn (read core.vars b)) (b_within : b < length graph.types)
          (all : all_taken p graph.types params xs ≡ true) (left : LeftAt (order_of p) graph (op.CallFn into result params b xs ∷ ops) exit c_core.block c_core.at) where
        calling : State
        calling = At (op.CallFn into result params b xs ∷ ops) exit frames core

        values : List Value
        values = st.operands core.vars xs

        c_values : List Value
        c_values = st.operands c_core.vars (map (lower.operand (order_of p)) xs)

        values_same : c_values ≡ map (renamed (order_of p)) values
        unfolding values c_values
        values_same = all_taken_same p graph.types (count_of graph) core c_core vars params xs all

        -- the step, where nothing is unset
        steps_fn : (t : Bool) → (is_unset (read core.vars b) || any_unset (st.operands core.vars xs)) ≡ t → c_machine.step (lowered p) args c_core
            ≡ cond t (Stuck IsUnset) (st.call_value (lowered p).functions c_core into (c_result result) (map c_type params) (option_map (function_of (order_of p)) (fun_of (read core.vars b))) c_values)
        unfolding values c_values
        steps_fn t e =
            step_is (stmt.CallFn into (c_result result) (map c_type params) b (map (lower.operand (order_of p)) xs)) (map (statement (order_of p)) ops ++ exit_code (order_of p) graph left.next exit) left.stmts left.of left.left
            ∙ ap (λ v. cond (is_unset v || any_unset c_values) (Stuck IsUnset) (st.call_value (lowered p).functions c_core into (c_result result) (map c_type params) (fun_of v) c_values)) (vars.at b b_within)
            ∙ ap (λ o. cond (is_unset (renamed (order_of p) (read core.vars b)) || any_unset c_values) (Stuck IsUnset) (st.call_value (lowered p).functions c_core into (c_result result) (map c_type params) o c_values))
            (fun_same (order_of p) (read core.vars b))
            ∙ ap (λ t. cond t (Stuck IsUnset) (st.call_value (lowered p).functions c_core into (c_result result) (map c_type params) (option_map (function_of (order_of p)) (fun_of (read core.vars b))) c_values))
            (ap (λ t. t || any_unset c_values) (unset_same (order_of p) (read core.vars b))
            ∙ ap (λ t. is_unset (read core.vars b) || t) (ap any_unset values_same ∙ any_unset_same (order_of p) values) ∙ e)

        fun_within : (v : Value) (f : ℕ) → Fits p (length core.blocks) type.Fn v → fun_of v ≡ Some f → f < length p.graphs
        fun_within (Fun g) f h e = let i : g ≡ f = cc in subst (λ f. f < length p.graphs) i h
        fun_within other f h e = absurd (cc)

        typed_follows : (f : ℕ) (other : LlGraph) → slice_get p.graphs f ≡ Some other → (t : Bool) → (same_result (c_result other.result) (c_result result) && same_types (param_types other) (map c_type params)) ≡ t
            → c_machine.step (lowered p) args c_core ≡ cond t (Onward (st.entered c_core into (function_of (order_of p) f) c_values (function_code (order_of p) other))) (Stuck Signature)
            → Follows p args calling c_core (cond t (Goes (Calling f (st.operands core.vars xs) (waiting core into ops exit ∷ frames) core)) (Sticks Signature))
        unfolding values c_values calling
        typed_follows f other e false h steps = stuck_now calling Signature steps
        typed_follows f other e true h steps =
            let a : length (param_types other) ≡ length (map c_type params) = same_count (param_types other) (map c_type params) (and_right (same_result (c_result other.result) (c_result result)) (same_types (param_types other) (map c_type params)) h) in
            let m : length (param_types other) ≡ length other.params = length_map (λ v. type_or_word (slice_get other.types v)) other.params in
            let n : length (map c_type params) ≡ length params = length_map c_type params in
            let d : length xs ≡ length params = taken_count p graph.types params xs all in
            let g : length (st.operands core.vars xs) ≡ length xs = operands_count core.vars xs in
            entered_follows calling into f other (st.operands core.vars xs) c_values ops exit (omega arith) e values_same (omega (arith, a, m, n, d, g))
            (left_next graph (op.CallFn into result params b xs) ops exit c_core.block c_core.at left) steps

        named_follows : (o : Option ℕ) → fun_of (read core.vars b) ≡ o → c_machine.step (lowered p) args c_core
            ≡ st.call_value (lowered p).functions c_core into (c_result result) (map c_type params) (option_map (function_of (order_of p)) o) c_values
            → Follows p args calling c_core (called_value p (c_result result) (map c_type params) o (st.operands core.vars xs) (waiting core into ops exit ∷ frames) core)
        named_follows None e steps = stuck_now calling Signature steps
        named_follows (Some f) e steps = found (some_at p.graphs f (fun_within (read core.vars b) f fit e))
          where
            found : (other : LlGraph) × (slice_get p.graphs f ≡ Some other)
                → Follows p args calling c_core (called_as (c_result result) (map c_type params) f (st.operands core.vars xs) (waiting core into ops exit ∷ frames) core (slice_get p.graphs f))
            found (other, is) =
                subst (λ o. Follows p args calling c_core (called_as (c_result result) (map c_type params) f (st.operands core.vars xs) (waiting core into ops exit ∷ frames) core o)) (sym is)
                (typed_follows f other is (same_result (c_result other.result) (c_result result) && same_types (param_types other) (map c_type params)) refl
                (steps ∙ ap (λ o. st.enter_as c_core into (c_result result) (map c_type params) (function_of (order_of p) f) c_values o) (function_at f other is)))

        fn_follows : Follows p args calling c_core
            (cond (is_unset (read core.vars b) || any_unset (st.operands core.vars xs)) (Sticks IsUnset) (called_value p (c_result result) (map c_type params) (fun_of (read core.vars b)) (st.operands core.vars xs) (waiting core into ops exit ∷ frames) core))
        fn_follows = set (is_unset (read core.vars b) || any_unset (st.operands core.vars xs)) refl
          where
            set : (t : Bool) → (is_unset (read core.vars b) || any_unset (st.operands core.vars xs)) ≡ t
                → Follows p args calling c_core (cond t (Sticks IsUnset) (called_value p (c_result result) (map c_type params) (fun_of (read core.vars b)) (st.operands core.vars xs) (waiting core into ops exit ∷ frames) core))
            set true e = stuck_now calling IsUnset (steps_fn true e)
            set false e = named_follows (fun_of (read core.vars b)) refl (steps_fn false e)

      -- ---- operations, all together

      goes_follows : (o : LlOp) (ops : List LlOp) (exit : LlExit) → stays o ≡ true → CoreFits p graph.types core → operation_ok p graph.types o ≡ true → LeftAt (order_of p) graph (o ∷ ops) exit c_core.block c_core.at
          → Follows p args (At (o ∷ ops) exit frames core) c_core (goes_on (At ops exit frames) (does p args core o))
      goes_follows o ops exit s fit h left =
          after_follows (At (o ∷ ops) exit frames core) ops exit (does p args core o) (c_machine.does (lowered p) args c_core (statement (order_of p) o)) (omega arith) (left_next graph o ops exit c_core.block c_core.at left)
          (does_same p graph.types (count_of graph) core c_core vars fit memory entry_within args o s h)
          (step_is (statement (order_of p) o) (map (statement (order_of p)) ops ++ exit_code (order_of p) graph left.next exit) left.stmts left.of left.left)

      operates_follows : (o : LlOp) (ops : List LlOp) (exit : LlExit) → CoreFits p graph.types core → operation_ok p graph.types o ≡ true → LeftAt (order_of p) graph (o ∷ ops) exit c_core.block c_core.at
          → Follows p args (At (o ∷ ops) exit frames core) c_core (operates p args o ops exit frames core)
      unfolding calling
      operates_follows (op.Call into f xs) ops exit fit h left = call_follows into f xs ops exit (slice_get p.graphs f) refl h left
      operates_follows (op.CallFn into result params b xs) ops exit fit h left =
          let t : has_type type.Fn (slice_get graph.types b) ≡ true = and_left _ _ (and_left _ _ (and_left _ _ (and_left _ _ h))) in
          fn_follows into result params b xs ops exit (fit.vars.at b type.Fn (has_type_is type.Fn (slice_get graph.types b) t)) (place_of graph.types type.Fn b t) (and_right _ _ h) left
      operates_follows (op.Raise a) ops exit fit h left = absurd (let f : true ≡ false = sym (and_left (typed.is_raw p.stage) _ h) ∙ not_raw p counted in cc)
      operates_follows other ops exit fit h left = goes_follows other ops exit refl fit h left

      at_follows : (ops : List LlOp) (exit : LlExit) → CoreFits p graph.types core → operations_ok p graph.types ops ≡ true → exit_ok p graph exit ≡ true → LeftAt (order_of p) graph ops exit c_core.block c_core.at
          → Follows p args (At ops exit frames core) c_core (step p args (At ops exit frames core))
      at_follows [] exit fit h k left = leaves_follows exit k left
      at_follows (o ∷ ops) exit fit h k left = operates_follows o ops exit fit (and_left _ _ h) left

  -- ---- a graph that is called

  calling_follows : (f : ℕ) (values : List Value) (frames : List Frame) (core c_core : Core) (graph : LlGraph) → StandsCalling p f values frames core c_core graph → CallingFits p f values frames core graph
      → Follows p args (Calling f values frames core) c_core (entered f values frames core (slice_get p.graphs f))
  calling_follows f values frames core c_core graph s fit =
      subst (λ o. Follows p args (Calling f values frames core) c_core (entered f values frames core o)) (sym s.of)
      (begun (some_at graph.blocks 0 (is_less 0 (length graph.blocks) (and_right _ _ (and_left _ _ (good_graph f graph s.of))))))
    where
      short : length graph.params + (length graph.types - length graph.params) ≡ length graph.types
      short = params_short p graph (params_of p graph (good_graph f graph s.of))

      full : length (values ++ replicate (length graph.types - length graph.params) Unset) ≡ length graph.types
      full =
          let a : length (values ++ replicate (length graph.types - length graph.params) Unset) ≡ length values + length (replicate (length graph.types - length graph.params) Unset) =
          length_both values (replicate (length graph.types - length graph.params) Unset) in
          let b : length (replicate (length graph.types - length graph.params) Unset) ≡ length graph.types - length graph.params = length_filled (length graph.types - length graph.params) in
          let c : length values ≡ length graph.params = fit.count in
          omega (arith, a, b, c, short)

      begun : (block : LlBlock) × (slice_get graph.blocks 0 ≡ Some block) → Follows p args (Calling f values frames core) c_core (enters f values frames core graph (slice_get graph.blocks 0))
      begun (block, is) = subst (λ o. Follows p args (Calling f values frames core) c_core (enters f values frames core graph o)) (sym is) (record {
        later = c_core;
        count = 0;
        leads = nothing (lowered p) args c_core;
        stands = (
          graph,
          record {
            of = s.of;
            function = s.function;
            left = subst (λ b. LeftAt (order_of p) graph block.ops block.exit b c_core.at) (sym s.block) (subst (λ a. LeftAt (order_of p) graph block.ops block.exit 0 a) (sym s.at) (block_left (order_of p) graph 0 block is));
            vars = record {
              size = full;
              c_size = s.size;
              room = omega arith;
              at = λ a lt. s.vars a ∙ ap (renamed (order_of p)) (sym (read_filled values (length graph.types - length graph.params) a));
            };
            memory = record { blocks = s.memory.blocks; statics = s.memory.statics; exc_type = s.memory.exc_type; exc_value = s.memory.exc_value; steps = s.memory.steps };
            waiting = s.waiting;
          },
        );
        pays = omega arith;
      })

  -- ---- back to who waits

  taken_same : (graph : LlGraph) (vars c_vars : List Value) (into c_into : Option ℕ) (value : Value) (t : LlType) → Vars graph vars c_vars → c_into ≡ into → result_ok graph.types into t ≡ true
      → Vars graph (taken_by vars into value) (taken_by c_vars c_into (renamed (order_of p) value))
  taken_same graph vars c_vars None c_into value t s e h = subst (λ i. Vars graph vars (taken_by c_vars i (renamed (order_of p) value))) (sym e) s
  taken_same graph vars c_vars (Some a) c_into value t s e h =
      subst (λ i. Vars graph (slice_set vars a value) (taken_by c_vars i (renamed (order_of p) value))) (sym e)
      (vars_set (order_of p) (length graph.types) (count_of graph) vars c_vars a value (renamed (order_of p) value) s (place_of graph.types t a h) refl)

  returns : (value : Value) (frames : List Frame) (core c_core : Core) → StandsReturning p value frames core c_core → c_machine.step (lowered p) args c_core ≡ back_to c_core (renamed (order_of p) value) (last_of c_core.callers)
  returns value frames core c_core s = stepped (lowered p) args c_core (stmt.Return s.what) s.statement ∙ s.gives

  ended_follows : (value : Value) (core c_core : Core) → StandsReturning p value [] core c_core → Follows p args (Returning value [] core) c_core (goes_on (Returning value []) (ended core value))
  ended_follows value core c_core s = one (word_of value) refl
    where
      steps : (o : Option ℤ) → word_of value ≡ o → c_machine.step (lowered p) args c_core ≡ st.on (λ n. Over (Returned n) (record c_core { vars = [] })) o
      steps o e = returns value [] core c_core s ∙ ap (λ l. back_to c_core (renamed (order_of p) value) (last_of l)) s.waiting ∙ ap (st.on (λ n. Over (Returned n) (record c_core { vars = [] }))) (word_same (order_of p) value ∙ e)

      one : (o : Option ℤ) → word_of value ≡ o → Follows p args (Returning value [] core) c_core (goes_on (Returning value []) (st.on (λ n. Over (Returned n) (record core { vars = [] })) o))
      one None e = inl (record { later = c_core; count = 0; leads = nothing (lowered p) args c_core; stuck = steps None e })
      one (Some n) e = (record c_core { vars = [] }, steps (Some n) e, s.memory.steps)

  returned_follows : (value : Value) (frames : List Frame) (core c_core : Core) (t : LlType) → StandsReturning p value frames core c_core → LeavesFits p t value frames core t
      → Follows p args (Returning value frames core) c_core (returned value frames core)
  returned_follows value [] core c_core t s fit = ended_follows value core c_core s
  returned_follows value (frame ∷ frames) core c_core t s fit = back s.waiting fit.waiting
    where
      back : Wait p (frame ∷ frames) c_core.callers → FramesFit p (length core.blocks) t (frame ∷ frames) → Follows p args (Returning value (frame ∷ frames) core) c_core (returned value (frame ∷ frames) core)
      back (rest, caller, graph, e, w, more) (other, fits, _) = record {
        later = record c_core { function = caller.function; block = caller.block; at = caller.at; vars = taken_by caller.vars caller.into (renamed (order_of p) value); callers = take (length c_core.callers - 1) c_core.callers };
        count = 1;
        leads = onward (lowered p) args c_core (record c_core { function = caller.function; block = caller.block; at = caller.at; vars = taken_by caller.vars caller.into (renamed (order_of p) value); callers = take (length c_core.callers - 1) c_core.callers })
            (returns value (frame ∷ frames) core c_core s ∙ ap (back_to c_core (renamed (order_of p) value)) (ap last_of e ∙ last_caller rest caller));
        stands = (
          graph,
          record {
            of = w.of;
            function = w.function;
            left = w.left;
            vars = taken_same graph frame.vars caller.vars frame.into caller.into value t w.vars w.into
                (subst (λ g. result_ok g.types frame.into t ≡ true) (same_graph other graph (slice_get p.graphs frame.graph) fits.of w.of) fits.into);
            memory = record { blocks = s.memory.blocks; statics = s.memory.statics; exc_type = s.memory.exc_type; exc_value = s.memory.exc_value; steps = s.memory.steps };
            waiting = subst (Wait p frames) (sym (ap (λ l. take (length l - 1) l) e ∙ but_last rest caller)) more;
          },
        );
        pays = omega arith;
      }

  -- ---- steps

  pub step_follows : (s : State) (c_core : Core) → Stands p s c_core → StateFits p s → Follows p args s c_core (step p args s)
  step_follows (Calling f values frames core) c_core (graph, s) (other, fit) =
      calling_follows f values frames core c_core graph s (subst (CallingFits p f values frames core) (same_graph other graph (slice_get p.graphs f) fit.of s.of) fit)
  step_follows (At ops exit frames core) c_core (graph, s) (other, fit) =
      let same : other ≡ graph = same_graph other graph (slice_get p.graphs core.function) fit.of s.of in
      let fits : AtFits p ops exit frames core graph = subst (AtFits p ops exit frames core) same fit in
      at_follows graph frames core c_core s.of s.function s.vars s.memory s.waiting (good_graph core.function graph s.of) ops exit fits.fits fits.left fits.end s.left
  step_follows (Returning value frames core) c_core s (t, fit) = returned_follows value frames core c_core t s fit
  step_follows (Throwing value frames core) c_core s fit = absurd s
