-- Step by step, the program without the variables that nothing names does the same.
use Rattle.std.proofs.Common.{◌≡◌, ◌<◌, ◌≤◌, ◌^◌, ℕ, zero, suc, ◌-◌, ◌||◌, ◌&&◌, Bool, true, false, List, [], ◌∷◌, ◌++◌, length, map, replicate, Option, Some, None, Result, Ok, Err, refl, sym, ap, ◌∙◌, subst, arith, ℤ}
use Rattle.std.specs.Prelude.{slice_get, slice_set, cond, option_map}
use Rattle.rpy_base.specs.declared.outcome.FailName.{FailName}
use Rattle.rpy_base.specs.declared.outcome.Outcome.TheVariants.{Returned}
use Rattle.csub_tree.specs.State.{Value, Unset, Block, Core, After, Onward, Puts as PutsByte, Told, Over, Stuck}
use Rattle.csub_tree.specs.Operation.{is_unset, flag_of, word_of}
use Rattle.csub_tree.specs.Statement as st
use Rattle.csub_tree.specs.Statement.{read, operand, operands, any_unset, fun_of, same_result, same_types, taken_by, fail_name_of, reached, on_block}
use Rattle.csub_tree.specs.declared.stuck.StuckReason.{StuckReason}
use Rattle.csub_tree.specs.declared.stuck.StuckReason.TheVariants.{Unset as IsUnset, Signature}
use Rattle.csub_tree.specs.declared.tree.CType.{CType}
use Rattle.csub_tree.specs.declared.tree.CType.TheVariants as c
use Rattle.ll_code.specs.State.{Frame, State, Calling, At, Returning, Throwing, Next, Goes, Puts, Tells, Ends, Sticks}
use Rattle.ll_code.specs.Machine.{does, goes_on, shapes_of, block_in, begins, jump, branch, caught_by, caught, waiting, called, called_as, called_value, enters, returned, given, operates, type_in, leaves, set_all, param_types, type_or_word, c_result, c_type}
use Rattle.ll_code.specs.declared.program.LlLink.{LlLink}
use Rattle.ll_code.specs.declared.program.LlOp.{LlOp}
use Rattle.ll_code.specs.declared.program.LlOp.TheVariants as op
use Rattle.ll_code.specs.declared.program.LlExit.{LlExit}
use Rattle.ll_code.specs.declared.program.LlExit.TheVariants as exit
use Rattle.ll_code.specs.declared.program.LlBlock.{LlBlock}
use Rattle.ll_code.specs.declared.program.LlGraph.{LlGraph}
use Rattle.ll_code.specs.declared.program.LlProgram.{LlProgram}
use Rattle.ll_live.specs.Live.{among, variables_in, reads, set_by}
use Rattle.ll_held.specs.Places.{PlacedAt, BehindCall}
use Rattle.cut_laws.proofs.Moving as elsewhere
use Rattle.ll_joined.specs.Named.{Naming, name_of, operand_by, named, link_by, exit_by}
use Rattle.ll_joined.specs.Joined.{block_by, types_of}
use Rattle.joined_laws.specs.Fewer.{counts_in, fewer_graph, fewer, HasNumbers}
use Rattle.joined_laws.proofs.Kept.{keep, keep_none, place, set_kept, get_kept, types_kept, First, begun}
use Rattle.joined_laws.proofs.Counting.{Kept, BlockKept, counts_size, params_kept, all_kept, set_size, exit_names, link_names}
use Rattle.joined_laws.proofs.Moving.{AllKept, names_in, left, right, first, rest, read_moved, operand_moved, operands_moved, moved, reached_moved, does_moved}

pub get_map : {A B : Type 0} (f : A → B) (xs : List A) (n : ℕ) → slice_get (map f xs) n ≡ option_map f (slice_get xs n)
get_map f [] n = refl
get_map f (x ∷ xs) zero = refl
get_map f (x ∷ xs) (suc n) = get_map f xs n

set_all_moved : (ns : List ℕ) (few : length ns < 2 ^ 64) (vars : List Value) (inputs : List ℕ) (values : List Value) → length vars ≤ length ns → AllKept ns inputs → set_all (keep ns vars) (map (name_of (names_in ns)) inputs) values ≡ keep ns (set_all vars inputs values)
set_all_moved ns few vars [] values size h = refl
set_all_moved ns few vars (v ∷ inputs) [] size h = refl
set_all_moved ns few vars (v ∷ inputs) (x ∷ values) size h =
    ap (λ vs. set_all vs (map (name_of (names_in ns)) inputs) values) (set_kept ns few vars v x size (first ns few v inputs h))
    ∙ set_all_moved ns few (slice_set vars v x) inputs values (let e : length (slice_set vars v x) ≡ length vars = set_size vars v x in omega (arith, e, size)) (rest ns few v inputs h)

-- ---- graphs

abbrev pub counts_at : Option LlGraph → List ℕ
counts_at None = []
counts_at (Some graph) = counts_in graph

block_in_moved : (o : Option LlGraph) (n : ℕ) → block_in (option_map fewer_graph o) n ≡ option_map (block_by (names_in (counts_at o)) []) (block_in o n)
block_in_moved None n = refl
block_in_moved (Some graph) n = get_map (block_by (names_in (counts_in graph)) []) graph.blocks n

block_kept : (o : Option LlGraph) (n : ℕ) (block : LlBlock) → block_in o n ≡ Some block → BlockKept (counts_at o) block
block_kept None n block e = absurd (cc)
block_kept (Some graph) n block e = all_kept graph n block e

type_moved : (o : Option LlGraph) (a : ℕ) → length (counts_at o) < 2 ^ 64 → Kept (counts_at o) a → type_in (option_map fewer_graph o) (place (counts_at o) a) ≡ type_in o a
type_moved None a few h = refl
type_moved (Some graph) a few h =
    let e : length (counts_in graph) ≡ length graph.types = counts_size graph in
    ap (λ ts. option_map c_type (slice_get ts (place (counts_in graph) a))) (types_kept (counts_in graph) graph.types (sym e))
    ∙ ap (option_map c_type) (get_kept (counts_in graph) few graph.types a (omega (arith, e)) h)

params_moved : (graph : LlGraph) → length (counts_in graph) < 2 ^ 64 → param_types (fewer_graph graph) ≡ param_types graph
params_moved graph few = each graph.params (λ v h. params_kept graph v h)
  where
    one : (v : ℕ) → Kept (counts_in graph) v → slice_get (types_of (counts_in graph) graph.types) (place (counts_in graph) v) ≡ slice_get graph.types v
    one v h =
        let e : length (counts_in graph) ≡ length graph.types = counts_size graph in
        ap (λ ts. slice_get ts (place (counts_in graph) v)) (types_kept (counts_in graph) graph.types (sym e)) ∙ get_kept (counts_in graph) few graph.types v (omega (arith, e)) h

    each : (vs : List ℕ) → AllKept (counts_in graph) vs → map (λ v. type_or_word (slice_get (types_of (counts_in graph) graph.types) v)) (map (name_of (names_in (counts_in graph))) vs) ≡ map (λ v. type_or_word (slice_get graph.types v)) vs
    each [] h = refl
    each (v ∷ vs) h =
        ap (λ o. type_or_word o ∷ map (λ v. type_or_word (slice_get (types_of (counts_in graph) graph.types) v)) (map (name_of (names_in (counts_in graph))) vs)) (one v (first (counts_in graph) few v vs h))
        ∙ ap (λ l. type_or_word (slice_get graph.types v) ∷ l) (each vs (rest (counts_in graph) few v vs h))

module _ (p : LlProgram) (has : HasNumbers p) (args : List (List ℕ)) where
  abbrev q : LlProgram
  q = fewer p

  abbrev pub ns_of : ℕ → List ℕ
  ns_of f = counts_at (slice_get p.graphs f)

  pub few : (f : ℕ) → length (ns_of f) < 2 ^ 64
  few f = one (slice_get p.graphs f) refl
    where
      one : (o : Option LlGraph) → slice_get p.graphs f ≡ o → length (counts_at o) < 2 ^ 64
      one None e = omega arith
      one (Some graph) e = let k : length (counts_in graph) ≡ length graph.types = counts_size graph in let l : length graph.types < 2 ^ 64 = has f graph e in omega (arith, k, l)

  abbrev names : ℕ → Naming
  names f = names_in (ns_of f)

  pub graph_at : (f : ℕ) → slice_get q.graphs f ≡ option_map fewer_graph (slice_get p.graphs f)
  graph_at f = get_map fewer_graph p.graphs f

  -- ---- states

  abbrev pub lift_core : Core → Core
  lift_core core = record core { vars = keep (ns_of core.function) core.vars }

  abbrev pub lift_frame : Frame → Frame
  lift_frame frame = record frame {
    vars = keep (ns_of frame.graph) frame.vars;
    into = option_map (name_of (names frame.graph)) frame.into;
    ops = map (named (names frame.graph)) frame.ops;
    exit = exit_by (names frame.graph) [] frame.exit;
  }

  abbrev pub lift_state : State → State
  lift_state (Calling f values frames core) = Calling f values (map lift_frame frames) (lift_core core)
  lift_state (At ops e frames core) = At (map (named (names core.function)) ops) (exit_by (names core.function) [] e) (map lift_frame frames) (lift_core core)
  lift_state (Returning value frames core) = Returning value (map lift_frame frames) (lift_core core)
  lift_state (Throwing value frames core) = Throwing value (map lift_frame frames) (lift_core core)

  abbrev pub lift_next : Next → Next
  lift_next (Goes s) = Goes (lift_state s)
  lift_next (Puts byte s) = Puts byte (lift_state s)
  lift_next (Tells event s) = Tells event (lift_state s)
  lift_next (Ends outcome core) = Ends outcome (lift_core core)
  lift_next (Sticks reason) = Sticks reason

  either : (b : Bool) (x y x2 y2 : Next) → x2 ≡ lift_next x → y2 ≡ lift_next y → cond b x2 y2 ≡ lift_next (cond b x y)
  either true x y x2 y2 h k = h
  either false x y x2 y2 h k = k

  -- ---- links

  module _ (frames : List Frame) (core : Core) (size : length core.vars ≤ length (ns_of core.function)) where
    abbrev ns : List ℕ
    ns = ns_of core.function

    abbrev below : List Frame
    below = map lift_frame frames

    abbrev there : Core
    there = lift_core core

    begins_moved : (to : ℕ) (values : List Value) (o : Option LlBlock) → block_in (slice_get p.graphs core.function) to ≡ o → begins below there to values (option_map (block_by (names_in ns) []) o) ≡ lift_next (begins frames core to values o)
    begins_moved to values None e = refl
    begins_moved to values (Some block) e =
        ap (λ vs. Goes (At (map (named (names_in ns)) block.ops) (exit_by (names_in ns) [] block.exit) below (record core { block = to; at = 0; vars = vs })))
        (set_all_moved ns (few core.function) core.vars block.inputs values size (λ v h. (block_kept (slice_get p.graphs core.function) to block e).inputs v h))

    jump_moved : (link : LlLink) → AllKept ns (variables_in link.args) → jump q below there (link_by (names_in ns) [] link) ≡ lift_next (jump p frames core link)
    jump_moved link h =
        ap (λ xs. cond (any_unset xs) (Sticks IsUnset) (begins below there link.to xs (block_in (slice_get q.graphs core.function) link.to))) (operands_moved ns (few core.function) core.vars link.args size h)
        ∙ ap (λ o. cond (any_unset (operands core.vars link.args)) (Sticks IsUnset) (begins below there link.to (operands core.vars link.args) o)) (ap (λ o. block_in o link.to) (graph_at core.function) ∙ block_in_moved (slice_get p.graphs core.function) link.to)
        ∙ either (any_unset (operands core.vars link.args)) (Sticks IsUnset) (begins frames core link.to (operands core.vars link.args) (block_in (slice_get p.graphs core.function) link.to)) (Sticks IsUnset) _ refl
        (begins_moved link.to (operands core.vars link.args) (block_in (slice_get p.graphs core.function) link.to) refl)

    branch_moved : (first second : LlLink) → AllKept ns (variables_in first.args) → AllKept ns (variables_in second.args) → (o : Option Bool) → branch q below there (link_by (names_in ns) [] first) (link_by (names_in ns) [] second) o ≡ lift_next (branch p frames core first second o)
    branch_moved first second h k None = refl
    branch_moved first second h k (Some true) = jump_moved first h
    branch_moved first second h k (Some false) = jump_moved second k

    given_moved : (value : Value) (go go2 : Value → Next) → go2 value ≡ lift_next (go value) → given value go2 ≡ lift_next (given value go)
    given_moved value go go2 h = either (is_unset value) (Sticks IsUnset) (go value) (Sticks IsUnset) (go2 value) refl h

    raised_moved : (a : ℕ) (o : Option CType) (value : Value) → goes_on (At [] (exit.Raised (place ns a)) below) (st.raised there (shapes_of p.structs) o value) ≡ lift_next (goes_on (At [] (exit.Raised a) frames) (st.raised core (shapes_of p.structs) o value))
    raised_moved a None value = refl
    raised_moved a (Some c.Signed) value = refl
    raised_moved a (Some c.Char) value = refl
    raised_moved a (Some c.Bool) value = refl
    raised_moved a (Some c.Fn) value = refl
    raised_moved a (Some (c.Ptr n)) value =
        ap (λ r. goes_on (At [] (exit.Raised (place ns a)) below) (on_block (λ block. st.raised_as there (st.bytes_of block.items)) r)) (reached_moved ns (few core.function) core size (shapes_of p.structs) n value) ∙ found (reached core (shapes_of p.structs) n value)
      where
        name : (o : Option (List ℕ)) → goes_on (At [] (exit.Raised (place ns a)) below) (st.raised_as there o) ≡ lift_next (goes_on (At [] (exit.Raised a) frames) (st.raised_as core o))
        name None = refl
        name (Some bytes) = refl

        found : (r : Result Block StuckReason) → goes_on (At [] (exit.Raised (place ns a)) below) (on_block (λ block. st.raised_as there (st.bytes_of block.items)) r) ≡ lift_next (goes_on (At [] (exit.Raised a) frames) (on_block (λ block. st.raised_as core (st.bytes_of block.items)) r))
        found (Ok block) = name (st.bytes_of block.items)
        found (Err reason) = refl

    read_of : (a : ℕ) → Kept ns a → read there.vars (place ns a) ≡ read core.vars a
    read_of a h = read_moved ns (few core.function) core.vars a size h

    pub leaves_moved : (e : LlExit) → AllKept ns (exit_names e) → leaves q (exit_by (names_in ns) [] e) below there ≡ lift_next (leaves p e frames core)
    leaves_moved (exit.Goto link) h = jump_moved link h
    leaves_moved (exit.If a one two) h =
        let t = rest ns (few core.function) a (variables_in one.args ++ variables_in two.args) h in
        ap (λ w. branch q below there (link_by (names_in ns) [] one) (link_by (names_in ns) [] two) (flag_of w)) (read_of a (first ns (few core.function) a (variables_in one.args ++ variables_in two.args) h))
        ∙ branch_moved one two (left ns (few core.function) (variables_in one.args) (variables_in two.args) t) (right ns (few core.function) (variables_in one.args) (variables_in two.args) t) (flag_of (read core.vars a))
    leaves_moved (exit.OnRaise a by without) h = jump_moved without (right ns (few core.function) (link_names by) (variables_in without.args) (rest ns (few core.function) a (link_names by ++ variables_in without.args) h))
    leaves_moved (exit.Return None) h = refl
    leaves_moved (exit.Return (Some x)) h =
        ap (λ w. given w (λ value. Goes (Returning value below there))) (operand_moved ns (few core.function) core.vars x size h)
        ∙ given_moved (operand core.vars x) (λ value. Goes (Returning value frames core)) (λ value. Goes (Returning value below there)) refl
    leaves_moved (exit.Raise a) h =
        ap (λ w. given w (λ value. Goes (Throwing value below there))) (read_of a (first ns (few core.function) a [] h))
        ∙ given_moved (read core.vars a) (λ value. Goes (Throwing value frames core)) (λ value. Goes (Throwing value below there)) refl
    leaves_moved (exit.Fail n) h = one (fail_name_of n)
      where
        one : (o : Option FailName) → goes_on (At [] (exit.Fail n) below) (st.fail there o) ≡ lift_next (goes_on (At [] (exit.Fail n) frames) (st.fail core o))
        one None = refl
        one (Some name) = refl
    leaves_moved (exit.Raised a) h =
        ap (λ o. goes_on (At [] (exit.Raised (place ns a)) below) (st.raised there (shapes_of p.structs) o (read there.vars (place ns a))))
        (ap (λ o. type_in o (place ns a)) (graph_at core.function) ∙ type_moved (slice_get p.graphs core.function) a (few core.function) (first ns (few core.function) a [] h))
        ∙ ap (λ w. goes_on (At [] (exit.Raised (place ns a)) below) (st.raised there (shapes_of p.structs) (type_in (slice_get p.graphs core.function) a) w)) (read_of a (first ns (few core.function) a [] h))
        ∙ raised_moved a (type_in (slice_get p.graphs core.function) a) (read core.vars a)

  -- ---- exceptions

  caught_by_moved : (value : Value) (frames : List Frame) (core : Core) → length core.vars ≤ length (ns_of core.function) → (e : LlExit) → AllKept (ns_of core.function) (exit_names e)
      → caught_by q value (map lift_frame frames) (lift_core core) (exit_by (names core.function) [] e) ≡ lift_next (caught_by p value frames core e)
  caught_by_moved value frames core size (exit.OnRaise a (Some link) without) h =
      let ns = ns_of core.function in
      let k = rest ns (few core.function) a (variables_in link.args ++ variables_in without.args) h in
      ap (λ vs. jump q (map lift_frame frames) (record core { vars = vs }) (link_by (names core.function) [] link)) (set_kept ns (few core.function) core.vars a value size (first ns (few core.function) a (variables_in link.args ++ variables_in without.args) h))
      ∙ jump_moved frames (record core { vars = slice_set core.vars a value }) (let e : length (slice_set core.vars a value) ≡ length core.vars = set_size core.vars a value in omega (arith, e, size)) link (left ns (few core.function) (variables_in link.args) (variables_in without.args) k)
  caught_by_moved value frames core size (exit.OnRaise a None without) h = refl
  caught_by_moved value frames core size (exit.Goto link) h = refl
  caught_by_moved value frames core size (exit.If a one two) h = refl
  caught_by_moved value frames core size (exit.Return x) h = refl
  caught_by_moved value frames core size (exit.Raise a) h = refl
  caught_by_moved value frames core size (exit.Fail n) h = refl
  caught_by_moved value frames core size (exit.Raised a) h = refl

  pub caught_moved : (value : Value) (frames : List Frame) (core : Core) → length core.vars ≤ length (ns_of core.function) → (ops : List LlOp) (e : LlExit) → AllKept (ns_of core.function) (exit_names e)
      → caught q value (map (named (names core.function)) ops) (exit_by (names core.function) [] e) (map lift_frame frames) (lift_core core) ≡ lift_next (caught p value ops e frames core)
  caught_moved value frames core size [] e h = caught_by_moved value frames core size e h
  caught_moved value frames core size (o ∷ ops) e h = refl

  -- ---- calls

  called_moved : (f : ℕ) (values : List Value) (frames : List Frame) (core : Core) → called f values (map lift_frame frames) (lift_core core) ≡ lift_next (called f values frames core)
  called_moved f values frames core = either (any_unset values) (Sticks IsUnset) (Goes (Calling f values frames core)) (Sticks IsUnset) (Goes (Calling f values (map lift_frame frames) (lift_core core))) refl refl

  called_as_moved : (result : Option CType) (params : List CType) (f : ℕ) (values : List Value) (frames : List Frame) (core : Core) (o : Option LlGraph) → slice_get p.graphs f ≡ o
      → called_as result params f values (map lift_frame frames) (lift_core core) (option_map fewer_graph o) ≡ lift_next (called_as result params f values frames core o)
  called_as_moved result params f values frames core None e = refl
  called_as_moved result params f values frames core (Some graph) e =
      ap (λ ts. cond (same_result (c_result graph.result) result && same_types ts params) (Goes (Calling f values (map lift_frame frames) (lift_core core))) (Sticks Signature))
      (params_moved graph (let k : length (counts_in graph) ≡ length graph.types = counts_size graph in let l : length graph.types < 2 ^ 64 = has f graph e in omega (arith, k, l)))
      ∙ either (same_result (c_result graph.result) result && same_types (param_types graph) params) (Goes (Calling f values frames core)) (Sticks Signature) _ _ refl refl

  called_value_moved : (result : Option CType) (params : List CType) (o : Option ℕ) (values : List Value) (frames : List Frame) (core : Core)
      → called_value q result params o values (map lift_frame frames) (lift_core core) ≡ lift_next (called_value p result params o values frames core)
  called_value_moved result params None values frames core = refl
  called_value_moved result params (Some f) values frames core =
      ap (called_as result params f values (map lift_frame frames) (lift_core core)) (graph_at f) ∙ called_as_moved result params f values frames core (slice_get p.graphs f) refl

  -- ---- operations

  abbrev function_in : ℕ → After → ℕ
  function_in g (Onward core) = core.function
  function_in g (PutsByte byte core) = core.function
  function_in g (Told event core) = core.function
  function_in g (Over outcome core) = core.function
  function_in g (Stuck reason) = g

  function_moved : (g block at : ℕ) (a : After) → function_in g (elsewhere.moved g block at a) ≡ g
  function_moved g block at (Onward core) = refl
  function_moved g block at (PutsByte byte core) = refl
  function_moved g block at (Told event core) = refl
  function_moved g block at (Over outcome core) = refl
  function_moved g block at (Stuck reason) = refl

  -- an operation stays in its graph
  stays : (core : Core) (o : LlOp) → function_in core.function (does p args core o) ≡ core.function
  stays core o = ap (function_in core.function) (elsewhere.does_moved core.function core.block core.at core p args o) ∙ function_moved core.function core.block core.at (does p args core o)

  goes_moved : (ops : List LlOp) (e : LlExit) (frames : List Frame) (core : Core) (after : After) → function_in core.function after ≡ core.function
      → goes_on (At (map (named (names core.function)) ops) (exit_by (names core.function) [] e) (map lift_frame frames)) (moved (ns_of core.function) (few core.function) after) ≡ lift_next (goes_on (At ops e frames) after)
  goes_moved ops e frames core (Onward next) m = ap (λ f. Goes (At (map (named (names f)) ops) (exit_by (names f) [] e) (map lift_frame frames) (record next { vars = keep (ns_of f) next.vars }))) (sym m)
  goes_moved ops e frames core (PutsByte byte next) m = ap (λ f. Puts byte (At (map (named (names f)) ops) (exit_by (names f) [] e) (map lift_frame frames) (record next { vars = keep (ns_of f) next.vars }))) (sym m)
  goes_moved ops e frames core (Told event next) m = ap (λ f. Tells event (At (map (named (names f)) ops) (exit_by (names f) [] e) (map lift_frame frames) (record next { vars = keep (ns_of f) next.vars }))) (sym m)
  goes_moved ops e frames core (Over outcome next) m = ap (λ f. Ends outcome (record next { vars = keep (ns_of f) next.vars })) (sym m)
  goes_moved ops e frames core (Stuck reason) m = refl

  -- what is left is the rest of a block
  pub record Left (core : Core) (o : LlOp) (e : LlExit) : Type 0 where
    pub size : length core.vars ≤ length (ns_of core.function)
    pub read : AllKept (ns_of core.function) (reads o)
    pub set : (a : ℕ) → set_by o ≡ Some a → Kept (ns_of core.function) a
    pub exit : AllKept (ns_of core.function) (exit_names e)

  module _ (ops : List LlOp) (e : LlExit) (frames : List Frame) (core : Core) where
    abbrev Follows : LlOp → Type 0
    Follows o = operates q args (named (names core.function) o) (map (named (names core.function)) ops) (exit_by (names core.function) [] e) (map lift_frame frames) (lift_core core) ≡ lift_next (operates p args o ops e frames core)

    ordinary : (o : LlOp) → Left core o e → goes_on (At (map (named (names core.function)) ops) (exit_by (names core.function) [] e) (map lift_frame frames)) (does q args (lift_core core) (named (names core.function) o)) ≡ lift_next (goes_on (At ops e frames) (does p args core o))
    ordinary o h =
        ap (goes_on (At (map (named (names core.function)) ops) (exit_by (names core.function) [] e) (map lift_frame frames))) (does_moved (ns_of core.function) (few core.function) core h.size p args o h.read h.set)
        ∙ goes_moved ops e frames core (does p args core o) (stays core o)

    pub operates_moved : (o : LlOp) → Left core o e → Follows o
    operates_moved (op.Call into f xs) h =
        ap (λ xs. called f xs (lift_frame (waiting core into ops e) ∷ map lift_frame frames) (lift_core core)) (operands_moved (ns_of core.function) (few core.function) core.vars xs h.size h.read)
        ∙ called_moved f (operands core.vars xs) (waiting core into ops e ∷ frames) core
    operates_moved (op.CallFn into result params b xs) h =
        let ns = ns_of core.function in
        let below = lift_frame (waiting core into ops e) ∷ map lift_frame frames in
        ap (λ w. cond (is_unset w || any_unset (operands (keep ns core.vars) (map (operand_by (names_in ns)) xs))) (Sticks IsUnset) (called_value q (c_result result) (map c_type params) (fun_of w) (operands (keep ns core.vars) (map (operand_by (names_in ns)) xs)) below (lift_core core)))
        (read_moved ns (few core.function) core.vars b h.size (first ns (few core.function) b (variables_in xs) h.read))
        ∙ ap (λ ws. cond (is_unset (read core.vars b) || any_unset ws) (Sticks IsUnset) (called_value q (c_result result) (map c_type params) (fun_of (read core.vars b)) ws below (lift_core core)))
        (operands_moved ns (few core.function) core.vars xs h.size (rest ns (few core.function) b (variables_in xs) h.read))
        ∙ either (is_unset (read core.vars b) || any_unset (operands core.vars xs)) (Sticks IsUnset) _ (Sticks IsUnset) _ refl
        (called_value_moved (c_result result) (map c_type params) (fun_of (read core.vars b)) (operands core.vars xs) (waiting core into ops e ∷ frames) core)
    operates_moved (op.Raise a) h =
        ap (λ w. given w (λ value. caught q value (map (named (names core.function)) ops) (exit_by (names core.function) [] e) (map lift_frame frames) (lift_core core)))
        (read_moved (ns_of core.function) (few core.function) core.vars a h.size (first (ns_of core.function) (few core.function) a [] h.read))
        ∙ given_moved frames core h.size (read core.vars a) (λ value. caught p value ops e frames core)
        (λ value. caught q value (map (named (names core.function)) ops) (exit_by (names core.function) [] e) (map lift_frame frames) (lift_core core)) (caught_moved (read core.vars a) frames core h.size ops e h.exit)
    operates_moved (op.Set a x) h = ordinary (op.Set a x) h
    operates_moved (op.Unary a o x) h = ordinary (op.Unary a o x) h
    operates_moved (op.Binary a o x y) h = ordinary (op.Binary a o x y) h
    operates_moved (op.GetField a n b k) h = ordinary (op.GetField a n b k) h
    operates_moved (op.SetField n b k x) h = ordinary (op.SetField n b k x) h
    operates_moved (op.GetItem a n b i) h = ordinary (op.GetItem a n b i) h
    operates_moved (op.SetItem n b i x) h = ordinary (op.SetItem n b i x) h
    operates_moved (op.New a m n) h = ordinary (op.New a m n) h
    operates_moved (op.NewArray a m n x) h = ordinary (op.NewArray a m n x) h
    operates_moved (op.Free a) h = ordinary (op.Free a) h
    operates_moved (op.Step x) h = ordinary (op.Step x) h
    operates_moved (op.ExcType a n) h = ordinary (op.ExcType a n) h
    operates_moved (op.ExcValue a n) h = ordinary (op.ExcValue a n) h
    operates_moved (op.ExcSet a b) h = ordinary (op.ExcSet a b) h
    operates_moved op.ExcClear h = ordinary op.ExcClear h
    operates_moved (op.Argc a) h = ordinary (op.Argc a) h
    operates_moved (op.ArgLen a x) h = ordinary (op.ArgLen a x) h
    operates_moved (op.Arg a x y) h = ordinary (op.Arg a x y) h
    operates_moved (op.Put x) h = ordinary (op.Put x) h

  -- ---- where states stand

  pub placed_kept : (f n : ℕ) (block : LlBlock) → block_in (slice_get p.graphs f) n ≡ Some block → BlockKept (ns_of f) block
  placed_kept f n block e = block_kept (slice_get p.graphs f) n block e

  pub exit_kept : (f n place : ℕ) (ops : List LlOp) (e : LlExit) → PlacedAt p f n place ops e → AllKept (ns_of f) (exit_names e)
  exit_kept f n place ops e at v h = (placed_kept f n at.block at.of).exit v (subst (λ e. among v (exit_names e) ≡ true) (sym at.end) h)

  pub size_in : (f : ℕ) (graph : LlGraph) (vars : List Value) → slice_get p.graphs f ≡ Some graph → length vars ≡ length graph.types → length vars ≤ length (ns_of f)
  size_in f graph vars of e =
      let k : length (counts_in graph) ≡ length graph.types = counts_size graph in
      let l : length (ns_of f) ≡ length (counts_in graph) = ap (λ o. length (counts_at o)) of in
      omega (arith, e, k, l)

  -- ---- who waits

  -- what waits behind a call takes its result
  pub taken_moved : (counts : List ℕ) (small : length counts < 2 ^ 64) (vars : List Value) (into : Option ℕ) (value : Value) → length vars ≤ length counts → ((a : ℕ) → into ≡ Some a → Kept counts a)
      → taken_by (keep counts vars) (option_map (name_of (names_in counts)) into) value ≡ keep counts (taken_by vars into value)
  taken_moved counts small vars None value size h = refl
  taken_moved counts small vars (Some a) value size h = set_kept counts small vars a value size (h a refl)

  pub into_kept : (frame : Frame) → BehindCall p frame → (a : ℕ) → frame.into ≡ Some a → Kept (ns_of frame.graph) a
  into_kept frame b a e = (placed_kept frame.graph frame.block b.placed.block b.placed.of).set b.before b.call frame.ops b.placed.left a (b.into ∙ e)

  pub ended_moved : (value : Value) (core : Core) → returned value [] (lift_core core) ≡ lift_next (returned value [] core)
  ended_moved value core = one (word_of value)
    where
      one : (o : Option ℤ) → goes_on (Returning value []) (st.on (λ n. Over (Returned n) (record core { vars = [] })) o) ≡ lift_next (goes_on (Returning value []) (st.on (λ n. Over (Returned n) (record core { vars = [] })) o))
      one None = refl
      one (Some n) = ap (λ vs. Ends (Returned n) (record core { vars = vs })) (sym (keep_none (ns_of core.function)))

  -- ---- parameters

  pub entered_moved : (f : ℕ) (values : List Value) (frames : List Frame) (core : Core) (graph : LlGraph) → slice_get p.graphs f ≡ Some graph → First (length values) (counts_in graph) → length values ≡ length graph.params
      → enters f values (map lift_frame frames) (lift_core core) (fewer_graph graph) (slice_get (fewer_graph graph).blocks 0) ≡ lift_next (enters f values frames core graph (slice_get graph.blocks 0))
  entered_moved f values frames core graph of firsts count =
      ap (enters f values (map lift_frame frames) (lift_core core) (fewer_graph graph)) (get_map (block_by (names_in (counts_in graph)) []) graph.blocks 0) ∙ one (slice_get graph.blocks 0)
    where
      size : length (counts_in graph) ≡ length graph.types
      size = counts_size graph

      mapped : (vs : List ℕ) → length (map (name_of (names_in (counts_in graph))) vs) ≡ length vs
      mapped [] = refl
      mapped (v ∷ vs) = ap suc (mapped vs)

      vars : values ++ replicate (length (types_of (counts_in graph) graph.types) - length (map (name_of (names_in (counts_in graph))) graph.params)) Unset ≡ keep (counts_in graph) (values ++ replicate (length graph.types - length graph.params) Unset)
      vars =
          ap (λ ts. values ++ replicate (length ts - length (map (name_of (names_in (counts_in graph))) graph.params)) Unset) (types_kept (counts_in graph) graph.types (sym size))
          ∙ ap (λ n. values ++ replicate (length (keep (counts_in graph) graph.types) - n) Unset) (mapped graph.params ∙ sym count)
          ∙ sym (begun (counts_in graph) values Unset graph.types firsts (sym size))
          ∙ ap (λ n. keep (counts_in graph) (values ++ replicate (length graph.types - n) Unset)) count

      at : List ℕ → List Value → LlBlock → Next
      at ns vs block = Goes (At (map (named (names_in ns)) block.ops) (exit_by (names_in ns) [] block.exit) (map lift_frame frames) (record core { function = f; block = 0; at = 0; vars = vs }))

      one : (o : Option LlBlock) → enters f values (map lift_frame frames) (lift_core core) (fewer_graph graph) (option_map (block_by (names_in (counts_in graph)) []) o) ≡ lift_next (enters f values frames core graph o)
      one None = refl
      one (Some block) =
          ap (λ vs. at (counts_in graph) vs block) vars
          ∙ ap (λ g. at (counts_at g) (keep (counts_at g) (values ++ replicate (length graph.types - length graph.params) Unset)) block) (sym of)
