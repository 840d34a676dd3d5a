-- Each step of a program keeps what is asked of states.
use Rattle.std.proofs.Common.{◌≡◌, ◌<◌, ℕ, zero, suc, ◌-◌, ℤ, Bool, true, false, ◌&&◌, ◌||◌, ◌==◌, List, [], ◌∷◌, ◌++◌, length, map, replicate, Option, Some, None, refl, sym, ap, ◌∙◌, subst, arith}
use Rattle.std.specs.Prelude.{slice_get, slice_set, cond, not, is_none, Result, Ok, Err}
use Rattle.csub_tree.specs.State.{Value, Unset, Block, Core, After, Onward, Puts as PutsByte, Told, Over, Stuck}
use Rattle.csub_tree.specs.Operation.{is_unset, word_of, flag_of}
use Rattle.csub_tree.specs.Statement as st
use Rattle.csub_tree.specs.Statement.{read, operand, operands, any_unset, taken_by, fun_of, same_result, same_types, reached, on_block}
use Rattle.rpy_base.specs.declared.outcome.Outcome.TheVariants.{Returned}
use Rattle.csub_tree.specs.declared.stuck.StuckReason.{StuckReason}
use Rattle.csub_tree.specs.declared.stuck.StuckReason.TheVariants.{Signature, Unset as IsUnset}
use Rattle.csub_tree.specs.declared.tree.COperand.{COperand}
use Rattle.csub_tree.specs.declared.tree.CType.{CType}
use Rattle.csub_tree.specs.declared.tree.CType.TheVariants as c
use Rattle.ll_code.specs.Machine.{does, goes_on, shapes_of, set_all, block_in, begins, jump, branch, waiting, resumed, called, called_as, called_value, enters, entered, returned, operates, gives_back, type_in, leaves, step, c_result, c_type, param_types}
use Rattle.ll_code.specs.State.{Frame, State, Calling, At, Returning, Throwing, Next, Goes, Sticks}
use Rattle.ll_code.specs.Typed.{IsWellTyped, given_takes, all_given, all_taken, takes, field_of, items_of, result_ok, operation_ok, operations_ok, exit_ok, link_ok, return_ok, graph_ok, graphs_ok, block_ok, params_ok, is_kind, is_void, call_ok}
use Rattle.ll_code.specs.declared.program.LlType.{LlType}
use Rattle.ll_code.specs.declared.program.LlType.TheVariants as type
use Rattle.ll_code.specs.declared.program.LlStruct.{LlStruct}
use Rattle.ll_code.specs.declared.program.LlLink.{LlLink}
use Rattle.ll_code.specs.declared.program.LlOp.{LlOp}
use Rattle.ll_code.specs.declared.program.LlOp.TheVariants as op
use Rattle.ll_code.specs.declared.program.LlExit.{LlExit}
use Rattle.ll_code.specs.declared.program.LlExit.TheVariants as exit
use Rattle.ll_code.specs.declared.program.LlBlock.{LlBlock}
use Rattle.ll_code.specs.declared.program.LlGraph.{LlGraph}
use Rattle.ll_code.specs.declared.program.LlProgram.{LlProgram}
use Rattle.ll_held.specs.Places.{PlacedAt, IsPlaced}
use Rattle.ll_held.specs.Quiet.{ReadsInputs}
use Rattle.ll_held.specs.Roots.{under_way, read_by, waits_for}
use Rattle.ll_held.proofs.Keeping.{or_right, same_number}
use Rattle.ll_held.proofs.Placing.{under_is}
use Rattle.ll_laws.specs.Fits.{CoreFits}
use Rattle.ll_laws.specs.States.{StateFits}
use Rattle.ll_laws.proofs.Values.{and_left, and_right, is_same, is_less, has_type_is}
use Rattle.ll_live.specs.Live.{among, reads, set_by, sets, live}
use Rattle.ll_points.specs.Agrees.{Slots, op_agrees, exit_agrees, graphs_agree, Agrees}
use Rattle.ll_points.specs.Points.{StateLeads, AtLeads}
use Rattle.refcount_transform.specs.Plan.{plan_of, is_counted, made_by, root, has_root, reference_given}
use Rattle.refcount_transform.specs.Changes.{around_of, var_referred}
use Rattle.refcount_laws.proofs.Cells.{set_here, set_other}
use Rattle.refcount_laws.proofs.Numbers.{Based, all_based}
use Rattle.refcount_typed.specs.Leads.{LeadsToRoots}
use Rattle.refcount_typed.proofs.Roots.{made_counted, inside}
use Rattle.refcount_checks.specs.Countable.{result_of, call_countable, takes_params, all_among, numbers_follow, is_countable}
use Rattle.refcount_ready.specs.Along.{WritesBlocks, LeavesStatics}
use Rattle.refcount_ready.proofs.Tests.{Stands, stands_placed, graph_test, op_test, all_roots, graph_good, stands_made, numbers_first, numbers_behind}
use Rattle.refcount_ready.proofs.Pointers.{Sound, operand_sound}
use Rattle.refcount_ready.proofs.Slots.{Found, slots_found}
use Rattle.refcount_ready.proofs.Keeps.{CoreKeeps, SetIn, FramesKeep, CallingKeeps, AtKeeps, ReturningKeeps, StateKeeps, NextKeeps}
use Rattle.refcount_ready.proofs.Lists.{each_set, read_first, inputs_set, length_operands, given_count, all_are, params_below, same_given}
use Rattle.refcount_ready.proofs.Filling.{Filled, AfterFilled, does_filled, number_next, number_first}
use Rattle.refcount_ready.proofs.Doing.{Done, AfterDone, Known, does_done}

-- ---- what is known of an operation

pub free_disagrees : (slots : Slots) (types : List LlType) (a : ℕ) → op_agrees slots types (op.Free a) ≡ true → ⊥
free_disagrees None types a h = cc
free_disagrees (Some (k, v)) types a h = cc

pub raise_disagrees : (slots : Slots) (types : List LlType) (a : ℕ) → op_agrees slots types (op.Raise a) ≡ true → ⊥
raise_disagrees None types a h = cc
raise_disagrees (Some (k, v)) types a h = cc

module _ (p : LlProgram) (types : List LlType) where
  field_inside : (n k : ℕ) (x : COperand) → given_takes p types (field_of (slice_get p.structs n) k) x ≡ true → n < length p.structs
  field_inside n k x h = by (slice_get p.structs n) refl h
    where
      by : (o : Option LlStruct) → slice_get p.structs n ≡ o → given_takes p types (field_of o k) x ≡ true → n < length p.structs
      by None e h = absurd (cc)
      by (Some s) e h = inside p.structs n s e

  items_inside : (n : ℕ) (x : COperand) → given_takes p types (items_of (slice_get p.structs n)) x ≡ true → n < length p.structs
  items_inside n x h = by (slice_get p.structs n) refl h
    where
      by : (o : Option LlStruct) → slice_get p.structs n ≡ o → given_takes p types (items_of o) x ≡ true → n < length p.structs
      by None e h = absurd (cc)
      by (Some s) e h = inside p.structs n s e

  pub made_inside : (o : LlOp) → operation_ok p types o ≡ true → (n : ℕ) → made_by o ≡ Some n → n < length p.structs
  made_inside (op.New a m k) h n e = let f : k ≡ n = cc in let lt : k < length p.structs = is_less k _ (and_left _ _ (and_right _ _ (and_left _ _ h))) in omega (arith, f, lt)
  made_inside (op.NewArray a m k x) h n e = let f : k ≡ n = cc in let lt : k < length p.structs = is_less k _ (and_left _ _ (and_right _ _ (and_left _ _ (and_left _ _ h)))) in omega (arith, f, lt)
  made_inside (op.SetField k b i x) h n e = let f : k ≡ n = cc in let lt : k < length p.structs = field_inside k i x (and_right _ _ h) in omega (arith, f, lt)
  made_inside (op.SetItem k b i x) h n e = let f : k ≡ n = cc in let lt : k < length p.structs = items_inside k x (and_right _ _ h) in omega (arith, f, lt)
  made_inside other h n e = absurd (cc)

sets_is : (s : Option ℕ) (v : ℕ) → sets s v ≡ true → s ≡ Some v
sets_is None v h = absurd (cc)
sets_is (Some a) v h = ap Some (is_same a v h)

module _ (p : LlProgram) (ok : IsWellTyped p) (slots : Slots) (agrees : Agrees slots p) (leads : LeadsToRoots p) (countable : is_countable p ≡ true) where
  pub based : Based p.structs
  based = all_based p.structs (and_left _ _ (and_left _ _ (and_left _ _ ok)))

  pub good : (f : ℕ) (graph : LlGraph) → slice_get p.graphs f ≡ Some graph → graph_ok p graph ≡ true
  good f graph e = graph_good p p.graphs f graph (and_right _ _ (and_left _ _ ok)) e

  pub params_of : (f : ℕ) (graph : LlGraph) → slice_get p.graphs f ≡ Some graph → params_ok p graph.types 0 graph.params ≡ true
  params_of f graph e = and_right _ _ (and_left _ _ (and_left _ _ (good f graph e)))

  pub made_by_it : (graph : LlGraph) (o : LlOp) → Stands p graph o → operation_ok p graph.types o ≡ true → (n : ℕ) → made_by o ≡ Some n → is_counted (plan_of p) n ≡ true
  made_by_it graph o w h n e =
      made_counted p based n (made_inside p graph.types o h n e)
      (stands_made p graph o (root p.structs n) w (ap (has_root p.structs (root p.structs n)) e ∙ same_number (root p.structs n)))

  -- what the slots refer to, where they are set
  pub slots_set : (graph : LlGraph) (a b : ℕ) → Stands p graph (op.ExcSet a b) → op_agrees slots graph.types (op.ExcSet a b) ≡ true
      → (var_referred (around_of (plan_of p) graph.types) a ≡ (plan_of p).slots.kind) × (var_referred (around_of (plan_of p) graph.types) b ≡ (plan_of p).slots.value)
  slots_set graph a b w h = by slots refl agrees h
    where
      by : (s : Slots) → s ≡ slots → graphs_agree s p.graphs ≡ true → op_agrees s graph.types (op.ExcSet a b) ≡ true
          → (var_referred (around_of (plan_of p) graph.types) a ≡ (plan_of p).slots.kind) × (var_referred (around_of (plan_of p) graph.types) b ≡ (plan_of p).slots.value)
      by None e agrees h = absurd (cc)
      by (Some (k, v)) e agrees h =
          let found : Found p k v (plan_of p).slots = slots_found p k v (all_roots p leads) agrees graph a b w in
          (ap (reference_given (plan_of p).counted) (has_type_is (type.Ptr k) (slice_get graph.types a) (and_left _ _ h)) ∙ sym found.kind, ap (reference_given (plan_of p).counted) (has_type_is (type.Ptr v) (slice_get graph.types b) (and_right _ _ h)) ∙ sym found.value)

  known : (graph : LlGraph) (core : Core) (o : LlOp) → Stands p graph o → operation_ok p graph.types o ≡ true → op_agrees slots graph.types o ≡ true → WritesBlocks p core o → Known p graph.types core o
  known graph core o w h agree writes = record {
    made = made_by_it graph o w h;
    frees = λ a e. free_disagrees slots graph.types a (ap (op_agrees slots graph.types) (sym e) ∙ agree);
    writes = writes;
    kind = λ a b e. (slots_set graph a b (subst (Stands p graph) e w) (ap (op_agrees slots graph.types) (sym e) ∙ agree)).0;
    value = λ a b e. (slots_set graph a b (subst (Stands p graph) e w) (ap (op_agrees slots graph.types) (sym e) ∙ agree)).1;
  }

  choice : (b : Bool) (x y : Next) → NextKeeps p x → NextKeeps p y → NextKeeps p (cond b x y)
  choice true x y h k = h
  choice false x y h k = k

  -- ---- operations

  module _ (o : LlOp) (ops : List LlOp) (e : LlExit) (frames : List Frame) (core : Core) (graph : LlGraph) (keeps : AtKeeps p (o ∷ ops) e frames core graph) where
    -- what the rest of the block reads is set
    rest_set : (next : Core) → Done p graph.types o core next → SetIn graph.types (live ops e) next.vars
    rest_set next done v n u t = by (sets (set_by o) v) refl
      where
        by : (b : Bool) → sets (set_by o) v ≡ b → is_unset (read next.vars v) ≡ false
        by true h = done.new v n (sets_is (set_by o) v h) t
        by false h = ap is_unset (done.same v h) ∙ keeps.set v n (or_right (among v (reads o)) _ (ap (λ b. not b && live ops e v) h ∙ u)) t

    module _ (numbers : numbers_follow (plan_of p) (Some o) ops ≡ true) where
      went_on : (next : Core) → Done p graph.types o core next → Filled o next → StateKeeps p (At ops e frames next)
      went_on next done filled = (graph, record { of = ap (slice_get p.graphs) done.function ∙ keeps.of; set = rest_set next done; number = number_next p o ops next numbers filled; waiting = keeps.waiting; keeps = done.keeps })

      goes_keep : (after : After) → AfterDone p graph.types o core after → AfterFilled o after → NextKeeps p (goes_on (At ops e frames) after)
      goes_keep (Onward next) done filled = went_on next done filled
      goes_keep (PutsByte byte next) done filled = went_on next done filled
      goes_keep (Told event next) done filled = went_on next done filled
      goes_keep (Over outcome next) done filled = tt
      goes_keep (Stuck reason) done filled = tt

    -- ---- calls

    module _ (placed : PlacedAt p core.function core.block core.at (o ∷ ops) e) (long : length core.vars ≡ length graph.types) (fills_none : (core : Core) → Filled o core) where
      waits_keep : (into : Option ℕ) (result : LlType) → set_by o ≡ into → result_ok graph.types into result ≡ true → (into ≡ None → reference_given (plan_of p).counted (Some result) ≡ None) → FramesKeep p result (waiting core into ops e ∷ frames)
      waits_keep into result is typed drops = (
        graph,
        record {
          of = keeps.of;
          typed = typed;
          long = long;
          set = λ v n u t. keeps.set v n (ap (λ s. among v (reads o) || (not (sets s v) && live ops e v)) is ∙ (sym (ap (λ w. read_by w v || (not (sets into v) && live ops e v)) (under_is p o ops e into core placed)) ∙ u)) t;
          drops = drops;
          number = λ core. number_next p o ops core (numbers_behind p countable _ graph keeps.of _ _ o ops e placed) (fills_none core);
        },
        keeps.waiting,
      )

      calls_keep : (f : ℕ) (values : List Value) (into : Option ℕ) (other : LlGraph) → slice_get p.graphs f ≡ Some other → any_unset values ≡ false → FramesKeep p other.result (waiting core into ops e ∷ frames) → StateKeeps p (Calling f values (waiting core into ops e ∷ frames) core)
      calls_keep f values into other there set waits = (other, record { of = there; set = set; waiting = waits; keeps = keeps.keeps })

      called_keep : (f : ℕ) (values : List Value) (into : Option ℕ) (other : LlGraph) → slice_get p.graphs f ≡ Some other → FramesKeep p other.result (waiting core into ops e ∷ frames) → NextKeeps p (called f values (waiting core into ops e ∷ frames) core)
      called_keep f values into other there waits = by (any_unset values) refl
        where
          by : (b : Bool) → any_unset values ≡ b → NextKeeps p (cond b (Sticks IsUnset) (Goes (Calling f values (waiting core into ops e ∷ frames) core)))
          by true h = tt
          by false h = calls_keep f values into other there h waits

      called_value_keep : (into : Option ℕ) (result : LlType) (params : List CType) (w : Option ℕ) (values : List Value) → is_kind p.structs result ≡ true → set_by o ≡ into → result_ok graph.types into result ≡ true → (into ≡ None → reference_given (plan_of p).counted (Some result) ≡ None) → any_unset values ≡ false
          → NextKeeps p (called_value p (c_result result) params w values (waiting core into ops e ∷ frames) core)
      called_value_keep into result params None values kind is typed drops set = tt
      called_value_keep into result params (Some f) values kind is typed drops set = by (slice_get p.graphs f) refl
        where
          tested : (other : LlGraph) → slice_get p.graphs f ≡ Some other → (b : Bool) → (same_result (c_result other.result) (c_result result) && same_types (param_types other) params) ≡ b
              → NextKeeps p (cond b (Goes (Calling f values (waiting core into ops e ∷ frames) core)) (Sticks Signature))
          tested other there false h = tt
          tested other there true h =
              let same : other.result ≡ result = same_given p.structs other.result result (and_right _ _ (and_left _ _ (and_left _ _ (and_left _ _ (good f other there))))) kind (and_left _ _ h) in
              calls_keep f values into other there set (subst (λ r. FramesKeep p r (waiting core into ops e ∷ frames)) (sym same) (waits_keep into result is typed drops))

          by : (w : Option LlGraph) → slice_get p.graphs f ≡ w → NextKeeps p (called_as (c_result result) params f values (waiting core into ops e ∷ frames) core w)
          by None there = tt
          by (Some other) there = tested other there (same_result (c_result other.result) (c_result result) && same_types (param_types other) params) refl

  none_given : (o : Option ℕ) → is_none o ≡ true → o ≡ None
  none_given None h = refl
  none_given (Some n) h = absurd (cc)

  drops_none : (into : Option ℕ) (result : Option LlType) (xs : List COperand) → call_countable (plan_of p) into result xs ≡ true → into ≡ None → reference_given (plan_of p).counted result ≡ None
  drops_none None result xs h e = none_given (reference_given (plan_of p).counted result) (and_left _ _ h)
  drops_none (Some a) result xs h e = absurd (cc)

  module _ (args : List (List ℕ)) (ops : List LlOp) (e : LlExit) (frames : List Frame) (core : Core) (graph : LlGraph) where
    stays : (o : LlOp) → AtKeeps p (o ∷ ops) e frames core graph → CoreFits p graph.types core → AtLeads p slots (o ∷ ops) e frames core graph → operation_ok p graph.types o ≡ true → PlacedAt p core.function core.block core.at (o ∷ ops) e → WritesBlocks p core o
        → op_agrees slots graph.types o ≡ true → NextKeeps p (goes_on (At ops e frames) (does p args core o))
    stays o keeps fit lead h placed writes agree =
        goes_keep o ops e frames core graph keeps (numbers_behind p countable core.function graph keeps.of core.block core.at o ops e placed) (does p args core o)
        (does_done p ok based graph.types core fit lead.vars lead.memory.stand keeps.keeps args o h (known graph core o (stands_placed p graph core.function core.block core.at o ops e keeps.of placed) h agree writes))
        (does_filled p args graph.types core fit.vars.count o h)

    call_keep : (into : Option ℕ) (f : ℕ) (xs : List COperand) → AtKeeps p (op.Call into f xs ∷ ops) e frames core graph → CoreFits p graph.types core → operation_ok p graph.types (op.Call into f xs) ≡ true → PlacedAt p core.function core.block core.at (op.Call into f xs ∷ ops) e
        → NextKeeps p (called f (operands core.vars xs) (waiting core into ops e ∷ frames) core)
    call_keep into f xs keeps fit h placed = by (slice_get p.graphs f) refl h (and_right _ _ (op_test p countable graph (op.Call into f xs) (stands_placed p graph core.function core.block core.at (op.Call into f xs) ops e keeps.of placed)))
      where
        by : (w : Option LlGraph) → slice_get p.graphs f ≡ w → call_ok p graph.types into w xs ≡ true → call_countable (plan_of p) into (result_of w) xs ≡ true → NextKeeps p (called f (operands core.vars xs) (waiting core into ops e ∷ frames) core)
        by None there h k = absurd (cc)
        by (Some other) there h k =
            called_keep (op.Call into f xs) ops e frames core graph keeps placed fit.vars.count (λ c. tt) f (operands core.vars xs) into other there
            (waits_keep (op.Call into f xs) ops e frames core graph keeps placed fit.vars.count (λ c. tt) into other.result refl (and_left _ _ h) (drops_none into (Some other.result) xs k))

    call_fn_keep : (into : Option ℕ) (result : LlType) (params : List LlType) (v : ℕ) (xs : List COperand) → AtKeeps p (op.CallFn into result params v xs ∷ ops) e frames core graph → CoreFits p graph.types core → operation_ok p graph.types (op.CallFn into result params v xs) ≡ true
        → PlacedAt p core.function core.block core.at (op.CallFn into result params v xs ∷ ops) e → NextKeeps p (operates p args (op.CallFn into result params v xs) ops e frames core)
    call_fn_keep into result params v xs keeps fit h placed = by (is_unset (read core.vars v)) (any_unset (operands core.vars xs)) refl
      where
        by : (x y : Bool) → any_unset (operands core.vars xs) ≡ y → NextKeeps p (cond (x || y) (Sticks IsUnset) (called_value p (c_result result) (map c_type params) (fun_of (read core.vars v)) (operands core.vars xs) (waiting core into ops e ∷ frames) core))
        by true y set = tt
        by false true set = tt
        by false false set =
            called_value_keep (op.CallFn into result params v xs) ops e frames core graph keeps placed fit.vars.count (λ c. tt) into result (map c_type params) (fun_of (read core.vars v)) (operands core.vars xs)
            (and_right _ _ (and_left _ _ (and_left _ _ (and_left _ _ h)))) refl (and_right _ _ (and_left _ _ h))
            (drops_none into (Some result) xs (and_right _ _ (op_test p countable graph (op.CallFn into result params v xs) (stands_placed p graph core.function core.block core.at (op.CallFn into result params v xs) ops e keeps.of placed)))) set

    operates_keep : (o : LlOp) → AtKeeps p (o ∷ ops) e frames core graph → CoreFits p graph.types core → AtLeads p slots (o ∷ ops) e frames core graph → operation_ok p graph.types o ≡ true → PlacedAt p core.function core.block core.at (o ∷ ops) e → WritesBlocks p core o
        → op_agrees slots graph.types o ≡ true → NextKeeps p (operates p args o ops e frames core)
    operates_keep (op.Call into f xs) keeps fit lead h placed writes agree = call_keep into f xs keeps fit h placed
    operates_keep (op.CallFn into result params v xs) keeps fit lead h placed writes agree = call_fn_keep into result params v xs keeps fit h placed
    operates_keep (op.Raise a) keeps fit lead h placed writes agree = absurd (raise_disagrees slots graph.types a agree)
    operates_keep other keeps fit lead h placed writes agree = stays other keeps fit lead h placed writes agree

  -- ---- links

  module _ (frames : List Frame) (core : Core) (graph : LlGraph) (closed : ReadsInputs p) (of : slice_get p.graphs core.function ≡ Some graph) (long : length core.vars ≡ length graph.types) (waits : FramesKeep p graph.result frames) (keeps : CoreKeeps p core) where
    begins_keep : (to : ℕ) (xs : List COperand) (w : Option LlBlock) → slice_get graph.blocks to ≡ w → Rattle.ll_code.specs.Typed.enters p graph.types w xs ≡ true → any_unset (operands core.vars xs) ≡ false → NextKeeps p (begins frames core to (operands core.vars xs) w)
    begins_keep to xs None there h set = tt
    begins_keep to xs (Some block) there h set = (graph, record { of = of; set = set_in; number = number_first p block.ops (record core { block = to; at = 0; vars = set_all core.vars block.inputs (operands core.vars xs) }) (numbers_first p countable core.function graph of to block there); waiting = waits; keeps = keeps })
      where
        inside_types : (types : List LlType) (v : ℕ) (t : LlType) → slice_get types v ≡ Some t → v < length types
        inside_types [] v t e = absurd (cc)
        inside_types (x ∷ types) zero t e = omega arith
        inside_types (x ∷ types) (suc v) t e = omega (arith, inside_types types v t e)

        set_in : SetIn graph.types (live block.ops block.exit) (set_all core.vars block.inputs (operands core.vars xs))
        set_in v n u t =
            inputs_set block.inputs core.vars (operands core.vars xs) v (sym (length_operands core.vars xs ∙ given_count p graph.types graph.types block.inputs xs h)) set
            (let l : v < length graph.types = inside_types graph.types v (type.Ptr n) t in omega (arith, l, long)) (closed core.function graph of to block there v u)

    jump_keep : (link : LlLink) → link_ok p graph link ≡ true → NextKeeps p (jump p frames core link)
    jump_keep link h = by (any_unset (operands core.vars link.args)) refl
      where
        by : (b : Bool) → any_unset (operands core.vars link.args) ≡ b → NextKeeps p (cond b (Sticks IsUnset) (begins frames core link.to (operands core.vars link.args) (block_in (slice_get p.graphs core.function) link.to)))
        by true set = tt
        by false set =
            subst (λ w. NextKeeps p (begins frames core link.to (operands core.vars link.args) w)) (ap (λ g. block_in g link.to) (sym of)) (begins_keep link.to link.args (slice_get graph.blocks link.to) refl h set)

    branch_keep : (there elsewhere : LlLink) (w : Option Bool) → link_ok p graph there ≡ true → link_ok p graph elsewhere ≡ true → NextKeeps p (branch p frames core there elsewhere w)
    branch_keep there elsewhere None h k = tt
    branch_keep there elsewhere (Some true) h k = jump_keep there h
    branch_keep there elsewhere (Some false) h k = jump_keep elsewhere k

  -- ---- returns

  void_sound : (blocks : List (Option Block)) (statics : List Block) (t : LlType) → is_void t ≡ true → Sound p blocks statics t Unset
  void_sound blocks statics type.Void h = record { fits = tt; leads = tt; set = λ n e. absurd (cc) }
  void_sound blocks statics type.Signed h = absurd (cc)
  void_sound blocks statics type.Char h = absurd (cc)
  void_sound blocks statics type.Bool h = absurd (cc)
  void_sound blocks statics type.Fn h = absurd (cc)
  void_sound blocks statics (type.Ptr n) h = absurd (cc)

  module _ (frames : List Frame) (core : Core) (graph : LlGraph) (of : slice_get p.graphs core.function ≡ Some graph) (fit : CoreFits p graph.types core) (ops : List LlOp) (e : LlExit) (lead : AtLeads p slots ops e frames core graph) (waits : FramesKeep p graph.result frames) (keeps : CoreKeeps p core) where
    gives_keep : (x : Option COperand) → return_ok p graph x ≡ true → NextKeeps p (gives_back x frames core)
    gives_keep None h = (graph, record { of = of; sound = void_sound core.blocks core.statics graph.result h; waiting = waits; keeps = keeps })
    gives_keep (Some x) h = by (is_unset (operand core.vars x)) refl
      where
        by : (b : Bool) → is_unset (operand core.vars x) ≡ b → NextKeeps p (cond b (Sticks IsUnset) (Goes (Returning (operand core.vars x) frames core)))
        by true set = tt
        by false set = (graph, record { of = of; sound = operand_sound p ok core.blocks core.statics lead.memory.stand graph.types core.vars fit.vars lead.vars graph.result x h (λ n q. set); waiting = waits; keeps = keeps })

  -- ---- exits

  fails_keep : (ops : List LlOp) (e : LlExit) (frames : List Frame) (core : Core) (w : Option _) → NextKeeps p (goes_on (At ops e frames) (st.fail core w))
  fails_keep ops e frames core None = tt
  fails_keep ops e frames core (Some name) = tt

  raised_keep : (e : LlExit) (frames : List Frame) (core : Core) (w : Option CType) (value : Value) → NextKeeps p (goes_on (At [] e frames) (st.raised core (shapes_of p.structs) w value))
  raised_keep e frames core w value = by w
    where
      named : (o : Option (List ℕ)) → NextKeeps p (goes_on (At [] e frames) (st.raised_as core o))
      named None = tt
      named (Some name) = tt

      found : (r : Result Block StuckReason) → NextKeeps p (goes_on (At [] e frames) (on_block (λ block. st.raised_as core (st.bytes_of block.items)) r))
      found (Ok block) = named (st.bytes_of block.items)
      found (Err reason) = tt

      by : (o : Option CType) → NextKeeps p (goes_on (At [] e frames) (st.raised core (shapes_of p.structs) o value))
      by (Some (c.Ptr n)) = found (reached core (shapes_of p.structs) n value)
      by None = tt
      by (Some c.Signed) = tt
      by (Some c.Char) = tt
      by (Some c.Bool) = tt
      by (Some c.Fn) = tt

  leaves_keep : (closed : ReadsInputs p) (e : LlExit) (frames : List Frame) (core : Core) (graph : LlGraph) → AtKeeps p [] e frames core graph → CoreFits p graph.types core → AtLeads p slots [] e frames core graph → exit_ok p graph e ≡ true → exit_agrees e ≡ true
      → NextKeeps p (leaves p e frames core)
  leaves_keep closed (exit.Goto link) frames core graph keeps fit lead h agree = jump_keep frames core graph closed keeps.of fit.vars.count keeps.waiting keeps.keeps link h
  leaves_keep closed (exit.If a there elsewhere) frames core graph keeps fit lead h agree =
      branch_keep frames core graph closed keeps.of fit.vars.count keeps.waiting keeps.keeps there elsewhere (flag_of (read core.vars a)) (and_right _ _ (and_left _ _ h)) (and_right _ _ h)
  leaves_keep closed (exit.OnRaise a link without) frames core graph keeps fit lead h agree = absurd (cc)
  leaves_keep closed (exit.Return x) frames core graph keeps fit lead h agree = gives_keep frames core graph keeps.of fit [] (exit.Return x) lead keeps.waiting keeps.keeps x h
  leaves_keep closed (exit.Raise a) frames core graph keeps fit lead h agree = absurd (cc)
  leaves_keep closed (exit.Fail number) frames core graph keeps fit lead h agree = fails_keep [] (exit.Fail number) frames core _
  leaves_keep closed (exit.Raised a) frames core graph keeps fit lead h agree = raised_keep (exit.Raised a) frames core (type_in (slice_get p.graphs core.function) a) (read core.vars a)

  -- ---- graphs that are entered

  enters_keep : (closed : ReadsInputs p) (f : ℕ) (values : List Value) (frames : List Frame) (core : Core) (graph : LlGraph) → CallingKeeps p f values frames core graph → length values ≡ length graph.params → (w : Option LlBlock) → slice_get graph.blocks 0 ≡ w → NextKeeps p (enters f values frames core graph w)
  enters_keep closed f values frames core graph keeps count None there = tt
  enters_keep closed f values frames core graph keeps count (Some block) there = (graph, record { of = keeps.of; set = set_in; number = number_first p block.ops (record core { function = f; block = 0; at = 0; vars = values ++ replicate (length graph.types - length graph.params) Unset }) (numbers_first p countable f graph keeps.of 0 block there); waiting = keeps.waiting; keeps = keeps.keeps })
    where
      takes_them : takes_params graph.params (Some block) ≡ true
      takes_them = ap (takes_params graph.params) (sym there) ∙ and_left _ _ (graph_test p countable f graph keeps.of)

      set_in : SetIn graph.types (live block.ops block.exit) (values ++ replicate (length graph.types - length graph.params) Unset)
      set_in v n u t =
          let a : among v graph.params ≡ true = all_are block.inputs graph.params v (and_right (all_among graph.params block.inputs) (all_among block.inputs graph.params) takes_them) (closed f graph keeps.of 0 block there v u) in
          let l : v < length graph.params = params_below p graph.types graph.params v (params_of f graph keeps.of) a in
          let m : v < length values = omega (arith, l, count) in
          ap is_unset (read_first values (replicate (length graph.types - length graph.params) Unset) v m) ∙ each_set values v keeps.set m

  -- ---- calls that go on

  ended_keep : (value : Value) (core : Core) → NextKeeps p (goes_on (Returning value []) (st.ended core value))
  ended_keep value core = by (word_of value)
    where
      by : (w : Option ℤ) → NextKeeps p (goes_on (Returning value []) (st.on (λ n. Over (Returned n) (record core { vars = [] })) w))
      by None = tt
      by (Some n) = tt

  returned_keep : (value : Value) (frames : List Frame) (core : Core) (graph : LlGraph) → ReturningKeeps p value frames core graph → NextKeeps p (returned value frames core)
  returned_keep value [] core graph keeps = ended_keep value core
  returned_keep value (frame ∷ frames) core graph keeps = back keeps.waiting
    where
      back : FramesKeep p graph.result (frame ∷ frames) → NextKeeps p (returned value (frame ∷ frames) core)
      back (other, w, rest) = (other, record { of = w.of; set = by frame.into refl; number = w.number (record (resumed frame core) { vars = taken_by frame.vars frame.into value }); waiting = rest; keeps = keeps.keeps })
        where
          inside_types : (types : List LlType) (v : ℕ) (t : LlType) → slice_get types v ≡ Some t → v < length types
          inside_types [] v t e = absurd (cc)
          inside_types (x ∷ types) zero t e = omega arith
          inside_types (x ∷ types) (suc v) t e = omega (arith, inside_types types v t e)

          waited : (v : ℕ) → sets frame.into v ≡ false → live frame.ops frame.exit v ≡ true → waits_for p frame v ≡ true
          waited v h u = or_right (read_by (under_way p frame) v) _ (ap (λ b. not b && live frame.ops frame.exit v) h ∙ u)

          by : (into : Option ℕ) → frame.into ≡ into → SetIn other.types (live frame.ops frame.exit) (taken_by frame.vars into value)
          by None e v n u t = w.set v n (waited v (ap (λ s. sets s v) e) u) t
          by (Some a) e v n u t = one (a == v) refl
            where
              one : (b : Bool) → (a == v) ≡ b → is_unset (read (slice_set frame.vars a value) v) ≡ false
              one true h =
                  let f : a ≡ v = is_same a v h in
                  let g : slice_get other.types a ≡ Some graph.result = has_type_is graph.result (slice_get other.types a) (ap (λ s. result_ok other.types s graph.result) (sym e) ∙ w.typed) in
                  let k : graph.result ≡ type.Ptr n = (let z : Some graph.result ≡ Some (type.Ptr n) = sym g ∙ ap (slice_get other.types) f ∙ t in cc) in
                  ap (λ v. is_unset (read (slice_set frame.vars a value) v)) (sym f) ∙ ap is_unset (set_here frame.vars a value Unset (let l : a < length other.types = inside_types other.types a graph.result g in omega (arith, l, w.long))) ∙ keeps.sound.set n k
              one false h = ap is_unset (set_other frame.vars a v value Unset (λ q. (let x : (a == v) ≡ true = ap (λ k. k == v) q ∙ same_number v in cc))) ∙ w.set v n (waited v (ap (λ s. sets s v) e ∙ h) u) t

  -- ---- steps

  pub step_keeps : ReadsInputs p → (args : List (List ℕ)) (s : State) → StateFits p s → StateLeads p slots s → IsPlaced p s → LeavesStatics p s → StateKeeps p s → NextKeeps p (step p args s)
  step_keeps closed args (Calling f values frames core) (g, fit) lead placed writes (graph, keeps) =
      let same : g ≡ graph = (let z : Some g ≡ Some graph = sym fit.of ∙ keeps.of in cc) in
      subst (λ o. NextKeeps p (entered f values frames core o)) (sym keeps.of)
      (enters_keep closed f values frames core graph keeps (fit.count ∙ ap (λ g. length g.params) same) (slice_get graph.blocks 0) refl)
  step_keeps closed args (At [] e frames core) (g, fit) (g2, lead) placed writes (graph, keeps) =
      let same : g ≡ graph = (let z : Some g ≡ Some graph = sym fit.of ∙ keeps.of in cc) in
      let same2 : g2 ≡ graph = (let z : Some g2 ≡ Some graph = sym lead.of ∙ keeps.of in cc) in
      leaves_keep closed e frames core graph keeps (subst (λ g. CoreFits p g.types core) same fit.fits) (subst (AtLeads p slots [] e frames core) same2 lead) (subst (λ g. exit_ok p g e ≡ true) same fit.end) lead.end
  step_keeps closed args (At (o ∷ ops) e frames core) (g, fit) (g2, lead) (placed, behind) writes (graph, keeps) =
      let same : g ≡ graph = (let z : Some g ≡ Some graph = sym fit.of ∙ keeps.of in cc) in
      let same2 : g2 ≡ graph = (let z : Some g2 ≡ Some graph = sym lead.of ∙ keeps.of in cc) in
      operates_keep args ops e frames core graph o keeps (subst (λ g. CoreFits p g.types core) same fit.fits) (subst (AtLeads p slots (o ∷ ops) e frames core) same2 lead)
      (subst (λ g. operation_ok p g.types o ≡ true) same (and_left _ _ fit.left)) placed writes (subst (λ g. op_agrees slots g.types o ≡ true) same2 (and_left _ _ lead.left))
  step_keeps closed args (Returning value frames core) fit lead placed writes (graph, keeps) = returned_keep value frames core graph keeps
  step_keeps closed args (Throwing value frames core) fit lead placed writes keeps = absurd keeps
