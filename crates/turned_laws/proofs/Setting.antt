-- What is left to do reads only variables that are set, where each block reads its inputs alone.
use Rattle.std.proofs.Common.{◌≡◌, ◌<◌, ◌≤◌, ℕ, zero, suc, ◌+◌, Bool, true, false, ◌||◌, ◌&&◌, not, ◌==◌, List, [], ◌∷◌, ◌++◌, length, map, drop, Option, Some, None, Result, Ok, Err, refl, sym, ap, ◌∙◌, subst, arith, ◌⊎◌, inl, inr, ℤ}
use Rattle.std.specs.Prelude.{slice_get, slice_set, slice_index_or, cond}
use Rattle.rpy_base.specs.declared.outcome.Outcome.TheVariants.{Returned}
use Rattle.csub_tree.specs.State.{Value, Unset, Null, Block, Core, After, Onward, Puts as PutsByte, Told, Over, Stuck}
use Rattle.csub_tree.specs.Operation.{is_unset, flag_of, word_of}
use Rattle.csub_tree.specs.Statement as st
use Rattle.csub_tree.specs.Statement.{read, operand, operands, any_unset, taken_by, fun_of, same_result, same_types, reached, on_block, fail_name_of}
use Rattle.csub_tree.specs.declared.stuck.StuckReason.{StuckReason}
use Rattle.csub_tree.specs.declared.stuck.StuckReason.TheVariants.{Unset as IsUnset, Signature}
use Rattle.csub_tree.specs.declared.tree.COperand.{COperand}
use Rattle.csub_tree.specs.declared.tree.CType.{CType}
use Rattle.csub_tree.specs.declared.tree.CType.TheVariants as c
use Rattle.ll_code.specs.State.{Frame, State, Calling, At, Returning, Throwing, Next, Goes, Puts, Tells, Ends, Sticks}
use Rattle.ll_code.specs.Machine.{step, does, goes_on, set_all, block_in, begins, jump, branch, caught_by, caught, waiting, resumed, called, called_as, called_value, param_types, c_result, c_type, enters, entered, returned, thrown, given, operates, gives_back, type_in, leaves, shapes_of, start}
use Rattle.ll_code.specs.Typed as rules
use Rattle.ll_code.specs.Typed.{IsWellTyped, graph_ok, params_ok, link_ok, exit_ok, operation_ok, operations_ok, result_ok, is_void, has_type, same_type}
use Rattle.ll_code.specs.declared.program.LlType.{LlType}
use Rattle.ll_code.specs.declared.program.LlType.TheVariants as type
use Rattle.ll_code.specs.declared.program.LlLink.{LlLink}
use Rattle.ll_code.specs.declared.program.LlOp.{LlOp}
use Rattle.ll_code.specs.declared.program.LlOp.TheVariants as op
use Rattle.ll_code.specs.declared.program.LlExit.{LlExit}
use Rattle.ll_code.specs.declared.program.LlExit.TheVariants as exit
use Rattle.ll_code.specs.declared.program.LlBlock.{LlBlock}
use Rattle.ll_code.specs.declared.program.LlGraph.{LlGraph}
use Rattle.ll_code.specs.declared.program.LlProgram.{LlProgram}
use Rattle.ll_laws.specs.Fits.{MemoryFits, CoreFits}
use Rattle.ll_laws.specs.States.{WaitsFor, FramesFit, CallingFits, AtFits, LeavesFits, StateFits}
use Rattle.ll_laws.proofs.Values.{and_left, and_right, is_same}
use Rattle.ll_live.specs.Live.{among, reads, set_by, sets, handler_variable, live}
use Rattle.ll_held.specs.Places.{PlacedAt, BehindCall, AllBehind, IsPlaced}
use Rattle.throw_laws.specs.Ready.{uses_slots}
use Rattle.throw_laws.proofs.Setting.{Sets, AfterSets, does_sets}
use Rattle.joined_laws.proofs.Runs.{graph_typed}
use Rattle.turned_laws.specs.Ordered.{IsOrdered}
use Rattle.turned_laws.proofs.Lists.{IsSet, both, either_of, neither_left, neither_right, or_right, not_is, is_not, known, none_true, opposite, differ, set_here, set_elsewhere, front_at, value_set, all_set, all_given_size, all_given_within, params_within, set_size}
use Rattle.turned_laws.proofs.Within.{set_within, result_within}
use Rattle.turned_laws.proofs.Slots.{SlotsSet, AfterSlots, does_slots}

-- ---- states

-- what waits reads only what is set, but for the result that comes; what catches an exception does not read that
pub record FrameSet (frame : Frame) : Type 0 where
  pub stands : (v : ℕ) → live frame.ops frame.exit v ≡ true → sets frame.into v ≡ false → IsSet (read frame.vars v)
  pub handlers : frame.ops ≡ [] → (v : ℕ) → handler_variable frame.exit v ≡ true → sets frame.into v ≡ false

abbrev pub FramesSet : List Frame → Type 0
FramesSet [] = Unit {0}
FramesSet (frame ∷ frames) = FrameSet frame × FramesSet frames

-- a result is set, or nothing takes it
abbrev pub IsTaken : Value → List Frame → Type 0
IsTaken value [] = Unit {0}
IsTaken value (frame ∷ frames) = IsSet value ⊎ (frame.into ≡ None)

abbrev pub LiveSet : List LlOp → LlExit → List Value → Type 0
LiveSet ops e vars = (v : ℕ) → live ops e v ≡ true → IsSet (read vars v)

abbrev pub StateSet : State → Type 0
StateSet (Calling f values frames core) = (any_unset values ≡ false) × FramesSet frames × SlotsSet core
StateSet (At ops e frames core) = LiveSet ops e core.vars × FramesSet frames × SlotsSet core
StateSet (Returning value frames core) = IsTaken value frames × FramesSet frames × SlotsSet core
StateSet (Throwing value frames core) = IsSet value × FramesSet frames × SlotsSet core

abbrev pub NextSet : Next → Type 0
NextSet (Goes s) = StateSet s
NextSet (Puts byte s) = StateSet s
NextSet (Tells event s) = StateSet s
NextSet (Ends outcome core) = Unit {0}
NextSet (Sticks reason) = Unit {0}

either : (b : Bool) (x y : Next) → (b ≡ true → NextSet x) → (b ≡ false → NextSet y) → NextSet (cond b x y)
either true x y h k = h refl
either false x y h k = k refl

module _ (p : LlProgram) (ok : IsWellTyped p) (ordered : IsOrdered p) (args : List (List ℕ)) where
  -- ---- links

  begins_set : (graph : LlGraph) (frames : List Frame) (core : Core) (link : LlLink) → slice_get p.graphs core.function ≡ Some graph → length core.vars ≡ length graph.types → link_ok p graph link ≡ true → FramesSet frames → SlotsSet core
      → any_unset (operands core.vars link.args) ≡ false → NextSet (begins frames core link.to (operands core.vars link.args) (block_in (slice_get p.graphs core.function) link.to))
  begins_set graph frames core link of size typed waits slots has =
      subst (λ o. NextSet (begins frames core link.to (operands core.vars link.args) (block_in o link.to))) (sym of) (one (slice_get graph.blocks link.to) refl)
    where
      mapped : (xs : List COperand) → length (operands core.vars xs) ≡ length xs
      mapped [] = refl
      mapped (x ∷ xs) = ap suc (mapped xs)

      one : (o : Option LlBlock) → slice_get graph.blocks link.to ≡ o → NextSet (begins frames core link.to (operands core.vars link.args) o)
      one None e = tt
      one (Some block) e =
          let good = subst (λ o. rules.enters p graph.types o link.args ≡ true) e typed in (
            λ v l.
                let is : among v block.inputs ≡ true = ordered.reads core.function graph of link.to block e v l in
                let lt : v < length graph.types = all_given_within p graph.types graph.types block.inputs link.args good v is in
                all_set core.vars block.inputs (operands core.vars link.args) (all_given_size p graph.types graph.types block.inputs link.args good ∙ sym (mapped link.args)) has v (omega (arith, lt, size)) is,
            waits,
            slots,
          )

  jump_set : (graph : LlGraph) (frames : List Frame) (core : Core) (link : LlLink) → slice_get p.graphs core.function ≡ Some graph → length core.vars ≡ length graph.types → link_ok p graph link ≡ true → FramesSet frames → SlotsSet core → NextSet (jump p frames core link)
  jump_set graph frames core link of size typed waits slots = either (any_unset (operands core.vars link.args)) (Sticks IsUnset) _ (λ e. tt) (λ e. begins_set graph frames core link of size typed waits slots e)

  -- ---- exceptions

  caught_by_set : (graph : LlGraph) (value : Value) (frames : List Frame) (core : Core) → slice_get p.graphs core.function ≡ Some graph → length core.vars ≡ length graph.types → IsSet value → FramesSet frames → SlotsSet core → (e : LlExit) → exit_ok p graph e ≡ true → NextSet (caught_by p value frames core e)
  caught_by_set graph value frames core of size h waits slots (exit.OnRaise a (Some link) without) typed =
      jump_set graph frames (record core { vars = slice_set core.vars a value }) link of (set_size core.vars a value ∙ size) (and_right _ _ (and_left _ _ typed)) waits slots
  caught_by_set graph value frames core of size h waits slots (exit.OnRaise a None without) typed = (h, waits, slots)
  caught_by_set graph value frames core of size h waits slots (exit.Goto link) typed = (h, waits, slots)
  caught_by_set graph value frames core of size h waits slots (exit.If a one two) typed = (h, waits, slots)
  caught_by_set graph value frames core of size h waits slots (exit.Return x) typed = (h, waits, slots)
  caught_by_set graph value frames core of size h waits slots (exit.Raise a) typed = (h, waits, slots)
  caught_by_set graph value frames core of size h waits slots (exit.Fail n) typed = (h, waits, slots)
  caught_by_set graph value frames core of size h waits slots (exit.Raised a) typed = (h, waits, slots)

  caught_set : (graph : LlGraph) (value : Value) (frames : List Frame) (core : Core) → slice_get p.graphs core.function ≡ Some graph → length core.vars ≡ length graph.types → IsSet value → FramesSet frames → SlotsSet core → (ops : List LlOp) (e : LlExit) → exit_ok p graph e ≡ true → NextSet (caught p value ops e frames core)
  caught_set graph value frames core of size h waits slots [] e typed = caught_by_set graph value frames core of size h waits slots e typed
  caught_set graph value frames core of size h waits slots (o ∷ ops) e typed = (h, waits, slots)

  -- ---- exits

  given_set : (value : Value) (go : Value → Next) → (IsSet value → NextSet (go value)) → NextSet (given value go)
  given_set value go h = either (is_unset value) (Sticks IsUnset) (go value) (λ e. tt) h

  no_void : (types : List LlType) (into : Option ℕ) → result_ok types into type.Void ≡ true → into ≡ None
  no_void types None h = refl
  no_void types (Some a) h = one (slice_get types a) h
    where
      one : (o : Option LlType) → has_type type.Void o ≡ true → Some a ≡ None
      one None h = none_true (sym h)
      one (Some type.Signed) h = none_true (sym h)
      one (Some type.Char) h = none_true (sym h)
      one (Some type.Bool) h = none_true (sym h)
      one (Some type.Void) h = none_true (sym h)
      one (Some type.Fn) h = none_true (sym h)
      one (Some (type.Ptr n)) h = none_true (sym h)

  is_void_is : (t : LlType) → is_void t ≡ true → t ≡ type.Void
  is_void_is type.Void h = refl
  is_void_is type.Signed h = none_true (sym h)
  is_void_is type.Char h = none_true (sym h)
  is_void_is type.Bool h = none_true (sym h)
  is_void_is type.Fn h = none_true (sym h)
  is_void_is (type.Ptr n) h = none_true (sym h)

  nothing_taken : (made : ℕ) (t : LlType) (value : Value) (frames : List Frame) → is_void t ≡ true → FramesFit p made t frames → IsTaken value frames
  nothing_taken made t value [] h fit = tt
  nothing_taken made t value (frame ∷ frames) h (graph, w, fit) = inr (no_void graph.types frame.into (subst (λ t. result_ok graph.types frame.into t ≡ true) (is_void_is t h) w.into))

  is_taken : (value : Value) (frames : List Frame) → IsSet value → IsTaken value frames
  is_taken value [] h = tt
  is_taken value (frame ∷ frames) h = inl h

  branch_set : (graph : LlGraph) (frames : List Frame) (core : Core) (there elsewhere : LlLink) → slice_get p.graphs core.function ≡ Some graph → length core.vars ≡ length graph.types → link_ok p graph there ≡ true → link_ok p graph elsewhere ≡ true → FramesSet frames → SlotsSet core → (o : Option Bool) → NextSet (branch p frames core there elsewhere o)
  branch_set graph frames core there elsewhere of size h k waits slots None = tt
  branch_set graph frames core there elsewhere of size h k waits slots (Some true) = jump_set graph frames core there of size h waits slots
  branch_set graph frames core there elsewhere of size h k waits slots (Some false) = jump_set graph frames core elsewhere of size k waits slots

  raised_set : (a : ℕ) (frames : List Frame) (core : Core) (o : Option CType) (value : Value) → NextSet (goes_on (At [] (exit.Raised a) frames) (st.raised core (shapes_of p.structs) o value))
  raised_set a frames core None value = tt
  raised_set a frames core (Some c.Signed) value = tt
  raised_set a frames core (Some c.Char) value = tt
  raised_set a frames core (Some c.Bool) value = tt
  raised_set a frames core (Some c.Fn) value = tt
  raised_set a frames core (Some (c.Ptr n)) value = found (reached core (shapes_of p.structs) n value)
    where
      name : (o : Option (List ℕ)) → NextSet (goes_on (At [] (exit.Raised a) frames) (st.raised_as core o))
      name None = tt
      name (Some bytes) = tt

      found : (r : Result Block StuckReason) → NextSet (goes_on (At [] (exit.Raised a) frames) (on_block (λ block. st.raised_as core (st.bytes_of block.items)) r))
      found (Ok block) = name (st.bytes_of block.items)
      found (Err reason) = tt

  leaves_set : (graph : LlGraph) (frames : List Frame) (core : Core) → slice_get p.graphs core.function ≡ Some graph → length core.vars ≡ length graph.types → FramesFit p (length core.blocks) graph.result frames → FramesSet frames → SlotsSet core → (e : LlExit) → exit_ok p graph e ≡ true → NextSet (leaves p e frames core)
  leaves_set graph frames core of size fit waits slots (exit.Goto link) typed = jump_set graph frames core link of size typed waits slots
  leaves_set graph frames core of size fit waits slots (exit.If a there elsewhere) typed = branch_set graph frames core there elsewhere of size (and_right _ _ (and_left _ _ typed)) (and_right _ _ typed) waits slots (flag_of (read core.vars a))
  leaves_set graph frames core of size fit waits slots (exit.OnRaise a by without) typed = jump_set graph frames core without of size (and_right _ _ typed) waits slots
  leaves_set graph frames core of size fit waits slots (exit.Return None) typed = (nothing_taken (length core.blocks) graph.result Unset frames typed fit, waits, slots)
  leaves_set graph frames core of size fit waits slots (exit.Return (Some x)) typed = given_set (operand core.vars x) (λ value. Goes (Returning value frames core)) (λ h. (is_taken (operand core.vars x) frames h, waits, slots))
  leaves_set graph frames core of size fit waits slots (exit.Raise a) typed = given_set (read core.vars a) (λ value. Goes (Throwing value frames core)) (λ h. (h, waits, slots))
  leaves_set graph frames core of size fit waits slots (exit.Fail n) typed = one (fail_name_of n)
    where
      one : (o : Option _) → NextSet (goes_on (At [] (exit.Fail n) frames) (st.fail core o))
      one None = tt
      one (Some name) = tt
  leaves_set graph frames core of size fit waits slots (exit.Raised a) typed = raised_set a frames core (type_in (slice_get p.graphs core.function) a) (read core.vars a)

  -- ---- operations

  -- what is read behind an operation is set
  set_behind : (o : LlOp) (ops : List LlOp) (e : LlExit) (vars : List Value) (value : Value) → ((a : ℕ) → set_by o ≡ Some a → a < length vars) → LiveSet (o ∷ ops) e vars → IsSet value → LiveSet ops e (taken_by vars (set_by o) value)
  set_behind o ops e vars value within h is v l = one (set_by o) refl
    where
      kept : sets (set_by o) v ≡ false → IsSet (read vars v)
      kept s = h v (or_right (among v (reads o)) _ (both (not (sets (set_by o) v)) (live ops e v) (is_not (sets (set_by o) v) s) l))

      one : (s : Option ℕ) → set_by o ≡ s → IsSet (read (taken_by vars s value) v)
      one None s = kept (ap (λ s. sets s v) s)
      one (Some a) s = two (known (a == v))
        where
          two : (a == v) ≡ true ⊎ (a == v) ≡ false → IsSet (read (slice_set vars a value) v)
          two (inl t) = subst (λ v. IsSet (read (slice_set vars a value) v)) (is_same a v t) (ap is_unset (set_here vars a value Unset (within a s)) ∙ is)
          two (inr t) = ap is_unset (set_elsewhere vars a v value Unset (differ a v t)) ∙ kept (ap (λ s. sets s v) s ∙ t)

  does_set : (o : LlOp) (ops : List LlOp) (e : LlExit) (frames : List Frame) (core : Core) → ((a : ℕ) → set_by o ≡ Some a → a < length core.vars) → LiveSet (o ∷ ops) e core.vars → FramesSet frames → SlotsSet core → NextSet (goes_on (At ops e frames) (does p args core o))
  does_set o ops e frames core within h waits slots = after (does p args core o) (written o) (does_slots core slots p args o)
    where
      written : (o : LlOp) → AfterSets (set_by o) core (does p args core o)
      written (op.ExcType a n) = record { value = core.exc_type; vars = refl; set = slots.0 }
      written (op.ExcValue a n) = record { value = core.exc_value; vars = refl; set = slots.1 }
      written (op.ExcSet a b) = one (is_unset (read core.vars a) || is_unset (read core.vars b))
        where
          one : (t : Bool) → AfterSets None core (cond t (Stuck IsUnset) (Onward (record core { at = core.at + 1; exc_type = read core.vars a; exc_value = read core.vars b })))
          one true = tt
          one false = record { value = Null; vars = refl; set = refl }
      written op.ExcClear = record { value = Null; vars = refl; set = refl }
      written other = does_sets core p args other refl

      now : (next : Core) → Sets (set_by o) core next → LiveSet ops e next.vars
      now next s v l = ap (λ vs. is_unset (read vs v)) s.vars ∙ set_behind o ops e core.vars s.value within h s.set v l

      after : (a : After) → AfterSets (set_by o) core a → AfterSlots a → NextSet (goes_on (At ops e frames) a)
      after (Onward next) s k = (now next s, waits, k)
      after (PutsByte byte next) s k = (now next s, waits, k)
      after (Told event next) s k = (now next s, waits, k)
      after (Over outcome next) s k = tt
      after (Stuck reason) s k = tt

  -- what waits for a call
  waits_set : (o : LlOp) (into : Option ℕ) (ops : List LlOp) (e : LlExit) (core : Core) → set_by o ≡ into → PlacedAt p core.function core.block core.at (o ∷ ops) e → LiveSet (o ∷ ops) e core.vars → FrameSet (waiting core into ops e)
  waits_set o into ops e core is place h = record {
    stands = λ v l s. h v (or_right (among v (reads o)) _ (both (not (sets (set_by o) v)) (live ops e v) (is_not (sets (set_by o) v) (ap (λ s. sets s v) is ∙ s)) l));
    handlers = λ none v l.
        sym (ap (λ s. sets s v) is)
        ∙ ordered.handlers core.function core.block place.block place.of core.at o (place.left ∙ ap (λ l. o ∷ l) none) v (ap (λ e. handler_variable e v) place.end ∙ l);
  }

  called_as_set : (result : Option CType) (params : List CType) (f : ℕ) (values : List Value) (frames : List Frame) (core : Core) (o : Option LlGraph) → any_unset values ≡ false → FramesSet frames → SlotsSet core → NextSet (called_as result params f values frames core o)
  called_as_set result params f values frames core None h waits slots = tt
  called_as_set result params f values frames core (Some graph) h waits slots = either (same_result (c_result graph.result) result && same_types (param_types graph) params) (Goes (Calling f values frames core)) (Sticks Signature) (λ e. (h, waits, slots)) (λ e. tt)

  called_value_set : (result : Option CType) (params : List CType) (o : Option ℕ) (values : List Value) (frames : List Frame) (core : Core) → any_unset values ≡ false → FramesSet frames → SlotsSet core → NextSet (called_value p result params o values frames core)
  called_value_set result params None values frames core h waits slots = tt
  called_value_set result params (Some f) values frames core h waits slots = called_as_set result params f values frames core (slice_get p.graphs f) h waits slots

  module _ (graph : LlGraph) (frames : List Frame) (core : Core) (of : slice_get p.graphs core.function ≡ Some graph) (size : length core.vars ≡ length graph.types) (waits : FramesSet frames) (slots : SlotsSet core) where
    operates_set : (o : LlOp) (ops : List LlOp) (e : LlExit) → ((a : ℕ) → set_by o ≡ Some a → a < length core.vars) → exit_ok p graph e ≡ true → PlacedAt p core.function core.block core.at (o ∷ ops) e → LiveSet (o ∷ ops) e core.vars → NextSet (operates p args o ops e frames core)
    operates_set (op.Call into f xs) ops e within typed place h =
        either (any_unset (operands core.vars xs)) (Sticks IsUnset) _ (λ e. tt) (λ g. (g, (waits_set (op.Call into f xs) into ops e core refl place h, waits), slots))
    operates_set (op.CallFn into result params b xs) ops e within typed place h =
        either (is_unset (read core.vars b) || any_unset (operands core.vars xs)) (Sticks IsUnset) _ (λ e. tt)
        (λ g. called_value_set (c_result result) (map c_type params) (fun_of (read core.vars b)) (operands core.vars xs) (waiting core into ops e ∷ frames) core (neither_right (is_unset (read core.vars b)) _ g) (waits_set (op.CallFn into result params b xs) into ops e core refl place h, waits) slots)
    operates_set (op.Raise a) ops e within typed place h = given_set (read core.vars a) (λ value. caught p value ops e frames core) (λ g. caught_set graph (read core.vars a) frames core of size g waits slots ops e typed)
    operates_set (op.Set a x) ops e within typed place h = does_set (op.Set a x) ops e frames core within h waits slots
    operates_set (op.Unary a o x) ops e within typed place h = does_set (op.Unary a o x) ops e frames core within h waits slots
    operates_set (op.Binary a o x y) ops e within typed place h = does_set (op.Binary a o x y) ops e frames core within h waits slots
    operates_set (op.GetField a n b k) ops e within typed place h = does_set (op.GetField a n b k) ops e frames core within h waits slots
    operates_set (op.SetField n b k x) ops e within typed place h = does_set (op.SetField n b k x) ops e frames core within h waits slots
    operates_set (op.GetItem a n b i) ops e within typed place h = does_set (op.GetItem a n b i) ops e frames core within h waits slots
    operates_set (op.SetItem n b i x) ops e within typed place h = does_set (op.SetItem n b i x) ops e frames core within h waits slots
    operates_set (op.New a m n) ops e within typed place h = does_set (op.New a m n) ops e frames core within h waits slots
    operates_set (op.NewArray a m n x) ops e within typed place h = does_set (op.NewArray a m n x) ops e frames core within h waits slots
    operates_set (op.Free a) ops e within typed place h = does_set (op.Free a) ops e frames core within h waits slots
    operates_set (op.Step x) ops e within typed place h = does_set (op.Step x) ops e frames core within h waits slots
    operates_set (op.ExcType a n) ops e within typed place h = does_set (op.ExcType a n) ops e frames core within h waits slots
    operates_set (op.ExcValue a n) ops e within typed place h = does_set (op.ExcValue a n) ops e frames core within h waits slots
    operates_set (op.ExcSet a b) ops e within typed place h = does_set (op.ExcSet a b) ops e frames core within h waits slots
    operates_set op.ExcClear ops e within typed place h = does_set op.ExcClear ops e frames core within h waits slots
    operates_set (op.Argc a) ops e within typed place h = does_set (op.Argc a) ops e frames core within h waits slots
    operates_set (op.ArgLen a x) ops e within typed place h = does_set (op.ArgLen a x) ops e frames core within h waits slots
    operates_set (op.Arg a x y) ops e within typed place h = does_set (op.Arg a x y) ops e frames core within h waits slots
    operates_set (op.Put x) ops e within typed place h = does_set (op.Put x) ops e frames core within h waits slots

  -- ---- calls that begin and come back

  good_graph : (f : ℕ) (graph : LlGraph) → slice_get p.graphs f ≡ Some graph → graph_ok p graph ≡ true
  good_graph f graph of = graph_typed p p.graphs f graph (and_right _ _ (and_left _ _ ok)) of

  enters_set : (f : ℕ) (values : List Value) (frames : List Frame) (core : Core) (graph : LlGraph) → slice_get p.graphs f ≡ Some graph → length values ≡ length graph.params → any_unset values ≡ false → FramesSet frames → SlotsSet core → (o : Option LlBlock) → slice_get graph.blocks 0 ≡ o → NextSet (enters f values frames core graph o)
  enters_set f values frames core graph of count h waits slots None e = tt
  enters_set f values frames core graph of count h waits slots (Some block) e = (
    (λ v l.
        let is : among v graph.params ≡ true = ordered.first f graph of block e v (ordered.reads f graph of 0 block e v l) in
        let lt : v < 0 + length graph.params = params_within p graph.types 0 graph.params (and_right _ _ (and_left _ _ (and_left _ _ (good_graph f graph of)))) v is in
        let few : v < length values = omega (arith, lt, count) in
        ap is_unset (front_at values _ v Unset few) ∙ value_set values v h few),
    waits,
    slots,
  )

  returned_set : (value : Value) (frame : Frame) (frames : List Frame) (core : Core) → ((a : ℕ) → frame.into ≡ Some a → a < length frame.vars) → IsSet value ⊎ (frame.into ≡ None) → FrameSet frame → FramesSet frames → SlotsSet core → NextSet (returned value (frame ∷ frames) core)
  returned_set value frame frames core within is w waits slots = (λ v l. one frame.into refl v l, waits, slots)
    where
      one : (s : Option ℕ) → frame.into ≡ s → (v : ℕ) → live frame.ops frame.exit v ≡ true → IsSet (read (taken_by frame.vars s value) v)
      one None e v l = w.stands v l (ap (λ s. sets s v) e)
      one (Some a) e v l = two (known (a == v))
        where
          taken : IsSet value ⊎ (frame.into ≡ None) → IsSet value
          taken (inl h) = h
          taken (inr h) = absurd (let k : Some a ≡ None = sym e ∙ h in cc)

          two : (a == v) ≡ true ⊎ (a == v) ≡ false → IsSet (read (slice_set frame.vars a value) v)
          two (inl t) = subst (λ v. IsSet (read (slice_set frame.vars a value) v)) (is_same a v t) (ap is_unset (set_here frame.vars a value Unset (within a e)) ∙ taken is)
          two (inr t) = ap is_unset (set_elsewhere frame.vars a v value Unset (differ a v t)) ∙ w.stands v l (ap (λ s. sets s v) e ∙ t)

  ended_set : (value : Value) (core : Core) → NextSet (returned value [] core)
  ended_set value core = one (word_of value)
    where
      one : (o : Option ℤ) → NextSet (goes_on (Returning value []) (st.on (λ n. Over (Returned n) (record core { vars = [] })) o))
      one None = tt
      one (Some n) = tt

  -- ---- steps

  pub step_set : (s : State) → StateFits p s → IsPlaced p s → StateSet s → NextSet (step p args s)
  step_set (Calling f values frames core) (graph, fit) place (h, waits, slots) = subst (λ o. NextSet (entered f values frames core o)) (sym fit.of) (enters_set f values frames core graph fit.of fit.count h waits slots (slice_get graph.blocks 0) refl)
  step_set (At [] e frames core) (graph, fit) place (h, waits, slots) = leaves_set graph frames core fit.of fit.fits.vars.count fit.waiting waits slots e fit.end
  step_set (At (o ∷ ops) e frames core) (graph, fit) (at, behind) (h, waits, slots) =
      operates_set graph frames core fit.of fit.fits.vars.count waits slots o ops e (λ a s. let lt : a < length graph.types = set_within p graph.types o (and_left _ _ fit.left) a s in let n : length core.vars ≡ length graph.types = fit.fits.vars.count in omega (arith, lt, n)) fit.end at h
  step_set (Returning value [] core) fit place (h, waits, slots) = ended_set value core
  step_set (Returning value (frame ∷ frames) core) (t, fit) place (h, (w, waits), slots) =
      let graph = fit.waiting.0 in
      let waiting = fit.waiting.1 in
      returned_set value frame frames core (λ a s. let lt : a < length graph.types = result_within p graph.types frame.into t a s waiting.into in let n : length frame.vars ≡ length graph.types = waiting.vars.count in omega (arith, lt, n)) h w waits slots
  step_set (Throwing value [] core) fit place (h, waits, slots) = tt
  step_set (Throwing value (frame ∷ frames) core) (t, fit) place (h, (w, waits), slots) =
      let graph = fit.waiting.0 in
      let waiting = fit.waiting.1 in
      caught_set graph value frames (resumed frame core) waiting.of waiting.vars.count h waits slots frame.ops frame.exit waiting.exit

pub start_set : (p : LlProgram) (steps : ℕ) → StateSet (start p steps)
start_set p steps = (refl, tt, (refl, refl))
