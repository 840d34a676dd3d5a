-- Where the program passes the test of classes, what is raised has a class if it is no NULL.
use Rattle.std.proofs.Common.{◌≡◌, ◌<◌, ℕ, zero, suc, Bool, true, false, ◌&&◌, ◌||◌, ◌==◌, List, [], ◌∷◌, ◌++◌, length, map, Option, Some, None, Result, Ok, Err, refl, sym, ap, ◌∙◌, subst, ℤ, inl}
use Rattle.std.specs.Prelude.{slice_get, slice_set, cond}
use Rattle.rpy_base.specs.declared.outcome.Outcome.TheVariants.{Returned}
use Rattle.csub_tree.specs.State.{Value, Unset, Null, Ptr, Static, Block, Core, After, Onward, Puts as PutsByte, Told, Over, Stuck, Event}
use Rattle.csub_tree.specs.Layout.{shape_at, place, static_block}
use Rattle.csub_tree.specs.Operation.{is_unset, word_of, flag_of, unary_of, binary_of}
use Rattle.csub_tree.specs.Statement as st
use Rattle.csub_tree.specs.Statement.{read, operand, operands, any_unset, reached, on_block, block_at, fun_of, same_result, same_types, fail_name_of}
use Rattle.csub_tree.specs.declared.stuck.StuckReason.{StuckReason}
use Rattle.csub_tree.specs.declared.stuck.StuckReason.TheVariants.{Unset as IsUnset, Signature}
use Rattle.csub_tree.specs.declared.tree.CStatic.{CStatic}
use Rattle.csub_tree.specs.declared.tree.CType.{CType}
use Rattle.csub_tree.specs.declared.tree.CType.TheVariants as c
use Rattle.csub_tree.specs.declared.tree.COperand.{COperand}
use Rattle.ll_code.specs.State.{Frame, State, Calling, At, Returning, Throwing, Next, Goes, Puts, Tells, Ends, Sticks}
use Rattle.ll_code.specs.Machine.{does, goes_on, shapes_of, block_in, begins, jump, branch, caught, waiting, resumed, called_as, called_value, enters, entered, returned, given, operates, type_in, leaves, step, start, param_types, c_result, c_type}
use Rattle.ll_code.specs.Meaning.{Ran, Ended, Unfinished, run, follow}
use Rattle.ll_code.specs.Typed.{IsWellTyped, has_type, given_takes, field_of, operation_ok, structs_ok, is_counted}
use Rattle.ll_code.specs.declared.program.LlStage.TheVariants as stage
use Rattle.ll_code.specs.declared.program.LlType.{LlType}
use Rattle.ll_code.specs.declared.program.LlType.TheVariants as type
use Rattle.ll_code.specs.declared.program.LlLink.{LlLink}
use Rattle.ll_code.specs.declared.program.LlOp.{LlOp}
use Rattle.ll_code.specs.declared.program.LlOp.TheVariants as op
use Rattle.ll_code.specs.declared.program.LlExit.{LlExit}
use Rattle.ll_code.specs.declared.program.LlExit.TheVariants as exit
use Rattle.ll_code.specs.declared.program.LlBlock.{LlBlock}
use Rattle.ll_code.specs.declared.program.LlGraph.{LlGraph}
use Rattle.ll_code.specs.declared.program.LlProgram.{LlProgram}
use Rattle.ll_laws.specs.Fits.{Fits, CoreFits}
use Rattle.ll_laws.specs.States.{StateFits, NextFits, RanFits}
use Rattle.ll_laws.proofs.Values.{and_left, and_right, has_type_is}
use Rattle.ll_laws.proofs.Steps.{step_fits}
use Rattle.ll_laws.proofs.Runs.{start_fits, whole_run_fits}
use Rattle.ll_held.specs.Places.{PlacedAt, IsPlaced}
use Rattle.ll_held.proofs.Placing.{NextPlaced, step_placed, start_placed, whole_run_placed}
use Rattle.ll_points.specs.Points.{Leads}
use Rattle.exc_laws.specs.Ready.{exceptions_of, is_pointer, uses_slots, raised_next}
use Rattle.exc_laws.specs.Stands.{needs}
use Rattle.exc_laws.proofs.Lives.{reads_needed}
use Rattle.exc_laws.proofs.Tests.{equals, or_first}
use Rattle.exc_laws.proofs.Waiting.{sets_within}
use Rattle.exc_ready.specs.Raisable.{root_of, is_exception, ops_raisable, exit_raises_alike, IsRaisable}
use Rattle.exc_ready.specs.Along.{EachState, NamesClass, HasClass, RaisesClassed}
use Rattle.exc_ready.specs.Classes.{is_exception_struct, names_class, op_names, ops_name, blocks_name, graphs_name, static_names, statics_name, names_classes_by, names_classes, RaisesSome}
use Rattle.exc_ready.proofs.Passes.{is_not, ops_pass, exit_passes, slots_alone}
use Rattle.exc_ready.proofs.Placed.{placed_holds}
use Rattle.exc_ready.proofs.Filled.{state_filled}
use Rattle.exc_ready.proofs.Leading.{state_raised_leads}
use Rattle.exc_ready.proofs.Naming.{implied, Named, StaticsNamed, AllNamed, AlmostNamed, certain, AfterNamed, choice, on_option, found_named, reached_named, set_named, answered_named, item_named, pay_named, in_range_named, put_named, put_item_named, made_named, items_named, field_named}

module _ (p : LlProgram) (kind : ℕ) (ok : IsWellTyped p) (raw : p.stage ≡ stage.Raw) (passes : IsRaisable p) (first : field_of (slice_get p.structs (root_of p)) 0 ≡ Some (type.Ptr kind)) (graphs : graphs_name p kind p.graphs ≡ true) (args : List (List ℕ)) where
  structs : structs_ok p.structs 0 p.structs ≡ true
  structs = and_left _ _ (and_left _ _ (and_left _ _ ok))

  -- ---- the test

  graph_names : (gs : List LlGraph) → graphs_name p kind gs ≡ true → (f : ℕ) (g : LlGraph) → slice_get gs f ≡ Some g → blocks_name p kind g.blocks ≡ true
  graph_names [] h f g e = absurd (cc)
  graph_names (x ∷ gs) h zero g e = let s : x ≡ g = cc in subst (λ (g : LlGraph). blocks_name p kind g.blocks ≡ true) s (and_left _ _ h)
  graph_names (x ∷ gs) h (suc f) g e = graph_names gs (and_right (blocks_name p kind x.blocks) _ h) f g e

  block_names : (blocks : List LlBlock) → blocks_name p kind blocks ≡ true → (n : ℕ) (b : LlBlock) → slice_get blocks n ≡ Some b → ops_name p kind b.ops ≡ true
  block_names [] h n b e = absurd (cc)
  block_names (x ∷ blocks) h zero b e = let s : x ≡ b = cc in subst (λ (b : LlBlock). ops_name p kind b.ops ≡ true) s (and_left _ _ h)
  block_names (x ∷ blocks) h (suc n) b e = block_names blocks (and_right (ops_name p kind x.ops) _ h) n b e

  placed_names : (f n place : ℕ) (ops : List LlOp) (e : LlExit) → PlacedAt p f n place ops e → ops_name p kind ops ≡ true
  placed_names f n place ops e h =
      placed_holds p (λ ops e. ops_name p kind ops ≡ true) (λ e o ops k. and_right (op_names p kind o ops) _ k) f n place ops e (λ g block of at. block_names g.blocks (graph_names p.graphs graphs f g of) n block at) h

  -- ---- operations

  there : (types : List LlType) (o : Option LlType) (x : COperand) → given_takes p types o x ≡ true → (t : LlType) × (o ≡ Some t)
  there types None x h = absurd (cc)
  there types (Some t) x h = (t, refl)

  module _ (types : List LlType) (core : Core) (fits : CoreFits p types core) (ops : List LlOp) where
    does_named : (o : LlOp) → operation_ok p types o ≡ true → op_names p kind o ops ≡ true → uses_slots o ≡ false → AlmostNamed p kind (o ∷ ops) core → AfterNamed p kind ops (does p args core o)
    does_named (op.SetField n v k x) h t s named = field_named p kind structs first types core fits n v k x ops t (there types (field_of (slice_get p.structs n) k) x (and_right _ _ h)) named
    does_named (op.New a cast n) h t s named =
        made_named p kind ops core (certain p kind (op.New a cast n ∷ ops) core (λ b e. cc) named) a n 0 (subst (λ m. a < m) (sym fits.vars.count) (sets_within p types (op.New a cast n) h a (equals a a refl)))
        (implied (is_exception_struct p n) (names_class (root_of p) a ops) t)
    does_named (op.NewArray a cast n x) h t s named =
        on_option p kind ops _ (λ i. items_named p kind ops core (certain p kind (op.NewArray a cast n x ∷ ops) core (λ b e. cc) named) a n i (subst (λ m. a < m) (sym fits.vars.count) (sets_within p types (op.NewArray a cast n x) h a (equals a a refl))) (is_not (is_exception_struct p n) t))
        (word_of (operand core.vars x))
    does_named (op.SetItem n b i x) h t s named =
        choice p kind ops (is_unset (operand core.vars x)) (Stuck IsUnset) _ tt
        (on_option p kind ops _ (λ j. reached_named p kind ops core n (read core.vars b) (λ block. st.put_item core (read core.vars b) block j (operand core.vars x))
        (λ block e begins. put_item_named p kind ops core (certain p kind (op.SetItem n b i x ∷ ops) core (λ b e. cc) named) (read core.vars b) block j (operand core.vars x) e)) (word_of (operand core.vars i)))
    does_named (op.Set a x) h t s named = set_named p kind ops core (certain p kind (op.Set a x ∷ ops) core (λ b e. cc) named) a (operand core.vars x)
    does_named (op.Unary a o x) h t s named = answered_named p kind ops core (certain p kind (op.Unary a o x ∷ ops) core (λ b e. cc) named) a (unary_of o (operand core.vars x))
    does_named (op.Binary a o x y) h t s named = answered_named p kind ops core (certain p kind (op.Binary a o x y ∷ ops) core (λ b e. cc) named) a (binary_of o (operand core.vars x) (operand core.vars y))
    does_named (op.GetField a n b k) h t s named =
        found_named p kind ops _ (λ block. set_named p kind ops core (certain p kind (op.GetField a n b k ∷ ops) core (λ b e. cc) named) a (read block.fields (place (shape_at (shapes_of p.structs) n) k))) (reached core (shapes_of p.structs) n (read core.vars b))
    does_named (op.GetItem a n b i) h t s named =
        on_option p kind ops _ (λ j. found_named p kind ops _ (λ block. item_named p kind ops core (certain p kind (op.GetItem a n b i ∷ ops) core (λ b e. cc) named) a block.items j) (reached core (shapes_of p.structs) n (read core.vars b))) (word_of (operand core.vars i))
    does_named (op.Free a) h t s named = absurd (let f : true ≡ false = sym (and_left (is_counted p.stage) _ h) ∙ ap is_counted raw in cc)
    does_named (op.Step x) h t s named = on_option p kind ops _ (pay_named p kind ops core (certain p kind (op.Step x ∷ ops) core (λ b e. cc) named)) (word_of (operand core.vars x))
    does_named (op.ExcType a n) h t s named = absurd (cc)
    does_named (op.ExcValue a n) h t s named = absurd (cc)
    does_named (op.ExcSet a b) h t s named = absurd (cc)
    does_named op.ExcClear h t s named = absurd (cc)
    does_named (op.Argc a) h t s named = let all : AllNamed p kind core = certain p kind (op.Argc a ∷ ops) core (λ b e. cc) named in (λ b other e. inl (all.0 b other e), all.1)
    does_named (op.ArgLen a x) h t s named = on_option p kind ops _ (λ i. in_range_named p kind ops core (certain p kind (op.ArgLen a x ∷ ops) core (λ b e. cc) named) a _) (word_of (operand core.vars x))
    does_named (op.Arg a x y) h t s named =
        on_option p kind ops _ (λ i. on_option p kind ops _ (λ j. in_range_named p kind ops core (certain p kind (op.Arg a x y ∷ ops) core (λ b e. cc) named) a _) (word_of (operand core.vars y))) (word_of (operand core.vars x))
    does_named (op.Put x) h t s named = on_option p kind ops _ (put_named p kind ops core (certain p kind (op.Put x ∷ ops) core (λ b e. cc) named)) (word_of (operand core.vars x))
    does_named (op.Call into f xs) h t s named = tt
    does_named (op.CallFn into result params b xs) h t s named = tt
    does_named (op.Raise a) h t s named = tt

  -- ---- states

  abbrev StateNamed : State → Type 0
  StateNamed (Calling f values frames core) = AllNamed p kind core
  StateNamed (At ops e frames core) = AlmostNamed p kind ops core
  StateNamed (Returning value frames core) = AllNamed p kind core
  StateNamed (Throwing value frames core) = AllNamed p kind core

  abbrev NextNamed : Next → Type 0
  NextNamed (Goes s) = StateNamed s
  NextNamed (Puts byte s) = StateNamed s
  NextNamed (Tells event s) = StateNamed s
  NextNamed (Ends outcome core) = Unit {0}
  NextNamed (Sticks reason) = Unit {0}

  either : (b : Bool) (x y : Next) → NextNamed x → NextNamed y → NextNamed (cond b x y)
  either true x y h k = h
  either false x y h k = k

  goes : (ops : List LlOp) (e : LlExit) (frames : List Frame) (after : After) → AfterNamed p kind ops after → NextNamed (goes_on (At ops e frames) after)
  goes ops e frames (Onward next) m = m
  goes ops e frames (PutsByte byte next) m = m
  goes ops e frames (Told event next) m = m
  goes ops e frames (Over outcome next) m = tt
  goes ops e frames (Stuck reason) m = tt

  begun : (frames : List Frame) (core : Core) (to : ℕ) (values : List Value) (o : Option LlBlock) → AllNamed p kind core → NextNamed (begins frames core to values o)
  begun frames core to values None w = tt
  begun frames core to values (Some block) w = (λ b other e. inl (w.0 b other e), w.1)

  jumped : (frames : List Frame) (core : Core) (link : LlLink) → AllNamed p kind core → NextNamed (jump p frames core link)
  jumped frames core link w =
      either (any_unset (operands core.vars link.args)) (Sticks IsUnset) (begins frames core link.to (operands core.vars link.args) (block_in (slice_get p.graphs core.function) link.to)) tt
      (begun frames core link.to (operands core.vars link.args) (block_in (slice_get p.graphs core.function) link.to) w)

  branched : (frames : List Frame) (core : Core) (there elsewhere : LlLink) (o : Option Bool) → AllNamed p kind core → NextNamed (branch p frames core there elsewhere o)
  branched frames core there elsewhere None w = tt
  branched frames core there elsewhere (Some true) w = jumped frames core there w
  branched frames core there elsewhere (Some false) w = jumped frames core elsewhere w

  caught_named : (value : Value) (ops : List LlOp) (e : LlExit) (frames : List Frame) (core : Core) → AllNamed p kind core → NextNamed (caught p value ops e frames core)
  caught_named value (o ∷ ops) e frames core w = w
  caught_named value [] (exit.OnRaise a (Some link) without) frames core w = jumped frames (record core { vars = slice_set core.vars a value }) link w
  caught_named value [] (exit.OnRaise a None without) frames core w = w
  caught_named value [] other frames core w = w

  given_named : (value : Value) (go : Value → Next) → NextNamed (go value) → NextNamed (given value go)
  given_named value go h = either (is_unset value) (Sticks IsUnset) (go value) tt h

  calls_as : (result : Option CType) (params : List CType) (f : ℕ) (values : List Value) (frames : List Frame) (core : Core) (o : Option LlGraph) → AllNamed p kind core → NextNamed (called_as result params f values frames core o)
  calls_as result params f values frames core None w = tt
  calls_as result params f values frames core (Some graph) w = either (same_result (c_result graph.result) result && same_types (param_types graph) params) (Goes (Calling f values frames core)) (Sticks Signature) w tt

  calls_value : (result : Option CType) (params : List CType) (o : Option ℕ) (values : List Value) (frames : List Frame) (core : Core) → AllNamed p kind core → NextNamed (called_value p result params o values frames core)
  calls_value result params None values frames core w = tt
  calls_value result params (Some f) values frames core w = calls_as result params f values frames core (slice_get p.graphs f) w

  entered_named : (f : ℕ) (values : List Value) (frames : List Frame) (core : Core) (o : Option LlGraph) → AllNamed p kind core → NextNamed (entered f values frames core o)
  entered_named f values frames core None w = tt
  entered_named f values frames core (Some graph) w = one (slice_get graph.blocks 0)
    where
      one : (b : Option LlBlock) → NextNamed (enters f values frames core graph b)
      one None = tt
      one (Some block) = (λ b other e. inl (w.0 b other e), w.1)

  operates_named : (o : LlOp) (ops : List LlOp) (e : LlExit) (frames : List Frame) (core : Core) (types : List LlType) → CoreFits p types core → operation_ok p types o ≡ true → op_names p kind o ops ≡ true → uses_slots o ≡ false
      → AlmostNamed p kind (o ∷ ops) core → NextNamed (operates p args o ops e frames core)
  operates_named (op.Call into f xs) ops e frames core types fits h t s w =
      either (any_unset (operands core.vars xs)) (Sticks IsUnset) (Goes (Calling f (operands core.vars xs) (waiting core into ops e ∷ frames) core)) tt (certain p kind (op.Call into f xs ∷ ops) core (λ b e. cc) w)
  operates_named (op.CallFn into result params b xs) ops e frames core types fits h t s w =
      either (is_unset (read core.vars b) || any_unset (operands core.vars xs)) (Sticks IsUnset)
      (called_value p (c_result result) (map c_type params) (fun_of (read core.vars b)) (operands core.vars xs) (waiting core into ops e ∷ frames) core) tt
      (calls_value (c_result result) (map c_type params) (fun_of (read core.vars b)) (operands core.vars xs) (waiting core into ops e ∷ frames) core (certain p kind (op.CallFn into result params b xs ∷ ops) core (λ b e. cc) w))
  operates_named (op.Raise a) ops e frames core types fits h t s w =
      given_named (read core.vars a) (λ value. caught p value ops e frames core) (caught_named (read core.vars a) ops e frames core (certain p kind (op.Raise a ∷ ops) core (λ b e. cc) w))
  operates_named other ops e frames core types fits h t s w = goes ops e frames (does p args core other) (does_named types core fits ops other h t s w)

  leaves_named : (e : LlExit) (frames : List Frame) (core : Core) → AllNamed p kind core → NextNamed (leaves p e frames core)
  leaves_named (exit.Goto link) frames core w = jumped frames core link w
  leaves_named (exit.If a there elsewhere) frames core w = branched frames core there elsewhere (flag_of (read core.vars a)) w
  leaves_named (exit.OnRaise a by without) frames core w = jumped frames core without w
  leaves_named (exit.Return None) frames core w = w
  leaves_named (exit.Return (Some x)) frames core w = given_named (operand core.vars x) (λ value. Goes (Returning value frames core)) w
  leaves_named (exit.Raise a) frames core w = given_named (read core.vars a) (λ value. Goes (Throwing value frames core)) w
  leaves_named (exit.Fail number) frames core w = one (fail_name_of number)
    where
      one : (o : Option _) → NextNamed (goes_on (At [] (exit.Fail number) frames) (st.fail core o))
      one None = tt
      one (Some name) = tt
  leaves_named (exit.Raised a) frames core w = by (type_in (slice_get p.graphs core.function) a)
    where
      named : (o : Option (List ℕ)) → NextNamed (goes_on (At [] (exit.Raised a) frames) (st.raised_as core o))
      named None = tt
      named (Some name) = tt

      found : (r : Result Block StuckReason) → NextNamed (goes_on (At [] (exit.Raised a) frames) (on_block (λ block. st.raised_as core (st.bytes_of block.items)) r))
      found (Ok block) = named (st.bytes_of block.items)
      found (Err reason) = tt

      by : (o : Option CType) → NextNamed (goes_on (At [] (exit.Raised a) frames) (st.raised core (shapes_of p.structs) o (read core.vars a)))
      by (Some (c.Ptr n)) = found (reached core (shapes_of p.structs) n (read core.vars a))
      by other = tt

  ended_named : (value : Value) (core : Core) → NextNamed (returned value [] core)
  ended_named value core = one (word_of value)
    where
      one : (o : Option ℤ) → NextNamed (goes_on (Returning value []) (st.on (λ n. Over (Returned n) (record core { vars = [] })) o))
      one None = tt
      one (Some n) = tt

  step_named : (s : State) → StateFits p s → IsPlaced p s → StateNamed s → NextNamed (step p args s)
  step_named (Calling f values frames core) fit place w = entered_named f values frames core (slice_get p.graphs f) w
  step_named (At [] e frames core) fit place w = leaves_named e frames core (certain p kind [] core (λ b e. cc) w)
  step_named (At (o ∷ ops) e frames core) (g, fit) place w =
      operates_named o ops e frames core g.types fit.fits (and_left _ _ fit.left) (and_left (op_names p kind o ops) (ops_name p kind ops) (placed_names core.function core.block core.at (o ∷ ops) e place.0))
      (slots_alone p passes (root_of p) g.types (o ∷ ops) e (ops_pass p passes core.function core.block core.at (o ∷ ops) e place.0 g fit.of)) w
  step_named (Returning value [] core) fit place w = ended_named value core
  step_named (Returning value (frame ∷ frames) core) fit place w = (λ b other e. inl (w.0 b other e), w.1)
  step_named (Throwing value [] core) fit place w = tt
  step_named (Throwing value (frame ∷ frames) core) fit place w = caught_named value frame.ops frame.exit frames (resumed frame core) w

  -- ---- runs

  abbrev RanNamed : Ran → Type 0
  RanNamed (Unfinished s text events) = StateNamed s
  RanNamed (Ended ending left text events) = Unit {0}

  on_next : (k : ℕ) → ((s : State) (text : List ℕ) (events : List Event) → StateFits p s → IsPlaced p s → StateNamed s → RanNamed (run p args k s text events)) → (text : List ℕ) (events : List Event) (next : Next)
      → NextFits p next → NextPlaced p next → NextNamed next → RanNamed (follow (run p args k) text events next)
  on_next k go text events (Goes s) f h w = go s text events f h w
  on_next k go text events (Puts byte s) f h w = go s (text ++ byte ∷ []) events f h w
  on_next k go text events (Tells event s) f h w = go s text (events ++ event ∷ []) f h w
  on_next k go text events (Ends outcome core) f h w = tt
  on_next k go text events (Sticks reason) f h w = tt

  run_named : (k : ℕ) (s : State) (text : List ℕ) (events : List Event) → StateFits p s → IsPlaced p s → StateNamed s → RanNamed (run p args k s text events)
  unfolding run
  run_named zero s text events f h w = w
  run_named (suc k) s text events f h w = on_next k (run_named k) text events (step p args s) (step_fits p ok args s f) (step_placed p args s h) (step_named s f h w)

  -- ---- the start

  first_statics : (statics : List CStatic) → statics_name p statics ≡ true → StaticsNamed p kind (map (static_block (shapes_of p.structs)) statics)
  first_statics [] h g block e = absurd (cc)
  first_statics (x ∷ statics) h zero block e = let s : static_block (shapes_of p.structs) x ≡ block = cc in subst (Named p kind) s (implied (is_exception_struct p x.kind) _ (and_left _ _ h))
  first_statics (x ∷ statics) h (suc g) block e = first_statics statics (and_right (static_names p x) _ h) g block e

  state_named : statics_name p p.statics ≡ true → (steps : ℕ) → EachState StateNamed p args steps
  state_named statics steps = λ k s text events e.
      subst RanNamed e (run_named k (start p steps) [] [] (start_fits p ok steps) (start_placed p args steps) ((λ b block f. absurd (cc)), first_statics p.statics statics))

  -- ---- what is raised

  raised_named : (ops : List LlOp) (e : LlExit) (core : Core) (a : ℕ) → raised_next ops e ≡ Some a → AlmostNamed p kind ops core → AllNamed p kind core
  raised_named [] e core a is w = certain p kind [] core (λ b e. cc) w
  raised_named (op.Raise b ∷ ops) e core a is w = certain p kind (op.Raise b ∷ ops) core (λ b e. cc) w
  raised_named (other ∷ ops) e core a is w = absurd (cc)

  class_at : (core : Core) (value : Value) (block : Block) → AllNamed p kind core → Leads p core.blocks core.statics (root_of p) value → block_at core value ≡ Some block → NamesClass p (Some kind) block
  class_at core (Ptr b) block named (other, is, begins) e = named.0 b block e (let s : Some other ≡ Some block = sym is ∙ e in let same : other ≡ block = cc in subst (λ (block : Block). is_exception_struct p block.kind ≡ true) same begins)
  class_at core (Static g) block named (other, is, begins) e = named.1 g block e (let s : Some other ≡ Some block = sym is ∙ e in let same : other ≡ block = cc in subst (λ (block : Block). is_exception_struct p block.kind ≡ true) same begins)
  class_at core other block named l e = absurd (cc)

-- ---- what is raised is set, and a pointer

module _ (p : LlProgram) (ok : IsWellTyped p) (raw : p.stage ≡ stage.Raw) (passes : IsRaisable p) (args : List (List ℕ)) (steps : ℕ) (some : EachState (RaisesSome p) p args steps) where
  raised_needed : (ops : List LlOp) (e : LlExit) (a : ℕ) → raised_next ops e ≡ Some a → needs p false ops e a ≡ true
  raised_needed [] (exit.Raise b) a is = let same : b ≡ a = cc in or_first (b == a) _ (equals b a same)
  raised_needed [] other a is = absurd (cc)
  raised_needed (op.Raise b ∷ ops) e a is = let same : b ≡ a = cc in reads_needed p false (op.Raise b) ops e a (or_first (b == a) false (equals b a same))
  raised_needed (other ∷ ops) e a is = absurd (cc)

  raised_typed : (types : List LlType) (ops : List LlOp) (e : LlExit) (a : ℕ) → raised_next ops e ≡ Some a → ops_raisable (root_of p) types ops e ≡ true → exit_raises_alike (root_of p) types e ≡ true → is_exception (root_of p) types a ≡ true
  raised_typed types [] (exit.Raise b) a is h k = let same : b ≡ a = cc in subst (λ a. is_exception (root_of p) types a ≡ true) same k
  raised_typed types [] other a is h k = absurd (cc)
  raised_typed types (op.Raise b ∷ ops) e a is h k = let same : b ≡ a = cc in subst (λ a. is_exception (root_of p) types a ≡ true) same (and_left _ _ (and_left _ _ (and_left _ _ h)))
  raised_typed types (other ∷ ops) e a is h k = absurd (cc)

  points : (made n : ℕ) (value : Value) → Fits p made (type.Ptr n) value → is_unset value ≡ false → (value ≡ Null → ⊥) → is_pointer value ≡ true
  points made n Unset f u h = absurd (cc)
  points made n Null f u h = absurd (h refl)
  points made n (Ptr b) f u h = refl
  points made n (Static g) f u h = refl
  points made n other f u h = absurd f

  raised_points : (k : ℕ) (ops : List LlOp) (e : LlExit) (frames : List Frame) (core : Core) (text : List ℕ) (events : List Event) → run p args k (start p steps) [] [] ≡ Unfinished (At ops e frames core) text events
      → (a : ℕ) → raised_next ops e ≡ Some a → is_pointer (read core.vars a) ≡ true
  raised_points k ops e frames core text events i a is = by (subst (RanFits p) i (whole_run_fits p ok args steps k))
    where
      place : IsPlaced p (At ops e frames core)
      place = whole_run_placed p args steps k (At ops e frames core) text events i

      by : StateFits p (At ops e frames core) → is_pointer (read core.vars a) ≡ true
      by (g, fit) =
          points (length core.blocks) (root_of p) (read core.vars a)
          (fit.fits.vars.at a (type.Ptr (root_of p)) (has_type_is (type.Ptr (root_of p)) (slice_get g.types a)
          (raised_typed g.types ops e a is (ops_pass p passes core.function core.block core.at ops e place.0 g fit.of) (exit_passes p passes core.function core.block core.at ops e place.0 g fit.of))))
          ((state_filled p ok passes args steps k (At ops e frames core) text events i).0 a (raised_needed ops e a is)) (some k (At ops e frames core) text events i a is)

  has_class : names_classes p ≡ true → (k : ℕ) (ops : List LlOp) (e : LlExit) (frames : List Frame) (core : Core) (text : List ℕ) (events : List Event) → run p args k (start p steps) [] [] ≡ Unfinished (At ops e frames core) text events
      → (a : ℕ) → raised_next ops e ≡ Some a → HasClass p core (read core.vars a)
  has_class names k ops e frames core text events i a is = record { there = raised_points k ops e frames core text events i a is; class = λ block f. by (exceptions_of p).kind refl block f }
    where
      by : (o : Option ℕ) → (exceptions_of p).kind ≡ o → (block : Block) → block_at core (read core.vars a) ≡ Some block → NamesClass p o block
      by None z block f = tt
      by (Some kind) z block f =
          let test : names_classes_by p (Some kind) ≡ true = ap (names_classes_by p) (sym z) ∙ names in
          let first : field_of (slice_get p.structs (root_of p)) 0 ≡ Some (type.Ptr kind) = has_type_is (type.Ptr kind) (field_of (slice_get p.structs (root_of p)) 0) (and_left _ _ (and_left _ _ test)) in
          let graphs : graphs_name p kind p.graphs ≡ true = and_right (has_type (type.Ptr kind) (field_of (slice_get p.structs (root_of p)) 0)) _ (and_left _ _ test) in
          class_at p kind ok raw passes first graphs args core (read core.vars a) block
          (raised_named p kind ok raw passes first graphs args ops e core a is (state_named p kind ok raw passes first graphs args (and_right _ _ test) steps k (At ops e frames core) text events i))
          (state_raised_leads p ok raw passes args steps k (At ops e frames core) text events i a is) f

  pub classed : names_classes p ≡ true → EachState (RaisesClassed p) p args steps
  classed names = λ k s text events e. by k s text events e
    where
      by : (k : ℕ) (s : State) (text : List ℕ) (events : List Event) → run p args k (start p steps) [] [] ≡ Unfinished s text events → RaisesClassed p s
      by k (Calling f values frames core) text events e = tt
      by k (At ops exit frames core) text events e = λ a is. has_class names k ops exit frames core text events e a is
      by k (Returning value frames core) text events e = tt
      by k (Throwing value frames core) text events e = tt
