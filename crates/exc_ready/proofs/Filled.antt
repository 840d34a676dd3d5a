-- In each state of a run of a program that passes the test, what is live is set.
use Rattle.std.proofs.Common.{◌≡◌, ◌<◌, ℕ, zero, suc, ◌+◌, Bool, true, false, ◌&&◌, ◌||◌, ◌==◌, List, [], ◌∷◌, ◌++◌, length, map, Option, Some, None, Result, Ok, Err, refl, sym, ap, ◌∙◌, subst, ℤ, arith, ◌⊎◌, inl, inr}
use Rattle.std.specs.Prelude.{slice_get, slice_set, cond}
use Rattle.std.proofs.lemmas.Option.{slice_get_within}
use Rattle.rpy_base.specs.declared.outcome.Outcome.TheVariants.{Returned}
use Rattle.csub_tree.specs.State.{Value, Unset, Block, Core, After, Onward, Puts as PutsByte, Told, Over, Stuck, Event}
use Rattle.csub_tree.specs.Operation.{is_unset, word_of, flag_of}
use Rattle.csub_tree.specs.Statement as st
use Rattle.csub_tree.specs.Statement.{read, operand, operands, any_unset, reached, on_block, fun_of, same_result, same_types, fail_name_of, taken_by}
use Rattle.csub_tree.specs.declared.stuck.StuckReason.{StuckReason}
use Rattle.csub_tree.specs.declared.stuck.StuckReason.TheVariants.{Unset as IsUnset, Signature}
use Rattle.csub_tree.specs.declared.tree.CType.{CType}
use Rattle.csub_tree.specs.declared.tree.CType.TheVariants as c
use Rattle.csub_tree.specs.declared.tree.COperand.{COperand}
use Rattle.ll_code.specs.State.{Frame, State, Calling, At, Returning, Throwing, Next, Goes, Puts, Tells, Ends, Sticks}
use Rattle.ll_code.specs.Machine.{does, goes_on, shapes_of, block_in, set_all, begins, jump, branch, caught, waiting, resumed, called_as, called_value, enters, entered, returned, thrown, given, operates, gives_back, type_in, leaves, step, start, param_types, c_result, c_type}
use Rattle.ll_code.specs.Meaning.{Ran, Ended, Unfinished, run, follow}
use Rattle.ll_code.specs.Typed as typed
use Rattle.ll_code.specs.Typed.{IsWellTyped, given_takes, all_given, operation_ok, operations_ok, link_ok, exit_ok, result_ok, is_void, has_type, params_ok, graph_ok, graphs_ok}
use Rattle.ll_code.specs.declared.program.LlType.{LlType}
use Rattle.ll_code.specs.declared.program.LlType.TheVariants as type
use Rattle.ll_code.specs.declared.program.LlLink.{LlLink}
use Rattle.ll_code.specs.declared.program.LlOp.{LlOp}
use Rattle.ll_code.specs.declared.program.LlOp.TheVariants as op
use Rattle.ll_code.specs.declared.program.LlExit.{LlExit}
use Rattle.ll_code.specs.declared.program.LlExit.TheVariants as exit
use Rattle.ll_code.specs.declared.program.LlBlock.{LlBlock}
use Rattle.ll_code.specs.declared.program.LlGraph.{LlGraph}
use Rattle.ll_code.specs.declared.program.LlProgram.{LlProgram}
use Rattle.ll_laws.specs.States.{FramesFit, AtFits, CallingFits, LeavesFits, StateFits, NextFits}
use Rattle.ll_laws.proofs.Values.{and_left, and_right, is_same}
use Rattle.ll_laws.proofs.Operations.{set_at, length_set}
use Rattle.ll_laws.proofs.Steps.{step_fits}
use Rattle.ll_laws.proofs.Runs.{start_fits}
use Rattle.ll_live.specs.Live.{among, sets, set_by}
use Rattle.ll_held.specs.Places.{IsPlaced}
use Rattle.ll_held.proofs.Placing.{NextPlaced, step_placed, start_placed}
use Rattle.exc_transform.specs.Raising.{may_raise}
use Rattle.exc_laws.specs.Ready.{marks_of, any_of, uses_slots}
use Rattle.exc_laws.specs.Stands.{needs}
use Rattle.exc_laws.proofs.Lives.{needed_live, rest_needed, more_needed}
use Rattle.exc_laws.proofs.Jumps.{graph_at}
use Rattle.exc_laws.proofs.Waiting.{result_within, sets_within, taken_apart}
use Rattle.exc_ready.specs.Raisable.{IsRaisable, root_of}
use Rattle.exc_ready.specs.Along.{EachState}
use Rattle.exc_ready.proofs.Passes.{takes_parameters, closed, ops_pass, slots_alone}
use Rattle.exc_ready.proofs.Setting.{Sets, AfterSets, taken_sets, does_sets}

-- ---- values that are set

pub none_first : (a b : Bool) → (a || b) ≡ false → a ≡ false
none_first true b e = absurd (cc)
none_first false b e = refl

pub none_second : (a b : Bool) → (a || b) ≡ false → b ≡ false
none_second true b e = absurd (cc)
none_second false b e = e

-- a value that is set stays set
kept_set : (v : ℕ) (vars : List Value) (vs : List ℕ) (xs : List Value) → is_unset (read vars v) ≡ false → any_unset xs ≡ false → is_unset (read (set_all vars vs xs) v) ≡ false
kept_set v vars [] xs h u = h
kept_set v vars (w ∷ vs) [] h u = h
kept_set v vars (w ∷ vs) (x ∷ xs) h u = kept_set v (slice_set vars w x) vs xs (by (set_at vars w v x Unset)) (none_second (is_unset x) _ u)
  where
    by : (read (slice_set vars w x) v ≡ read vars v) ⊎ ((w ≡ v) × (read (slice_set vars w x) v ≡ x)) → is_unset (read (slice_set vars w x) v) ≡ false
    by (inl e) = ap is_unset e ∙ h
    by (inr e) = ap is_unset e.1 ∙ none_first (is_unset x) _ u

module _ (p : LlProgram) (types : List LlType) (from : List Value) (v : ℕ) where
  within : (w : ℕ) (x : COperand) (o : Option LlType) → slice_get types w ≡ o → given_takes p types o x ≡ true → w < length types
  within w x None e h = absurd (cc)
  within w x (Some t) e h = slice_get_within types w t e

  -- inputs that take their values are set
  inputs_set : (vars : List Value) (vs : List ℕ) (xs : List COperand) → length vars ≡ length types → all_given p types types vs xs ≡ true → any_unset (operands from xs) ≡ false → among v vs ≡ true
      → is_unset (read (set_all vars vs (operands from xs)) v) ≡ false
  inputs_set vars [] xs size h u k = absurd (cc)
  inputs_set vars (w ∷ vs) [] size h u k = absurd (cc)
  inputs_set vars (w ∷ vs) (x ∷ xs) size h u k =
      one (λ k. inputs_set (slice_set vars w (operand from x)) vs xs (length_set vars w (operand from x) ∙ size) (and_right _ _ h) (none_second (is_unset (operand from x)) _ u) k) (w == v) refl k
    where
      one : (among v vs ≡ true → is_unset (read (set_all (slice_set vars w (operand from x)) vs (operands from xs)) v) ≡ false) → (b : Bool) → (w == v) ≡ b → (b || among v vs) ≡ true
          → is_unset (read (set_all (slice_set vars w (operand from x)) vs (operands from xs)) v) ≡ false
      one go true e k =
          let lt : w < length types = within w x (slice_get types w) refl (and_left _ _ h) in
          let same : w ≡ v = is_same w v e in
          kept_set v (slice_set vars w (operand from x)) vs (operands from xs)
          (taken_sets vars w (operand from x) (none_first (is_unset (operand from x)) _ u) v e (omega (arith, lt, same, size))) (none_second (is_unset (operand from x)) _ u)
      one go false e k = go k

-- parameters are below their number
parameter_below : (p : LlProgram) (types : List LlType) (n : ℕ) (vs : List ℕ) → params_ok p types n vs ≡ true → (v : ℕ) → among v vs ≡ true → v < n + length vs
parameter_below p types n [] h v k = absurd (cc)
parameter_below p types n (w ∷ vs) h v k = one (parameter_below p types (n + 1) vs (and_right _ _ h) v) (w == v) refl k
  where
    one : (among v vs ≡ true → v < n + 1 + length vs) → (b : Bool) → (w == v) ≡ b → (b || among v vs) ≡ true → v < n + suc (length vs)
    one go true e k = let same : w ≡ v = is_same w v e in let first : w ≡ n = is_same w n (and_left _ _ (and_left _ _ h)) in omega (arith, same, first)
    one go false e k = omega (arith, go k)

values_set : (values rest : List Value) (v : ℕ) → any_unset values ≡ false → v < length values → is_unset (read (values ++ rest) v) ≡ false
values_set [] rest v u lt = absurd (omega (arith, lt))
values_set (x ∷ values) rest zero u lt = none_first (is_unset x) _ u
values_set (x ∷ values) rest (suc v) u lt = values_set values rest v (none_second (is_unset x) _ u) (omega (arith, lt))

-- nothing takes what is never there
void_never : (types : List LlType) (into : Option ℕ) (t : LlType) → is_void t ≡ true → result_ok types into t ≡ true → (a : ℕ) → into ≡ Some a → ⊥
void_never types None t v h a e = cc
void_never types (Some b) type.Void v h a e = one (slice_get types b) h
  where
    one : (o : Option LlType) → has_type type.Void o ≡ true → ⊥
    one None h = cc
    one (Some u) h = cc
void_never types (Some b) other v h a e = cc

module _ (p : LlProgram) where
  -- ---- states

  abbrev pub Filled : List LlOp → LlExit → List Value → Type 0
  Filled ops e vars = (v : ℕ) → needs p false ops e v ≡ true → is_unset (read vars v) ≡ false

  -- what is live behind the call that waits, but for what that sets
  abbrev FramesFilled : List Frame → Type 0
  FramesFilled [] = Unit {0}
  FramesFilled (frame ∷ frames) = ((v : ℕ) → needs p false frame.ops frame.exit v ≡ true → sets frame.into v ≡ false → is_unset (read frame.vars v) ≡ false) × FramesFilled frames

  -- who takes the value takes one that is set
  abbrev Gives : Value → List Frame → Type 0
  Gives value [] = Unit {0}
  Gives value (frame ∷ frames) = (a : ℕ) → frame.into ≡ Some a → is_unset value ≡ false

  abbrev pub StateFilled : State → Type 0
  StateFilled (Calling f values frames core) = (any_unset values ≡ false) × FramesFilled frames
  StateFilled (At ops e frames core) = Filled ops e core.vars × FramesFilled frames
  StateFilled (Returning value frames core) = Gives value frames × FramesFilled frames
  StateFilled (Throwing value frames core) = (is_unset value ≡ false) × FramesFilled frames

  abbrev NextFilled : Next → Type 0
  NextFilled (Goes s) = StateFilled s
  NextFilled (Puts byte s) = StateFilled s
  NextFilled (Tells event s) = StateFilled s
  NextFilled (Ends outcome core) = Unit {0}
  NextFilled (Sticks reason) = Unit {0}

  any_given : (value : Value) (frames : List Frame) → is_unset value ≡ false → Gives value frames
  any_given value [] h = tt
  any_given value (frame ∷ frames) h = λ a e. h

  module _ (ok : IsWellTyped p) (passes : IsRaisable p) (args : List (List ℕ)) where
    either : (b : Bool) (x y : Next) → (b ≡ true → NextFilled x) → (b ≡ false → NextFilled y) → NextFilled (cond b x y)
    either true x y h k = h refl
    either false x y h k = k refl

    goes : (ops : List LlOp) (e : LlExit) (frames : List Frame) (into : Option ℕ) (core : Core) → ((next : Core) → Sets into core next → Filled ops e next.vars) → FramesFilled frames → (after : After) → AfterSets into core after
        → NextFilled (goes_on (At ops e frames) after)
    goes ops e frames into core h w (Onward next) m = (h next m, w)
    goes ops e frames into core h w (PutsByte byte next) m = (h next m, w)
    goes ops e frames into core h w (Told event next) m = (h next m, w)
    goes ops e frames into core h w (Over outcome next) m = tt
    goes ops e frames into core h w (Stuck reason) m = tt

    -- ---- links

    module _ (g : LlGraph) (frames : List Frame) (core : Core) (of : slice_get p.graphs core.function ≡ Some g) (size : length core.vars ≡ length g.types) (w : FramesFilled frames) where
      begun : (link : LlLink) → any_unset (operands core.vars link.args) ≡ false → (o : Option LlBlock) → slice_get g.blocks link.to ≡ o → typed.enters p g.types o link.args ≡ true
          → NextFilled (begins frames core link.to (operands core.vars link.args) o)
      begun link u None e h = tt
      begun link u (Some block) e h =
          (λ v k. inputs_set p g.types core.vars v core.vars block.inputs link.args size h u (closed p passes core.function g of link.to block e v (needed_live p block.exit v block.ops k)), w)

      jumped : (link : LlLink) → link_ok p g link ≡ true → NextFilled (jump p frames core link)
      jumped link h =
          either (any_unset (operands core.vars link.args)) (Sticks IsUnset) (begins frames core link.to (operands core.vars link.args) (block_in (slice_get p.graphs core.function) link.to)) (λ u. tt)
          (λ u. subst (λ o. NextFilled (begins frames core link.to (operands core.vars link.args) (block_in o link.to))) (sym of) (begun link u (slice_get g.blocks link.to) refl h))

      branched : (there elsewhere : LlLink) (o : Option Bool) → link_ok p g there ≡ true → link_ok p g elsewhere ≡ true → NextFilled (branch p frames core there elsewhere o)
      branched there elsewhere None h k = tt
      branched there elsewhere (Some true) h k = jumped there h
      branched there elsewhere (Some false) h k = jumped elsewhere k

    given_filled : (value : Value) (go : Value → Next) → (is_unset value ≡ false → NextFilled (go value)) → NextFilled (given value go)
    given_filled value go h = either (is_unset value) (Sticks IsUnset) (go value) (λ u. tt) h

    caught_filled : (value : Value) (ops : List LlOp) (e : LlExit) (g : LlGraph) (frames : List Frame) (core : Core) → slice_get p.graphs core.function ≡ Some g → length core.vars ≡ length g.types → exit_ok p g e ≡ true
        → is_unset value ≡ false → FramesFilled frames → NextFilled (caught p value ops e frames core)
    caught_filled value (o ∷ ops) e g frames core of size h u w = (u, w)
    caught_filled value [] (exit.OnRaise a (Some link) without) g frames core of size h u w =
        jumped g frames (record core { vars = slice_set core.vars a value }) of (length_set core.vars a value ∙ size) w link (and_right _ _ (and_left _ _ h))
    caught_filled value [] (exit.OnRaise a None without) g frames core of size h u w = (u, w)
    caught_filled value [] other g frames core of size h u w = (u, w)

    -- ---- calls

    calls_as : (result : Option CType) (params : List CType) (f : ℕ) (values : List Value) (frames : List Frame) (core : Core) (o : Option LlGraph) → any_unset values ≡ false → FramesFilled frames
        → NextFilled (called_as result params f values frames core o)
    calls_as result params f values frames core None u w = tt
    calls_as result params f values frames core (Some graph) u w =
        either (same_result (c_result graph.result) result && same_types (param_types graph) params) (Goes (Calling f values frames core)) (Sticks Signature) (λ h. (u, w)) (λ h. tt)

    calls_value : (result : Option CType) (params : List CType) (o : Option ℕ) (values : List Value) (frames : List Frame) (core : Core) → any_unset values ≡ false → FramesFilled frames → NextFilled (called_value p result params o values frames core)
    calls_value result params None values frames core u w = tt
    calls_value result params (Some f) values frames core u w = calls_as result params f values frames core (slice_get p.graphs f) u w

    params_good : (f : ℕ) (g : LlGraph) → slice_get p.graphs f ≡ Some g → params_ok p g.types 0 g.params ≡ true
    params_good f g of = let good : graph_ok p g ≡ true = graph_at p p.graphs f g (and_right _ _ (and_left _ _ ok)) of in and_right _ _ (and_left _ _ (and_left _ _ good))

    entered_filled : (f : ℕ) (values : List Value) (frames : List Frame) (core : Core) (g : LlGraph) → CallingFits p f values frames core g → any_unset values ≡ false → FramesFilled frames
        → NextFilled (entered f values frames core (slice_get p.graphs f))
    entered_filled f values frames core g fit u w = subst (λ o. NextFilled (entered f values frames core o)) (sym fit.of) (one (slice_get g.blocks 0) refl)
      where
        one : (b : Option LlBlock) → slice_get g.blocks 0 ≡ b → NextFilled (enters f values frames core g b)
        one None e = tt
        one (Some block) e = (
          λ v k. values_set values _ v u
              (let lt : v < 0 + length g.params = parameter_below p g.types 0 g.params (params_good f g fit.of) v (takes_parameters p passes f g fit.of block e v (closed p passes f g fit.of 0 block e v (needed_live p block.exit v block.ops k))) in
              let count : length values ≡ length g.params = fit.count in omega (arith, lt, count)),
          w,
        )

    -- ---- a graph that runs

    module _ (frames : List Frame) (core : Core) (w : FramesFilled frames) where
      operates_filled : (o : LlOp) (ops : List LlOp) (e : LlExit) (g : LlGraph) → AtFits p (o ∷ ops) e frames core g → uses_slots o ≡ false → Filled (o ∷ ops) e core.vars → NextFilled (operates p args o ops e frames core)
      operates_filled (op.Call into f xs) ops e g fit s filled =
          either (any_unset (operands core.vars xs)) (Sticks IsUnset) (Goes (Calling f (operands core.vars xs) (waiting core into ops e ∷ frames) core)) (λ u. tt)
          (λ u. (u, (λ v k apart. filled v (rest_needed p false (op.Call into f xs) ops e v apart (more_needed p (may_raise (marks_of p) (any_of p) (op.Call into f xs)) ops e v k)), w)))
      operates_filled (op.CallFn into result params b xs) ops e g fit s filled =
          either (is_unset (read core.vars b) || any_unset (operands core.vars xs)) (Sticks IsUnset)
          (called_value p (c_result result) (map c_type params) (fun_of (read core.vars b)) (operands core.vars xs) (waiting core into ops e ∷ frames) core) (λ u. tt)
          (λ u. calls_value (c_result result) (map c_type params) (fun_of (read core.vars b)) (operands core.vars xs) (waiting core into ops e ∷ frames) core (none_second (is_unset (read core.vars b)) _ u)
          (λ v k apart. filled v (rest_needed p false (op.CallFn into result params b xs) ops e v apart (more_needed p (may_raise (marks_of p) (any_of p) (op.CallFn into result params b xs)) ops e v k)), w))
      operates_filled (op.Raise a) ops e g fit s filled =
          given_filled (read core.vars a) (λ value. caught p value ops e frames core) (λ u. caught_filled (read core.vars a) ops e g frames core fit.of fit.fits.vars.count fit.end u w)
      operates_filled other ops e g fit s filled =
          goes ops e frames (set_by other) core
          (λ next m v k. by (needs p false ops e v) v k (sets (set_by other) v) refl next m) w (does p args core other) (does_sets core p args other s)
        where
          by : (x : Bool) (v : ℕ) → needs p false ops e v ≡ true → (b : Bool) → sets (set_by other) v ≡ b → (next : Core) → Sets (set_by other) core next → is_unset (read next.vars v) ≡ false
          by x v k true apart next m = m.fills v apart (subst (λ n. v < n) (sym fit.fits.vars.count) (sets_within p g.types other (and_left _ _ fit.left) v apart))
          by x v k false apart next m = ap is_unset (m.keeps v apart) ∙ filled v (rest_needed p false other ops e v apart (more_needed p (may_raise (marks_of p) (any_of p) other) ops e v k))

      gives_filled : (x : Option COperand) (g : LlGraph) → typed.return_ok p g x ≡ true → FramesFit p (length core.blocks) g.result frames → NextFilled (gives_back x frames core)
      gives_filled None g h fit = (void frames fit, w)
        where
          void : (frames : List Frame) → FramesFit p (length core.blocks) g.result frames → Gives Unset frames
          void [] fit = tt
          void (frame ∷ frames) (other, waits, rest) = λ a e. absurd (void_never other.types frame.into g.result h waits.into a e)
      gives_filled (Some x) g h fit = given_filled (operand core.vars x) (λ value. Goes (Returning value frames core)) (λ u. (any_given (operand core.vars x) frames u, w))

      leaves_filled : (e : LlExit) (g : LlGraph) → AtFits p [] e frames core g → NextFilled (leaves p e frames core)
      leaves_filled (exit.Goto link) g fit = jumped g frames core fit.of fit.fits.vars.count w link fit.end
      leaves_filled (exit.If a there elsewhere) g fit =
          branched g frames core fit.of fit.fits.vars.count w there elsewhere (flag_of (read core.vars a)) (and_right _ _ (and_left _ _ fit.end)) (and_right _ _ fit.end)
      leaves_filled (exit.OnRaise a by without) g fit = jumped g frames core fit.of fit.fits.vars.count w without (and_right _ _ fit.end)
      leaves_filled (exit.Return x) g fit = gives_filled x g fit.end fit.waiting
      leaves_filled (exit.Raise a) g fit = given_filled (read core.vars a) (λ value. Goes (Throwing value frames core)) (λ u. (u, w))
      leaves_filled (exit.Fail number) g fit = one (fail_name_of number)
        where
          one : (o : Option _) → NextFilled (goes_on (At [] (exit.Fail number) frames) (st.fail core o))
          one None = tt
          one (Some name) = tt
      leaves_filled (exit.Raised a) g fit = by (type_in (slice_get p.graphs core.function) a)
        where
          named : (o : Option (List ℕ)) → NextFilled (goes_on (At [] (exit.Raised a) frames) (st.raised_as core o))
          named None = tt
          named (Some name) = tt

          found : (r : Result Block StuckReason) → NextFilled (goes_on (At [] (exit.Raised a) frames) (on_block (λ block. st.raised_as core (st.bytes_of block.items)) r))
          found (Ok block) = named (st.bytes_of block.items)
          found (Err reason) = tt

          by : (o : Option CType) → NextFilled (goes_on (At [] (exit.Raised a) frames) (st.raised core (shapes_of p.structs) o (read core.vars a)))
          by (Some (c.Ptr n)) = found (reached core (shapes_of p.structs) n (read core.vars a))
          by other = tt

    -- ---- back to who waits

    returned_filled : (value : Value) (frames : List Frame) (core : Core) (t : LlType) → LeavesFits p t value frames core t → Gives value frames → FramesFilled frames → NextFilled (returned value frames core)
    returned_filled value [] core t fit given w = one (word_of value)
      where
        one : (o : Option ℤ) → NextFilled (goes_on (Returning value []) (st.on (λ n. Over (Returned n) (record core { vars = [] })) o))
        one None = tt
        one (Some n) = tt
    returned_filled value (frame ∷ frames) core t fit given w = back fit.waiting
      where
        taken : (into : Option ℕ) → frame.into ≡ into → (v : ℕ) → sets into v ≡ true → v < length frame.vars → is_unset (read (taken_by frame.vars into value) v) ≡ false
        taken None e v s lt = absurd (cc)
        taken (Some a) e v s lt = taken_sets frame.vars a value (given a e) v s lt

        back : FramesFit p (length core.blocks) t (frame ∷ frames) → NextFilled (returned value (frame ∷ frames) core)
        back (g, waits, rest) = (λ v k. by v k (sets frame.into v) refl, w.1)
          where
            by : (v : ℕ) → needs p false frame.ops frame.exit v ≡ true → (b : Bool) → sets frame.into v ≡ b → is_unset (read (taken_by frame.vars frame.into value) v) ≡ false
            by v k true s = taken frame.into refl v s (subst (λ n. v < n) (sym waits.vars.count) (result_within g.types frame.into t v waits.into s))
            by v k false s = ap is_unset (taken_apart frame.vars frame.into value v s) ∙ w.0 v k s

    thrown_filled : (value : Value) (frames : List Frame) (core : Core) (t : LlType) → FramesFit p (length core.blocks) t frames → is_unset value ≡ false → FramesFilled frames → NextFilled (thrown p value frames core)
    thrown_filled value [] core t fit u w = tt
    thrown_filled value (frame ∷ frames) core t (g, waits, rest) u w = caught_filled value frame.ops frame.exit g frames (resumed frame core) waits.of waits.vars.count waits.exit u w.1

    -- ---- steps and runs

    pub step_filled : (s : State) → StateFits p s → IsPlaced p s → StateFilled s → NextFilled (step p args s)
    step_filled (Calling f values frames core) (g, fit) place (u, w) = entered_filled f values frames core g fit u w
    step_filled (At [] e frames core) (g, fit) place (filled, w) = leaves_filled frames core w e g fit
    step_filled (At (o ∷ ops) e frames core) (g, fit) place (filled, w) =
        operates_filled frames core w o ops e g fit (slots_alone p passes (root_of p) g.types (o ∷ ops) e (ops_pass p passes core.function core.block core.at (o ∷ ops) e place.0 g fit.of)) filled
    step_filled (Returning value frames core) (t, fit) place (given, w) = returned_filled value frames core t fit given w
    step_filled (Throwing value frames core) (t, fit) place (u, w) = thrown_filled value frames core t fit.waiting u w

    abbrev RanFilled : Ran → Type 0
    RanFilled (Unfinished s text events) = StateFilled s
    RanFilled (Ended ending left text events) = Unit {0}

    on_next : (k : ℕ) → ((s : State) (text : List ℕ) (events : List Event) → StateFits p s → IsPlaced p s → StateFilled s → RanFilled (run p args k s text events)) → (text : List ℕ) (events : List Event) (next : Next)
        → NextFits p next → NextPlaced p next → NextFilled next → RanFilled (follow (run p args k) text events next)
    on_next k go text events (Goes s) f h w = go s text events f h w
    on_next k go text events (Puts byte s) f h w = go s (text ++ byte ∷ []) events f h w
    on_next k go text events (Tells event s) f h w = go s text (events ++ event ∷ []) f h w
    on_next k go text events (Ends outcome core) f h w = tt
    on_next k go text events (Sticks reason) f h w = tt

    run_filled : (k : ℕ) (s : State) (text : List ℕ) (events : List Event) → StateFits p s → IsPlaced p s → StateFilled s → RanFilled (run p args k s text events)
    unfolding run
    run_filled zero s text events f h w = w
    run_filled (suc k) s text events f h w = on_next k (run_filled k) text events (step p args s) (step_fits p ok args s f) (step_placed p args s h) (step_filled s f h w)

    pub state_filled : (steps : ℕ) → EachState StateFilled p args steps
    state_filled steps = λ k s text events e. subst RanFilled e (run_filled k (start p steps) [] [] (start_fits p ok steps) (start_placed p args steps) (refl, tt))
