-- A step goes the same way whatever waits below.
use Rattle.std.proofs.Common.{◌≡◌, ℕ, Bool, true, false, ◌&&◌, ◌||◌, List, [], ◌∷◌, ◌++◌, Option, Some, None, refl, sym, ap, ◌∙◌, subst, arith, ℤ}
use Rattle.std.specs.Prelude.{slice_get, slice_set, cond, map}
use Rattle.rpy_base.specs.declared.outcome.Outcome.TheVariants.{Returned}
use Rattle.csub_tree.specs.State.{Value, Core, After, Onward, Puts as PutsByte, Told, Over, Stuck}
use Rattle.csub_tree.specs.Operation.{is_unset, flag_of}
use Rattle.csub_tree.specs.Statement as st
use Rattle.csub_tree.specs.Statement.{read, operand, operands, any_unset, reached, on_block, fail_name_of, fun_of, same_result, same_types}
use Rattle.csub_tree.specs.declared.stuck.StuckReason.TheVariants.{Unset as IsUnset, Signature}
use Rattle.csub_tree.specs.declared.tree.CType.{CType}
use Rattle.ll_code.specs.State.{Frame, State, Calling, At, Returning, Throwing, Next, Goes, Puts, Tells, Sticks}
use Rattle.ll_code.specs.Machine.{step, does, goes_on, shapes_of, jump, begins, branch, block_in, given, leaves, resumed, caught, caught_by, waiting, called_as, called_value, entered, enters, operates, c_result, c_type, param_types, type_in}
use Rattle.ll_code.specs.declared.program.LlLink.{LlLink}
use Rattle.ll_code.specs.declared.program.LlOp.{LlOp}
use Rattle.ll_code.specs.declared.program.LlOp.TheVariants as op
use Rattle.ll_code.specs.declared.program.LlExit.{LlExit}
use Rattle.ll_code.specs.declared.program.LlExit.TheVariants as exit
use Rattle.ll_code.specs.declared.program.LlBlock.{LlBlock}
use Rattle.ll_code.specs.declared.program.LlGraph.{LlGraph}
use Rattle.ll_code.specs.declared.program.LlProgram.{LlProgram}
use Rattle.ll_leads.specs.Path.{Path, Stay, Go, Put, Tell, stored, total}
use Rattle.ll_leads.specs.Effect.{into_static, into_statics}
use Rattle.ll_leads.specs.Lifted.{over, next_over}

module _ (below : List Frame) where
  either : (b : Bool) (x y : Next) (v w : Next) → v ≡ next_over below x → w ≡ next_over below y → cond b v w ≡ next_over below (cond b x y)
  either true x y v w h k = h
  either false x y v w h k = k

  after_over : (ops : List LlOp) (e : LlExit) (frames : List Frame) (after : After) → goes_on (At ops e (frames ++ below)) after ≡ next_over below (goes_on (At ops e frames) after)
  after_over ops e frames (Onward core) = refl
  after_over ops e frames (PutsByte byte core) = refl
  after_over ops e frames (Told event core) = refl
  after_over ops e frames (Over outcome core) = refl
  after_over ops e frames (Stuck reason) = refl

  module _ (p : LlProgram) (args : List (List ℕ)) where
    begins_over : (frames : List Frame) (core : Core) (to : ℕ) (values : List Value) (o : Option LlBlock) → begins (frames ++ below) core to values o ≡ next_over below (begins frames core to values o)
    begins_over frames core to values None = refl
    begins_over frames core to values (Some block) = refl

    jump_over : (frames : List Frame) (core : Core) (link : LlLink) → jump p (frames ++ below) core link ≡ next_over below (jump p frames core link)
    jump_over frames core link = either (any_unset (operands core.vars link.args)) (Sticks IsUnset) _ (Sticks IsUnset) _ refl (begins_over frames core link.to (operands core.vars link.args) (block_in (slice_get p.graphs core.function) link.to))

    branch_over : (frames : List Frame) (core : Core) (there elsewhere : LlLink) (o : Option Bool) → branch p (frames ++ below) core there elsewhere o ≡ next_over below (branch p frames core there elsewhere o)
    branch_over frames core there elsewhere None = refl
    branch_over frames core there elsewhere (Some true) = jump_over frames core there
    branch_over frames core there elsewhere (Some false) = jump_over frames core elsewhere

    caught_by_over : (value : Value) (frames : List Frame) (core : Core) (e : LlExit) → caught_by p value (frames ++ below) core e ≡ next_over below (caught_by p value frames core e)
    caught_by_over value frames core (exit.OnRaise a (Some link) without) = jump_over frames (record core { vars = slice_set core.vars a value }) link
    caught_by_over value frames core (exit.OnRaise a None without) = refl
    caught_by_over value frames core (exit.Goto link) = refl
    caught_by_over value frames core (exit.If a there elsewhere) = refl
    caught_by_over value frames core (exit.Return x) = refl
    caught_by_over value frames core (exit.Raise a) = refl
    caught_by_over value frames core (exit.Fail n) = refl
    caught_by_over value frames core (exit.Raised a) = refl

    pub caught_over : (value : Value) (ops : List LlOp) (e : LlExit) (frames : List Frame) (core : Core) → caught p value ops e (frames ++ below) core ≡ next_over below (caught p value ops e frames core)
    caught_over value [] e frames core = caught_by_over value frames core e
    caught_over value (o ∷ ops) e frames core = refl

    called_as_over : (result : Option CType) (params : List CType) (f : ℕ) (values : List Value) (frames : List Frame) (core : Core) (o : Option LlGraph) → called_as result params f values (frames ++ below) core o ≡ next_over below (called_as result params f values frames core o)
    called_as_over result params f values frames core None = refl
    called_as_over result params f values frames core (Some graph) = either (same_result (c_result graph.result) result && same_types (param_types graph) params) _ (Sticks Signature) _ (Sticks Signature) refl refl

    called_value_over : (result : Option CType) (params : List CType) (f : Option ℕ) (values : List Value) (frames : List Frame) (core : Core) → called_value p result params f values (frames ++ below) core ≡ next_over below (called_value p result params f values frames core)
    called_value_over result params None values frames core = refl
    called_value_over result params (Some f) values frames core = called_as_over result params f values frames core (slice_get p.graphs f)

    pub entered_over : (f : ℕ) (values : List Value) (frames : List Frame) (core : Core) (o : Option LlGraph) → entered f values (frames ++ below) core o ≡ next_over below (entered f values frames core o)
    entered_over f values frames core None = refl
    entered_over f values frames core (Some graph) = one (slice_get graph.blocks 0)
      where
        one : (b : Option LlBlock) → enters f values (frames ++ below) core graph b ≡ next_over below (enters f values frames core graph b)
        one None = refl
        one (Some block) = refl

    given_over : (frames : List Frame) (value : Value) (go come : Value → Next) → come value ≡ next_over below (go value) → given value come ≡ next_over below (given value go)
    given_over frames value go come h = either (is_unset value) (Sticks IsUnset) (go value) (Sticks IsUnset) (come value) refl h

    pub operates_over : (o : LlOp) (ops : List LlOp) (e : LlExit) (frames : List Frame) (core : Core) → operates p args o ops e (frames ++ below) core ≡ next_over below (operates p args o ops e frames core)
    operates_over (op.Call into f xs) ops e frames core = either (any_unset (operands core.vars xs)) (Sticks IsUnset) _ (Sticks IsUnset) _ refl refl
    operates_over (op.CallFn into result params b xs) ops e frames core =
        either (is_unset (read core.vars b) || any_unset (operands core.vars xs)) (Sticks IsUnset) _ (Sticks IsUnset) _ refl (called_value_over (c_result result) (map c_type params) (fun_of (read core.vars b)) (operands core.vars xs) (waiting core into ops e ∷ frames) core)
    operates_over (op.Raise a) ops e frames core = given_over frames (read core.vars a) (λ value. caught p value ops e frames core) (λ value. caught p value ops e (frames ++ below) core) (caught_over (read core.vars a) ops e frames core)
    operates_over (op.Set a x) ops e frames core = after_over ops e frames (does p args core (op.Set a x))
    operates_over (op.Unary a o x) ops e frames core = after_over ops e frames (does p args core (op.Unary a o x))
    operates_over (op.Binary a o x y) ops e frames core = after_over ops e frames (does p args core (op.Binary a o x y))
    operates_over (op.GetField a n b k) ops e frames core = after_over ops e frames (does p args core (op.GetField a n b k))
    operates_over (op.SetField n b k x) ops e frames core = after_over ops e frames (does p args core (op.SetField n b k x))
    operates_over (op.GetItem a n b i) ops e frames core = after_over ops e frames (does p args core (op.GetItem a n b i))
    operates_over (op.SetItem n b i x) ops e frames core = after_over ops e frames (does p args core (op.SetItem n b i x))
    operates_over (op.New a m n) ops e frames core = after_over ops e frames (does p args core (op.New a m n))
    operates_over (op.NewArray a m n x) ops e frames core = after_over ops e frames (does p args core (op.NewArray a m n x))
    operates_over (op.Free a) ops e frames core = after_over ops e frames (does p args core (op.Free a))
    operates_over (op.Step x) ops e frames core = after_over ops e frames (does p args core (op.Step x))
    operates_over (op.ExcType a n) ops e frames core = after_over ops e frames (does p args core (op.ExcType a n))
    operates_over (op.ExcValue a n) ops e frames core = after_over ops e frames (does p args core (op.ExcValue a n))
    operates_over (op.ExcSet a b) ops e frames core = after_over ops e frames (does p args core (op.ExcSet a b))
    operates_over op.ExcClear ops e frames core = after_over ops e frames (does p args core op.ExcClear)
    operates_over (op.Argc a) ops e frames core = after_over ops e frames (does p args core (op.Argc a))
    operates_over (op.ArgLen a x) ops e frames core = after_over ops e frames (does p args core (op.ArgLen a x))
    operates_over (op.Arg a x y) ops e frames core = after_over ops e frames (does p args core (op.Arg a x y))
    operates_over (op.Put x) ops e frames core = after_over ops e frames (does p args core (op.Put x))

    pub leaves_over : (e : LlExit) (frames : List Frame) (core : Core) → leaves p e (frames ++ below) core ≡ next_over below (leaves p e frames core)
    leaves_over (exit.Goto link) frames core = jump_over frames core link
    leaves_over (exit.If a there elsewhere) frames core = branch_over frames core there elsewhere (flag_of (read core.vars a))
    leaves_over (exit.OnRaise a by without) frames core = jump_over frames core without
    leaves_over (exit.Return None) frames core = refl
    leaves_over (exit.Return (Some x)) frames core = given_over frames (operand core.vars x) (λ value. Goes (Returning value frames core)) (λ value. Goes (Returning value (frames ++ below) core)) refl
    leaves_over (exit.Raise a) frames core = given_over frames (read core.vars a) (λ value. Goes (Throwing value frames core)) (λ value. Goes (Throwing value (frames ++ below) core)) refl
    leaves_over (exit.Fail number) frames core = after_over [] (exit.Fail number) frames (st.fail core (fail_name_of number))
    leaves_over (exit.Raised a) frames core = after_over [] (exit.Raised a) frames (st.raised core (shapes_of p.structs) (type_in (slice_get p.graphs core.function) a) (read core.vars a))

    -- a state out of which some call, exit or return goes on, while a call waits or a graph runs
    abbrev pub GoesOn : Next → Type 0
    GoesOn (Goes t) = Unit {0}
    GoesOn (Puts byte t) = Unit {0}
    GoesOn (Tells event t) = Unit {0}
    GoesOn other = ⊥

    pub step_over : (s : State) → GoesOn (step p args s) → step p args (over below s) ≡ next_over below (step p args s)
    step_over (Calling f values frames core) h = entered_over f values frames core (slice_get p.graphs f)
    step_over (At [] e frames core) h = leaves_over e frames core
    step_over (At (o ∷ ops) e frames core) h = operates_over o ops e frames core
    step_over (Returning value (frame ∷ frames) core) h = refl
    step_over (Throwing value (frame ∷ frames) core) h = caught_over value frame.ops frame.exit frames (resumed frame core)
    step_over (Throwing value [] core) h = absurd h
    step_over (Returning value [] core) h = absurd (one (Rattle.csub_tree.specs.Operation.word_of value) h)
      where
        one : (o : Option ℤ) → GoesOn (goes_on (Returning value []) (st.on (λ n. Over (Returned n) (record core { vars = [] })) o)) → ⊥
        one None h = h
        one (Some n) h = h

    -- ---- ways

    pub stored_over : (s : State) → stored (over below s) ≡ stored s
    stored_over (Calling f values frames core) = refl
    stored_over (Returning value frames core) = refl
    stored_over (Throwing value frames core) = refl
    stored_over (At [] e frames core) = refl
    stored_over (At (o ∷ ops) e frames core) = by o
      where
        by : (o : LlOp) → stored (At (o ∷ ops) e (frames ++ below) core) ≡ stored (At (o ∷ ops) e frames core)
        by (op.SetField n b k x) = refl
        by (op.SetItem n b i x) = refl
        by other = refl

    static_over : (s : State) → into_static (over below s) ≡ into_static s
    static_over (Calling f values frames core) = refl
    static_over (Returning value frames core) = refl
    static_over (Throwing value frames core) = refl
    static_over (At [] e frames core) = refl
    static_over (At (o ∷ ops) e frames core) = by o
      where
        by : (o : LlOp) → into_static (At (o ∷ ops) e (frames ++ below) core) ≡ into_static (At (o ∷ ops) e frames core)
        by (op.SetField n b k x) = refl
        by (op.SetItem n b i x) = refl
        by other = refl

    pub goes_over : (s : State) (next : Next) → step p args s ≡ next → GoesOn next → step p args (over below s) ≡ next_over below next
    goes_over s next e h = step_over s (subst GoesOn (sym e) h) ∙ ap (next_over below) e

    -- the same way, while these calls wait below
    unfoldable pub lifted : {s t : State} {text : List ℕ} → Path p args s text t → Path p args (over below s) text (over below t)
    lifted (Stay s) = Stay (over below s)
    lifted (Go {s = s} {t = t} e path) = Go (goes_over s (Goes t) e tt) (lifted path)
    lifted (Put {s = s} {t = t} {byte = byte} e path) = Put (goes_over s (Puts byte t) e tt) (lifted path)
    lifted (Tell {s = s} {t = t} {event = event} e path) = Tell (goes_over s (Tells event t) e tt) (lifted path)

    pub lifted_total : {s t : State} {text : List ℕ} (path : Path p args s text t) → total (lifted path) ≡ total path
    unfolding lifted
    lifted_total (Stay s) = refl
    lifted_total (Go {s = s} e path) = let a : stored (over below s) ≡ stored s = stored_over s in let b : total (lifted path) ≡ total path = lifted_total path in omega (arith, a, b)
    lifted_total (Put {s = s} e path) = let a : stored (over below s) ≡ stored s = stored_over s in let b : total (lifted path) ≡ total path = lifted_total path in omega (arith, a, b)
    lifted_total (Tell {s = s} e path) = let a : stored (over below s) ≡ stored s = stored_over s in let b : total (lifted path) ≡ total path = lifted_total path in omega (arith, a, b)

    pub lifted_statics : {s t : State} {text : List ℕ} (path : Path p args s text t) → into_statics (lifted path) ≡ into_statics path
    unfolding lifted
    lifted_statics (Stay s) = refl
    lifted_statics (Go {s = s} e path) = let a : into_static (over below s) ≡ into_static s = static_over s in let b : into_statics (lifted path) ≡ into_statics path = lifted_statics path in omega (arith, a, b)
    lifted_statics (Put {s = s} e path) = let a : into_static (over below s) ≡ into_static s = static_over s in let b : into_statics (lifted path) ≡ into_statics path = lifted_statics path in omega (arith, a, b)
    lifted_statics (Tell {s = s} e path) = let a : into_static (over below s) ≡ into_static s = static_over s in let b : into_statics (lifted path) ≡ into_statics path = lifted_statics path in omega (arith, a, b)
