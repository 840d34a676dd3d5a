-- What graphs with a result give is set.
use Rattle.std.proofs.Common.{◌≡◌, ℕ, Bool, true, false, ◌&&◌, ◌||◌, List, [], ◌∷◌, ◌++◌, map, length, Option, Some, None, Result, Ok, Err, refl, sym, ap, ◌∙◌, subst, ℤ, ◌-◌}
use Rattle.std.specs.Prelude.{slice_get, slice_set, replicate, cond}
use Rattle.rpy_base.specs.declared.outcome.FailName.{FailName}
use Rattle.csub_tree.specs.State.{Value, Unset, Block as Memory, Core, After, Onward, Puts as PutsByte, Told, Over as Ran, Stuck}
use Rattle.csub_tree.specs.Layout.{Shape}
use Rattle.csub_tree.specs.Operation.{is_unset, flag_of, word_of}
use Rattle.csub_tree.specs.Statement as st
use Rattle.csub_tree.specs.Statement.{read, operand, operands, any_unset, fun_of, same_result, same_types, taken_by, ended, fail, fail_name_of, on_block, raised, raised_as, bytes_of, reached}
use Rattle.csub_tree.specs.declared.stuck.StuckReason.{StuckReason}
use Rattle.csub_tree.specs.declared.stuck.StuckReason.TheVariants.{Unset as IsUnset}
use Rattle.csub_tree.specs.declared.tree.CType.{CType}
use Rattle.csub_tree.specs.declared.tree.CType.TheVariants as c
use Rattle.ll_code.specs.State.{Frame, State, Calling, At, Returning, Throwing, Next, Goes, Puts, Tells, Ends, Sticks}
use Rattle.ll_code.specs.Machine.{step, does, goes_on, begins, branch, jump, block_in, set_all, resumed, waiting, caught, entered, enters, called_as, called_value, c_result, c_type, param_types, leaves, shapes_of, type_in}
use Rattle.ll_code.specs.declared.program.LlLink.{LlLink}
use Rattle.ll_code.specs.declared.program.LlOp.{LlOp}
use Rattle.ll_code.specs.declared.program.LlOp.TheVariants as op
use Rattle.ll_code.specs.declared.program.LlExit.{LlExit}
use Rattle.ll_code.specs.declared.program.LlExit.TheVariants as exit
use Rattle.ll_code.specs.declared.program.LlBlock.{LlBlock}
use Rattle.ll_code.specs.declared.program.LlGraph.{LlGraph}
use Rattle.ll_code.specs.declared.program.LlProgram.{LlProgram}
use Rattle.ll_leads.specs.Path.{Path, Stay, Go, Put, Tell}
use Rattle.ll_leads.specs.Lifted.{over, next_over}
use Rattle.ll_leads.proofs.Lifting.{entered_over, leaves_over, operates_over, caught_over}
use Rattle.rpy_base.specs.declared.outcome.Outcome.TheVariants.{Returned}
use Rattle.throw_laws.proofs.Catching.{stays}
use Rattle.told_laws.specs.Tests.{GivesSomething, GraphsGiveValues}

module _ (p : LlProgram) (args : List (List ℕ)) (g : ℕ) (graph : LlGraph) (known : slice_get p.graphs g ≡ Some graph) (gives : (n : ℕ) (block : LlBlock) → slice_get graph.blocks n ≡ Some block → GivesSomething block.exit) where
  -- the call of the graph, and all within it
  data IsGood : State → Type 0 where
    Begun : (values : List Value) (core : Core) → IsGood (Calling g values [] core)
    Here : (ops : List LlOp) (e : LlExit) (core : Core) → core.function ≡ g → GivesSomething e → IsGood (At ops e [] core)
    Inner : (s : State) (frame : Frame) → frame.graph ≡ g → GivesSomething frame.exit → IsGood (over (frame ∷ []) s)
    Gave : (x : Value) (core : Core) → is_unset x ≡ false → IsGood (Returning x [] core)
    Out : (x : Value) (core : Core) → IsGood (Throwing x [] core)

  abbrev NextGood : Next → Type 0
  NextGood (Goes t) = IsGood t
  NextGood (Puts byte t) = IsGood t
  NextGood (Tells event t) = IsGood t
  NextGood (Ends outcome core) = Unit {0}
  NextGood (Sticks reason) = Unit {0}

  on_cond : (t : Bool) (a b : Next) → NextGood a → NextGood b → NextGood (cond t a b)
  on_cond true a b h k = h
  on_cond false a b h k = k

  -- ---- exits

  on_begins : (core : Core) (to : ℕ) (xs : List Value) → core.function ≡ g → (o : Option LlBlock) → slice_get graph.blocks to ≡ o → NextGood (begins [] core to xs o)
  on_begins core to xs of None is = tt
  on_begins core to xs of (Some block) is = Here block.ops block.exit (record core { block = to; at = 0; vars = set_all core.vars block.inputs xs }) of (gives to block is)

  on_jump : (core : Core) (link : LlLink) → core.function ≡ g → NextGood (jump p [] core link)
  on_jump core link of = on_cond (any_unset (operands core.vars link.args)) _ _ tt
      (subst (λ (o : Option LlBlock). NextGood (begins [] core link.to (operands core.vars link.args) o)) (sym (ap (λ n. block_in (slice_get p.graphs n) link.to) of ∙ ap (λ o. block_in o link.to) known)) (on_begins core link.to (operands core.vars link.args) of (slice_get graph.blocks link.to) refl))

  on_branch : (core : Core) (there elsewhere : LlLink) → core.function ≡ g → (o : Option Bool) → NextGood (branch p [] core there elsewhere o)
  on_branch core there elsewhere of None = tt
  on_branch core there elsewhere of (Some b) = on_cond b _ _ (on_jump core there of) (on_jump core elsewhere of)

  on_given : (x : Value) (core : Core) (b : Bool) → is_unset x ≡ b → NextGood (cond b (Sticks IsUnset) (Goes (Returning x [] core)))
  on_given x core true h = tt
  on_given x core false h = Gave x core h

  on_fail : (e : LlExit) (core : Core) (o : Option FailName) → NextGood (goes_on (At [] e []) (fail core o))
  on_fail e core None = tt
  on_fail e core (Some name) = tt

  on_name : (e : LlExit) (core : Core) (o : Option (List ℕ)) → NextGood (goes_on (At [] e []) (raised_as core o))
  on_name e core None = tt
  on_name e core (Some name) = tt

  on_found : (e : LlExit) (core : Core) (r : Result Memory StuckReason) → NextGood (goes_on (At [] e []) (on_block (λ block. raised_as core (bytes_of block.items)) r))
  on_found e core (Ok block) = on_name e core (bytes_of block.items)
  on_found e core (Err reason) = tt

  on_raised : (e : LlExit) (core : Core) (shapes : List Shape) (t : Option CType) (x : Value) → NextGood (goes_on (At [] e []) (raised core shapes t x))
  on_raised e core shapes None x = tt
  on_raised e core shapes (Some (c.Ptr n)) x = on_found e core (reached core shapes n x)
  on_raised e core shapes (Some c.Signed) x = tt
  on_raised e core shapes (Some c.Char) x = tt
  on_raised e core shapes (Some c.Fn) x = tt
  on_raised e core shapes (Some c.Bool) x = tt

  on_leaves : (e : LlExit) (core : Core) → core.function ≡ g → GivesSomething e → NextGood (leaves p e [] core)
  on_leaves (exit.Goto link) core of h = on_jump core link of
  on_leaves (exit.If a there elsewhere) core of h = on_branch core there elsewhere of (flag_of (read core.vars a))
  on_leaves (exit.OnRaise a by without) core of h = on_jump core without of
  on_leaves (exit.Return None) core of h = absurd h
  on_leaves (exit.Return (Some x)) core of h = on_given (operand core.vars x) core (is_unset (operand core.vars x)) refl
  on_leaves (exit.Raise a) core of h = on_cond (is_unset (read core.vars a)) _ _ tt (Out (read core.vars a) core)
  on_leaves (exit.Fail n) core of h = on_fail (exit.Fail n) core (fail_name_of n)
  on_leaves (exit.Raised a) core of h = on_raised (exit.Raised a) core (shapes_of p.structs) (type_in (slice_get p.graphs core.function) a) (read core.vars a)

  on_caught : (x : Value) (ops : List LlOp) (e : LlExit) (core : Core) → core.function ≡ g → NextGood (caught p x ops e [] core)
  on_caught x (o ∷ ops) e core of = Out x core
  on_caught x [] (exit.OnRaise a (Some link) without) core of = on_jump (record core { vars = slice_set core.vars a x }) link of
  on_caught x [] (exit.OnRaise a None without) core of = Out x core
  on_caught x [] (exit.Goto link) core of = Out x core
  on_caught x [] (exit.If a there elsewhere) core of = Out x core
  on_caught x [] (exit.Return y) core of = Out x core
  on_caught x [] (exit.Raise a) core of = Out x core
  on_caught x [] (exit.Fail n) core of = Out x core
  on_caught x [] (exit.Raised a) core of = Out x core

  -- ---- operations

  module _ (o : LlOp) (ops : List LlOp) (e : LlExit) (core : Core) (of : core.function ≡ g) (h : GivesSomething e) where
    ordinary : NextGood (goes_on (At ops e []) (does p args core o))
    ordinary = on (does p args core o) refl
      where
        on : (a : After) → does p args core o ≡ a → NextGood (goes_on (At ops e []) a)
        on (Onward c) k = Here ops e c (stays p args core o (Onward c) k ∙ of) h
        on (PutsByte byte c) k = Here ops e c (stays p args core o (PutsByte byte c) k ∙ of) h
        on (Told event c) k = Here ops e c (stays p args core o (Told event c) k ∙ of) h
        on (Ran outcome c) k = tt
        on (Stuck reason) k = tt

    calls : (into : Option ℕ) (f : ℕ) (values : List Value) → IsGood (Calling f values (waiting core into ops e ∷ []) core)
    calls into f values = Inner (Calling f values [] core) (waiting core into ops e) of h

    as_graph : (into : Option ℕ) (result : Option CType) (params : List CType) (f : ℕ) (values : List Value) (o : Option LlGraph) → NextGood (called_as result params f values (waiting core into ops e ∷ []) core o)
    as_graph into result params f values None = tt
    as_graph into result params f values (Some callee) = on_cond (same_result (c_result callee.result) result && same_types (param_types callee) params) _ _ (calls into f values) tt

    as_value : (into : Option ℕ) (result : Option CType) (params : List CType) (o : Option ℕ) (values : List Value) → NextGood (called_value p result params o values (waiting core into ops e ∷ []) core)
    as_value into result params None values = tt
    as_value into result params (Some f) values = as_graph into result params f values (slice_get p.graphs f)

  operation : (o : LlOp) (ops : List LlOp) (e : LlExit) (core : Core) → core.function ≡ g → GivesSomething e → NextGood (step p args (At (o ∷ ops) e [] core))
  operation (op.Call into f xs) ops e core of h = on_cond (any_unset (operands core.vars xs)) _ _ tt (calls (op.Call into f xs) ops e core of h into f (operands core.vars xs))
  operation (op.CallFn into result params b xs) ops e core of h = on_cond (is_unset (read core.vars b) || any_unset (operands core.vars xs)) _ _ tt
      (as_value (op.CallFn into result params b xs) ops e core of h into (c_result result) (map c_type params) (fun_of (read core.vars b)) (operands core.vars xs))
  operation (op.Raise a) ops e core of h = on_cond (is_unset (read core.vars a)) _ _ tt (on_caught (read core.vars a) ops e core of)
  operation (op.Set a x) ops e core of h = ordinary (op.Set a x) ops e core of h
  operation (op.Unary a o x) ops e core of h = ordinary (op.Unary a o x) ops e core of h
  operation (op.Binary a o x y) ops e core of h = ordinary (op.Binary a o x y) ops e core of h
  operation (op.GetField a m b k) ops e core of h = ordinary (op.GetField a m b k) ops e core of h
  operation (op.SetField m b k x) ops e core of h = ordinary (op.SetField m b k x) ops e core of h
  operation (op.GetItem a m b i) ops e core of h = ordinary (op.GetItem a m b i) ops e core of h
  operation (op.SetItem m b i x) ops e core of h = ordinary (op.SetItem m b i x) ops e core of h
  operation (op.New a m k) ops e core of h = ordinary (op.New a m k) ops e core of h
  operation (op.NewArray a m k x) ops e core of h = ordinary (op.NewArray a m k x) ops e core of h
  operation (op.Free a) ops e core of h = ordinary (op.Free a) ops e core of h
  operation (op.Step x) ops e core of h = ordinary (op.Step x) ops e core of h
  operation (op.ExcType a m) ops e core of h = ordinary (op.ExcType a m) ops e core of h
  operation (op.ExcValue a m) ops e core of h = ordinary (op.ExcValue a m) ops e core of h
  operation (op.ExcSet a b) ops e core of h = ordinary (op.ExcSet a b) ops e core of h
  operation op.ExcClear ops e core of h = ordinary op.ExcClear ops e core of h
  operation (op.Argc a) ops e core of h = ordinary (op.Argc a) ops e core of h
  operation (op.ArgLen a x) ops e core of h = ordinary (op.ArgLen a x) ops e core of h
  operation (op.Arg a x y) ops e core of h = ordinary (op.Arg a x y) ops e core of h
  operation (op.Put x) ops e core of h = ordinary (op.Put x) ops e core of h

  -- ---- within a call

  module _ (s : State) (frame : Frame) (of : frame.graph ≡ g) (h : GivesSomething frame.exit) where
    over_good : (next : Next) → step p args (over (frame ∷ []) s) ≡ next_over (frame ∷ []) next → NextGood (step p args (over (frame ∷ []) s))
    over_good next k = subst NextGood (sym k) (on next)
      where
        on : (next : Next) → NextGood (next_over (frame ∷ []) next)
        on (Goes t) = Inner t frame of h
        on (Puts byte t) = Inner t frame of h
        on (Tells event t) = Inner t frame of h
        on (Ends outcome core) = tt
        on (Sticks reason) = tt

  within : (s : State) (frame : Frame) → frame.graph ≡ g → GivesSomething frame.exit → NextGood (step p args (over (frame ∷ []) s))
  within (Calling f values below core) frame of h = over_good (Calling f values below core) frame of h (step p args (Calling f values below core)) (entered_over (frame ∷ []) p args f values below core (slice_get p.graphs f))
  within (At [] x below core) frame of h = over_good (At [] x below core) frame of h (step p args (At [] x below core)) (leaves_over (frame ∷ []) p args x below core)
  within (At (o ∷ ops) x below core) frame of h = over_good (At (o ∷ ops) x below core) frame of h (step p args (At (o ∷ ops) x below core)) (operates_over (frame ∷ []) p args o ops x below core)
  within (Returning value (inner ∷ below) core) frame of h = over_good (Returning value (inner ∷ below) core) frame of h (step p args (Returning value (inner ∷ below) core)) refl
  within (Throwing value (inner ∷ below) core) frame of h = over_good (Throwing value (inner ∷ below) core) frame of h (step p args (Throwing value (inner ∷ below) core)) (caught_over (frame ∷ []) p args value inner.ops inner.exit below (resumed inner core))
  within (Returning value [] core) frame of h = Here frame.ops frame.exit (record (resumed frame core) { vars = taken_by frame.vars frame.into value }) of h
  within (Throwing value [] core) frame of h = on_caught value frame.ops frame.exit (resumed frame core) of

  -- ---- steps

  on_entered : (values : List Value) (core : Core) → NextGood (step p args (Calling g values [] core))
  on_entered values core = subst (λ (o : Option LlGraph). NextGood (entered g values [] core o)) (sym known) (on (slice_get graph.blocks 0) refl)
    where
      on : (o : Option LlBlock) → slice_get graph.blocks 0 ≡ o → NextGood (enters g values [] core graph o)
      on None k = tt
      on (Some block) k = Here block.ops block.exit (record core { function = g; block = 0; at = 0; vars = values ++ replicate (length graph.types - length graph.params) Unset }) refl (gives 0 block k)

  on_ended : (value : Value) (core : Core) (o : Option ℤ) → NextGood (goes_on (Returning value []) (st.on (λ n. Ran (Returned n) (record core { vars = [] })) o))
  on_ended value core None = tt
  on_ended value core (Some n) = tt

  step_good : {s : State} → IsGood s → NextGood (step p args s)
  step_good (Begun values core) = on_entered values core
  step_good (Here [] e core of h) = on_leaves e core of h
  step_good (Here (o ∷ ops) e core of h) = operation o ops e core of h
  step_good (Inner s frame of h) = within s frame of h
  step_good (Gave x core h) = on_ended x core (word_of x)
  step_good (Out x core) = tt

  good_along : {s t : State} {text : List ℕ} → IsGood s → Path p args s text t → IsGood t
  good_along good (Stay s) = good
  good_along good (Go {t = u} h path) = good_along (subst NextGood h (step_good good)) path
  good_along good (Put {t = u} h path) = good_along (subst NextGood h (step_good good)) path
  good_along good (Tell {t = u} h path) = good_along (subst NextGood h (step_good good)) path

  is_set : {s : State} → IsGood s → (x : Value) (end : Core) → s ≡ Returning x [] end → is_unset x ≡ false
  is_set (Begun values core) x end h = absurd (cc)
  is_set (Here ops e core of k) x end h = absurd (cc)
  is_set (Gave y core k) x end h = let q : y ≡ x = cc in ap is_unset (sym q) ∙ k
  is_set (Out y core) x end h = absurd (cc)
  is_set (Inner (Calling f values below core) frame of k) x end h = absurd (cc)
  is_set (Inner (At ops e below core) frame of k) x end h = absurd (cc)
  is_set (Inner (Throwing y below core) frame of k) x end h = absurd (cc)
  is_set (Inner (Returning y [] core) frame of k) x end h = absurd (cc)
  is_set (Inner (Returning y (inner ∷ below) core) frame of k) x end h = absurd (cc)

pub graphs_give_values : GraphsGiveValues
graphs_give_values p args gives g graph known there values core end text x path =
    is_set p args g graph known (gives g graph known there) (good_along p args g graph known (gives g graph known there) (Begun values core) path) x end refl
