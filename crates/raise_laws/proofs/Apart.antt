-- Calls of graphs that never fail go the same way, whichever graph has the number.
use Rattle.std.proofs.Common.{◌≡◌, ℕ, suc, Bool, true, false, List, [], ◌∷◌, Option, Some, None, Result, Ok, Err, ℤ, refl, sym, ap, subst}
use Rattle.std.specs.Prelude.{slice_get, slice_set, cond}
use Rattle.rpy_base.specs.declared.outcome.Outcome.TheVariants.{Returned}
use Rattle.csub_tree.specs.declared.stuck.StuckReason.{StuckReason}
use Rattle.csub_tree.specs.declared.stuck.StuckReason.TheVariants.{Unset as IsUnset}
use Rattle.csub_tree.specs.declared.tree.CType.{CType}
use Rattle.csub_tree.specs.declared.tree.CType.TheVariants as c
use Rattle.csub_tree.specs.declared.tree.COperand.{COperand}
use Rattle.csub_tree.specs.State.{Value, Block, Core, After, Onward, Puts as PutsByte, Told, Over, Stuck}
use Rattle.csub_tree.specs.Operation.{is_unset, flag_of, word_of}
use Rattle.csub_tree.specs.Statement as st
use Rattle.csub_tree.specs.Statement.{operand, operands, read, any_unset, reached, on_block, fail_name_of}
use Rattle.ll_code.specs.State.{Frame, State, Calling, At, Returning, Throwing, Next, Goes, Puts, Tells, Ends, Sticks}
use Rattle.ll_code.specs.Machine.{step, does, goes_on, shapes_of, jump, begins, branch, block_in, leaves, returned, resumed, caught, entered, enters, operates, type_in}
use Rattle.ll_code.specs.declared.program.LlLink.{LlLink}
use Rattle.ll_code.specs.declared.program.LlType.{LlType}
use Rattle.ll_code.specs.declared.program.LlOp.{LlOp}
use Rattle.ll_code.specs.declared.program.LlOp.TheVariants as op
use Rattle.ll_code.specs.declared.program.LlExit.{LlExit}
use Rattle.ll_code.specs.declared.program.LlExit.TheVariants as exit
use Rattle.ll_code.specs.declared.program.LlBlock.{LlBlock}
use Rattle.ll_code.specs.declared.program.LlGraph.{LlGraph}
use Rattle.ll_code.specs.declared.program.LlProgram.{LlProgram}
use Rattle.ll_held.proofs.Placing.{AfterMoves, does_moves}
use Rattle.ll_leads.specs.Weight.{Within}
use Rattle.raise_laws.specs.Raising.{with_graph, NeverFails, Never, CallsNoValue}
use Rattle.raise_laws.proofs.Blocks.{get_other}
use Rattle.raise_laws.proofs.Operations.{IsNoFailure, NotFailed, does_ends}

module _ (p : LlProgram) (f : ℕ) where
  -- the operations call graphs that never fail
  pub record CallsNever (ops : List LlOp) : Type 0 where
    pub calls : (place : ℕ) (into : Option ℕ) (g : ℕ) (xs : List COperand) → slice_get ops place ≡ Some (op.Call into g xs) → NeverFails p f g
    pub values : (place : ℕ) (into : Option ℕ) (result : LlType) (params : List LlType) (b : ℕ) (xs : List COperand) → slice_get ops place ≡ Some (op.CallFn into result params b xs) → ⊥

  pub calls_behind : {o : LlOp} {ops : List LlOp} → CallsNever (o ∷ ops) → CallsNever ops
  calls_behind h = record { calls = λ place. h.calls (suc place); values = λ place. h.values (suc place) }

  -- those of a block of a graph
  pub calls_of_block : (graph : LlGraph) → ((into : Option ℕ) (g : ℕ) (xs : List COperand) → Within graph (op.Call into g xs) → NeverFails p f g) → CallsNoValue graph → (n : ℕ) (block : LlBlock) → slice_get graph.blocks n ≡ Some block → CallsNever block.ops
  calls_of_block graph calls values n block at = record {
    calls = λ place into g xs e. calls into g xs (record { n = n; place = place; block = block; of = at; at = e });
    values = λ place into result params b xs e. values into result params b xs (record { n = n; place = place; block = block; of = at; at = e });
  }

  abbrev pub NoFailure : LlExit → Type 0
  NoFailure e = (number : ℕ) → e ≡ exit.Fail number → ⊥

  abbrev pub AllWait : List Frame → Type 0
  AllWait [] = Unit {0}
  AllWait (frame ∷ frames) = NeverFails p f frame.graph × CallsNever frame.ops × NoFailure frame.exit × AllWait frames

  -- graphs that never fail run and wait
  abbrev pub IsApart : State → Type 0
  IsApart (Calling g values frames core) = NeverFails p f g × AllWait frames
  IsApart (At ops e frames core) = NeverFails p f core.function × CallsNever ops × NoFailure e × AllWait frames
  IsApart (Returning value frames core) = AllWait frames
  IsApart (Throwing value frames core) = AllWait frames

  abbrev pub NextApart : Next → Type 0
  NextApart (Goes t) = IsApart t
  NextApart (Puts byte t) = IsApart t
  NextApart (Tells event t) = IsApart t
  NextApart (Ends outcome core) = IsNoFailure outcome
  NextApart (Sticks reason) = Unit {0}

  either : (b : Bool) (x y : Next) → NextApart x → NextApart y → NextApart (cond b x y)
  either true x y h k = h
  either false x y h k = k

  begins_apart : (frames : List Frame) (core : Core) (to : ℕ) (values : List Value) → NeverFails p f core.function → AllWait frames → NextApart (begins frames core to values (block_in (slice_get p.graphs core.function) to))
  begins_apart frames core to values (Never graph other at nowhere none calls) wait =
      subst (λ (o : Option LlGraph). NextApart (begins frames core to values (block_in o to))) (sym at) (by (slice_get graph.blocks to) refl)
    where
      by : (o : Option LlBlock) → slice_get graph.blocks to ≡ o → NextApart (begins frames core to values o)
      by None e = tt
      by (Some block) e = (Never graph other at nowhere none calls, calls_of_block graph calls none to block e, (λ number same. nowhere to block number e same), wait)

  jump_apart : (frames : List Frame) (core : Core) (link : LlLink) → NeverFails p f core.function → AllWait frames → NextApart (jump p frames core link)
  jump_apart frames core link h wait = either (any_unset (operands core.vars link.args)) (Sticks IsUnset) _ tt (begins_apart frames core link.to (operands core.vars link.args) h wait)

  branch_apart : (frames : List Frame) (core : Core) (there elsewhere : LlLink) (o : Option Bool) → NeverFails p f core.function → AllWait frames → NextApart (branch p frames core there elsewhere o)
  branch_apart frames core there elsewhere None h wait = tt
  branch_apart frames core there elsewhere (Some true) h wait = jump_apart frames core there h wait
  branch_apart frames core there elsewhere (Some false) h wait = jump_apart frames core elsewhere h wait

  caught_apart : (value : Value) (ops : List LlOp) (e : LlExit) (frames : List Frame) (core : Core) → NeverFails p f core.function → AllWait frames → NextApart (caught p value ops e frames core)
  caught_apart value [] (exit.OnRaise a (Some link) without) frames core h wait = jump_apart frames (record core { vars = slice_set core.vars a value }) link h wait
  caught_apart value [] (exit.OnRaise a None without) frames core h wait = wait
  caught_apart value [] (exit.Goto link) frames core h wait = wait
  caught_apart value [] (exit.If a there elsewhere) frames core h wait = wait
  caught_apart value [] (exit.Return x) frames core h wait = wait
  caught_apart value [] (exit.Raise a) frames core h wait = wait
  caught_apart value [] (exit.Fail n) frames core h wait = wait
  caught_apart value [] (exit.Raised a) frames core h wait = wait
  caught_apart value (o ∷ ops) e frames core h wait = wait

  after_apart : (ops : List LlOp) (e : LlExit) (frames : List Frame) (core : Core) → NeverFails p f core.function → CallsNever ops → NoFailure e → AllWait frames → (after : After) → AfterMoves core after → NotFailed after → NextApart (goes_on (At ops e frames) after)
  after_apart ops e frames core h calls fine wait (Onward next) m k = (subst (NeverFails p f) (sym m.function) h, calls, fine, wait)
  after_apart ops e frames core h calls fine wait (PutsByte byte next) m k = (subst (NeverFails p f) (sym m.function) h, calls, fine, wait)
  after_apart ops e frames core h calls fine wait (Told event next) m k = (subst (NeverFails p f) (sym m.function) h, calls, fine, wait)
  after_apart ops e frames core h calls fine wait (Over outcome next) m k = k
  after_apart ops e frames core h calls fine wait (Stuck reason) m k = tt

  module _ (args : List (List ℕ)) where
    stays_apart : (o : LlOp) (ops : List LlOp) (e : LlExit) (frames : List Frame) (core : Core) → IsApart (At (o ∷ ops) e frames core) → NextApart (goes_on (At ops e frames) (does p args core o))
    stays_apart o ops e frames core h = after_apart ops e frames core h.0 (calls_behind h.1) h.2 h.3 (does p args core o) (does_moves core p args o) (does_ends core p args o)

    operates_apart : (o : LlOp) (ops : List LlOp) (e : LlExit) (frames : List Frame) (core : Core) → IsApart (At (o ∷ ops) e frames core) → NextApart (operates p args o ops e frames core)
    operates_apart (op.Call into g xs) ops e frames core h = either (any_unset (operands core.vars xs)) (Sticks IsUnset) _ tt (h.1.calls 0 into g xs refl, (h.0, calls_behind h.1, h.2, h.3))
    operates_apart (op.CallFn into result params b xs) ops e frames core h = absurd (h.1.values 0 into result params b xs refl)
    operates_apart (op.Raise a) ops e frames core h = either (is_unset (read core.vars a)) (Sticks IsUnset) _ tt (caught_apart (read core.vars a) ops e frames core h.0 h.3)
    operates_apart (op.Set a x) ops e frames core h = stays_apart (op.Set a x) ops e frames core h
    operates_apart (op.Unary a o x) ops e frames core h = stays_apart (op.Unary a o x) ops e frames core h
    operates_apart (op.Binary a o x y) ops e frames core h = stays_apart (op.Binary a o x y) ops e frames core h
    operates_apart (op.GetField a n b k) ops e frames core h = stays_apart (op.GetField a n b k) ops e frames core h
    operates_apart (op.SetField n b k x) ops e frames core h = stays_apart (op.SetField n b k x) ops e frames core h
    operates_apart (op.GetItem a n b i) ops e frames core h = stays_apart (op.GetItem a n b i) ops e frames core h
    operates_apart (op.SetItem n b i x) ops e frames core h = stays_apart (op.SetItem n b i x) ops e frames core h
    operates_apart (op.New a m n) ops e frames core h = stays_apart (op.New a m n) ops e frames core h
    operates_apart (op.NewArray a m n x) ops e frames core h = stays_apart (op.NewArray a m n x) ops e frames core h
    operates_apart (op.Free a) ops e frames core h = stays_apart (op.Free a) ops e frames core h
    operates_apart (op.Step x) ops e frames core h = stays_apart (op.Step x) ops e frames core h
    operates_apart (op.ExcType a n) ops e frames core h = stays_apart (op.ExcType a n) ops e frames core h
    operates_apart (op.ExcValue a n) ops e frames core h = stays_apart (op.ExcValue a n) ops e frames core h
    operates_apart (op.ExcSet a b) ops e frames core h = stays_apart (op.ExcSet a b) ops e frames core h
    operates_apart op.ExcClear ops e frames core h = stays_apart op.ExcClear ops e frames core h
    operates_apart (op.Argc a) ops e frames core h = stays_apart (op.Argc a) ops e frames core h
    operates_apart (op.ArgLen a x) ops e frames core h = stays_apart (op.ArgLen a x) ops e frames core h
    operates_apart (op.Arg a x y) ops e frames core h = stays_apart (op.Arg a x y) ops e frames core h
    operates_apart (op.Put x) ops e frames core h = stays_apart (op.Put x) ops e frames core h

    leaves_apart : (e : LlExit) (frames : List Frame) (core : Core) → NeverFails p f core.function → NoFailure e → AllWait frames → NextApart (leaves p e frames core)
    leaves_apart (exit.Goto link) frames core h fine wait = jump_apart frames core link h wait
    leaves_apart (exit.If a there elsewhere) frames core h fine wait = branch_apart frames core there elsewhere (flag_of (read core.vars a)) h wait
    leaves_apart (exit.OnRaise a by without) frames core h fine wait = jump_apart frames core without h wait
    leaves_apart (exit.Return None) frames core h fine wait = wait
    leaves_apart (exit.Return (Some x)) frames core h fine wait = either (is_unset (operand core.vars x)) (Sticks IsUnset) (Goes (Returning (operand core.vars x) frames core)) tt wait
    leaves_apart (exit.Raise a) frames core h fine wait = either (is_unset (read core.vars a)) (Sticks IsUnset) (Goes (Throwing (read core.vars a) frames core)) tt wait
    leaves_apart (exit.Fail number) frames core h fine wait = absurd (fine number refl)
    leaves_apart (exit.Raised a) frames core h fine wait = by (type_in (slice_get p.graphs core.function) a)
      where
        said : (o : Option (List ℕ)) → NextApart (goes_on (At [] (exit.Raised a) frames) (st.raised_as core o))
        said None = tt
        said (Some name) = tt

        found : (r : Result Block StuckReason) → NextApart (goes_on (At [] (exit.Raised a) frames) (on_block (λ block. st.raised_as core (st.bytes_of block.items)) r))
        found (Ok block) = said (st.bytes_of block.items)
        found (Err reason) = tt

        by : (o : Option CType) → NextApart (goes_on (At [] (exit.Raised a) frames) (st.raised core (shapes_of p.structs) o (read core.vars a)))
        by (Some (c.Ptr n)) = found (reached core (shapes_of p.structs) n (read core.vars a))
        by None = tt
        by (Some c.Signed) = tt
        by (Some c.Char) = tt
        by (Some c.Bool) = tt
        by (Some c.Fn) = tt

    entered_apart : (g : ℕ) (values : List Value) (frames : List Frame) (core : Core) → NeverFails p f g → AllWait frames → NextApart (entered g values frames core (slice_get p.graphs g))
    entered_apart g values frames core (Never graph other at nowhere none calls) wait = subst (λ (o : Option LlGraph). NextApart (entered g values frames core o)) (sym at) (by (slice_get graph.blocks 0) refl)
      where
        by : (o : Option LlBlock) → slice_get graph.blocks 0 ≡ o → NextApart (enters g values frames core graph o)
        by None e = tt
        by (Some block) e = (Never graph other at nowhere none calls, calls_of_block graph calls none 0 block e, (λ number same. nowhere 0 block number e same), wait)

    returned_apart : (value : Value) (frames : List Frame) (core : Core) → AllWait frames → NextApart (returned value frames core)
    returned_apart value [] core h = one (word_of value)
      where
        one : (o : Option ℤ) → NextApart (goes_on (Returning value []) (st.on (λ n. Over (Returned n) (record core { vars = [] })) o))
        one None = tt
        one (Some n) = tt
    returned_apart value (frame ∷ frames) core h = h

    pub step_apart : (s : State) → IsApart s → NextApart (step p args s)
    step_apart (Calling g values frames core) h = entered_apart g values frames core h.0 h.1
    step_apart (At [] e frames core) h = leaves_apart e frames core h.0 h.2 h.3
    step_apart (At (o ∷ ops) e frames core) h = operates_apart o ops e frames core h
    step_apart (Returning value frames core) h = returned_apart value frames core h
    step_apart (Throwing value [] core) h = tt
    step_apart (Throwing value (frame ∷ frames) core) h = caught_apart value frame.ops frame.exit frames (resumed frame core) h.0 h.3

    -- ---- the same step

    module _ (graph : LlGraph) where
      abbrev pub Plain : LlProgram
      Plain = with_graph p f graph

      pub same_graph : (g : ℕ) → NeverFails p f g → slice_get Plain.graphs g ≡ slice_get p.graphs g
      same_graph g (Never other apart at nowhere none calls) = get_other p.graphs f g graph apart

      jump_same : (frames : List Frame) (core : Core) (link : LlLink) → NeverFails p f core.function → jump Plain frames core link ≡ jump p frames core link
      jump_same frames core link h = ap (λ o. cond (any_unset (operands core.vars link.args)) (Sticks IsUnset) (begins frames core link.to (operands core.vars link.args) (block_in o link.to))) (same_graph core.function h)

      branch_same : (frames : List Frame) (core : Core) (there elsewhere : LlLink) (o : Option Bool) → NeverFails p f core.function → branch Plain frames core there elsewhere o ≡ branch p frames core there elsewhere o
      branch_same frames core there elsewhere None h = refl
      branch_same frames core there elsewhere (Some true) h = jump_same frames core there h
      branch_same frames core there elsewhere (Some false) h = jump_same frames core elsewhere h

      caught_same : (value : Value) (ops : List LlOp) (e : LlExit) (frames : List Frame) (core : Core) → NeverFails p f core.function → caught Plain value ops e frames core ≡ caught p value ops e frames core
      caught_same value [] (exit.OnRaise a (Some link) without) frames core h = jump_same frames (record core { vars = slice_set core.vars a value }) link h
      caught_same value [] (exit.OnRaise a None without) frames core h = refl
      caught_same value [] (exit.Goto link) frames core h = refl
      caught_same value [] (exit.If a there elsewhere) frames core h = refl
      caught_same value [] (exit.Return x) frames core h = refl
      caught_same value [] (exit.Raise a) frames core h = refl
      caught_same value [] (exit.Fail n) frames core h = refl
      caught_same value [] (exit.Raised a) frames core h = refl
      caught_same value (o ∷ ops) e frames core h = refl

      leaves_same : (e : LlExit) (frames : List Frame) (core : Core) → NeverFails p f core.function → leaves Plain e frames core ≡ leaves p e frames core
      leaves_same (exit.Goto link) frames core h = jump_same frames core link h
      leaves_same (exit.If a there elsewhere) frames core h = branch_same frames core there elsewhere (flag_of (read core.vars a)) h
      leaves_same (exit.OnRaise a by without) frames core h = jump_same frames core without h
      leaves_same (exit.Return x) frames core h = refl
      leaves_same (exit.Raise a) frames core h = refl
      leaves_same (exit.Fail number) frames core h = refl
      leaves_same (exit.Raised a) frames core h = ap (λ o. goes_on (At [] (exit.Raised a) frames) (st.raised core (shapes_of p.structs) (type_in o a) (read core.vars a))) (same_graph core.function h)

      -- what stays in its block does the same, whatever graphs there are
      pub does_same : (core : Core) (o : LlOp) → does Plain args core o ≡ does p args core o
      does_same core (op.Call into g xs) = refl
      does_same core (op.CallFn into result params b xs) = refl
      does_same core (op.Raise a) = refl
      does_same core (op.Set a x) = refl
      does_same core (op.Unary a o x) = refl
      does_same core (op.Binary a o x y) = refl
      does_same core (op.GetField a n b k) = refl
      does_same core (op.SetField n b k x) = refl
      does_same core (op.GetItem a n b i) = refl
      does_same core (op.SetItem n b i x) = refl
      does_same core (op.New a m n) = refl
      does_same core (op.NewArray a m n x) = refl
      does_same core (op.Free a) = refl
      does_same core (op.Step x) = refl
      does_same core (op.ExcType a n) = refl
      does_same core (op.ExcValue a n) = refl
      does_same core (op.ExcSet a b) = refl
      does_same core op.ExcClear = refl
      does_same core (op.Argc a) = refl
      does_same core (op.ArgLen a x) = refl
      does_same core (op.Arg a x y) = refl
      does_same core (op.Put x) = refl

      operates_same : (o : LlOp) (ops : List LlOp) (e : LlExit) (frames : List Frame) (core : Core) → IsApart (At (o ∷ ops) e frames core) → operates Plain args o ops e frames core ≡ operates p args o ops e frames core
      operates_same (op.Call into g xs) ops e frames core h = refl
      operates_same (op.CallFn into result params b xs) ops e frames core h = absurd (h.1.values 0 into result params b xs refl)
      operates_same (op.Raise a) ops e frames core h = ap (λ n. cond (is_unset (read core.vars a)) (Sticks IsUnset) n) (caught_same (read core.vars a) ops e frames core h.0)
      operates_same (op.Set a x) ops e frames core h = refl
      operates_same (op.Unary a o x) ops e frames core h = refl
      operates_same (op.Binary a o x y) ops e frames core h = refl
      operates_same (op.GetField a n b k) ops e frames core h = refl
      operates_same (op.SetField n b k x) ops e frames core h = refl
      operates_same (op.GetItem a n b i) ops e frames core h = refl
      operates_same (op.SetItem n b i x) ops e frames core h = refl
      operates_same (op.New a m n) ops e frames core h = refl
      operates_same (op.NewArray a m n x) ops e frames core h = refl
      operates_same (op.Free a) ops e frames core h = refl
      operates_same (op.Step x) ops e frames core h = refl
      operates_same (op.ExcType a n) ops e frames core h = refl
      operates_same (op.ExcValue a n) ops e frames core h = refl
      operates_same (op.ExcSet a b) ops e frames core h = refl
      operates_same op.ExcClear ops e frames core h = refl
      operates_same (op.Argc a) ops e frames core h = refl
      operates_same (op.ArgLen a x) ops e frames core h = refl
      operates_same (op.Arg a x y) ops e frames core h = refl
      operates_same (op.Put x) ops e frames core h = refl

      pub step_same : (s : State) → IsApart s → step Plain args s ≡ step p args s
      step_same (Calling g values frames core) h = ap (entered g values frames core) (same_graph g h.0)
      step_same (At [] e frames core) h = leaves_same e frames core h.0
      step_same (At (o ∷ ops) e frames core) h = operates_same o ops e frames core h
      step_same (Returning value frames core) h = refl
      step_same (Throwing value [] core) h = refl
      step_same (Throwing value (frame ∷ frames) core) h = caught_same value frame.ops frame.exit frames (resumed frame core) h.0
