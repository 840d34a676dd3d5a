-- Step by step, a call of a graph that raises goes as one of the graph that fails.
use Rattle.std.proofs.Common.{◌≡◌, ◌⊎◌, inl, inr, ℕ, zero, suc, ◌-◌, Bool, true, false, ◌&&◌, ◌||◌, List, [], ◌∷◌, ◌++◌, length, Option, Some, None, Result, Ok, Err, ℤ, refl, sym, ap, ◌∙◌, subst}
use Rattle.std.specs.Prelude.{slice_get, cond, replicate}
use Rattle.rpy_base.specs.declared.outcome.Outcome.{Outcome}
use Rattle.rpy_base.specs.declared.outcome.Outcome.TheVariants.{Failed, Returned}
use Rattle.rpy_base.specs.declared.outcome.FailName.{FailName}
use Rattle.rpy_base.specs.declared.outcome.FailName.TheVariants as fail
use Rattle.csub_tree.specs.declared.stuck.StuckReason.{StuckReason}
use Rattle.csub_tree.specs.declared.stuck.StuckReason.TheVariants.{Unset as IsUnset}
use Rattle.csub_tree.specs.declared.tree.CType.{CType}
use Rattle.csub_tree.specs.declared.tree.CType.TheVariants as c
use Rattle.csub_tree.specs.State.{Value, Unset, Block, Core, Event, After, Onward, Puts as PutsByte, Told, Over, Stuck}
use Rattle.csub_tree.specs.Operation.{is_unset, flag_of, word_of}
use Rattle.csub_tree.specs.Statement as st
use Rattle.csub_tree.specs.Statement.{operand, operands, read, any_unset, reached, on_block, fail_name_of, taken_by}
use Rattle.ll_code.specs.State.{Frame, State, Calling, At, Returning, Throwing, Next, Goes, Puts, Tells, Ends, Sticks}
use Rattle.ll_code.specs.Machine.{step, does, goes_on, shapes_of, jump, begins, branch, set_all, block_in, leaves, resumed, caught, waiting, entered, enters, operates, type_in}
use Rattle.ll_code.specs.declared.program.LlLink.{LlLink}
use Rattle.ll_code.specs.declared.program.LlOp.{LlOp}
use Rattle.ll_code.specs.declared.program.LlOp.TheVariants as op
use Rattle.ll_code.specs.declared.program.LlExit.{LlExit}
use Rattle.ll_code.specs.declared.program.LlExit.TheVariants as exit
use Rattle.ll_code.specs.declared.program.LlBlock.{LlBlock}
use Rattle.ll_code.specs.declared.program.LlGraph.{LlGraph}
use Rattle.ll_code.specs.declared.program.LlProgram.{LlProgram}
use Rattle.ll_held.proofs.Placing.{AfterMoves, does_moves}
use Rattle.ll_leads.specs.Memory.{forgotten}
use Rattle.ll_leads.specs.Lifted.{over, next_over}
use Rattle.ll_leads.proofs.Lifting.{entered_over, leaves_over, operates_over, caught_over}
use Rattle.rpy_meaning.specs.declared.row.Covers.{Covers}
use Rattle.rtyper_raising.specs.Raising.{class_of, failing_with, raising_blocks, raising_graph}
use Rattle.lower_laws.specs.Asked.{Raises}
use Rattle.raise_laws.specs.Raising.{IsRaising, all_only_set, class_named, gives_back, only_sets, with_graph}
use Rattle.raise_laws.proofs.Apart.{CallsNever, IsApart, NextApart, calls_behind, calls_of_block, does_same, step_apart, step_same}
use Rattle.raise_laws.proofs.Blocks.{Behind, BlockAt, Nothing, Throws, block_at, get_same}
use Rattle.raise_laws.proofs.Operations.{IsNoFailure, Keeps, NotFailed, does_ends, sets_keep}

and_first : (a b : Bool) → (a && b) ≡ true → a ≡ true
and_first true b h = refl
and_first false b h = h

and_second : (a b : Bool) → (a && b) ≡ true → b ≡ true
and_second true b h = h
and_second false b h = absurd (cc)

-- the name of a failure has its class
pub class_is : (covers : Covers) (number : ℕ) (name : FailName) → fail_name_of number ≡ Some name → class_named name covers ≡ class_of number covers
class_is covers zero name h = absurd (cc)
class_is covers (suc zero) name h = (let q : name ≡ fail.Index = cc in ap (λ n. class_named n covers) q)
class_is covers (suc (suc zero)) name h = (let q : name ≡ fail.ZeroDivision = cc in ap (λ n. class_named n covers) q)
class_is covers (suc (suc (suc zero))) name h = (let q : name ≡ fail.Value = cc in ap (λ n. class_named n covers) q)
class_is covers (suc (suc (suc (suc zero)))) name h = (let q : name ≡ fail.Attribute = cc in ap (λ n. class_named n covers) q)
class_is covers (suc (suc (suc (suc (suc zero))))) name h = (let q : name ≡ fail.NegativeSlice = cc in ap (λ n. class_named n covers) q)
class_is covers (suc (suc (suc (suc (suc (suc n)))))) name h = absurd (cc)

module _ (p : LlProgram) (raised : ℕ → Value) (covers : Covers) (f : ℕ) (graph : LlGraph) (r : IsRaising p raised covers f graph) (args : List (List ℕ)) (start : Core) where
  abbrev pub Plain : LlProgram
  Plain = with_graph p f graph

  pub plain_there : slice_get Plain.graphs f ≡ Some graph
  plain_there = get_same p.graphs f (raising_graph covers graph r.made) graph r.is

  pub block_there : (n : ℕ) (block : LlBlock) → slice_get graph.blocks n ≡ Some block → BlockAt p raised covers (raising_blocks covers graph.blocks r.made).0 n block
  block_there = block_at p raised covers graph.blocks r.made r.raises

  -- Before a block does more than to set variables, memory is as it was.
  abbrev pub Early : List LlOp → LlExit → Core → Type 0
  Early ops e core = ((all_only_set ops ≡ true) × (forgotten core ≡ forgotten start)) ⊎ (gives_back e ≡ true)

  -- The call begins; its block goes on, with what raises behind it; it has given back, or thrown; or it waits for a call that never fails.
  pub data Stands : State → State → Type 0 where
    Begins : (values : List Value) → Stands (Calling f values [] start) (Calling f values [] start)
    Here : (ops extra : List LlOp) (e : LlExit) (core : Core) → core.function ≡ f → CallsNever p f ops → Behind p raised covers e extra → Early ops e core → Stands (At ops e [] core) (At (ops ++ extra) e [] core)
    Back : (value : Value) (core : Core) → Stands (Returning value [] core) (Returning value [] core)
    Out : (value : Value) (core : Core) → Stands (Throwing value [] core) (Throwing value [] core)
    Inner : (s : State) (frame : Frame) (extra : List LlOp) → IsApart p f s → frame.graph ≡ f → CallsNever p f frame.ops → Behind p raised covers frame.exit extra → gives_back frame.exit ≡ true
        → Stands (over (frame ∷ []) s) (over (record frame { ops = frame.ops ++ extra } ∷ []) s)

  abbrev pub Uncovered : Outcome → Type 0
  Uncovered (Failed name) = class_named name covers ≡ None
  Uncovered other = Unit {0}

  abbrev pub NextStands : Next → Next → Type 0
  NextStands (Goes t) n = (u : State) × (n ≡ Goes u) × Stands t u
  NextStands (Puts byte t) n = (u : State) × (n ≡ Puts byte u) × Stands t u
  NextStands (Tells event t) n = (u : State) × (n ≡ Tells event u) × Stands t u
  NextStands (Ends outcome core) n = (n ≡ Ends outcome core) × Uncovered outcome
  NextStands (Sticks reason) n = Unit {0}

  -- the one fails, and the other is about to raise
  pub record AtFailure (s x : State) : Type 0 where
    pub core : Core
    pub number : ℕ
    pub raiser : ℕ
    pub class : ℕ
    pub plain : s ≡ At [] (exit.Fail number) [] core
    pub raising : x ≡ At (op.Call None raiser [] ∷ []) (exit.Fail number) [] core
    pub covered : class_of number covers ≡ Some class
    pub raises : Raises p raiser (raised class)
    pub memory : forgotten core ≡ forgotten start

  either : (b : Bool) (x y : Next) (m n : Next) → NextStands x m → NextStands y n → NextStands (cond b x y) (cond b m n)
  either true x y m n h k = h
  either false x y m n h k = k

  no_failure : (outcome : Outcome) → IsNoFailure outcome → Uncovered outcome
  no_failure (Failed name) h = absurd h
  no_failure _ h = tt

  -- ---- links

  begins_stands : (core : Core) (to : ℕ) (values : List Value) → core.function ≡ f → forgotten core ≡ forgotten start → NextStands (begins [] core to values (block_in (slice_get Plain.graphs core.function) to)) (begins [] core to values (block_in (slice_get p.graphs core.function) to))
  begins_stands core to values of memory =
      subst (λ g. NextStands (begins [] core to values (block_in (slice_get Plain.graphs g) to)) (begins [] core to values (block_in (slice_get p.graphs g) to))) (sym of)
      (subst (λ o. NextStands (begins [] core to values (block_in o to)) (begins [] core to values (block_in (slice_get p.graphs f) to))) (sym plain_there)
      (subst (λ o. NextStands (begins [] core to values (slice_get graph.blocks to)) (begins [] core to values (block_in o to))) (sym r.is) (by (slice_get graph.blocks to) refl)))
    where
      by : (o : Option LlBlock) → slice_get graph.blocks to ≡ o → NextStands (begins [] core to values o) (begins [] core to values (slice_get (raising_blocks covers graph.blocks r.made).0 to))
      by None e = tt
      by (Some block) e =
          let it = block_there to block e in
          let after : Core = record core { block = to; at = 0; vars = set_all core.vars block.inputs values } in (
            At (block.ops ++ it.extra) block.exit [] after,
            ap (λ o. begins [] core to values o) it.at,
            Here block.ops it.extra block.exit after of (calls_of_block p f graph r.calls r.values to block e) it.behind (early (all_only_set block.ops) refl (r.last to block e) memory),
          )
        where
          early : (b : Bool) → all_only_set block.ops ≡ b → (all_only_set block.ops || gives_back block.exit) ≡ true → forgotten core ≡ forgotten start → Early block.ops block.exit (record core { block = to; at = 0; vars = set_all core.vars block.inputs values })
          early true same h memory = inl (same, memory)
          early false same h memory = inr (ap (λ b. b || gives_back block.exit) (sym same) ∙ h)

  jump_stands : (core : Core) (link : LlLink) → core.function ≡ f → forgotten core ≡ forgotten start → NextStands (jump Plain [] core link) (jump p [] core link)
  jump_stands core link of memory = either (any_unset (operands core.vars link.args)) (Sticks IsUnset) _ (Sticks IsUnset) _ tt (begins_stands core link.to (operands core.vars link.args) of memory)

  branch_stands : (core : Core) (there elsewhere : LlLink) (o : Option Bool) → core.function ≡ f → forgotten core ≡ forgotten start → NextStands (branch Plain [] core there elsewhere o) (branch p [] core there elsewhere o)
  branch_stands core there elsewhere None of memory = tt
  branch_stands core there elsewhere (Some true) of memory = jump_stands core there of memory
  branch_stands core there elsewhere (Some false) of memory = jump_stands core elsewhere of memory

  -- ---- exits

  early_memory : (e : LlExit) (core : Core) → gives_back e ≡ false → Early [] e core → forgotten core ≡ forgotten start
  early_memory e core h (inl k) = k.1
  early_memory e core h (inr k) = absurd (cc)

  raised_stands : (a : ℕ) (core : Core) (o : Option CType) → NextStands (goes_on (At [] (exit.Raised a) []) (st.raised core (shapes_of p.structs) o (read core.vars a))) (goes_on (At [] (exit.Raised a) []) (st.raised core (shapes_of p.structs) o (read core.vars a)))
  raised_stands a core o = by o
    where
      said : (o : Option (List ℕ)) → NextStands (goes_on (At [] (exit.Raised a) []) (st.raised_as core o)) (goes_on (At [] (exit.Raised a) []) (st.raised_as core o))
      said None = tt
      said (Some name) = (refl, tt)

      found : (r : Result Block StuckReason) → NextStands (goes_on (At [] (exit.Raised a) []) (on_block (λ block. st.raised_as core (st.bytes_of block.items)) r)) (goes_on (At [] (exit.Raised a) []) (on_block (λ block. st.raised_as core (st.bytes_of block.items)) r))
      found (Ok block) = said (st.bytes_of block.items)
      found (Err reason) = tt

      by : (o : Option CType) → NextStands (goes_on (At [] (exit.Raised a) []) (st.raised core (shapes_of p.structs) o (read core.vars a))) (goes_on (At [] (exit.Raised a) []) (st.raised core (shapes_of p.structs) o (read core.vars a)))
      by (Some (c.Ptr n)) = found (reached core (shapes_of p.structs) n (read core.vars a))
      by None = tt
      by (Some c.Signed) = tt
      by (Some c.Char) = tt
      by (Some c.Bool) = tt
      by (Some c.Fn) = tt

  leaves_stands : (e : LlExit) (core : Core) → core.function ≡ f → failing_with e covers ≡ None → Early [] e core → NextStands (leaves Plain e [] core) (leaves p e [] core)
  leaves_stands (exit.Goto link) core of none early = jump_stands core link of (early_memory (exit.Goto link) core refl early)
  leaves_stands (exit.If a there elsewhere) core of none early = branch_stands core there elsewhere (flag_of (read core.vars a)) of (early_memory (exit.If a there elsewhere) core refl early)
  leaves_stands (exit.OnRaise a by without) core of none early = jump_stands core without of (early_memory (exit.OnRaise a by without) core refl early)
  leaves_stands (exit.Return None) core of none early = (Returning Unset [] core, refl, Back Unset core)
  leaves_stands (exit.Return (Some x)) core of none early = either (is_unset (operand core.vars x)) (Sticks IsUnset) _ (Sticks IsUnset) _ tt (Returning (operand core.vars x) [] core, refl, Back (operand core.vars x) core)
  leaves_stands (exit.Raise a) core of none early = either (is_unset (read core.vars a)) (Sticks IsUnset) _ (Sticks IsUnset) _ tt (Throwing (read core.vars a) [] core, refl, Out (read core.vars a) core)
  leaves_stands (exit.Fail number) core of none early = by (fail_name_of number) refl
    where
      by : (o : Option FailName) → fail_name_of number ≡ o → NextStands (goes_on (At [] (exit.Fail number) []) (st.fail core o)) (goes_on (At [] (exit.Fail number) []) (st.fail core (fail_name_of number)))
      by None e = tt
      by (Some name) e = (ap (λ o. goes_on (At [] (exit.Fail number) []) (st.fail core o)) e, class_is covers number name e ∙ none)
  leaves_stands (exit.Raised a) core of none early =
      subst (λ o. NextStands (goes_on (At [] (exit.Raised a) []) (st.raised core (shapes_of p.structs) (type_in (slice_get Plain.graphs core.function) a) (read core.vars a))) (goes_on (At [] (exit.Raised a) []) (st.raised core (shapes_of p.structs) o (read core.vars a)))) same
      (raised_stands a core (type_in (slice_get Plain.graphs core.function) a))
    where
      same : type_in (slice_get Plain.graphs core.function) a ≡ type_in (slice_get p.graphs core.function) a
      same = ap (λ g. type_in (slice_get Plain.graphs g) a) of ∙ ap (λ o. type_in o a) plain_there ∙ sym (ap (λ g. type_in (slice_get p.graphs g) a) of ∙ ap (λ o. type_in o a) r.is)

  -- an exception in a block that gives back
  caught_stands : (value : Value) (ops extra : List LlOp) (e : LlExit) (core : Core) → Behind p raised covers e extra → gives_back e ≡ true → NextStands (caught Plain value ops e [] core) (caught p value (ops ++ extra) e [] core)
  caught_stands value (o ∷ ops) extra e core behind back = (Throwing value [] core, refl, Out value core)
  caught_stands value [] extra (exit.Return x) core (Nothing h) back = (Throwing value [] core, refl, Out value core)
  caught_stands value [] extra (exit.Return x) core (Throws n class h raises) back = absurd (cc)
  caught_stands value [] extra _ core behind back = absurd (cc)

  -- ---- operations

  after_stands : (ops extra : List LlOp) (e : LlExit) (core : Core) → core.function ≡ f → CallsNever p f ops → Behind p raised covers e extra → (after : After) → AfterMoves core after → NotFailed after → ((next : Core) → after ≡ Onward next → Early ops e next) → ((next : Core) (byte : ℕ) → after ≡ PutsByte byte next → gives_back e ≡ true)
      → ((next : Core) (event : Event) → after ≡ Told event next → gives_back e ≡ true) → NextStands (goes_on (At ops e []) after) (goes_on (At (ops ++ extra) e []) after)
  after_stands ops extra e core of calls behind (Onward next) m k early puts tells = (At (ops ++ extra) e [] next, refl, Here ops extra e next (m.function ∙ of) calls behind (early next refl))
  after_stands ops extra e core of calls behind (PutsByte byte next) m k early puts tells = (At (ops ++ extra) e [] next, refl, Here ops extra e next (m.function ∙ of) calls behind (inr (puts next byte refl)))
  after_stands ops extra e core of calls behind (Told event next) m k early puts tells = (At (ops ++ extra) e [] next, refl, Here ops extra e next (m.function ∙ of) calls behind (inr (tells next event refl)))
  after_stands ops extra e core of calls behind (Over outcome next) m k early puts tells = (refl, no_failure outcome k)
  after_stands ops extra e core of calls behind (Stuck reason) m k early puts tells = tt

  module _ (ops extra : List LlOp) (e : LlExit) (core : Core) (of : core.function ≡ f) (behind : Behind p raised covers e extra) where
    ordinary : (o : LlOp) → CallsNever p f (o ∷ ops) → Early (o ∷ ops) e core → NextStands (goes_on (At ops e []) (does Plain args core o)) (goes_on (At (ops ++ extra) e []) (does p args core o))
    ordinary o calls early = subst (λ a. NextStands (goes_on (At ops e []) a) (goes_on (At (ops ++ extra) e []) (does p args core o))) (sym (does_same p f args graph core o))
        (after_stands ops extra e core of (calls_behind p f calls) behind (does p args core o) (does_moves core p args o) (does_ends core p args o) (λ next h. goes early next h) (λ next byte h. puts early next byte h) (λ next event h. tells early next event h))
      where
        goes : Early (o ∷ ops) e core → (next : Core) → does p args core o ≡ Onward next → Early ops e next
        goes (inl h) next k = inl (and_second (only_sets o) (all_only_set ops) h.0, subst (Keeps core) k (sets_keep core p args o (and_first (only_sets o) (all_only_set ops) h.0)) ∙ h.1)
        goes (inr h) next k = inr h

        puts : Early (o ∷ ops) e core → (next : Core) (byte : ℕ) → does p args core o ≡ PutsByte byte next → gives_back e ≡ true
        puts (inl h) next byte k = absurd (subst (Keeps core) k (sets_keep core p args o (and_first (only_sets o) (all_only_set ops) h.0)))
        puts (inr h) next byte k = h

        tells : Early (o ∷ ops) e core → (next : Core) (event : Event) → does p args core o ≡ Told event next → gives_back e ≡ true
        tells (inl h) next event k = absurd (subst (Keeps core) k (sets_keep core p args o (and_first (only_sets o) (all_only_set ops) h.0)))
        tells (inr h) next event k = h

    late : (o : LlOp) → only_sets o ≡ false → Early (o ∷ ops) e core → gives_back e ≡ true
    late o h (inl k) = (let q : true ≡ false = sym (and_first (only_sets o) (all_only_set ops) k.0) ∙ h in absurd (cc))
    late o h (inr k) = k

    operates_stands : (o : LlOp) → CallsNever p f (o ∷ ops) → Early (o ∷ ops) e core → NextStands (operates Plain args o ops e [] core) (operates p args o (ops ++ extra) e [] core)
    operates_stands (op.Call into g xs) calls early = either (any_unset (operands core.vars xs)) (Sticks IsUnset) _ (Sticks IsUnset) _ tt (
      Calling g (operands core.vars xs) (waiting core into (ops ++ extra) e ∷ []) core,
      refl,
      Inner (Calling g (operands core.vars xs) [] core) (waiting core into ops e) extra (calls.calls 0 into g xs refl, tt) of (calls_behind p f calls) behind (late (op.Call into g xs) refl early),
    )
    operates_stands (op.CallFn into result params b xs) calls early = absurd (calls.values 0 into result params b xs refl)
    operates_stands (op.Raise a) calls early = either (is_unset (read core.vars a)) (Sticks IsUnset) _ (Sticks IsUnset) _ tt (caught_stands (read core.vars a) ops extra e core behind (late (op.Raise a) refl early))
    operates_stands (op.Set a x) calls early = ordinary (op.Set a x) calls early
    operates_stands (op.Unary a o x) calls early = ordinary (op.Unary a o x) calls early
    operates_stands (op.Binary a o x y) calls early = ordinary (op.Binary a o x y) calls early
    operates_stands (op.GetField a n b k) calls early = ordinary (op.GetField a n b k) calls early
    operates_stands (op.SetField n b k x) calls early = ordinary (op.SetField n b k x) calls early
    operates_stands (op.GetItem a n b i) calls early = ordinary (op.GetItem a n b i) calls early
    operates_stands (op.SetItem n b i x) calls early = ordinary (op.SetItem n b i x) calls early
    operates_stands (op.New a m n) calls early = ordinary (op.New a m n) calls early
    operates_stands (op.NewArray a m n x) calls early = ordinary (op.NewArray a m n x) calls early
    operates_stands (op.Free a) calls early = ordinary (op.Free a) calls early
    operates_stands (op.Step x) calls early = ordinary (op.Step x) calls early
    operates_stands (op.ExcType a n) calls early = ordinary (op.ExcType a n) calls early
    operates_stands (op.ExcValue a n) calls early = ordinary (op.ExcValue a n) calls early
    operates_stands (op.ExcSet a b) calls early = ordinary (op.ExcSet a b) calls early
    operates_stands op.ExcClear calls early = ordinary op.ExcClear calls early
    operates_stands (op.Argc a) calls early = ordinary (op.Argc a) calls early
    operates_stands (op.ArgLen a x) calls early = ordinary (op.ArgLen a x) calls early
    operates_stands (op.Arg a x y) calls early = ordinary (op.Arg a x y) calls early
    operates_stands (op.Put x) calls early = ordinary (op.Put x) calls early

  -- ---- the call

  entered_stands : (values : List Value) → NextStands (entered f values [] start (slice_get Plain.graphs f)) (entered f values [] start (slice_get p.graphs f))
  entered_stands values =
      subst (λ o. NextStands (entered f values [] start o) (entered f values [] start (slice_get p.graphs f))) (sym plain_there)
      (subst (λ o. NextStands (enters f values [] start graph (slice_get graph.blocks 0)) (entered f values [] start o)) (sym r.is) (by (slice_get graph.blocks 0) refl))
    where
      by : (o : Option LlBlock) → slice_get graph.blocks 0 ≡ o → NextStands (enters f values [] start graph o) (enters f values [] start (raising_graph covers graph r.made) (slice_get (raising_blocks covers graph.blocks r.made).0 0))
      by None e = tt
      by (Some block) e =
          let it = block_there 0 block e in
          let after : Core = record start { function = f; block = 0; at = 0; vars = values ++ replicate (length graph.types - length graph.params) Unset } in (
            At (block.ops ++ it.extra) block.exit [] after,
            ap (λ o. enters f values [] start (raising_graph covers graph r.made) o) it.at,
            Here block.ops it.extra block.exit after refl (calls_of_block p f graph r.calls r.values 0 block e) it.behind (early (all_only_set block.ops) refl (r.last 0 block e)),
          )
        where
          early : (b : Bool) → all_only_set block.ops ≡ b → (all_only_set block.ops || gives_back block.exit) ≡ true → Early block.ops block.exit (record start { function = f; block = 0; at = 0; vars = values ++ replicate (length graph.types - length graph.params) Unset })
          early true same h = inl (same, refl)
          early false same h = inr (ap (λ b. b || gives_back block.exit) (sym same) ∙ h)

  -- ---- within a call that it makes

  module _ (frame : Frame) (extra : List LlOp) (of : frame.graph ≡ f) (calls : CallsNever p f frame.ops) (behind : Behind p raised covers frame.exit extra) (back : gives_back frame.exit ≡ true) where
    abbrev more : Frame
    more = record frame { ops = frame.ops ++ extra }

    next_stands : (n : Next) → NextApart p f n → NextStands (next_over (frame ∷ []) n) (next_over (more ∷ []) n)
    next_stands (Goes t) h = (over (more ∷ []) t, refl, Inner t frame extra h of calls behind back)
    next_stands (Puts byte t) h = (over (more ∷ []) t, refl, Inner t frame extra h of calls behind back)
    next_stands (Tells event t) h = (over (more ∷ []) t, refl, Inner t frame extra h of calls behind back)
    next_stands (Ends outcome core) h = (refl, no_failure outcome h)
    next_stands (Sticks reason) h = tt

    same_step : (s : State) → IsApart p f s → step Plain args (over (frame ∷ []) s) ≡ next_over (frame ∷ []) (step Plain args s) → step p args (over (more ∷ []) s) ≡ next_over (more ∷ []) (step p args s) → NextStands (step Plain args (over (frame ∷ []) s)) (step p args (over (more ∷ []) s))
    same_step s apart a b =
        subst (λ m. NextStands m (step p args (over (more ∷ []) s))) (sym (a ∙ ap (next_over (frame ∷ [])) (step_same p f args graph s apart)))
        (subst (λ n. NextStands (next_over (frame ∷ []) (step p args s)) n) (sym b) (next_stands (step p args s) (step_apart p f args s apart)))

    inner_stands : (s : State) → IsApart p f s → NextStands (step Plain args (over (frame ∷ []) s)) (step p args (over (more ∷ []) s))
    inner_stands (Calling g values frames core) apart = same_step (Calling g values frames core) apart (entered_over (frame ∷ []) Plain args g values frames core (slice_get Plain.graphs g)) (entered_over (more ∷ []) p args g values frames core (slice_get p.graphs g))
    inner_stands (At [] e frames core) apart = same_step (At [] e frames core) apart (leaves_over (frame ∷ []) Plain args e frames core) (leaves_over (more ∷ []) p args e frames core)
    inner_stands (At (o ∷ ops) e frames core) apart = same_step (At (o ∷ ops) e frames core) apart (operates_over (frame ∷ []) Plain args o ops e frames core) (operates_over (more ∷ []) p args o ops e frames core)
    inner_stands (Returning value (inner ∷ frames) core) apart = same_step (Returning value (inner ∷ frames) core) apart refl refl
    inner_stands (Throwing value (inner ∷ frames) core) apart = same_step (Throwing value (inner ∷ frames) core) apart (caught_over (frame ∷ []) Plain args value inner.ops inner.exit frames (resumed inner core)) (caught_over (more ∷ []) p args value inner.ops inner.exit frames (resumed inner core))
    inner_stands (Returning value [] core) apart =
        let after : Core = record (resumed frame core) { vars = taken_by frame.vars frame.into value } in
        (At (frame.ops ++ extra) frame.exit [] after, refl, Here frame.ops extra frame.exit after of calls behind (inr back))
    inner_stands (Throwing value [] core) apart = caught_stands value frame.ops extra frame.exit (resumed frame core) behind back

  -- ---- each step

  last_stands : (e : LlExit) (core : Core) (extra : List LlOp) → core.function ≡ f → Behind p raised covers e extra → Early [] e core → NextStands (leaves Plain e [] core) (step p args (At extra e [] core)) ⊎ AtFailure (At [] e [] core) (At extra e [] core)
  last_stands e core extra of (Nothing h) early = inl (leaves_stands e core of h early)
  last_stands (exit.Fail number) core extra of (Throws n class h raises) early = inr (record { core = core; number = number; raiser = n; class = class; plain = refl; raising = refl; covered = h; raises = raises; memory = early_memory (exit.Fail number) core refl early })
  last_stands _ core extra of (Throws n class h raises) early = absurd (cc)

  pub step_stands : {s x : State} → Stands s x → NextStands (step Plain args s) (step p args x) ⊎ AtFailure s x
  step_stands (Begins values) = inl (entered_stands values)
  step_stands (Here [] extra e core of calls behind early) = last_stands e core extra of behind early
  step_stands (Here (o ∷ ops) extra e core of calls behind early) = inl (operates_stands ops extra e core of behind o calls early)
  step_stands (Back value core) = inl (by (word_of value))
    where
      by : (o : Option ℤ) → NextStands (goes_on (Returning value []) (st.on (λ n. Over (Returned n) (record core { vars = [] })) o)) (goes_on (Returning value []) (st.on (λ n. Over (Returned n) (record core { vars = [] })) o))
      by None = tt
      by (Some n) = (refl, tt)
  step_stands (Out value core) = inl tt
  step_stands (Inner s frame extra apart of calls behind back) = inl (inner_stands frame extra of calls behind back s apart)
