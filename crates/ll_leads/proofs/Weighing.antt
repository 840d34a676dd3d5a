-- The roots of the states that a call comes to, while nothing waits below it.
use Rattle.std.proofs.Common.{◌≡◌, ◌≤◌, ℕ, zero, suc, ◌+◌, Bool, true, false, List, [], ◌∷◌, ◌++◌, length, Option, Some, None, Result, Ok, Err, ℤ, sym, ap, ◌∙◌, subst, arith}
use Rattle.std.specs.Prelude.{slice_get, slice_set, drop, cond}
use Rattle.rpy_base.specs.declared.outcome.Outcome.TheVariants.{Returned}
use Rattle.rpy_base.specs.declared.outcome.FailName.{FailName}
use Rattle.csub_tree.specs.declared.stuck.StuckReason.{StuckReason}
use Rattle.csub_tree.specs.declared.tree.CType.{CType}
use Rattle.csub_tree.specs.declared.tree.CType.TheVariants as c
use Rattle.csub_tree.specs.State.{Value, Block, Core, After, Onward, Puts as PutsByte, Told, Over, Stuck}
use Rattle.csub_tree.specs.Operation.{is_unset, flag_of, word_of}
use Rattle.csub_tree.specs.Statement as st
use Rattle.csub_tree.specs.Statement.{operand, operands, read, any_unset, fail_name_of, reached, on_block}
use Rattle.csub_tree.specs.declared.stuck.StuckReason.TheVariants.{Unset as IsUnset}
use Rattle.csub_tree.specs.declared.tree.COperand.{COperand}
use Rattle.ll_code.specs.State.{Frame, State, Calling, At, Returning, Throwing, Next, Goes, Puts, Tells, Ends, Sticks}
use Rattle.ll_code.specs.Machine.{step, does, goes_on, shapes_of, jump, begins, branch, block_in, leaves, returned, resumed, thrown, caught, caught_by, waiting, entered, enters, operates, type_in}
use Rattle.ll_code.specs.declared.program.LlLink.{LlLink}
use Rattle.ll_code.specs.declared.program.LlType.{LlType}
use Rattle.ll_code.specs.declared.program.LlOp.{LlOp}
use Rattle.ll_code.specs.declared.program.LlOp.TheVariants as op
use Rattle.ll_code.specs.declared.program.LlExit.{LlExit}
use Rattle.ll_code.specs.declared.program.LlExit.TheVariants as exit
use Rattle.ll_code.specs.declared.program.LlBlock.{LlBlock}
use Rattle.ll_code.specs.declared.program.LlGraph.{LlGraph}
use Rattle.ll_code.specs.declared.program.LlProgram.{LlProgram}
use Rattle.ll_laws.specs.States.{StateFits, AtFits}
use Rattle.ll_live.specs.Live.{live}
use Rattle.ll_held.specs.Roots.{kept, waits_for, waiting_roots, slots, roots}
use Rattle.ll_held.specs.Held.{references, is_reference}
use Rattle.ll_held.specs.Places.{PlacedAt, IsPlaced}
use Rattle.ll_held.proofs.Keeping.{references_append}
use Rattle.ll_held.proofs.Placing.{AfterMoves, does_moves}
use Rattle.ll_leads.specs.Lifted.{over}
use Rattle.ll_leads.specs.Weight.{Within, Weighs, Weigh}

-- ---- lists

few_references : (xs : List Value) → references xs ≤ length xs
few_references [] = omega arith
few_references (x ∷ xs) = one (is_reference x) (few_references xs)
  where
    one : (b : Bool) → references xs ≤ length xs → cond b (suc (references xs)) (references xs) ≤ suc (length xs)
    one true h = omega (arith, h)
    one false h = omega (arith, h)

few_kept : (uses : ℕ → Bool) (n : ℕ) (xs : List Value) → length (kept uses n xs) ≤ length xs
few_kept uses n [] = omega arith
few_kept uses n (x ∷ xs) = one (uses n) (few_kept uses (suc n) xs)
  where
    one : (b : Bool) → length (kept uses (suc n) xs) ≤ length xs → length (cond b (x ∷ kept uses (suc n) xs) (kept uses (suc n) xs)) ≤ suc (length xs)
    one true h = omega (arith, h)
    one false h = omega (arith, h)

pub waiting_both : (p : LlProgram) (frames below : List Frame) → references (waiting_roots p (frames ++ below)) ≡ references (waiting_roots p frames) + references (waiting_roots p below)
waiting_both p [] below = omega arith
waiting_both p (frame ∷ frames) below =
    let a : references (kept (waits_for p frame) 0 frame.vars ++ waiting_roots p (frames ++ below)) ≡ references (kept (waits_for p frame) 0 frame.vars) + references (waiting_roots p (frames ++ below)) = references_append (kept (waits_for p frame) 0 frame.vars) (waiting_roots p (frames ++ below)) in
    let b : references (waiting_roots p (frames ++ below)) ≡ references (waiting_roots p frames) + references (waiting_roots p below) = waiting_both p frames below in
    let c : references (kept (waits_for p frame) 0 frame.vars ++ waiting_roots p frames) ≡ references (kept (waits_for p frame) 0 frame.vars) + references (waiting_roots p frames) = references_append (kept (waits_for p frame) 0 frame.vars) (waiting_roots p frames) in
    omega (arith, a, b, c)

-- ---- who waits

-- graphs of so many variables may be called still; those that wait, with these, have no more than w
pub data Stack (p : LlProgram) (w : ℕ) : ℕ → List Frame → Type 0 where
  Ground : {room : ℕ} → room ≤ w → Stack p w room []
  Under : {frame : Frame} {frames : List Frame} {room : ℕ} (own : ℕ) → Weighs p frame.graph own → length frame.vars + room ≤ own → Stack p w own frames → Stack p w room (frame ∷ frames)

module _ (p : LlProgram) (w : ℕ) where
  few_waiting : {room : ℕ} {frames : List Frame} → Stack p w room frames → references (waiting_roots p frames) + room ≤ w
  few_waiting (Ground le) = omega (arith, le)
  few_waiting (Under {frame = frame} {frames = frames} own weighs few rest) =
      let a : references (kept (waits_for p frame) 0 frame.vars ++ waiting_roots p frames) ≡ references (kept (waits_for p frame) 0 frame.vars) + references (waiting_roots p frames) = references_append (kept (waits_for p frame) 0 frame.vars) (waiting_roots p frames) in
      let b : references (kept (waits_for p frame) 0 frame.vars) ≤ length (kept (waits_for p frame) 0 frame.vars) = few_references (kept (waits_for p frame) 0 frame.vars) in
      let c : length (kept (waits_for p frame) 0 frame.vars) ≤ length frame.vars = few_kept (waits_for p frame) 0 frame.vars in
      let d : references (waiting_roots p frames) + own ≤ w = few_waiting rest in omega (arith, a, b, c, d, few)

  less_room : {frames : List Frame} (room most : ℕ) → room ≤ most → Stack p w most frames → Stack p w room frames
  less_room room most le (Ground k) = Ground (omega (arith, le, k))
  less_room room most le (Under own weighs few rest) = Under own weighs (omega (arith, le, few)) rest

  -- ---- states

  -- the graph that runs, or is called, finds room
  abbrev pub Room : ℕ → List Frame → Type 0
  Room f frames = (own : ℕ) × Weighs p f own × Stack p w own frames

  abbrev pub Inside : State → Type 0
  Inside (Calling f values frames core) = Room f frames
  Inside (At ops e frames core) = Room core.function frames
  Inside (Returning value frames core) = Stack p w 0 frames
  Inside (Throwing value frames core) = Stack p w 0 frames

  abbrev pub NextInside : Next → Type 0
  NextInside (Goes t) = Inside t
  NextInside (Puts byte t) = Inside t
  NextInside (Tells event t) = Inside t
  NextInside (Ends outcome core) = Unit {0}
  NextInside (Sticks reason) = Unit {0}

  no_room : {f : ℕ} {frames : List Frame} → Room f frames → Stack p w 0 frames
  no_room (own, weighs, stack) = less_room 0 own (omega arith) stack

  either : (b : Bool) (x y : Next) → NextInside x → NextInside y → NextInside (cond b x y)
  either true x y h k = h
  either false x y h k = k

  begins_inside : (frames : List Frame) (core : Core) (to : ℕ) (values : List Value) → Room core.function frames → (o : Option LlBlock) → NextInside (begins frames core to values o)
  begins_inside frames core to values h None = tt
  begins_inside frames core to values h (Some block) = h

  jump_inside : (frames : List Frame) (core : Core) (link : LlLink) → Room core.function frames → NextInside (jump p frames core link)
  jump_inside frames core link h = either (any_unset (operands core.vars link.args)) (Sticks IsUnset) _ tt (begins_inside frames core link.to (operands core.vars link.args) h (block_in (slice_get p.graphs core.function) link.to))

  branch_inside : (frames : List Frame) (core : Core) (there elsewhere : LlLink) (o : Option Bool) → Room core.function frames → NextInside (branch p frames core there elsewhere o)
  branch_inside frames core there elsewhere None h = tt
  branch_inside frames core there elsewhere (Some true) h = jump_inside frames core there h
  branch_inside frames core there elsewhere (Some false) h = jump_inside frames core elsewhere h

  caught_by_inside : (value : Value) (frames : List Frame) (core : Core) (e : LlExit) → Room core.function frames → NextInside (caught_by p value frames core e)
  caught_by_inside value frames core (exit.OnRaise a (Some link) without) h = jump_inside frames (record core { vars = slice_set core.vars a value }) link h
  caught_by_inside value frames core (exit.OnRaise a None without) h = no_room h
  caught_by_inside value frames core (exit.Goto link) h = no_room h
  caught_by_inside value frames core (exit.If a there elsewhere) h = no_room h
  caught_by_inside value frames core (exit.Return x) h = no_room h
  caught_by_inside value frames core (exit.Raise a) h = no_room h
  caught_by_inside value frames core (exit.Fail n) h = no_room h
  caught_by_inside value frames core (exit.Raised a) h = no_room h

  caught_inside : (value : Value) (ops : List LlOp) (e : LlExit) (frames : List Frame) (core : Core) → Room core.function frames → NextInside (caught p value ops e frames core)
  caught_inside value [] e frames core h = caught_by_inside value frames core e h
  caught_inside value (o ∷ ops) e frames core h = no_room h

  -- an operation that stays in its block
  after_inside : (ops : List LlOp) (e : LlExit) (frames : List Frame) (core : Core) → Room core.function frames → (after : After) → AfterMoves core after → NextInside (goes_on (At ops e frames) after)
  after_inside ops e frames core h (Onward next) m = subst (λ f. Room f frames) (sym m.function) h
  after_inside ops e frames core h (PutsByte byte next) m = subst (λ f. Room f frames) (sym m.function) h
  after_inside ops e frames core h (Told event next) m = subst (λ f. Room f frames) (sym m.function) h
  after_inside ops e frames core h (Over outcome next) m = tt
  after_inside ops e frames core h (Stuck reason) m = tt

  -- ---- calls

  drop_get : {A : Type 0} (n : ℕ) (xs ys : List A) (x : A) → drop n xs ≡ x ∷ ys → slice_get xs n ≡ Some x
  drop_get zero [] ys x e = absurd (cc)
  drop_get zero (z ∷ xs) ys x e = cc
  drop_get (suc n) [] ys x e = absurd (cc)
  drop_get (suc n) (z ∷ xs) ys x e = drop_get n xs ys x e

  within : (graph : LlGraph) (o : LlOp) (ops : List LlOp) (e : LlExit) (core : Core) → slice_get p.graphs core.function ≡ Some graph → PlacedAt p core.function core.block core.at (o ∷ ops) e → Within graph o
  within graph o ops e core of placed = record { n = core.block; place = core.at; block = placed.block; of = ap (λ g. block_in g core.block) (sym of) ∙ placed.of; at = drop_get core.at placed.block.ops ops o placed.left }

  call_inside : (into : Option ℕ) (g : ℕ) (xs : List COperand) (ops : List LlOp) (e : LlExit) (frames : List Frame) (core : Core) (all : List Frame) (graph : LlGraph) → AtFits p (op.Call into g xs ∷ ops) e all core graph → PlacedAt p core.function core.block core.at (op.Call into g xs ∷ ops) e → Room core.function frames
      → Room g (waiting core into ops e ∷ frames)
  call_inside into g xs ops e frames core all graph fit placed (own, Weigh other below of le params calls values, stack) =
      let same : Some other ≡ Some graph = sym of ∙ fit.of in let is : other ≡ graph = cc in
      let count : length core.vars ≡ length graph.types = fit.fits.vars.count in let more : length graph.types + below ≤ own = subst (λ (h : LlGraph). length h.types + below ≤ own) is le in
      (below, calls into g xs (within other (op.Call into g xs) ops e core of placed), Under own (Weigh other below of le params calls values) (omega (arith, count, more)) stack)

  no_value_call : (into : Option ℕ) (result : LlType) (params : List LlType) (b : ℕ) (xs : List COperand) (ops : List LlOp) (e : LlExit) (frames : List Frame) (core : Core) → PlacedAt p core.function core.block core.at (op.CallFn into result params b xs ∷ ops) e → Room core.function frames → ⊥
  no_value_call into result params b xs ops e frames core placed (own, Weigh other below of le count calls values, stack) = values into result params b xs (within other (op.CallFn into result params b xs) ops e core of placed)

  module _ (args : List (List ℕ)) where
    stays_inside : (o : LlOp) (ops : List LlOp) (e : LlExit) (frames : List Frame) (core : Core) → Room core.function frames → NextInside (goes_on (At ops e frames) (does p args core o))
    stays_inside o ops e frames core h = after_inside ops e frames core h (does p args core o) (does_moves core p args o)

    operates_inside : (o : LlOp) (ops : List LlOp) (e : LlExit) (frames : List Frame) (core : Core) (all : List Frame) (graph : LlGraph) → AtFits p (o ∷ ops) e all core graph → PlacedAt p core.function core.block core.at (o ∷ ops) e → Room core.function frames → NextInside (operates p args o ops e frames core)
    operates_inside (op.Call into f xs) ops e frames core all graph fit placed h = either (any_unset (operands core.vars xs)) (Sticks IsUnset) _ tt (call_inside into f xs ops e frames core all graph fit placed h)
    operates_inside (op.CallFn into result params b xs) ops e frames core all graph fit placed h = absurd (no_value_call into result params b xs ops e frames core placed h)
    operates_inside (op.Raise a) ops e frames core all graph fit placed h = either (is_unset (read core.vars a)) (Sticks IsUnset) _ tt (caught_inside (read core.vars a) ops e frames core h)
    operates_inside (op.Set a x) ops e frames core all graph fit placed h = stays_inside (op.Set a x) ops e frames core h
    operates_inside (op.Unary a o x) ops e frames core all graph fit placed h = stays_inside (op.Unary a o x) ops e frames core h
    operates_inside (op.Binary a o x y) ops e frames core all graph fit placed h = stays_inside (op.Binary a o x y) ops e frames core h
    operates_inside (op.GetField a n b k) ops e frames core all graph fit placed h = stays_inside (op.GetField a n b k) ops e frames core h
    operates_inside (op.SetField n b k x) ops e frames core all graph fit placed h = stays_inside (op.SetField n b k x) ops e frames core h
    operates_inside (op.GetItem a n b i) ops e frames core all graph fit placed h = stays_inside (op.GetItem a n b i) ops e frames core h
    operates_inside (op.SetItem n b i x) ops e frames core all graph fit placed h = stays_inside (op.SetItem n b i x) ops e frames core h
    operates_inside (op.New a m n) ops e frames core all graph fit placed h = stays_inside (op.New a m n) ops e frames core h
    operates_inside (op.NewArray a m n x) ops e frames core all graph fit placed h = stays_inside (op.NewArray a m n x) ops e frames core h
    operates_inside (op.Free a) ops e frames core all graph fit placed h = stays_inside (op.Free a) ops e frames core h
    operates_inside (op.Step x) ops e frames core all graph fit placed h = stays_inside (op.Step x) ops e frames core h
    operates_inside (op.ExcType a n) ops e frames core all graph fit placed h = stays_inside (op.ExcType a n) ops e frames core h
    operates_inside (op.ExcValue a n) ops e frames core all graph fit placed h = stays_inside (op.ExcValue a n) ops e frames core h
    operates_inside (op.ExcSet a b) ops e frames core all graph fit placed h = stays_inside (op.ExcSet a b) ops e frames core h
    operates_inside op.ExcClear ops e frames core all graph fit placed h = stays_inside op.ExcClear ops e frames core h
    operates_inside (op.Argc a) ops e frames core all graph fit placed h = stays_inside (op.Argc a) ops e frames core h
    operates_inside (op.ArgLen a x) ops e frames core all graph fit placed h = stays_inside (op.ArgLen a x) ops e frames core h
    operates_inside (op.Arg a x y) ops e frames core all graph fit placed h = stays_inside (op.Arg a x y) ops e frames core h
    operates_inside (op.Put x) ops e frames core all graph fit placed h = stays_inside (op.Put x) ops e frames core h

    leaves_inside : (e : LlExit) (frames : List Frame) (core : Core) → Room core.function frames → NextInside (leaves p e frames core)
    leaves_inside (exit.Goto link) frames core h = jump_inside frames core link h
    leaves_inside (exit.If a there elsewhere) frames core h = branch_inside frames core there elsewhere (flag_of (read core.vars a)) h
    leaves_inside (exit.OnRaise a by without) frames core h = jump_inside frames core without h
    leaves_inside (exit.Return None) frames core h = no_room h
    leaves_inside (exit.Return (Some x)) frames core h = either (is_unset (operand core.vars x)) (Sticks IsUnset) (Goes (Returning (operand core.vars x) frames core)) tt (no_room h)
    leaves_inside (exit.Raise a) frames core h = either (is_unset (read core.vars a)) (Sticks IsUnset) (Goes (Throwing (read core.vars a) frames core)) tt (no_room h)
    leaves_inside (exit.Fail number) frames core h = one (fail_name_of number)
      where
        one : (o : Option FailName) → NextInside (goes_on (At [] (exit.Fail number) frames) (st.fail core o))
        one None = tt
        one (Some name) = tt
    leaves_inside (exit.Raised a) frames core h = by (type_in (slice_get p.graphs core.function) a)
      where
        said : (o : Option (List ℕ)) → NextInside (goes_on (At [] (exit.Raised a) frames) (st.raised_as core o))
        said None = tt
        said (Some name) = tt

        found : (r : Result Block StuckReason) → NextInside (goes_on (At [] (exit.Raised a) frames) (on_block (λ block. st.raised_as core (st.bytes_of block.items)) r))
        found (Ok block) = said (st.bytes_of block.items)
        found (Err reason) = tt

        by : (o : Option CType) → NextInside (goes_on (At [] (exit.Raised a) frames) (st.raised core (shapes_of p.structs) o (read core.vars a)))
        by (Some (c.Ptr n)) = found (reached core (shapes_of p.structs) n (read core.vars a))
        by None = tt
        by (Some c.Signed) = tt
        by (Some c.Char) = tt
        by (Some c.Bool) = tt
        by (Some c.Fn) = tt

    entered_inside : (f : ℕ) (values : List Value) (frames : List Frame) (core : Core) → Room f frames → (o : Option LlGraph) → NextInside (entered f values frames core o)
    entered_inside f values frames core h None = tt
    entered_inside f values frames core h (Some graph) = one (slice_get graph.blocks 0)
      where
        one : (b : Option LlBlock) → NextInside (enters f values frames core graph b)
        one None = tt
        one (Some block) = h

    back_inside : (value : Value) (frames : List Frame) (core : Core) → Stack p w 0 frames → NextInside (returned value frames core)
    back_inside value [] core h = one (word_of value)
      where
        one : (o : Option ℤ) → NextInside (goes_on (Returning value []) (st.on (λ n. Over (Returned n) (record core { vars = [] })) o))
        one None = tt
        one (Some n) = tt
    back_inside value (frame ∷ frames) core (Under own weighs few rest) = (own, weighs, rest)

    thrown_inside : (value : Value) (frames : List Frame) (core : Core) → Stack p w 0 frames → NextInside (thrown p value frames core)
    thrown_inside value [] core h = tt
    thrown_inside value (frame ∷ frames) core (Under own weighs few rest) = caught_inside value frame.ops frame.exit frames (resumed frame core) (own, weighs, rest)

    -- the state may stand above calls that wait
    pub step_inside : (under : List Frame) (s : State) → StateFits p (over under s) → IsPlaced p (over under s) → Inside s → NextInside (step p args s)
    step_inside under (Calling f values frames core) fit placed h = entered_inside f values frames core h (slice_get p.graphs f)
    step_inside under (At [] e frames core) fit placed h = leaves_inside e frames core h
    step_inside under (At (o ∷ ops) e frames core) (graph, fit) (placed, more) h = operates_inside o ops e frames core (frames ++ under) graph fit placed h
    step_inside under (Returning value frames core) fit placed h = back_inside value frames core h
    step_inside under (Throwing value frames core) fit placed h = thrown_inside value frames core h

  -- ---- roots

  few_roots : (own : List Value) (core : Core) (frames : List Frame) (n : ℕ) → length own ≤ n → references (waiting_roots p frames) + n ≤ w → references ((own ++ slots core) ++ waiting_roots p frames) ≤ w + 2
  few_roots own core frames n le stack =
      let a : references ((own ++ slots core) ++ waiting_roots p frames) ≡ references (own ++ slots core) + references (waiting_roots p frames) = references_append (own ++ slots core) (waiting_roots p frames) in
      let b : references (own ++ slots core) ≡ references own + references (slots core) = references_append own (slots core) in
      let c : references own ≤ length own = few_references own in
      let d : references (slots core) ≤ 2 = few_references (slots core) in omega (arith, a, b, c, d, le, stack)

  -- the roots of a state, with one value that is given out
  pub roots_inside : (under : List Frame) (s : State) → StateFits p (over under s) → Inside s → references (roots p s) ≤ w + 3
  roots_inside under (Calling f values frames core) (graph, fit) (own, Weigh other below of le params calls values', stack) =
      let same : Some other ≡ Some graph = sym of ∙ fit.of in let is : other ≡ graph = cc in
      let more : length graph.types + below ≤ own = subst (λ (h : LlGraph). length h.types + below ≤ own) is le in
      let count : length values ≡ length graph.params = fit.count in
      let room : references (waiting_roots p frames) + own ≤ w = few_waiting stack in
      let given : length graph.params ≤ own = subst (λ (h : LlGraph). length h.params ≤ own) is params in
      let l : references ((values ++ slots core) ++ waiting_roots p frames) ≤ w + 2 = few_roots values core frames own (omega (arith, count, given)) room in omega (arith, l)
  roots_inside under (At ops e frames core) (graph, fit) (own, Weigh other below of le params calls values, stack) =
      let same : Some other ≡ Some graph = sym of ∙ fit.of in let is : other ≡ graph = cc in
      let more : length graph.types + below ≤ own = subst (λ (h : LlGraph). length h.types + below ≤ own) is le in
      let count : length core.vars ≡ length graph.types = fit.fits.vars.count in
      let few : length (kept (live ops e) 0 core.vars) ≤ length core.vars = few_kept (live ops e) 0 core.vars in
      let room : references (waiting_roots p frames) + own ≤ w = few_waiting stack in
      let l : references ((kept (live ops e) 0 core.vars ++ slots core) ++ waiting_roots p frames) ≤ w + 2 = few_roots (kept (live ops e) 0 core.vars) core frames own (omega (arith, more, count, few)) room in omega (arith, l)
  roots_inside under (Returning value frames core) fit stack =
      let room : references (waiting_roots p frames) + 0 ≤ w = few_waiting stack in
      let a : references (value ∷ (slots core ++ waiting_roots p frames)) ≡ references (value ∷ slots core) + references (waiting_roots p frames) = references_append (value ∷ slots core) (waiting_roots p frames) in
      let d : references (value ∷ slots core) ≤ 3 = few_references (value ∷ slots core) in omega (arith, a, d, room)
  roots_inside under (Throwing value frames core) fit stack =
      let room : references (waiting_roots p frames) + 0 ≤ w = few_waiting stack in
      let a : references (value ∷ (slots core ++ waiting_roots p frames)) ≡ references (value ∷ slots core) + references (waiting_roots p frames) = references_append (value ∷ slots core) (waiting_roots p frames) in
      let d : references (value ∷ slots core) ≤ 3 = few_references (value ∷ slots core) in omega (arith, a, d, room)
