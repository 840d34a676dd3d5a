-- Only a payment changes the steps that are left.
use Rattle.std.proofs.Common.{◌≡◌, ◌≤◌, ℕ, ◌+◌, ◌-◌, Bool, true, false, List, [], ◌∷◌, length, Option, Some, None, Result, Ok, Err, refl, arith, ℤ, pos, negsuc}
use Rattle.std.specs.Prelude.{slice_get, slice_set, slice_index_or, cond, nat_lt, nat_le, ◌||◌, ◌&&◌}
use Rattle.rpy_base.specs.declared.outcome.Outcome.{Outcome}
use Rattle.rpy_base.specs.declared.outcome.Outcome.TheVariants.{Returned}
use Rattle.csub_tree.specs.State.{Value, Unset, Ptr, Static, Block, Core, After, Onward, Puts as PutsByte, Told, Over, Stuck}
use Rattle.csub_tree.specs.Layout.{Shape, shape_at, place}
use Rattle.csub_tree.specs.Operation.{Answer, is_unset, word_of, unary_of, binary_of, flag_of}
use Rattle.csub_tree.specs.Statement as st
use Rattle.csub_tree.specs.Statement.{read, operand, operands, any_unset, block_at, as_struct, reached, on_block, fun_of, same_result, same_types, fail_name_of}
use Rattle.csub_tree.specs.declared.stuck.StuckReason.{StuckReason}
use Rattle.csub_tree.specs.declared.stuck.StuckReason.TheVariants.{Unset as IsUnset, Signature, Outside}
use Rattle.csub_tree.specs.declared.tree.CType.{CType}
use Rattle.csub_tree.specs.declared.tree.CType.TheVariants as c
use Rattle.ll_code.specs.State.{Frame, State, Calling, At, Returning, Throwing, Next, Goes, Puts, Tells, Ends, Sticks}
use Rattle.ll_code.specs.Machine.{does, goes_on, shapes_of, block_in, begins, jump, branch, caught_by, caught, waiting, resumed, called, called_as, called_value, enters, entered, returned, thrown, given, operates, type_in, leaves, step, param_types, c_result}
use Rattle.ll_code.specs.declared.program.LlLink.{LlLink}
use Rattle.ll_code.specs.declared.program.LlOp.{LlOp}
use Rattle.ll_code.specs.declared.program.LlOp.TheVariants as op
use Rattle.ll_code.specs.declared.program.LlExit.{LlExit}
use Rattle.ll_code.specs.declared.program.LlExit.TheVariants as exit
use Rattle.ll_code.specs.declared.program.LlBlock.{LlBlock}
use Rattle.ll_code.specs.declared.program.LlGraph.{LlGraph}
use Rattle.ll_code.specs.declared.program.LlProgram.{LlProgram}
use Rattle.ll_held.specs.Roots.{core_of}

abbrev pub AfterTells : Core → After → Type 0
AfterTells old (Onward core) = core.steps ≡ old.steps
AfterTells old (PutsByte byte core) = core.steps ≡ old.steps
AfterTells old (Told event core) = core.steps ≡ old.steps
AfterTells old (Over outcome core) = ⊥
AfterTells old (Stuck reason) = Unit {0}

-- a payment leaves no more
abbrev pub AfterKeeps : Core → After → Type 0
AfterKeeps old (Onward core) = core.steps ≤ old.steps
AfterKeeps old (PutsByte byte core) = core.steps ≤ old.steps
AfterKeeps old (Told event core) = core.steps ≤ old.steps
AfterKeeps old after = Unit {0}

abbrev pub OpTells : LlOp → Core → After → Type 0
OpTells (op.Step x) old after = AfterKeeps old after
OpTells other old after = AfterTells old after

module _ (core : Core) where
  choice : (b : Bool) (x y : After) → AfterTells core x → AfterTells core y → AfterTells core (cond b x y)
  choice true x y h k = h
  choice false x y h k = k

  with_option : {X : Type 0} (go : X → After) → ((x : X) → AfterTells core (go x)) → (o : Option X) → AfterTells core (st.on go o)
  with_option go h None = tt
  with_option go h (Some x) = h x

  set_tells : (a : ℕ) (w : Value) → AfterTells core (st.set core a w)
  set_tells a w = choice (is_unset w) (Stuck IsUnset) (st.assigned core a w) tt refl

  answered_tells : (a : ℕ) (answer : Answer) → AfterTells core (st.answered core a answer)
  answered_tells a (Ok w) = refl
  answered_tells a (Err reason) = tt

  found_tells : (go : Block → After) (r : Result Block StuckReason) → ((block : Block) → r ≡ Ok block → AfterTells core (go block)) → AfterTells core (on_block go r)
  found_tells go (Ok block) h = h block refl
  found_tells go (Err reason) h = tt

  stored_tells : (w : Value) (other : Block) → AfterTells core (st.stored core w other)
  stored_tells (Ptr n) other = refl
  stored_tells (Static g) other = refl
  stored_tells w other = tt

  item_tells : (a : ℕ) (items : List Value) (i : ℤ) → AfterTells core (st.item core a items i)
  item_tells a items (pos i) = choice (nat_lt i (length items)) (st.set core a (read items i)) (Stuck Outside) (set_tells a (read items i)) tt
  item_tells a items (negsuc i) = tt

  put_item_tells : (w : Value) (block : Block) (i : ℤ) (x : Value) → AfterTells core (st.put_item core w block i x)
  put_item_tells w block (pos i) x = choice (nat_lt i (length block.items)) (st.stored core w (record block { items = slice_set block.items i x })) (Stuck Outside) (stored_tells w (record block { items = slice_set block.items i x })) tt
  put_item_tells w block (negsuc i) x = tt

  new_tells : (shapes : List Shape) (a n items : ℕ) → AfterTells core (st.new_block core shapes a n items)
  new_tells shapes a n items = refl

  new_items_tells : (shapes : List Shape) (a n : ℕ) (i : ℤ) → AfterTells core (st.new_items core shapes a n i)
  new_items_tells shapes a n (pos items) = new_tells shapes a n items
  new_items_tells shapes a n (negsuc items) = tt

  free_tells : (w : Value) → AfterTells core (st.free core w)
  free_tells Unset = tt
  free_tells (Ptr n) = one (slice_index_or core.blocks n None) refl
    where
      one : (o : Option Block) → slice_index_or core.blocks n None ≡ o → AfterTells core (st.free_block core n o)
      one None e = tt
      one (Some block) e = refl
  free_tells w = tt

  paid : (b : Bool) (next : Core) (outcome : Outcome) → next.steps ≤ core.steps → AfterKeeps core (cond b (Onward next) (Over outcome core))
  paid true next outcome e = e
  paid false next outcome e = tt

  pay_tells : (i : ℤ) → AfterKeeps core (st.pay_steps core i)
  pay_tells (pos cost) = paid (nat_le cost core.steps) (record core { at = core.at + 1; steps = core.steps - cost }) _ (omega arith)
  pay_tells (negsuc cost) = tt

  pay_option : (o : Option ℤ) → AfterKeeps core (st.on (st.pay_steps core) o)
  pay_option None = tt
  pay_option (Some i) = pay_tells i

  in_range_tells : (a : ℕ) (o : Option ℕ) → AfterTells core (st.in_range core a o)
  in_range_tells a None = tt
  in_range_tells a (Some n) = refl

  put_tells : (i : ℤ) → AfterTells core (st.put_word core i)
  put_tells (pos byte) = choice (nat_lt byte 256) (PutsByte byte (record core { at = core.at + 1 })) _ refl tt
  put_tells (negsuc n) = tt

  module _ (p : LlProgram) (args : List (List ℕ)) where
    pub does_tells : (o : LlOp) → OpTells o core (does p args core o)
    does_tells (op.Set a x) = set_tells a (operand core.vars x)
    does_tells (op.Unary a o x) = answered_tells a (unary_of o (operand core.vars x))
    does_tells (op.Binary a o x y) = answered_tells a (binary_of o (operand core.vars x) (operand core.vars y))
    does_tells (op.GetField a n b k) = found_tells _ (reached core (shapes_of p.structs) n (read core.vars b)) (λ block e. set_tells a (read block.fields (place (shape_at (shapes_of p.structs) n) k)))
    does_tells (op.SetField n b k x) = choice (is_unset (operand core.vars x)) (Stuck IsUnset) _ tt (found_tells _ (reached core (shapes_of p.structs) n (read core.vars b)) (λ block e. stored_tells (read core.vars b) (record block { fields = slice_set block.fields (place (shape_at (shapes_of p.structs) n) k) (operand core.vars x) })))
    does_tells (op.GetItem a n b i) = with_option _ (λ j. found_tells _ (reached core (shapes_of p.structs) n (read core.vars b)) (λ block e. item_tells a block.items j)) (word_of (operand core.vars i))
    does_tells (op.SetItem n b i x) = choice (is_unset (operand core.vars x)) (Stuck IsUnset) _ tt
        (with_option _ (λ j. found_tells _ (reached core (shapes_of p.structs) n (read core.vars b)) (λ block e. put_item_tells (read core.vars b) block j (operand core.vars x))) (word_of (operand core.vars i)))
    does_tells (op.New a m n) = new_tells (shapes_of p.structs) a n 0
    does_tells (op.NewArray a m n x) = with_option _ (new_items_tells (shapes_of p.structs) a n) (word_of (operand core.vars x))
    does_tells (op.Free a) = free_tells (read core.vars a)
    does_tells (op.Step x) = pay_option (word_of (operand core.vars x))
    does_tells (op.ExcType a n) = refl
    does_tells (op.ExcValue a n) = refl
    does_tells (op.ExcSet a b) = choice (is_unset (read core.vars a) || is_unset (read core.vars b)) (Stuck IsUnset) _ tt refl
    does_tells op.ExcClear = refl
    does_tells (op.Argc a) = refl
    does_tells (op.ArgLen a x) = with_option _ (λ i. in_range_tells a _) (word_of (operand core.vars x))
    does_tells (op.Arg a x y) = with_option _ (λ i. with_option _ (λ j. in_range_tells a _) (word_of (operand core.vars y))) (word_of (operand core.vars x))
    does_tells (op.Put x) = with_option _ put_tells (word_of (operand core.vars x))
    does_tells (op.Call into f xs) = tt
    does_tells (op.CallFn into result params b xs) = tt
    does_tells (op.Raise a) = tt

-- ---- steps

abbrev pub NextTells : Core → Next → Type 0
NextTells old (Goes s) = (core_of s).steps ≡ old.steps
NextTells old (Puts byte s) = (core_of s).steps ≡ old.steps
NextTells old (Tells event s) = (core_of s).steps ≡ old.steps
NextTells old (Ends outcome core) = ⊥
NextTells old (Sticks reason) = Unit {0}

abbrev pub NextKeeps : Core → Next → Type 0
NextKeeps old (Goes s) = (core_of s).steps ≤ old.steps
NextKeeps old (Puts byte s) = (core_of s).steps ≤ old.steps
NextKeeps old (Tells event s) = (core_of s).steps ≤ old.steps
NextKeeps old next = Unit {0}

-- the same are left
abbrev pub SameSteps : Core → Next → Type 0
SameSteps old (Ends outcome core) = Unit {0}
SameSteps old next = NextTells old next

same_so : (old : Core) (next : Next) → NextTells old next → SameSteps old next
same_so old (Goes s) h = h
same_so old (Puts byte s) h = h
same_so old (Tells event s) h = h
same_so old (Ends outcome core) h = tt
same_so old (Sticks reason) h = tt

same_keeps : (old : Core) (next : Next) → SameSteps old next → NextKeeps old next
same_keeps old (Goes s) h = omega (arith, h)
same_keeps old (Puts byte s) h = omega (arith, h)
same_keeps old (Tells event s) h = omega (arith, h)
same_keeps old (Ends outcome core) h = tt
same_keeps old (Sticks reason) h = tt

weaker : (old : Core) (next : Next) → NextTells old next → NextKeeps old next
weaker old (Goes s) h = omega (arith, h)
weaker old (Puts byte s) h = omega (arith, h)
weaker old (Tells event s) h = omega (arith, h)
weaker old (Ends outcome core) h = tt
weaker old (Sticks reason) h = tt

abbrev pub IsPayment : State → Type 0
IsPayment (At (op.Step x ∷ ops) exit frames core) = Unit {0}
IsPayment other = ⊥

-- where steps are paid, or the run may end
abbrev pub OpNext : LlOp → Core → Next → Type 0
OpNext (op.Step x) old next = NextKeeps old next
OpNext other old next = NextTells old next

abbrev pub ExitNext : LlExit → Core → Next → Type 0
ExitNext (exit.Fail number) old next = SameSteps old next
ExitNext (exit.Raised a) old next = SameSteps old next
ExitNext other old next = NextTells old next

either : (old : Core) (b : Bool) (x y : Next) → NextTells old x → NextTells old y → NextTells old (cond b x y)
either old true x y h k = h
either old false x y h k = k

goes_tells : (core : Core) (ops : List LlOp) (e : LlExit) (frames : List Frame) (after : After) → AfterTells core after → NextTells core (goes_on (At ops e frames) after)
goes_tells core ops e frames (Onward next) h = h
goes_tells core ops e frames (PutsByte byte next) h = h
goes_tells core ops e frames (Told event next) h = h
goes_tells core ops e frames (Over outcome next) h = h
goes_tells core ops e frames (Stuck reason) h = tt

goes_keeps : (core : Core) (ops : List LlOp) (e : LlExit) (frames : List Frame) (after : After) → AfterKeeps core after → NextKeeps core (goes_on (At ops e frames) after)
goes_keeps core ops e frames (Onward next) h = h
goes_keeps core ops e frames (PutsByte byte next) h = h
goes_keeps core ops e frames (Told event next) h = h
goes_keeps core ops e frames (Over outcome next) h = tt
goes_keeps core ops e frames (Stuck reason) h = tt

module _ (p : LlProgram) (args : List (List ℕ)) where
  begins_tells : (frames : List Frame) (core : Core) (to : ℕ) (values : List Value) (o : Option LlBlock) → NextTells core (begins frames core to values o)
  begins_tells frames core to values None = tt
  begins_tells frames core to values (Some block) = refl

  jump_tells : (frames : List Frame) (core : Core) (link : LlLink) → NextTells core (jump p frames core link)
  jump_tells frames core link = either core (any_unset (operands core.vars link.args)) (Sticks IsUnset) _ tt (begins_tells frames core link.to (operands core.vars link.args) (block_in (slice_get p.graphs core.function) link.to))

  branch_tells : (frames : List Frame) (core : Core) (there elsewhere : LlLink) (o : Option Bool) → NextTells core (branch p frames core there elsewhere o)
  branch_tells frames core there elsewhere None = tt
  branch_tells frames core there elsewhere (Some true) = jump_tells frames core there
  branch_tells frames core there elsewhere (Some false) = jump_tells frames core elsewhere

  -- ---- exceptions and values

  caught_by_tells : (value : Value) (frames : List Frame) (core : Core) (e : LlExit) → NextTells core (caught_by p value frames core e)
  caught_by_tells value frames core (exit.OnRaise a (Some link) without) = jump_tells frames (record core { vars = slice_set core.vars a value }) link
  caught_by_tells value frames core (exit.OnRaise a None without) = refl
  caught_by_tells value frames core other = refl

  caught_tells : (value : Value) (ops : List LlOp) (e : LlExit) (frames : List Frame) (core : Core) → NextTells core (caught p value ops e frames core)
  caught_tells value [] e frames core = caught_by_tells value frames core e
  caught_tells value (o ∷ ops) e frames core = refl

  given_tells : (core : Core) (value : Value) (go : Value → Next) → NextTells core (go value) → NextTells core (given value go)
  given_tells core value go h = either core (is_unset value) (Sticks IsUnset) (go value) tt h

  -- ---- calls

  called_tells : (f : ℕ) (values : List Value) (frames : List Frame) (core : Core) → NextTells core (called f values frames core)
  called_tells f values frames core = either core (any_unset values) (Sticks IsUnset) _ tt refl

  called_as_tells : (result : Option CType) (params : List CType) (f : ℕ) (values : List Value) (frames : List Frame) (core : Core) (o : Option LlGraph) → NextTells core (called_as result params f values frames core o)
  called_as_tells result params f values frames core None = tt
  called_as_tells result params f values frames core (Some graph) = either core (same_result (c_result graph.result) result && same_types (param_types graph) params) _ (Sticks Signature) refl tt

  called_value_tells : (result : Option CType) (params : List CType) (o : Option ℕ) (values : List Value) (frames : List Frame) (core : Core) → NextTells core (called_value p result params o values frames core)
  called_value_tells result params None values frames core = tt
  called_value_tells result params (Some f) values frames core = called_as_tells result params f values frames core (slice_get p.graphs f)

  entered_tells : (f : ℕ) (values : List Value) (frames : List Frame) (core : Core) (o : Option LlGraph) → NextTells core (entered f values frames core o)
  entered_tells f values frames core None = tt
  entered_tells f values frames core (Some graph) = one (slice_get graph.blocks 0)
    where
      one : (b : Option LlBlock) → NextTells core (enters f values frames core graph b)
      one None = tt
      one (Some block) = refl

  stays_tells : (o : LlOp) (ops : List LlOp) (e : LlExit) (frames : List Frame) (core : Core) → AfterTells core (does p args core o) → NextTells core (goes_on (At ops e frames) (does p args core o))
  stays_tells o ops e frames core h = goes_tells core ops e frames (does p args core o) h

  operates_tells : (o : LlOp) (ops : List LlOp) (e : LlExit) (frames : List Frame) (core : Core) → OpNext o core (operates p args o ops e frames core)
  operates_tells (op.Call into f xs) ops e frames core = called_tells f (operands core.vars xs) (waiting core into ops e ∷ frames) core
  operates_tells (op.CallFn into result params b xs) ops e frames core =
      either core (is_unset (read core.vars b) || any_unset (operands core.vars xs)) (Sticks IsUnset) _ tt (called_value_tells (c_result result) _ (fun_of (read core.vars b)) (operands core.vars xs) (waiting core into ops e ∷ frames) core)
  operates_tells (op.Raise a) ops e frames core = given_tells core (read core.vars a) (λ value. caught p value ops e frames core) (caught_tells (read core.vars a) ops e frames core)
  operates_tells (op.Set a x) ops e frames core = stays_tells (op.Set a x) ops e frames core (does_tells core p args (op.Set a x))
  operates_tells (op.Unary a o x) ops e frames core = stays_tells (op.Unary a o x) ops e frames core (does_tells core p args (op.Unary a o x))
  operates_tells (op.Binary a o x y) ops e frames core = stays_tells (op.Binary a o x y) ops e frames core (does_tells core p args (op.Binary a o x y))
  operates_tells (op.GetField a n b k) ops e frames core = stays_tells (op.GetField a n b k) ops e frames core (does_tells core p args (op.GetField a n b k))
  operates_tells (op.SetField n b k x) ops e frames core = stays_tells (op.SetField n b k x) ops e frames core (does_tells core p args (op.SetField n b k x))
  operates_tells (op.GetItem a n b i) ops e frames core = stays_tells (op.GetItem a n b i) ops e frames core (does_tells core p args (op.GetItem a n b i))
  operates_tells (op.SetItem n b i x) ops e frames core = stays_tells (op.SetItem n b i x) ops e frames core (does_tells core p args (op.SetItem n b i x))
  operates_tells (op.New a m n) ops e frames core = stays_tells (op.New a m n) ops e frames core (does_tells core p args (op.New a m n))
  operates_tells (op.NewArray a m n x) ops e frames core = stays_tells (op.NewArray a m n x) ops e frames core (does_tells core p args (op.NewArray a m n x))
  operates_tells (op.Free a) ops e frames core = stays_tells (op.Free a) ops e frames core (does_tells core p args (op.Free a))
  operates_tells (op.Step x) ops e frames core = goes_keeps core ops e frames (does p args core (op.Step x)) (does_tells core p args (op.Step x))
  operates_tells (op.ExcType a n) ops e frames core = stays_tells (op.ExcType a n) ops e frames core (does_tells core p args (op.ExcType a n))
  operates_tells (op.ExcValue a n) ops e frames core = stays_tells (op.ExcValue a n) ops e frames core (does_tells core p args (op.ExcValue a n))
  operates_tells (op.ExcSet a b) ops e frames core = stays_tells (op.ExcSet a b) ops e frames core (does_tells core p args (op.ExcSet a b))
  operates_tells op.ExcClear ops e frames core = stays_tells op.ExcClear ops e frames core (does_tells core p args op.ExcClear)
  operates_tells (op.Argc a) ops e frames core = stays_tells (op.Argc a) ops e frames core (does_tells core p args (op.Argc a))
  operates_tells (op.ArgLen a x) ops e frames core = stays_tells (op.ArgLen a x) ops e frames core (does_tells core p args (op.ArgLen a x))
  operates_tells (op.Arg a x y) ops e frames core = stays_tells (op.Arg a x y) ops e frames core (does_tells core p args (op.Arg a x y))
  operates_tells (op.Put x) ops e frames core = stays_tells (op.Put x) ops e frames core (does_tells core p args (op.Put x))

  leaves_tells : (e : LlExit) (frames : List Frame) (core : Core) → ExitNext e core (leaves p e frames core)
  leaves_tells (exit.Goto link) frames core = jump_tells frames core link
  leaves_tells (exit.If a there elsewhere) frames core = branch_tells frames core there elsewhere (flag_of (read core.vars a))
  leaves_tells (exit.OnRaise a by without) frames core = jump_tells frames core without
  leaves_tells (exit.Return None) frames core = refl
  leaves_tells (exit.Return (Some x)) frames core = given_tells core (operand core.vars x) (λ value. Goes (Returning value frames core)) refl
  leaves_tells (exit.Raise a) frames core = given_tells core (read core.vars a) (λ value. Goes (Throwing value frames core)) refl
  leaves_tells (exit.Fail number) frames core = one (fail_name_of number)
    where
      one : (o : Option _) → SameSteps core (goes_on (At [] (exit.Fail number) frames) (st.fail core o))
      one None = tt
      one (Some name) = tt
  leaves_tells (exit.Raised a) frames core = by (type_in (slice_get p.graphs core.function) a)
    where
      named : (o : Option (List ℕ)) → SameSteps core (goes_on (At [] (exit.Raised a) frames) (st.raised_as core o))
      named None = tt
      named (Some name) = tt

      found : (r : Result Block StuckReason) → SameSteps core (goes_on (At [] (exit.Raised a) frames) (on_block (λ block. st.raised_as core (st.bytes_of block.items)) r))
      found (Ok block) = named (st.bytes_of block.items)
      found (Err reason) = tt

      by : (o : Option CType) → SameSteps core (goes_on (At [] (exit.Raised a) frames) (st.raised core (shapes_of p.structs) o (read core.vars a)))
      by (Some (c.Ptr n)) = found (reached core (shapes_of p.structs) n (read core.vars a))
      by None = tt
      by (Some c.Signed) = tt
      by (Some c.Char) = tt
      by (Some c.Bool) = tt
      by (Some c.Fn) = tt

  thrown_tells : (value : Value) (frames : List Frame) (core : Core) → NextTells core (thrown p value frames core)
  thrown_tells value [] core = tt
  thrown_tells value (frame ∷ frames) core = caught_tells value frame.ops frame.exit frames (resumed frame core)

  -- ---- all steps

  returned_keeps : (value : Value) (core : Core) → SameSteps core (returned value [] core)
  returned_keeps value core = one (word_of value)
    where
      one : (o : Option ℤ) → SameSteps core (goes_on (Returning value []) (st.on (λ n. Over (Returned n) (record core { vars = [] })) o))
      one None = tt
      one (Some n) = tt

  weak_op : (o : LlOp) (old : Core) (next : Next) → OpNext o old next → NextKeeps old next
  weak_op (op.Step x) old next h = h
  weak_op other old next h = weaker old next h

  weak_exit : (e : LlExit) (old : Core) (next : Next) → ExitNext e old next → NextKeeps old next
  weak_exit (exit.Fail number) old next h = same_keeps old next h
  weak_exit (exit.Raised a) old next h = same_keeps old next h
  weak_exit other old next h = weaker old next h

  pub step_tells : (s : State) → NextKeeps (core_of s) (step p args s)
  step_tells (Calling f values frames core) = weaker core _ (entered_tells f values frames core (slice_get p.graphs f))
  step_tells (At [] e frames core) = weak_exit e core _ (leaves_tells e frames core)
  step_tells (At (o ∷ ops) e frames core) = weak_op o core _ (operates_tells o ops e frames core)
  step_tells (Returning value [] core) = same_keeps core _ (returned_keeps value core)
  step_tells (Returning value (frame ∷ frames) core) = omega arith
  step_tells (Throwing value frames core) = weaker core _ (thrown_tells value frames core)

  -- ---- what is no payment

  op_same : (o : LlOp) (ops : List LlOp) (x : LlExit) (frames : List Frame) (core : Core) (next : Next) → OpNext o core next → (IsPayment (At (o ∷ ops) x frames core) → ⊥) → SameSteps core next
  op_same (op.Step y) ops x frames core next h none = absurd (none tt)
  op_same other ops x frames core next h none = same_so core next h

  exit_same : (x : LlExit) (core : Core) (next : Next) → ExitNext x core next → SameSteps core next
  exit_same (exit.Fail number) core next h = h
  exit_same (exit.Raised a) core next h = h
  exit_same other core next h = same_so core next h

  pub step_same : (s : State) → (IsPayment s → ⊥) → SameSteps (core_of s) (step p args s)
  step_same (Calling f values frames core) none = same_so core _ (entered_tells f values frames core (slice_get p.graphs f))
  step_same (At [] e frames core) none = exit_same e core _ (leaves_tells e frames core)
  step_same (At (o ∷ ops) e frames core) none = op_same o ops e frames core _ (operates_tells o ops e frames core) none
  step_same (Returning value [] core) none = returned_keeps value core
  step_same (Returning value (frame ∷ frames) core) none = refl
  step_same (Throwing value frames core) none = same_so core _ (thrown_tells value frames core)
