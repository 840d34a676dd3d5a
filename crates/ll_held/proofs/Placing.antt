-- Each state of a run stands in a block of its program, and who waits stands behind its call.
use Rattle.std.proofs.Common.{◌≡◌, ℕ, zero, suc, ◌+◌, ◌-◌, Bool, true, false, List, [], ◌∷◌, ◌++◌, length, drop, Option, Some, None, Result, Ok, Err, refl, ap, ◌∙◌, subst, arith, ℤ, pos, negsuc}
use Rattle.std.specs.Prelude.{slice_get, slice_set, slice_index_or, cond, nat_lt, nat_le, ◌||◌, ◌&&◌}
use Rattle.rpy_base.specs.declared.outcome.Outcome.TheVariants.{Returned}
use Rattle.csub_tree.specs.State.{Value, Unset, Ptr, Static, Block, Core, After, Onward, Puts as PutsByte, Told, Over, Stuck, Event}
use Rattle.csub_tree.specs.Layout.{Shape, shape_at, place}
use Rattle.csub_tree.specs.Operation.{Answer, is_unset, word_of, unary_of, binary_of, flag_of}
use Rattle.csub_tree.specs.Statement as st
use Rattle.csub_tree.specs.Statement.{read, operand, operands, any_unset, reached, on_block, fun_of, same_result, same_types, fail_name_of, ended}
use Rattle.csub_tree.specs.declared.stuck.StuckReason.{StuckReason}
use Rattle.csub_tree.specs.declared.stuck.StuckReason.TheVariants.{Unset as IsUnset, Signature, Outside}
use Rattle.csub_tree.specs.declared.tree.CType.{CType}
use Rattle.csub_tree.specs.declared.tree.CType.TheVariants as c
use Rattle.ll_code.specs.State.{Frame, State, Calling, At, Returning, Throwing, Next, Goes, Puts, Tells, Ends, Sticks}
use Rattle.ll_code.specs.Machine.{does, goes_on, shapes_of, block_in, begins, jump, branch, caught_by, caught, waiting, resumed, called, called_as, called_value, enters, entered, returned, thrown, given, operates, type_in, leaves, step, start, param_types, c_result}
use Rattle.ll_code.specs.Meaning.{Ran, Ended, Unfinished, run, follow}
use Rattle.ll_code.specs.declared.program.LlLink.{LlLink}
use Rattle.ll_code.specs.declared.program.LlOp.{LlOp}
use Rattle.ll_code.specs.declared.program.LlOp.TheVariants as op
use Rattle.ll_code.specs.declared.program.LlExit.{LlExit}
use Rattle.ll_code.specs.declared.program.LlExit.TheVariants as exit
use Rattle.ll_code.specs.declared.program.LlBlock.{LlBlock}
use Rattle.ll_code.specs.declared.program.LlGraph.{LlGraph}
use Rattle.ll_code.specs.declared.program.LlProgram.{LlProgram}
use Rattle.ll_live.specs.Live.{set_by}
use Rattle.ll_held.specs.Roots.{operation_in, under_way}
use Rattle.ll_held.specs.Places.{PlacedAt, BehindCall, AllBehind, IsPlaced}

-- ---- an operation that stays in its block goes on at the next place

pub record Onwards (old core : Core) : Type 0 where
  pub function : core.function ≡ old.function
  pub block : core.block ≡ old.block
  pub at : core.at ≡ suc old.at

abbrev pub AfterMoves : Core → After → Type 0
AfterMoves old (Onward core) = Onwards old core
AfterMoves old (PutsByte byte core) = Onwards old core
AfterMoves old (Told event core) = Onwards old core
AfterMoves old (Over outcome core) = Unit {0}
AfterMoves old (Stuck reason) = Unit {0}

module _ (core : Core) where
  next_place : core.at + 1 ≡ suc core.at
  next_place = omega arith

  choice : (b : Bool) (x y : After) → AfterMoves core x → AfterMoves core y → AfterMoves core (cond b x y)
  choice true x y h k = h
  choice false x y h k = k

  with_option : {X : Type 0} (go : X → After) → ((x : X) → AfterMoves core (go x)) → (o : Option X) → AfterMoves core (st.on go o)
  with_option go h None = tt
  with_option go h (Some x) = h x

  set_moves : (a : ℕ) (w : Value) → AfterMoves core (st.set core a w)
  set_moves a w = choice (is_unset w) (Stuck IsUnset) (st.assigned core a w) tt (record { function = refl; block = refl; at = next_place })

  answered_moves : (a : ℕ) (answer : Answer) → AfterMoves core (st.answered core a answer)
  answered_moves a (Ok w) = record { function = refl; block = refl; at = next_place }
  answered_moves a (Err reason) = tt

  found_moves : (go : Block → After) → ((block : Block) → AfterMoves core (go block)) → (r : Result Block StuckReason) → AfterMoves core (on_block go r)
  found_moves go h (Ok block) = h block
  found_moves go h (Err reason) = tt

  stored_moves : (w : Value) (block : Block) → AfterMoves core (st.stored core w block)
  stored_moves (Ptr n) block = record { function = refl; block = refl; at = next_place }
  stored_moves (Static g) block = record { function = refl; block = refl; at = next_place }
  stored_moves other block = tt

  item_moves : (a : ℕ) (items : List Value) (i : ℤ) → AfterMoves core (st.item core a items i)
  item_moves a items (pos i) = choice (nat_lt i (length items)) (st.set core a (read items i)) (Stuck Outside) (set_moves a (read items i)) tt
  item_moves a items (negsuc i) = tt

  put_item_moves : (w : Value) (block : Block) (i : ℤ) (x : Value) → AfterMoves core (st.put_item core w block i x)
  put_item_moves w block (pos i) x = choice (nat_lt i (length block.items)) (st.stored core w (record block { items = slice_set block.items i x })) (Stuck Outside) (stored_moves w (record block { items = slice_set block.items i x })) tt
  put_item_moves w block (negsuc i) x = tt

  new_items_moves : (shapes : List Shape) (a n : ℕ) (i : ℤ) → AfterMoves core (st.new_items core shapes a n i)
  new_items_moves shapes a n (pos items) = record { function = refl; block = refl; at = next_place }
  new_items_moves shapes a n (negsuc items) = tt

  free_moves : (w : Value) → AfterMoves core (st.free core w)
  free_moves Unset = tt
  free_moves (Ptr n) = one (slice_index_or core.blocks n None)
    where
      one : (o : Option Block) → AfterMoves core (st.free_block core n o)
      one None = tt
      one (Some block) = record { function = refl; block = refl; at = next_place }
  free_moves other = tt

  pay_moves : (i : ℤ) → AfterMoves core (st.pay_steps core i)
  pay_moves (pos cost) = choice (nat_le cost core.steps) (Onward (record core { at = core.at + 1; steps = core.steps - cost })) (Over _ core) (record { function = refl; block = refl; at = next_place }) tt
  pay_moves (negsuc cost) = tt

  in_range_moves : (a : ℕ) (o : Option ℕ) → AfterMoves core (st.in_range core a o)
  in_range_moves a None = tt
  in_range_moves a (Some n) = record { function = refl; block = refl; at = next_place }

  put_moves : (i : ℤ) → AfterMoves core (st.put_word core i)
  put_moves (pos byte) = choice (nat_lt byte 256) (PutsByte byte (record core { at = core.at + 1 })) _ (record { function = refl; block = refl; at = next_place }) tt
  put_moves (negsuc n) = tt

  module _ (p : LlProgram) (args : List (List ℕ)) where
    pub does_moves : (o : LlOp) → AfterMoves core (does p args core o)
    does_moves (op.Set a x) = set_moves a (operand core.vars x)
    does_moves (op.Unary a o x) = answered_moves a (unary_of o (operand core.vars x))
    does_moves (op.Binary a o x y) = answered_moves a (binary_of o (operand core.vars x) (operand core.vars y))
    does_moves (op.GetField a n b k) = found_moves _ (λ block. set_moves a (read block.fields (place (shape_at (shapes_of p.structs) n) k))) (reached core (shapes_of p.structs) n (read core.vars b))
    does_moves (op.SetField n b k x) = choice (is_unset (operand core.vars x)) (Stuck IsUnset) _ tt
        (found_moves _ (λ block. stored_moves (read core.vars b) (record block { fields = slice_set block.fields (place (shape_at (shapes_of p.structs) n) k) (operand core.vars x) })) (reached core (shapes_of p.structs) n (read core.vars b)))
    does_moves (op.GetItem a n b i) = with_option _ (λ j. found_moves _ (λ block. item_moves a block.items j) (reached core (shapes_of p.structs) n (read core.vars b))) (word_of (operand core.vars i))
    does_moves (op.SetItem n b i x) = choice (is_unset (operand core.vars x)) (Stuck IsUnset) _ tt
        (with_option _ (λ j. found_moves _ (λ block. put_item_moves (read core.vars b) block j (operand core.vars x)) (reached core (shapes_of p.structs) n (read core.vars b))) (word_of (operand core.vars i)))
    does_moves (op.New a m n) = record { function = refl; block = refl; at = next_place }
    does_moves (op.NewArray a m n x) = with_option _ (new_items_moves (shapes_of p.structs) a n) (word_of (operand core.vars x))
    does_moves (op.Free a) = free_moves (read core.vars a)
    does_moves (op.Step x) = with_option _ pay_moves (word_of (operand core.vars x))
    does_moves (op.ExcType a n) = record { function = refl; block = refl; at = next_place }
    does_moves (op.ExcValue a n) = record { function = refl; block = refl; at = next_place }
    does_moves (op.ExcSet a b) = choice (is_unset (read core.vars a) || is_unset (read core.vars b)) (Stuck IsUnset) _ tt (record { function = refl; block = refl; at = next_place })
    does_moves op.ExcClear = record { function = refl; block = refl; at = next_place }
    does_moves (op.Argc a) = record { function = refl; block = refl; at = next_place }
    does_moves (op.ArgLen a x) = with_option _ (λ i. in_range_moves a _) (word_of (operand core.vars x))
    does_moves (op.Arg a x y) = with_option _ (λ i. with_option _ (λ j. in_range_moves a _) (word_of (operand core.vars y))) (word_of (operand core.vars x))
    does_moves (op.Put x) = with_option _ put_moves (word_of (operand core.vars x))
    does_moves (op.Call into f xs) = tt
    does_moves (op.CallFn into result params b xs) = tt
    does_moves (op.Raise a) = tt

-- ---- the call that is under way

drop_get : {A : Type 0} (n : ℕ) (xs ys : List A) (x : A) → drop n xs ≡ x ∷ ys → slice_get xs n ≡ Some x
drop_get zero [] ys x e = absurd (cc)
drop_get zero (z ∷ xs) ys x e = cc
drop_get (suc n) [] ys x e = absurd (cc)
drop_get (suc n) (z ∷ xs) ys x e = drop_get n xs ys x e

pub under_is : (p : LlProgram) (o : LlOp) (ops : List LlOp) (e : LlExit) (into : Option ℕ) (core : Core) → PlacedAt p core.function core.block core.at (o ∷ ops) e → under_way p (waiting core into ops e) ≡ Some o
under_is p o ops e into core h =
    ap (λ b. operation_in b (core.at + 1 - 1)) h.of ∙ (let s : core.at + 1 - 1 ≡ core.at = omega arith in ap (slice_get h.block.ops) s) ∙ drop_get core.at h.block.ops ops o h.left

-- ---- steps

abbrev pub NextPlaced : LlProgram → Next → Type 0
NextPlaced p (Goes s) = IsPlaced p s
NextPlaced p (Puts byte s) = IsPlaced p s
NextPlaced p (Tells event s) = IsPlaced p s
NextPlaced p (Ends outcome core) = Unit {0}
NextPlaced p (Sticks reason) = Unit {0}

drop_next : {A : Type 0} (n : ℕ) (xs ys : List A) (x : A) → drop n xs ≡ x ∷ ys → drop (suc n) xs ≡ ys
drop_next zero [] ys x e = absurd (cc)
drop_next zero (z ∷ xs) ys x e = cc
drop_next (suc n) [] ys x e = absurd (cc)
drop_next (suc n) (z ∷ xs) ys x e = drop_next n xs ys x e

module _ (p : LlProgram) (args : List (List ℕ)) where
  either : (b : Bool) (x y : Next) → NextPlaced p x → NextPlaced p y → NextPlaced p (cond b x y)
  either true x y h k = h
  either false x y h k = k

  onwards_placed : (o : LlOp) (ops : List LlOp) (e : LlExit) (old core : Core) → PlacedAt p old.function old.block old.at (o ∷ ops) e → Onwards old core → PlacedAt p core.function core.block core.at ops e
  onwards_placed o ops e old core h m = record {
    block = h.block;
    of = ap (λ f. block_in (slice_get p.graphs f) core.block) m.function ∙ ap (block_in (slice_get p.graphs old.function)) m.block ∙ h.of;
    left = ap (λ n. drop n h.block.ops) m.at ∙ drop_next old.at h.block.ops ops o h.left;
    end = h.end;
  }

  goes_placed : (o : LlOp) (ops : List LlOp) (e : LlExit) (frames : List Frame) (core : Core) → PlacedAt p core.function core.block core.at (o ∷ ops) e → AllBehind p frames → (after : After) → AfterMoves core after → NextPlaced p (goes_on (At ops e frames) after)
  goes_placed o ops e frames core h w (Onward next) m = (onwards_placed o ops e core next h m, w)
  goes_placed o ops e frames core h w (PutsByte byte next) m = (onwards_placed o ops e core next h m, w)
  goes_placed o ops e frames core h w (Told event next) m = (onwards_placed o ops e core next h m, w)
  goes_placed o ops e frames core h w (Over outcome next) m = tt
  goes_placed o ops e frames core h w (Stuck reason) m = tt

  -- ---- links

  begins_placed : (frames : List Frame) (core : Core) (to : ℕ) (values : List Value) → AllBehind p frames → (o : Option LlBlock) → block_in (slice_get p.graphs core.function) to ≡ o → NextPlaced p (begins frames core to values o)
  begins_placed frames core to values w None e = tt
  begins_placed frames core to values w (Some block) e = (record { block = block; of = e; left = refl; end = refl }, w)

  jump_placed : (frames : List Frame) (core : Core) (link : LlLink) → AllBehind p frames → NextPlaced p (jump p frames core link)
  jump_placed frames core link w = either (any_unset (operands core.vars link.args)) (Sticks IsUnset) _ tt (begins_placed frames core link.to (operands core.vars link.args) w (block_in (slice_get p.graphs core.function) link.to) refl)

  branch_placed : (frames : List Frame) (core : Core) (there elsewhere : LlLink) (o : Option Bool) → AllBehind p frames → NextPlaced p (branch p frames core there elsewhere o)
  branch_placed frames core there elsewhere None w = tt
  branch_placed frames core there elsewhere (Some true) w = jump_placed frames core there w
  branch_placed frames core there elsewhere (Some false) w = jump_placed frames core elsewhere w

  -- ---- exceptions and values

  caught_by_placed : (value : Value) (frames : List Frame) (core : Core) (e : LlExit) → AllBehind p frames → NextPlaced p (caught_by p value frames core e)
  caught_by_placed value frames core (exit.OnRaise a (Some link) without) w = jump_placed frames (record core { vars = slice_set core.vars a value }) link w
  caught_by_placed value frames core (exit.OnRaise a None without) w = w
  caught_by_placed value frames core other w = w

  caught_placed : (value : Value) (ops : List LlOp) (e : LlExit) (frames : List Frame) (core : Core) → AllBehind p frames → NextPlaced p (caught p value ops e frames core)
  caught_placed value [] e frames core w = caught_by_placed value frames core e w
  caught_placed value (o ∷ ops) e frames core w = w

  given_placed : (value : Value) (go : Value → Next) → NextPlaced p (go value) → NextPlaced p (given value go)
  given_placed value go h = either (is_unset value) (Sticks IsUnset) (go value) tt h

  -- ---- calls

  called_placed : (f : ℕ) (values : List Value) (frames : List Frame) (core : Core) → AllBehind p frames → NextPlaced p (called f values frames core)
  called_placed f values frames core w = either (any_unset values) (Sticks IsUnset) _ tt w

  called_as_placed : (result : Option CType) (params : List CType) (f : ℕ) (values : List Value) (frames : List Frame) (core : Core) (o : Option LlGraph) → AllBehind p frames → NextPlaced p (called_as result params f values frames core o)
  called_as_placed result params f values frames core None w = tt
  called_as_placed result params f values frames core (Some graph) w = either (same_result (c_result graph.result) result && same_types (param_types graph) params) _ (Sticks Signature) w tt

  called_value_placed : (result : Option CType) (params : List CType) (o : Option ℕ) (values : List Value) (frames : List Frame) (core : Core) → AllBehind p frames → NextPlaced p (called_value p result params o values frames core)
  called_value_placed result params None values frames core w = tt
  called_value_placed result params (Some f) values frames core w = called_as_placed result params f values frames core (slice_get p.graphs f) w

  -- what waits stands behind the call
  pub waits_placed : (o : LlOp) (into : Option ℕ) (ops : List LlOp) (e : LlExit) (core : Core) → set_by o ≡ into → PlacedAt p core.function core.block core.at (o ∷ ops) e → BehindCall p (waiting core into ops e)
  waits_placed o into ops e core is h = record { call = o; before = core.at; at = omega arith; placed = h; into = is }

  entered_placed : (f : ℕ) (values : List Value) (frames : List Frame) (core : Core) → AllBehind p frames → (o : Option LlGraph) → slice_get p.graphs f ≡ o → NextPlaced p (entered f values frames core o)
  entered_placed f values frames core w None e = tt
  entered_placed f values frames core w (Some graph) e = one (slice_get graph.blocks 0) refl
    where
      one : (b : Option LlBlock) → slice_get graph.blocks 0 ≡ b → NextPlaced p (enters f values frames core graph b)
      one None k = tt
      one (Some block) k = (record { block = block; of = ap (λ o. block_in o 0) e ∙ k; left = refl; end = refl }, w)

  stays_placed : (o : LlOp) (ops : List LlOp) (e : LlExit) (frames : List Frame) (core : Core) → PlacedAt p core.function core.block core.at (o ∷ ops) e → AllBehind p frames → NextPlaced p (goes_on (At ops e frames) (does p args core o))
  stays_placed o ops e frames core h w = goes_placed o ops e frames core h w (does p args core o) (does_moves core p args o)

  operates_placed : (o : LlOp) (ops : List LlOp) (e : LlExit) (frames : List Frame) (core : Core) → PlacedAt p core.function core.block core.at (o ∷ ops) e → AllBehind p frames → NextPlaced p (operates p args o ops e frames core)
  operates_placed (op.Call into f xs) ops e frames core h w = called_placed f (operands core.vars xs) (waiting core into ops e ∷ frames) core (waits_placed (op.Call into f xs) into ops e core refl h, w)
  operates_placed (op.CallFn into result params b xs) ops e frames core h w =
      either (is_unset (read core.vars b) || any_unset (operands core.vars xs)) (Sticks IsUnset) _ tt
      (called_value_placed (c_result result) _ (fun_of (read core.vars b)) (operands core.vars xs) (waiting core into ops e ∷ frames) core (waits_placed (op.CallFn into result params b xs) into ops e core refl h, w))
  operates_placed (op.Raise a) ops e frames core h w = given_placed (read core.vars a) (λ value. caught p value ops e frames core) (caught_placed (read core.vars a) ops e frames core w)
  operates_placed (op.Set a x) ops e frames core h w = stays_placed (op.Set a x) ops e frames core h w
  operates_placed (op.Unary a o x) ops e frames core h w = stays_placed (op.Unary a o x) ops e frames core h w
  operates_placed (op.Binary a o x y) ops e frames core h w = stays_placed (op.Binary a o x y) ops e frames core h w
  operates_placed (op.GetField a n b k) ops e frames core h w = stays_placed (op.GetField a n b k) ops e frames core h w
  operates_placed (op.SetField n b k x) ops e frames core h w = stays_placed (op.SetField n b k x) ops e frames core h w
  operates_placed (op.GetItem a n b i) ops e frames core h w = stays_placed (op.GetItem a n b i) ops e frames core h w
  operates_placed (op.SetItem n b i x) ops e frames core h w = stays_placed (op.SetItem n b i x) ops e frames core h w
  operates_placed (op.New a m n) ops e frames core h w = stays_placed (op.New a m n) ops e frames core h w
  operates_placed (op.NewArray a m n x) ops e frames core h w = stays_placed (op.NewArray a m n x) ops e frames core h w
  operates_placed (op.Free a) ops e frames core h w = stays_placed (op.Free a) ops e frames core h w
  operates_placed (op.Step x) ops e frames core h w = stays_placed (op.Step x) ops e frames core h w
  operates_placed (op.ExcType a n) ops e frames core h w = stays_placed (op.ExcType a n) ops e frames core h w
  operates_placed (op.ExcValue a n) ops e frames core h w = stays_placed (op.ExcValue a n) ops e frames core h w
  operates_placed (op.ExcSet a b) ops e frames core h w = stays_placed (op.ExcSet a b) ops e frames core h w
  operates_placed op.ExcClear ops e frames core h w = stays_placed op.ExcClear ops e frames core h w
  operates_placed (op.Argc a) ops e frames core h w = stays_placed (op.Argc a) ops e frames core h w
  operates_placed (op.ArgLen a x) ops e frames core h w = stays_placed (op.ArgLen a x) ops e frames core h w
  operates_placed (op.Arg a x y) ops e frames core h w = stays_placed (op.Arg a x y) ops e frames core h w
  operates_placed (op.Put x) ops e frames core h w = stays_placed (op.Put x) ops e frames core h w

  leaves_placed : (e : LlExit) (frames : List Frame) (core : Core) → AllBehind p frames → NextPlaced p (leaves p e frames core)
  leaves_placed (exit.Goto link) frames core w = jump_placed frames core link w
  leaves_placed (exit.If a there elsewhere) frames core w = branch_placed frames core there elsewhere (flag_of (read core.vars a)) w
  leaves_placed (exit.OnRaise a by without) frames core w = jump_placed frames core without w
  leaves_placed (exit.Return None) frames core w = w
  leaves_placed (exit.Return (Some x)) frames core w = given_placed (operand core.vars x) (λ value. Goes (Returning value frames core)) w
  leaves_placed (exit.Raise a) frames core w = given_placed (read core.vars a) (λ value. Goes (Throwing value frames core)) w
  leaves_placed (exit.Fail number) frames core w = one (fail_name_of number)
    where
      one : (o : Option _) → NextPlaced p (goes_on (At [] (exit.Fail number) frames) (st.fail core o))
      one None = tt
      one (Some name) = tt
  leaves_placed (exit.Raised a) frames core w = by (type_in (slice_get p.graphs core.function) a)
    where
      named : (o : Option (List ℕ)) → NextPlaced p (goes_on (At [] (exit.Raised a) frames) (st.raised_as core o))
      named None = tt
      named (Some name) = tt

      found : (r : Result Block StuckReason) → NextPlaced p (goes_on (At [] (exit.Raised a) frames) (on_block (λ block. st.raised_as core (st.bytes_of block.items)) r))
      found (Ok block) = named (st.bytes_of block.items)
      found (Err reason) = tt

      by : (o : Option CType) → NextPlaced p (goes_on (At [] (exit.Raised a) frames) (st.raised core (shapes_of p.structs) o (read core.vars a)))
      by (Some (c.Ptr n)) = found (reached core (shapes_of p.structs) n (read core.vars a))
      by None = tt
      by (Some c.Signed) = tt
      by (Some c.Char) = tt
      by (Some c.Bool) = tt
      by (Some c.Fn) = tt

  returned_placed : (value : Value) (frames : List Frame) (core : Core) → AllBehind p frames → NextPlaced p (returned value frames core)
  returned_placed value [] core w = one (word_of value)
    where
      one : (o : Option ℤ) → NextPlaced p (goes_on (Returning value []) (st.on (λ n. Over (Returned n) (record core { vars = [] })) o))
      one None = tt
      one (Some n) = tt
  returned_placed value (frame ∷ frames) core (w, ws) = (behind frame w, ws)
    where
      behind : (frame : Frame) → BehindCall p frame → PlacedAt p frame.graph frame.block frame.at frame.ops frame.exit
      behind frame w = record { block = w.placed.block; of = w.placed.of; left = ap (λ n. drop n w.placed.block.ops) w.at ∙ drop_next w.before w.placed.block.ops frame.ops w.call w.placed.left; end = w.placed.end }

  thrown_placed : (value : Value) (frames : List Frame) (core : Core) → AllBehind p frames → NextPlaced p (thrown p value frames core)
  thrown_placed value [] core w = tt
  thrown_placed value (frame ∷ frames) core (w, ws) = caught_placed value frame.ops frame.exit frames (resumed frame core) ws

  pub step_placed : (s : State) → IsPlaced p s → NextPlaced p (step p args s)
  step_placed (Calling f values frames core) w = entered_placed f values frames core w (slice_get p.graphs f) refl
  step_placed (At [] e frames core) (h, w) = leaves_placed e frames core w
  step_placed (At (o ∷ ops) e frames core) (h, w) = operates_placed o ops e frames core h w
  step_placed (Returning value frames core) w = returned_placed value frames core w
  step_placed (Throwing value frames core) w = thrown_placed value frames core w

  -- ---- runs

  abbrev pub RanPlaced : Ran → Type 0
  RanPlaced (Unfinished s text events) = IsPlaced p s
  RanPlaced (Ended ending left text events) = Unit {0}

  on_next : (k : ℕ) → ((s : State) (text : List ℕ) (events : List Event) → IsPlaced p s → RanPlaced (run p args k s text events)) → (text : List ℕ) (events : List Event) (next : Next) → NextPlaced p next → RanPlaced (follow (run p args k) text events next)
  on_next k go text events (Goes s) h = go s text events h
  on_next k go text events (Puts byte s) h = go s (text ++ byte ∷ []) events h
  on_next k go text events (Tells event s) h = go s text (events ++ event ∷ []) h
  on_next k go text events (Ends outcome core) h = tt
  on_next k go text events (Sticks reason) h = tt

  pub run_placed : (k : ℕ) (s : State) (text : List ℕ) (events : List Event) → IsPlaced p s → RanPlaced (run p args k s text events)
  unfolding run
  run_placed zero s text events h = h
  run_placed (suc k) s text events h = on_next k (run_placed k) text events (step p args s) (step_placed s h)

  pub start_placed : (steps : ℕ) → IsPlaced p (start p steps)
  start_placed steps = tt

pub whole_run_placed : (p : LlProgram) (args : List (List ℕ)) (steps k : ℕ) (s : State) (text : List ℕ) (events : List Event) → run p args k (start p steps) [] [] ≡ Unfinished s text events → IsPlaced p s
whole_run_placed p args steps k s text events e = subst (RanPlaced p args) e (run_placed p args k (start p steps) [] [] (start_placed p args steps))
