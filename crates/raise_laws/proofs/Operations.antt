-- No operation that stays in its block ends the run as failed, and what only sets variables keeps memory.
use Rattle.std.proofs.Common.{◌≡◌, ℕ, ◌+◌, ◌-◌, Bool, true, false, ◌||◌, List, length, Option, Some, None, Result, Ok, Err, ℤ, pos, negsuc, refl}
use Rattle.std.specs.Prelude.{slice_set, slice_index_or, cond, nat_lt, nat_le}
use Rattle.rpy_base.specs.declared.outcome.Outcome.{Outcome}
use Rattle.rpy_base.specs.declared.outcome.Outcome.TheVariants.{Failed}
use Rattle.csub_tree.specs.State.{Value, Unset, Ptr, Static, Block, Core, After, Onward, Puts as PutsByte, Told, Over, Stuck}
use Rattle.csub_tree.specs.Layout.{Shape, shape_at, place}
use Rattle.csub_tree.specs.Operation.{Answer, is_unset, word_of, unary_of, binary_of}
use Rattle.csub_tree.specs.Statement as st
use Rattle.csub_tree.specs.Statement.{read, operand, reached, on_block}
use Rattle.csub_tree.specs.declared.stuck.StuckReason.{StuckReason}
use Rattle.csub_tree.specs.declared.stuck.StuckReason.TheVariants.{Unset as IsUnset, Outside}
use Rattle.ll_code.specs.Machine.{does, shapes_of}
use Rattle.ll_code.specs.declared.program.LlOp.{LlOp}
use Rattle.ll_code.specs.declared.program.LlOp.TheVariants as op
use Rattle.ll_code.specs.declared.program.LlProgram.{LlProgram}
use Rattle.ll_leads.specs.Memory.{forgotten}
use Rattle.raise_laws.specs.Raising.{only_sets}

abbrev pub IsNoFailure : Outcome → Type 0
IsNoFailure (Failed name) = ⊥
IsNoFailure other = Unit {0}

abbrev pub NotFailed : After → Type 0
NotFailed (Over outcome core) = IsNoFailure outcome
NotFailed other = Unit {0}

module _ (core : Core) where
  choice : (b : Bool) (x y : After) → NotFailed x → NotFailed y → NotFailed (cond b x y)
  choice true x y h k = h
  choice false x y h k = k

  with_option : {X : Type 0} (go : X → After) → ((x : X) → NotFailed (go x)) → (o : Option X) → NotFailed (st.on go o)
  with_option go h None = tt
  with_option go h (Some x) = h x

  set_ends : (a : ℕ) (w : Value) → NotFailed (st.set core a w)
  set_ends a w = choice (is_unset w) (Stuck IsUnset) (st.assigned core a w) tt (tt)

  answered_ends : (a : ℕ) (answer : Answer) → NotFailed (st.answered core a answer)
  answered_ends a (Ok w) = tt
  answered_ends a (Err reason) = tt

  found_ends : (go : Block → After) → ((block : Block) → NotFailed (go block)) → (r : Result Block StuckReason) → NotFailed (on_block go r)
  found_ends go h (Ok block) = h block
  found_ends go h (Err reason) = tt

  stored_ends : (w : Value) (block : Block) → NotFailed (st.stored core w block)
  stored_ends (Ptr n) block = tt
  stored_ends (Static g) block = tt
  stored_ends other block = tt

  item_ends : (a : ℕ) (items : List Value) (i : ℤ) → NotFailed (st.item core a items i)
  item_ends a items (pos i) = choice (nat_lt i (length items)) (st.set core a (read items i)) (Stuck Outside) (set_ends a (read items i)) tt
  item_ends a items (negsuc i) = tt

  put_item_ends : (w : Value) (block : Block) (i : ℤ) (x : Value) → NotFailed (st.put_item core w block i x)
  put_item_ends w block (pos i) x = choice (nat_lt i (length block.items)) (st.stored core w (record block { items = slice_set block.items i x })) (Stuck Outside) (stored_ends w (record block { items = slice_set block.items i x })) tt
  put_item_ends w block (negsuc i) x = tt

  new_items_ends : (shapes : List Shape) (a n : ℕ) (i : ℤ) → NotFailed (st.new_items core shapes a n i)
  new_items_ends shapes a n (pos items) = tt
  new_items_ends shapes a n (negsuc items) = tt

  free_ends : (w : Value) → NotFailed (st.free core w)
  free_ends Unset = tt
  free_ends (Ptr n) = one (slice_index_or core.blocks n None)
    where
      one : (o : Option Block) → NotFailed (st.free_block core n o)
      one None = tt
      one (Some block) = tt
  free_ends other = tt

  pay_ends : (i : ℤ) → NotFailed (st.pay_steps core i)
  pay_ends (pos cost) = choice (nat_le cost core.steps) (Onward (record core { at = core.at + 1; steps = core.steps - cost })) (Over _ core) (tt) tt
  pay_ends (negsuc cost) = tt

  in_range_ends : (a : ℕ) (o : Option ℕ) → NotFailed (st.in_range core a o)
  in_range_ends a None = tt
  in_range_ends a (Some n) = tt

  put_ends : (i : ℤ) → NotFailed (st.put_word core i)
  put_ends (pos byte) = choice (nat_lt byte 256) (PutsByte byte (record core { at = core.at + 1 })) _ (tt) tt
  put_ends (negsuc n) = tt

  module _ (p : LlProgram) (args : List (List ℕ)) where
    pub does_ends : (o : LlOp) → NotFailed (does p args core o)
    does_ends (op.Set a x) = set_ends a (operand core.vars x)
    does_ends (op.Unary a o x) = answered_ends a (unary_of o (operand core.vars x))
    does_ends (op.Binary a o x y) = answered_ends a (binary_of o (operand core.vars x) (operand core.vars y))
    does_ends (op.GetField a n b k) = found_ends _ (λ block. set_ends a (read block.fields (place (shape_at (shapes_of p.structs) n) k))) (reached core (shapes_of p.structs) n (read core.vars b))
    does_ends (op.SetField n b k x) = choice (is_unset (operand core.vars x)) (Stuck IsUnset) _ tt
        (found_ends _ (λ block. stored_ends (read core.vars b) (record block { fields = slice_set block.fields (place (shape_at (shapes_of p.structs) n) k) (operand core.vars x) })) (reached core (shapes_of p.structs) n (read core.vars b)))
    does_ends (op.GetItem a n b i) = with_option _ (λ j. found_ends _ (λ block. item_ends a block.items j) (reached core (shapes_of p.structs) n (read core.vars b))) (word_of (operand core.vars i))
    does_ends (op.SetItem n b i x) = choice (is_unset (operand core.vars x)) (Stuck IsUnset) _ tt
        (with_option _ (λ j. found_ends _ (λ block. put_item_ends (read core.vars b) block j (operand core.vars x)) (reached core (shapes_of p.structs) n (read core.vars b))) (word_of (operand core.vars i)))
    does_ends (op.New a m n) = tt
    does_ends (op.NewArray a m n x) = with_option _ (new_items_ends (shapes_of p.structs) a n) (word_of (operand core.vars x))
    does_ends (op.Free a) = free_ends (read core.vars a)
    does_ends (op.Step x) = with_option _ pay_ends (word_of (operand core.vars x))
    does_ends (op.ExcType a n) = tt
    does_ends (op.ExcValue a n) = tt
    does_ends (op.ExcSet a b) = choice (is_unset (read core.vars a) || is_unset (read core.vars b)) (Stuck IsUnset) _ tt (tt)
    does_ends op.ExcClear = tt
    does_ends (op.Argc a) = tt
    does_ends (op.ArgLen a x) = with_option _ (λ i. in_range_ends a _) (word_of (operand core.vars x))
    does_ends (op.Arg a x y) = with_option _ (λ i. with_option _ (λ j. in_range_ends a _) (word_of (operand core.vars y))) (word_of (operand core.vars x))
    does_ends (op.Put x) = with_option _ put_ends (word_of (operand core.vars x))
    does_ends (op.Call into f xs) = tt
    does_ends (op.CallFn into result params b xs) = tt
    does_ends (op.Raise a) = tt

-- ---- what only sets variables

abbrev pub Keeps : Core → After → Type 0
Keeps old (Onward core) = forgotten core ≡ forgotten old
Keeps old (PutsByte byte core) = ⊥
Keeps old (Told event core) = ⊥
Keeps old (Over outcome core) = Unit {0}
Keeps old (Stuck reason) = Unit {0}

module _ (core : Core) where
  one_of : (b : Bool) (x y : After) → Keeps core x → Keeps core y → Keeps core (cond b x y)
  one_of true x y h k = h
  one_of false x y h k = k

  set_keeps : (a : ℕ) (w : Value) → Keeps core (st.set core a w)
  set_keeps a w = one_of (is_unset w) (Stuck IsUnset) (st.assigned core a w) tt refl

  answered_keeps : (a : ℕ) (answer : Answer) → Keeps core (st.answered core a answer)
  answered_keeps a (Ok w) = refl
  answered_keeps a (Err reason) = tt

  found_keeps : (go : Block → After) → ((block : Block) → Keeps core (go block)) → (r : Result Block StuckReason) → Keeps core (on_block go r)
  found_keeps go h (Ok block) = h block
  found_keeps go h (Err reason) = tt

  item_keeps : (a : ℕ) (items : List Value) (i : ℤ) → Keeps core (st.item core a items i)
  item_keeps a items (pos i) = one_of (nat_lt i (length items)) (st.set core a (read items i)) (Stuck Outside) (set_keeps a (read items i)) tt
  item_keeps a items (negsuc i) = tt

  if_any : {X : Type 0} (go : X → After) → ((x : X) → Keeps core (go x)) → (o : Option X) → Keeps core (st.on go o)
  if_any go h None = tt
  if_any go h (Some x) = h x

  pub sets_keep : (p : LlProgram) (args : List (List ℕ)) (o : LlOp) → only_sets o ≡ true → Keeps core (does p args core o)
  sets_keep p args (op.Set a x) h = set_keeps a (operand core.vars x)
  sets_keep p args (op.Unary a o x) h = answered_keeps a (unary_of o (operand core.vars x))
  sets_keep p args (op.Binary a o x y) h = answered_keeps a (binary_of o (operand core.vars x) (operand core.vars y))
  sets_keep p args (op.GetField a n b k) h = found_keeps _ (λ block. set_keeps a (read block.fields (place (shape_at (shapes_of p.structs) n) k))) (reached core (shapes_of p.structs) n (read core.vars b))
  sets_keep p args (op.GetItem a n b i) h = if_any _ (λ j. found_keeps _ (λ block. item_keeps a block.items j) (reached core (shapes_of p.structs) n (read core.vars b))) (word_of (operand core.vars i))
  sets_keep p args _ h = absurd (cc)
