-- What stands in the exception slots is set.
use Rattle.std.proofs.Common.{◌≡◌, ℕ, zero, suc, ◌+◌, ◌-◌, Bool, true, false, ◌||◌, List, length, Option, Some, None, Result, Ok, Err, refl, ℤ, pos, negsuc}
use Rattle.std.specs.Prelude.{slice_set, slice_index_or, cond, nat_lt, nat_le}
use Rattle.csub_tree.specs.State.{Value, Unset, Ptr, Static, Block, Core, After, Onward, Puts as PutsByte, Told, Over, Stuck}
use Rattle.csub_tree.specs.Layout.{Shape, shape_at, place}
use Rattle.csub_tree.specs.Operation.{Answer, is_unset, word_of, unary_of, binary_of}
use Rattle.csub_tree.specs.Statement as st
use Rattle.csub_tree.specs.Statement.{read, operand, reached, on_block}
use Rattle.csub_tree.specs.declared.stuck.StuckReason.{StuckReason}
use Rattle.csub_tree.specs.declared.stuck.StuckReason.TheVariants.{Unset as IsUnset, Outside}
use Rattle.ll_code.specs.Machine.{does, shapes_of}
use Rattle.ll_code.specs.declared.program.LlOp.{LlOp}
use Rattle.ll_code.specs.declared.program.LlOp.TheVariants as op
use Rattle.ll_code.specs.declared.program.LlProgram.{LlProgram}
use Rattle.turned_laws.proofs.Lists.{IsSet, neither_left, neither_right}

abbrev pub SlotsSet : Core → Type 0
SlotsSet core = IsSet core.exc_type × IsSet core.exc_value

abbrev pub AfterSlots : After → Type 0
AfterSlots (Onward core) = SlotsSet core
AfterSlots (PutsByte byte core) = SlotsSet core
AfterSlots (Told event core) = SlotsSet core
AfterSlots (Over outcome core) = Unit {0}
AfterSlots (Stuck reason) = Unit {0}

module _ (core : Core) (h : SlotsSet core) where
  choice : (b : Bool) (x y : After) → AfterSlots x → AfterSlots y → AfterSlots (cond b x y)
  choice true x y h k = h
  choice false x y h k = k

  with_option : {X : Type 0} (go : X → After) → ((x : X) → AfterSlots (go x)) → (o : Option X) → AfterSlots (st.on go o)
  with_option go h None = tt
  with_option go h (Some x) = h x

  set_slots : (a : ℕ) (w : Value) → AfterSlots (st.set core a w)
  set_slots a w = choice (is_unset w) (Stuck IsUnset) (st.assigned core a w) tt h

  answered_slots : (a : ℕ) (answer : Answer) → AfterSlots (st.answered core a answer)
  answered_slots a (Ok w) = h
  answered_slots a (Err reason) = tt

  found_slots : (go : Block → After) → ((block : Block) → AfterSlots (go block)) → (r : Result Block StuckReason) → AfterSlots (on_block go r)
  found_slots go h (Ok block) = h block
  found_slots go h (Err reason) = tt

  stored_slots : (w : Value) (block : Block) → AfterSlots (st.stored core w block)
  stored_slots (Ptr n) block = h
  stored_slots (Static g) block = h
  stored_slots other block = tt

  item_slots : (a : ℕ) (items : List Value) (i : ℤ) → AfterSlots (st.item core a items i)
  item_slots a items (pos i) = choice (nat_lt i (length items)) (st.set core a (read items i)) (Stuck Outside) (set_slots a (read items i)) tt
  item_slots a items (negsuc i) = tt

  put_item_slots : (w : Value) (block : Block) (i : ℤ) (x : Value) → AfterSlots (st.put_item core w block i x)
  put_item_slots w block (pos i) x = choice (nat_lt i (length block.items)) (st.stored core w (record block { items = slice_set block.items i x })) (Stuck Outside) (stored_slots w (record block { items = slice_set block.items i x })) tt
  put_item_slots w block (negsuc i) x = tt

  new_items_slots : (shapes : List Shape) (a n : ℕ) (i : ℤ) → AfterSlots (st.new_items core shapes a n i)
  new_items_slots shapes a n (pos items) = h
  new_items_slots shapes a n (negsuc items) = tt

  free_slots : (w : Value) → AfterSlots (st.free core w)
  free_slots Unset = tt
  free_slots (Ptr n) = one (slice_index_or core.blocks n None)
    where
      one : (o : Option Block) → AfterSlots (st.free_block core n o)
      one None = tt
      one (Some block) = h
  free_slots other = tt

  pay_slots : (i : ℤ) → AfterSlots (st.pay_steps core i)
  pay_slots (pos cost) = choice (nat_le cost core.steps) (Onward (record core { at = core.at + 1; steps = core.steps - cost })) (Over _ core) h tt
  pay_slots (negsuc cost) = tt

  in_range_slots : (a : ℕ) (o : Option ℕ) → AfterSlots (st.in_range core a o)
  in_range_slots a None = tt
  in_range_slots a (Some n) = h

  put_slots : (i : ℤ) → AfterSlots (st.put_word core i)
  put_slots (pos byte) = choice (nat_lt byte 256) (PutsByte byte (record core { at = core.at + 1 })) _ h tt
  put_slots (negsuc n) = tt

  exc_slots : (x y : Value) → AfterSlots (st.exc_set core x y)
  exc_slots x y = one (is_unset x || is_unset y) refl
    where
      one : (b : Bool) → (is_unset x || is_unset y) ≡ b → AfterSlots (cond b (Stuck IsUnset) (Onward (record core { at = core.at + 1; exc_type = x; exc_value = y })))
      one true e = tt
      one false e = (neither_left (is_unset x) (is_unset y) e, neither_right (is_unset x) (is_unset y) e)

  module _ (p : LlProgram) (args : List (List ℕ)) where
    pub does_slots : (o : LlOp) → AfterSlots (does p args core o)
    does_slots (op.Set a x) = set_slots a (operand core.vars x)
    does_slots (op.Unary a o x) = answered_slots a (unary_of o (operand core.vars x))
    does_slots (op.Binary a o x y) = answered_slots a (binary_of o (operand core.vars x) (operand core.vars y))
    does_slots (op.GetField a n b k) = found_slots _ (λ block. set_slots a (read block.fields (place (shape_at (shapes_of p.structs) n) k))) (reached core (shapes_of p.structs) n (read core.vars b))
    does_slots (op.SetField n b k x) = choice (is_unset (operand core.vars x)) (Stuck IsUnset) _ tt
        (found_slots _ (λ block. stored_slots (read core.vars b) (record block { fields = slice_set block.fields (place (shape_at (shapes_of p.structs) n) k) (operand core.vars x) })) (reached core (shapes_of p.structs) n (read core.vars b)))
    does_slots (op.GetItem a n b i) = with_option _ (λ j. found_slots _ (λ block. item_slots a block.items j) (reached core (shapes_of p.structs) n (read core.vars b))) (word_of (operand core.vars i))
    does_slots (op.SetItem n b i x) = choice (is_unset (operand core.vars x)) (Stuck IsUnset) _ tt
        (with_option _ (λ j. found_slots _ (λ block. put_item_slots (read core.vars b) block j (operand core.vars x)) (reached core (shapes_of p.structs) n (read core.vars b))) (word_of (operand core.vars i)))
    does_slots (op.New a m n) = h
    does_slots (op.NewArray a m n x) = with_option _ (new_items_slots (shapes_of p.structs) a n) (word_of (operand core.vars x))
    does_slots (op.Free a) = free_slots (read core.vars a)
    does_slots (op.Step x) = with_option _ pay_slots (word_of (operand core.vars x))
    does_slots (op.ExcType a n) = h
    does_slots (op.ExcValue a n) = h
    does_slots (op.ExcSet a b) = exc_slots (read core.vars a) (read core.vars b)
    does_slots op.ExcClear = (refl, refl)
    does_slots (op.Argc a) = h
    does_slots (op.ArgLen a x) = with_option _ (λ i. in_range_slots a _) (word_of (operand core.vars x))
    does_slots (op.Arg a x y) = with_option _ (λ i. with_option _ (λ j. in_range_slots a _) (word_of (operand core.vars y))) (word_of (operand core.vars x))
    does_slots (op.Put x) = with_option _ put_slots (word_of (operand core.vars x))
    does_slots (op.Call into f xs) = tt
    does_slots (op.CallFn into result params b xs) = tt
    does_slots (op.Raise a) = tt
