-- Operations stay in their block, and leave the exception slots alone.
use Rattle.std.proofs.Common.{◌≡◌, ℕ, ◌+◌, ◌-◌, Bool, true, false, List, length, Option, Some, None, Result, Ok, Err, refl, ℤ, pos, negsuc}
use Rattle.std.specs.Prelude.{slice_set, slice_index_or, cond, nat_lt, nat_le}
use Rattle.csub_tree.specs.State.{Value, Unset, Ptr, Static, Block, Core, After, Onward, Puts as PutsByte, Told, Over, Stuck}
use Rattle.csub_tree.specs.Layout.{Shape, shape_at, place}
use Rattle.csub_tree.specs.Operation.{Answer, is_unset, word_of, unary_of, binary_of}
use Rattle.csub_tree.specs.Statement as st
use Rattle.csub_tree.specs.Statement.{read, operand, operands, any_unset, reached, on_block, fun_of, same_result, same_types, fail_name_of, ended}
use Rattle.csub_tree.specs.declared.stuck.StuckReason.{StuckReason}
use Rattle.csub_tree.specs.declared.stuck.StuckReason.TheVariants.{Unset as IsUnset, Outside}
use Rattle.ll_code.specs.Machine.{does, shapes_of}
use Rattle.ll_code.specs.declared.program.LlOp.{LlOp}
use Rattle.ll_code.specs.declared.program.LlOp.TheVariants as op
use Rattle.ll_code.specs.declared.program.LlProgram.{LlProgram}

-- an operation that sets the exception slots
abbrev pub sets_slots : LlOp → Bool
sets_slots (op.ExcSet a b) = true
sets_slots op.ExcClear = true
sets_slots other = false

pub record Onwards (old core : Core) : Type 0 where
  pub function : core.function ≡ old.function
  pub block : core.block ≡ old.block
  pub kind : core.exc_type ≡ old.exc_type
  pub value : core.exc_value ≡ old.exc_value

abbrev pub AfterMoves : Core → After → Type 0
AfterMoves old (Onward core) = Onwards old core
AfterMoves old (PutsByte byte core) = Onwards old core
AfterMoves old (Told event core) = Onwards old core
AfterMoves old (Over outcome core) = Unit {0}
AfterMoves old (Stuck reason) = Unit {0}

module _ (core : Core) where
  choice : (b : Bool) (x y : After) → AfterMoves core x → AfterMoves core y → AfterMoves core (cond b x y)
  choice true x y h k = h
  choice false x y h k = k

  with_option : {X : Type 0} (go : X → After) → ((x : X) → AfterMoves core (go x)) → (o : Option X) → AfterMoves core (st.on go o)
  with_option go h None = tt
  with_option go h (Some x) = h x

  set_moves : (a : ℕ) (w : Value) → AfterMoves core (st.set core a w)
  set_moves a w = choice (is_unset w) (Stuck IsUnset) (st.assigned core a w) tt (record { function = refl; block = refl; kind = refl; value = refl })

  answered_moves : (a : ℕ) (answer : Answer) → AfterMoves core (st.answered core a answer)
  answered_moves a (Ok w) = record { function = refl; block = refl; kind = refl; value = refl }
  answered_moves a (Err reason) = tt

  found_moves : (go : Block → After) → ((block : Block) → AfterMoves core (go block)) → (r : Result Block StuckReason) → AfterMoves core (on_block go r)
  found_moves go h (Ok block) = h block
  found_moves go h (Err reason) = tt

  stored_moves : (w : Value) (block : Block) → AfterMoves core (st.stored core w block)
  stored_moves (Ptr n) block = record { function = refl; block = refl; kind = refl; value = refl }
  stored_moves (Static g) block = record { function = refl; block = refl; kind = refl; value = refl }
  stored_moves other block = tt

  item_moves : (a : ℕ) (items : List Value) (i : ℤ) → AfterMoves core (st.item core a items i)
  item_moves a items (pos i) = choice (nat_lt i (length items)) (st.set core a (read items i)) (Stuck Outside) (set_moves a (read items i)) tt
  item_moves a items (negsuc i) = tt

  put_item_moves : (w : Value) (block : Block) (i : ℤ) (x : Value) → AfterMoves core (st.put_item core w block i x)
  put_item_moves w block (pos i) x = choice (nat_lt i (length block.items)) (st.stored core w (record block { items = slice_set block.items i x })) (Stuck Outside) (stored_moves w (record block { items = slice_set block.items i x })) tt
  put_item_moves w block (negsuc i) x = tt

  new_items_moves : (shapes : List Shape) (a n : ℕ) (i : ℤ) → AfterMoves core (st.new_items core shapes a n i)
  new_items_moves shapes a n (pos items) = record { function = refl; block = refl; kind = refl; value = refl }
  new_items_moves shapes a n (negsuc items) = tt

  free_moves : (w : Value) → AfterMoves core (st.free core w)
  free_moves Unset = tt
  free_moves (Ptr n) = one (slice_index_or core.blocks n None)
    where
      one : (o : Option Block) → AfterMoves core (st.free_block core n o)
      one None = tt
      one (Some block) = record { function = refl; block = refl; kind = refl; value = refl }
  free_moves other = tt

  pay_moves : (i : ℤ) → AfterMoves core (st.pay_steps core i)
  pay_moves (pos cost) = choice (nat_le cost core.steps) (Onward (record core { at = core.at + 1; steps = core.steps - cost })) (Over _ core) (record { function = refl; block = refl; kind = refl; value = refl }) tt
  pay_moves (negsuc cost) = tt

  in_range_moves : (a : ℕ) (o : Option ℕ) → AfterMoves core (st.in_range core a o)
  in_range_moves a None = tt
  in_range_moves a (Some n) = record { function = refl; block = refl; kind = refl; value = refl }

  put_moves : (i : ℤ) → AfterMoves core (st.put_word core i)
  put_moves (pos byte) = choice (nat_lt byte 256) (PutsByte byte (record core { at = core.at + 1 })) _ (record { function = refl; block = refl; kind = refl; value = refl }) tt
  put_moves (negsuc n) = tt

  module _ (p : LlProgram) (args : List (List ℕ)) where
    pub does_moves : (o : LlOp) → sets_slots o ≡ false → AfterMoves core (does p args core o)
    does_moves (op.Set a x) plain = set_moves a (operand core.vars x)
    does_moves (op.Unary a o x) plain = answered_moves a (unary_of o (operand core.vars x))
    does_moves (op.Binary a o x y) plain = answered_moves a (binary_of o (operand core.vars x) (operand core.vars y))
    does_moves (op.GetField a n b k) plain = found_moves _ (λ block. set_moves a (read block.fields (place (shape_at (shapes_of p.structs) n) k))) (reached core (shapes_of p.structs) n (read core.vars b))
    does_moves (op.SetField n b k x) plain = choice (is_unset (operand core.vars x)) (Stuck IsUnset) _ tt
        (found_moves _ (λ block. stored_moves (read core.vars b) (record block { fields = slice_set block.fields (place (shape_at (shapes_of p.structs) n) k) (operand core.vars x) })) (reached core (shapes_of p.structs) n (read core.vars b)))
    does_moves (op.GetItem a n b i) plain = with_option _ (λ j. found_moves _ (λ block. item_moves a block.items j) (reached core (shapes_of p.structs) n (read core.vars b))) (word_of (operand core.vars i))
    does_moves (op.SetItem n b i x) plain = choice (is_unset (operand core.vars x)) (Stuck IsUnset) _ tt
        (with_option _ (λ j. found_moves _ (λ block. put_item_moves (read core.vars b) block j (operand core.vars x)) (reached core (shapes_of p.structs) n (read core.vars b))) (word_of (operand core.vars i)))
    does_moves (op.New a m n) plain = record { function = refl; block = refl; kind = refl; value = refl }
    does_moves (op.NewArray a m n x) plain = with_option _ (new_items_moves (shapes_of p.structs) a n) (word_of (operand core.vars x))
    does_moves (op.Free a) plain = free_moves (read core.vars a)
    does_moves (op.Step x) plain = with_option _ pay_moves (word_of (operand core.vars x))
    does_moves (op.ExcType a n) plain = record { function = refl; block = refl; kind = refl; value = refl }
    does_moves (op.ExcValue a n) plain = record { function = refl; block = refl; kind = refl; value = refl }
    does_moves (op.ExcSet a b) plain = absurd (cc)
    does_moves op.ExcClear plain = absurd (cc)
    does_moves (op.Argc a) plain = record { function = refl; block = refl; kind = refl; value = refl }
    does_moves (op.ArgLen a x) plain = with_option _ (λ i. in_range_moves a _) (word_of (operand core.vars x))
    does_moves (op.Arg a x y) plain = with_option _ (λ i. with_option _ (λ j. in_range_moves a _) (word_of (operand core.vars y))) (word_of (operand core.vars x))
    does_moves (op.Put x) plain = with_option _ put_moves (word_of (operand core.vars x))
    does_moves (op.Call into f xs) plain = tt
    does_moves (op.CallFn into result params b xs) plain = tt
    does_moves (op.Raise a) plain = tt
