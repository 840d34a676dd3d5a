-- An operation that stays in its block does the same at another place of another graph.
use Rattle.std.proofs.Common.{◌≡◌, ℕ, ◌+◌, ◌||◌, Bool, true, false, List, length, Option, Some, None, Result, Ok, Err, refl, ap, ◌∙◌, ℤ, pos, negsuc}
use Rattle.std.specs.Prelude.{slice_set, slice_index_or, cond, nat_lt, nat_le, option_map}
use Rattle.csub_tree.specs.State.{Value, Unset, Word, Byte, Flag, Fun, Null, Ptr, Static, Block, Core, After, Onward, Puts, Told, Over, Stuck}
use Rattle.csub_tree.specs.Layout.{Shape, shape_at, place}
use Rattle.csub_tree.specs.Operation.{Answer, is_unset, word_of, unary_of, binary_of}
use Rattle.csub_tree.specs.Statement as st
use Rattle.csub_tree.specs.Statement.{operand, read, reached, argument, byte_in}
use Rattle.csub_tree.specs.declared.stuck.StuckReason.{StuckReason}
use Rattle.csub_tree.specs.declared.stuck.StuckReason.TheVariants.{Unset as IsUnset, Outside}
use Rattle.ll_code.specs.Machine.{does, shapes_of}
use Rattle.ll_code.specs.declared.program.LlOp.{LlOp}
use Rattle.ll_code.specs.declared.program.LlOp.TheVariants as op
use Rattle.ll_code.specs.declared.program.LlProgram.{LlProgram}

abbrev pub placed : ℕ → ℕ → ℕ → Core → Core
placed function block at core = record core { function = function; block = block; at = at }

module _ (function block at : ℕ) where
  -- what follows, at the other place
  abbrev pub moved : After → After
  moved (Onward core) = Onward (placed function block (at + 1) core)
  moved (Puts byte core) = Puts byte (placed function block (at + 1) core)
  moved (Told event core) = Told event (placed function block (at + 1) core)
  moved (Over outcome core) = Over outcome (placed function block at core)
  moved (Stuck reason) = Stuck reason

  module _ (core : Core) where
    abbrev there : Core
    there = placed function block at core

    either : (b : Bool) (x y x2 y2 : After) → x2 ≡ moved x → y2 ≡ moved y → cond b x2 y2 ≡ moved (cond b x y)
    either true x y x2 y2 h k = h
    either false x y x2 y2 h k = k

    on_moved : {X : Type 0} (go go2 : X → After) → ((x : X) → go2 x ≡ moved (go x)) → (o : Option X) → st.on go2 o ≡ moved (st.on go o)
    on_moved go go2 h None = refl
    on_moved go go2 h (Some x) = h x

    set_moved : (a : ℕ) (x : Value) → st.set there a x ≡ moved (st.set core a x)
    set_moved a x = either (is_unset x) (Stuck IsUnset) (st.assigned core a x) (Stuck IsUnset) (st.assigned there a x) refl refl

    answered_moved : (a : ℕ) (answer : Answer) → st.answered there a answer ≡ moved (st.answered core a answer)
    answered_moved a (Ok x) = refl
    answered_moved a (Err reason) = refl

    on_block_moved : (go go2 : Block → After) → ((b : Block) → go2 b ≡ moved (go b)) → (r : Result Block StuckReason) → st.on_block go2 r ≡ moved (st.on_block go r)
    on_block_moved go go2 h (Ok b) = h b
    on_block_moved go go2 h (Err reason) = refl

    reached_moved : (shapes : List Shape) (n : ℕ) (x : Value) → reached there shapes n x ≡ reached core shapes n x
    reached_moved shapes n (Ptr k) = refl
    reached_moved shapes n (Static g) = refl
    reached_moved shapes n Unset = refl
    reached_moved shapes n (Word z) = refl
    reached_moved shapes n (Byte b) = refl
    reached_moved shapes n (Flag b) = refl
    reached_moved shapes n (Fun f) = refl
    reached_moved shapes n Null = refl

    get_field_moved : (shapes : List Shape) (a n : ℕ) (x : Value) (k : ℕ) → st.get_field there shapes a n x k ≡ moved (st.get_field core shapes a n x k)
    get_field_moved shapes a n x k =
        ap (st.on_block (λ b. st.set there a (read b.fields (place (shape_at shapes n) k)))) (reached_moved shapes n x)
        ∙ on_block_moved (λ b. st.set core a (read b.fields (place (shape_at shapes n) k))) (λ b. st.set there a (read b.fields (place (shape_at shapes n) k))) (λ b. set_moved a (read b.fields (place (shape_at shapes n) k))) (reached core shapes n x)

    stored_moved : (x : Value) (b : Block) → st.stored there x b ≡ moved (st.stored core x b)
    stored_moved (Ptr k) b = refl
    stored_moved (Static g) b = refl
    stored_moved Unset b = refl
    stored_moved (Word z) b = refl
    stored_moved (Byte c) b = refl
    stored_moved (Flag c) b = refl
    stored_moved (Fun f) b = refl
    stored_moved Null b = refl

    set_field_moved : (shapes : List Shape) (n : ℕ) (x : Value) (k : ℕ) (y : Value) → st.set_field there shapes n x k y ≡ moved (st.set_field core shapes n x k y)
    set_field_moved shapes n x k y = either (is_unset y) (Stuck IsUnset) _ (Stuck IsUnset) _ refl
        (ap (st.on_block (λ b. st.stored there x (record b { fields = slice_set b.fields (place (shape_at shapes n) k) y }))) (reached_moved shapes n x)
        ∙ on_block_moved (λ b. st.stored core x (record b { fields = slice_set b.fields (place (shape_at shapes n) k) y })) _ (λ b. stored_moved x (record b { fields = slice_set b.fields (place (shape_at shapes n) k) y })) (reached core shapes n x))

    item_moved : (a : ℕ) (items : List Value) (i : ℤ) → st.item there a items i ≡ moved (st.item core a items i)
    item_moved a items (pos i) = either (nat_lt i (length items)) (st.set core a (read items i)) (Stuck Outside) (st.set there a (read items i)) (Stuck Outside) (set_moved a (read items i)) refl
    item_moved a items (negsuc i) = refl

    get_item_moved : (shapes : List Shape) (a n : ℕ) (x i : Value) → st.get_item there shapes a n x i ≡ moved (st.get_item core shapes a n x i)
    get_item_moved shapes a n x i = on_moved (λ i. st.on_block (λ b. st.item core a b.items i) (reached core shapes n x)) (λ i. st.on_block (λ b. st.item there a b.items i) (reached there shapes n x))
        (λ i. ap (st.on_block (λ b. st.item there a b.items i)) (reached_moved shapes n x) ∙ on_block_moved (λ b. st.item core a b.items i) (λ b. st.item there a b.items i) (λ b. item_moved a b.items i) (reached core shapes n x)) (word_of i)

    put_item_moved : (x : Value) (b : Block) (i : ℤ) (y : Value) → st.put_item there x b i y ≡ moved (st.put_item core x b i y)
    put_item_moved x b (pos i) y = either (nat_lt i (length b.items)) _ (Stuck Outside) _ (Stuck Outside) (stored_moved x (record b { items = slice_set b.items i y })) refl
    put_item_moved x b (negsuc i) y = refl

    set_item_moved : (shapes : List Shape) (n : ℕ) (x i y : Value) → st.set_item there shapes n x i y ≡ moved (st.set_item core shapes n x i y)
    set_item_moved shapes n x i y = either (is_unset y) (Stuck IsUnset) _ (Stuck IsUnset) _ refl
        (on_moved (λ i. st.on_block (λ b. st.put_item core x b i y) (reached core shapes n x)) (λ i. st.on_block (λ b. st.put_item there x b i y) (reached there shapes n x))
        (λ i. ap (st.on_block (λ b. st.put_item there x b i y)) (reached_moved shapes n x) ∙ on_block_moved (λ b. st.put_item core x b i y) (λ b. st.put_item there x b i y) (λ b. put_item_moved x b i y) (reached core shapes n x)) (word_of i))

    new_items_moved : (shapes : List Shape) (a n : ℕ) (i : ℤ) → st.new_items there shapes a n i ≡ moved (st.new_items core shapes a n i)
    new_items_moved shapes a n (pos i) = refl
    new_items_moved shapes a n (negsuc i) = refl

    free_block_moved : (n : ℕ) (o : Option Block) → st.free_block there n o ≡ moved (st.free_block core n o)
    free_block_moved n None = refl
    free_block_moved n (Some b) = refl

    free_moved : (x : Value) → st.free there x ≡ moved (st.free core x)
    free_moved (Ptr n) = free_block_moved n (slice_index_or core.blocks n None)
    free_moved (Static g) = refl
    free_moved Unset = refl
    free_moved (Word z) = refl
    free_moved (Byte c) = refl
    free_moved (Flag c) = refl
    free_moved (Fun f) = refl
    free_moved Null = refl

    pay_steps_moved : (i : ℤ) → st.pay_steps there i ≡ moved (st.pay_steps core i)
    pay_steps_moved (pos n) = either (nat_le n core.steps) _ _ _ _ refl refl
    pay_steps_moved (negsuc n) = refl

    in_range_moved : (a : ℕ) (o : Option ℕ) → st.in_range there a o ≡ moved (st.in_range core a o)
    in_range_moved a None = refl
    in_range_moved a (Some n) = refl

    put_word_moved : (i : ℤ) → st.put_word there i ≡ moved (st.put_word core i)
    put_word_moved (pos n) = either (nat_lt n 256) _ _ _ _ refl refl
    put_word_moved (negsuc n) = refl

    pub does_moved : (p : LlProgram) (args : List (List ℕ)) (o : LlOp) → does p args there o ≡ moved (does p args core o)
    does_moved p args (op.Set a x) = set_moved a (operand core.vars x)
    does_moved p args (op.Unary a o x) = answered_moved a (unary_of o (operand core.vars x))
    does_moved p args (op.Binary a o x y) = answered_moved a (binary_of o (operand core.vars x) (operand core.vars y))
    does_moved p args (op.GetField a n b k) = get_field_moved (shapes_of p.structs) a n (read core.vars b) k
    does_moved p args (op.SetField n b k x) = set_field_moved (shapes_of p.structs) n (read core.vars b) k (operand core.vars x)
    does_moved p args (op.GetItem a n b i) = get_item_moved (shapes_of p.structs) a n (read core.vars b) (operand core.vars i)
    does_moved p args (op.SetItem n b i x) = set_item_moved (shapes_of p.structs) n (read core.vars b) (operand core.vars i) (operand core.vars x)
    does_moved p args (op.New a m n) = refl
    does_moved p args (op.NewArray a m n x) = on_moved (st.new_items core (shapes_of p.structs) a n) (st.new_items there (shapes_of p.structs) a n) (new_items_moved (shapes_of p.structs) a n) (word_of (operand core.vars x))
    does_moved p args (op.Free a) = free_moved (read core.vars a)
    does_moved p args (op.Step x) = on_moved (st.pay_steps core) (st.pay_steps there) pay_steps_moved (word_of (operand core.vars x))
    does_moved p args (op.ExcType a n) = refl
    does_moved p args (op.ExcValue a n) = refl
    does_moved p args (op.ExcSet a b) = either (is_unset (read core.vars a) || is_unset (read core.vars b)) _ _ _ _ refl refl
    does_moved p args op.ExcClear = refl
    does_moved p args (op.Argc a) = refl
    does_moved p args (op.ArgLen a x) = on_moved _ _ (λ i. in_range_moved a (option_map length (argument args i))) (word_of (operand core.vars x))
    does_moved p args (op.Arg a x y) = on_moved _ _ (λ i. on_moved _ _ (λ j. in_range_moved a (byte_in (argument args i) j)) (word_of (operand core.vars y))) (word_of (operand core.vars x))
    does_moved p args (op.Put x) = on_moved (st.put_word core) (st.put_word there) put_word_moved (word_of (operand core.vars x))
    does_moved p args (op.Call into f xs) = refl
    does_moved p args (op.CallFn into result params b xs) = refl
    does_moved p args (op.Raise a) = refl
