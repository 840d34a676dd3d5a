-- An operation that stays in its block sets its variable alone, to a value that is set.
use Rattle.std.proofs.Common.{◌≡◌, ℕ, zero, suc, ◌+◌, ◌-◌, Bool, true, false, ◌||◌, List, length, Option, Some, None, Result, Ok, Err, refl, ℤ, pos, negsuc}
use Rattle.std.specs.Prelude.{slice_set, slice_index_or, cond, nat_lt, nat_le}
use Rattle.csub_tree.specs.State.{Value, Unset, Word, Byte, Null, Ptr, Static, Block, Core, After, Onward, Puts as PutsByte, Told, Over, Stuck}
use Rattle.csub_tree.specs.Layout.{Shape, shape_at, place}
use Rattle.csub_tree.specs.Operation as o
use Rattle.csub_tree.specs.Operation.{Answer, is_unset, word_of, flag_of, byte_of, unary_of, binary_of}
use Rattle.csub_tree.specs.Statement as st
use Rattle.csub_tree.specs.Statement.{read, operand, reached, on_block, taken_by}
use Rattle.csub_tree.specs.declared.stuck.StuckReason.{StuckReason}
use Rattle.csub_tree.specs.declared.stuck.StuckReason.TheVariants.{Unset as IsUnset, Outside, Word as BadWord}
use Rattle.csub_tree.specs.declared.tree.CUnary.{CUnary}
use Rattle.csub_tree.specs.declared.tree.CUnary.TheVariants as one
use Rattle.csub_tree.specs.declared.tree.CBinary.{CBinary}
use Rattle.csub_tree.specs.declared.tree.CBinary.TheVariants as two
use Rattle.ll_code.specs.Machine.{does, shapes_of}
use Rattle.ll_code.specs.declared.program.LlOp.{LlOp}
use Rattle.ll_code.specs.declared.program.LlOp.TheVariants as op
use Rattle.ll_code.specs.declared.program.LlProgram.{LlProgram}
use Rattle.ll_live.specs.Live.{set_by}
use Rattle.throw_laws.specs.Ready.{uses_slots}

-- ---- what an operator gives is set

abbrev pub AnswerSet : Answer → Type 0
AnswerSet (Ok value) = is_unset value ≡ false
AnswerSet (Err reason) = Unit {0}

given_set : {X : Type 0} (f : X → Answer) (x : Option X) → ((x : X) → AnswerSet (f x)) → AnswerSet (o.given f x)
given_set f None h = tt
given_set f (Some x) h = h x

words_set : (f : ℤ → ℤ → Answer) (x y : Value) → ((a b : ℤ) → AnswerSet (f a b)) → AnswerSet (o.on_words f x y)
words_set f x y h = given_set (λ a. o.given (λ b. f a b) (word_of y)) (word_of x) (λ a. given_set (λ b. f a b) (word_of y) (h a))

flags_set : (f : Bool → Bool → Answer) (x y : Value) → ((a b : Bool) → AnswerSet (f a b)) → AnswerSet (o.on_flags f x y)
flags_set f x y h = given_set (λ a. o.given (λ b. f a b) (flag_of y)) (flag_of x) (λ a. given_set (λ b. f a b) (flag_of y) (h a))

choice_set : (b : Bool) (x y : Answer) → AnswerSet x → AnswerSet y → AnswerSet (cond b x y)
choice_set true x y h k = h
choice_set false x y h k = k

nonzero_set : (answer : Answer) (b : ℤ) → AnswerSet answer → AnswerSet (o.nonzero answer b)
nonzero_set answer (pos zero) h = tt
nonzero_set answer (pos (suc n)) h = h
nonzero_set answer (negsuc n) h = h

shift_set : (f : ℕ → Answer) (b : ℤ) → ((k : ℕ) → AnswerSet (f k)) → AnswerSet (o.shift_by f b)
shift_set f (pos k) h = choice_set (nat_lt k 64) (f k) (Err BadWord) (h k) tt
shift_set f (negsuc k) h = tt

byte_set : (z : ℤ) → AnswerSet (o.to_byte z)
byte_set (pos n) = choice_set (nat_lt n 256) (Ok (Byte n)) (Err BadWord) refl tt
byte_set (negsuc n) = tt

compared_set : (x y : Value) → AnswerSet (o.compared x y)
compared_set x y = choice_set (is_unset x || is_unset y) (Err IsUnset) (o.flag (o.same x y)) tt refl

unary_set : (u : CUnary) (x : Value) → AnswerSet (unary_of u x)
unary_set one.Neg x = given_set _ (word_of x) (λ a. refl)
unary_set one.Inv x = given_set _ (word_of x) (λ a. refl)
unary_set one.Not x = given_set _ (flag_of x) (λ a. refl)
unary_set one.C2S x = given_set _ (byte_of x) (λ a. refl)
unary_set one.S2C x = given_set _ (word_of x) byte_set
unary_set one.B2S x = given_set _ (flag_of x) (λ a. refl)

binary_set : (b : CBinary) (x y : Value) → AnswerSet (binary_of b x y)
binary_set two.Add x y = words_set _ x y (λ a b. refl)
binary_set two.Sub x y = words_set _ x y (λ a b. refl)
binary_set two.Mul x y = words_set _ x y (λ a b. refl)
binary_set two.Div x y = words_set _ x y (λ a b. nonzero_set _ b refl)
binary_set two.Mod x y = words_set _ x y (λ a b. nonzero_set _ b refl)
binary_set two.Shl x y = words_set _ x y (λ a b. shift_set _ b (λ k. refl))
binary_set two.Shr x y = words_set _ x y (λ a b. shift_set _ b (λ k. refl))
binary_set two.And x y = words_set _ x y (λ a b. refl)
binary_set two.Or x y = words_set _ x y (λ a b. refl)
binary_set two.Xor x y = words_set _ x y (λ a b. refl)
binary_set two.AddOvf x y = words_set _ x y (λ a b. refl)
binary_set two.SubOvf x y = words_set _ x y (λ a b. refl)
binary_set two.MulOvf x y = words_set _ x y (λ a b. refl)
binary_set two.ShlOvf x y = words_set _ x y (λ a b. shift_set _ b (λ k. refl))
binary_set two.Eq x y = words_set _ x y (λ a b. refl)
binary_set two.Ne x y = words_set _ x y (λ a b. refl)
binary_set two.Lt x y = words_set _ x y (λ a b. refl)
binary_set two.Le x y = words_set _ x y (λ a b. refl)
binary_set two.Gt x y = words_set _ x y (λ a b. refl)
binary_set two.Ge x y = words_set _ x y (λ a b. refl)
binary_set two.Beq x y = flags_set _ x y (λ a b. refl)
binary_set two.Peq x y = compared_set x y
binary_set two.Feq x y = compared_set x y

-- ---- what an operation leads to

pub record Sets (into : Option ℕ) (old core : Core) : Type 0 where
  pub value : Value
  pub vars : core.vars ≡ taken_by old.vars into value
  pub set : is_unset value ≡ false

abbrev pub AfterSets : Option ℕ → Core → After → Type 0
AfterSets into old (Onward core) = Sets into old core
AfterSets into old (PutsByte byte core) = Sets into old core
AfterSets into old (Told event core) = Sets into old core
AfterSets into old (Over outcome core) = Unit {0}
AfterSets into old (Stuck reason) = Unit {0}

module _ (core : Core) where
  alone : {next : Core} → next.vars ≡ core.vars → Sets None core next
  alone e = record { value = Null; vars = e; set = refl }

  written : {next : Core} → (a : ℕ) (value : Value) → next.vars ≡ slice_set core.vars a value → is_unset value ≡ false → Sets (Some a) core next
  written a value e h = record { value = value; vars = e; set = h }

  choice : (into : Option ℕ) (b : Bool) (x y : After) → AfterSets into core x → AfterSets into core y → AfterSets into core (cond b x y)
  choice into true x y h k = h
  choice into false x y h k = k

  on_option : {X : Type 0} (into : Option ℕ) (go : X → After) → ((x : X) → AfterSets into core (go x)) → (x : Option X) → AfterSets into core (st.on go x)
  on_option into go h None = tt
  on_option into go h (Some x) = h x

  set_sets : (a : ℕ) (value : Value) → AfterSets (Some a) core (st.set core a value)
  set_sets a value = by (is_unset value) refl
    where
      by : (b : Bool) → is_unset value ≡ b → AfterSets (Some a) core (cond b (Stuck IsUnset) (st.assigned core a value))
      by true e = tt
      by false e = written a value refl e

  answered_sets : (a : ℕ) (answer : Answer) → AnswerSet answer → AfterSets (Some a) core (st.answered core a answer)
  answered_sets a (Ok value) h = written a value refl h
  answered_sets a (Err reason) h = tt

  found_sets : (into : Option ℕ) (go : Block → After) → ((block : Block) → AfterSets into core (go block)) → (r : Result Block StuckReason) → AfterSets into core (on_block go r)
  found_sets into go h (Ok block) = h block
  found_sets into go h (Err reason) = tt

  stored_sets : (w : Value) (block : Block) → AfterSets None core (st.stored core w block)
  stored_sets (Ptr n) block = alone refl
  stored_sets (Static g) block = alone refl
  stored_sets other block = tt

  item_sets : (a : ℕ) (items : List Value) (i : ℤ) → AfterSets (Some a) core (st.item core a items i)
  item_sets a items (pos i) = choice (Some a) (nat_lt i (length items)) (st.set core a (read items i)) (Stuck Outside) (set_sets a (read items i)) tt
  item_sets a items (negsuc i) = tt

  put_item_sets : (w : Value) (block : Block) (i : ℤ) (x : Value) → AfterSets None core (st.put_item core w block i x)
  put_item_sets w block (pos i) x = choice None (nat_lt i (length block.items)) (st.stored core w (record block { items = slice_set block.items i x })) (Stuck Outside) (stored_sets w (record block { items = slice_set block.items i x })) tt
  put_item_sets w block (negsuc i) x = tt

  new_items_sets : (shapes : List Shape) (a n : ℕ) (i : ℤ) → AfterSets (Some a) core (st.new_items core shapes a n i)
  new_items_sets shapes a n (pos items) = written a (Ptr (length core.blocks)) refl refl
  new_items_sets shapes a n (negsuc items) = tt

  free_sets : (w : Value) → AfterSets None core (st.free core w)
  free_sets Unset = tt
  free_sets (Ptr n) = by (slice_index_or core.blocks n None)
    where
      by : (x : Option Block) → AfterSets None core (st.free_block core n x)
      by None = tt
      by (Some block) = alone refl
  free_sets other = tt

  pay_sets : (i : ℤ) → AfterSets None core (st.pay_steps core i)
  pay_sets (pos cost) = choice None (nat_le cost core.steps) (Onward (record core { at = core.at + 1; steps = core.steps - cost })) (Over _ core) (alone refl) tt
  pay_sets (negsuc cost) = tt

  in_range_sets : (a : ℕ) (x : Option ℕ) → AfterSets (Some a) core (st.in_range core a x)
  in_range_sets a None = tt
  in_range_sets a (Some n) = written a (Word (pos n)) refl refl

  put_sets : (i : ℤ) → AfterSets None core (st.put_word core i)
  put_sets (pos byte) = choice None (nat_lt byte 256) (PutsByte byte (record core { at = core.at + 1 })) _ (alone refl) tt
  put_sets (negsuc n) = tt

  module _ (p : LlProgram) (args : List (List ℕ)) where
    pub does_sets : (o : LlOp) → uses_slots o ≡ false → AfterSets (set_by o) core (does p args core o)
    does_sets (op.Set a x) s = set_sets a (operand core.vars x)
    does_sets (op.Unary a o x) s = answered_sets a (unary_of o (operand core.vars x)) (unary_set o (operand core.vars x))
    does_sets (op.Binary a o x y) s = answered_sets a (binary_of o (operand core.vars x) (operand core.vars y)) (binary_set o (operand core.vars x) (operand core.vars y))
    does_sets (op.GetField a n b k) s = found_sets (Some a) _ (λ block. set_sets a (read block.fields (place (shape_at (shapes_of p.structs) n) k))) (reached core (shapes_of p.structs) n (read core.vars b))
    does_sets (op.SetField n b k x) s = choice None (is_unset (operand core.vars x)) (Stuck IsUnset) _ tt
        (found_sets None _ (λ block. stored_sets (read core.vars b) (record block { fields = slice_set block.fields (place (shape_at (shapes_of p.structs) n) k) (operand core.vars x) })) (reached core (shapes_of p.structs) n (read core.vars b)))
    does_sets (op.GetItem a n b i) s = on_option (Some a) _ (λ j. found_sets (Some a) _ (λ block. item_sets a block.items j) (reached core (shapes_of p.structs) n (read core.vars b))) (word_of (operand core.vars i))
    does_sets (op.SetItem n b i x) s = choice None (is_unset (operand core.vars x)) (Stuck IsUnset) _ tt
        (on_option None _ (λ j. found_sets None _ (λ block. put_item_sets (read core.vars b) block j (operand core.vars x)) (reached core (shapes_of p.structs) n (read core.vars b))) (word_of (operand core.vars i)))
    does_sets (op.New a m n) s = written a (Ptr (length core.blocks)) refl refl
    does_sets (op.NewArray a m n x) s = on_option (Some a) _ (new_items_sets (shapes_of p.structs) a n) (word_of (operand core.vars x))
    does_sets (op.Free a) s = free_sets (read core.vars a)
    does_sets (op.Step x) s = on_option None _ pay_sets (word_of (operand core.vars x))
    does_sets (op.ExcType a n) s = absurd (cc)
    does_sets (op.ExcValue a n) s = absurd (cc)
    does_sets (op.ExcSet a b) s = absurd (cc)
    does_sets op.ExcClear s = absurd (cc)
    does_sets (op.Argc a) s = written a (Word (pos (length args))) refl refl
    does_sets (op.ArgLen a x) s = on_option (Some a) _ (λ i. in_range_sets a _) (word_of (operand core.vars x))
    does_sets (op.Arg a x y) s = on_option (Some a) _ (λ i. on_option (Some a) _ (λ j. in_range_sets a _) (word_of (operand core.vars y))) (word_of (operand core.vars x))
    does_sets (op.Put x) s = on_option None _ put_sets (word_of (operand core.vars x))
    does_sets (op.Call into f xs) s = tt
    does_sets (op.CallFn into result params b xs) s = tt
    does_sets (op.Raise a) s = tt
