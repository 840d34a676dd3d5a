-- An operation that stays in its block, and leaves the exception slots alone, does the same beside another core.
use Rattle.std.proofs.Common.{◌≡◌, ℕ, ◌+◌, ◌-◌, Bool, true, false, ◌==◌, List, [], ◌∷◌, ◌++◌, length, replicate, Option, Some, None, Result, Ok, Err, refl, sym, ap, ◌∙◌, subst, ℤ, pos, negsuc}
use Rattle.std.specs.Prelude.{slice_get, slice_set, slice_index_or, cond, nat_lt, nat_le}
use Rattle.rpy_base.specs.declared.outcome.Outcome.TheVariants.{Running}
use Rattle.csub_tree.specs.State.{Value, Unset, Ptr, Static, Block, Core, Made, After, Onward, Puts as PutsByte, Told, Over, Stuck}
use Rattle.csub_tree.specs.Layout.{Shape, shape_at, place}
use Rattle.csub_tree.specs.Operation.{Answer, is_unset, word_of, unary_of, binary_of}
use Rattle.csub_tree.specs.Statement as st
use Rattle.csub_tree.specs.Statement.{read, operand, operands, block_at, as_struct, reached, on_block, taken_by}
use Rattle.csub_tree.specs.declared.stuck.StuckReason.{StuckReason}
use Rattle.csub_tree.specs.declared.stuck.StuckReason.TheVariants.{Unset as IsUnset, Outside}
use Rattle.csub_tree.specs.declared.tree.COperand.{COperand}
use Rattle.csub_tree.specs.declared.tree.COperand.TheVariants.{Var, Const}
use Rattle.ll_code.specs.Machine.{does, shapes_of}
use Rattle.ll_code.specs.declared.program.LlOp.{LlOp}
use Rattle.ll_code.specs.declared.program.LlOp.TheVariants as op
use Rattle.ll_code.specs.declared.program.LlProgram.{LlProgram}
use Rattle.ll_live.specs.Live.{among, variables_of, variables_in, reads, set_by}
use Rattle.exc_laws.specs.Ready.{uses_slots}
use Rattle.exc_laws.specs.Stands.{Beside}
use Rattle.exc_laws.proofs.Tests.{or_first, or_second, equals}
use Rattle.exc_laws.proofs.Lives.{among_left, among_right, among_own}

-- ---- operands

abbrev pub SameOn : List ℕ → List Value → List Value → Type 0
SameOn vs vars x_vars = (v : ℕ) → among v vs ≡ true → read x_vars v ≡ read vars v

pub operand_same : (vars x_vars : List Value) (x : COperand) → SameOn (variables_of x) vars x_vars → operand x_vars x ≡ operand vars x
operand_same vars x_vars (Var v) h = h v (among_own v)
operand_same vars x_vars (Const c) h = refl

pub operands_same : (vars x_vars : List Value) (xs : List COperand) → SameOn (variables_in xs) vars x_vars → operands x_vars xs ≡ operands vars xs
operands_same vars x_vars [] h = refl
operands_same vars x_vars (x ∷ xs) h =
    ap (λ w. w ∷ operands x_vars xs) (operand_same vars x_vars x (λ v e. h v (among_left v (variables_of x) (variables_in xs) e)))
    ∙ ap (λ l. operand vars x ∷ l) (operands_same vars x_vars xs (λ v e. h v (among_right v (variables_of x) (variables_in xs) e)))

-- ---- what is done

abbrev pub stays : LlOp → Bool
stays (op.Call into f xs) = false
stays (op.CallFn into result params b xs) = false
stays (op.Raise a) = false
stays (op.Free a) = false
stays other = true

-- both go on at the next place, one value is written in both, and the slots stay
pub record Done (a : Option ℕ) (old x_old core x_core : Core) : Type 0 where
  pub graph : core.function ≡ old.function
  pub beside : Beside core x_core
  pub kind : x_core.exc_type ≡ x_old.exc_type
  pub value : x_core.exc_value ≡ x_old.exc_value
  pub written : Value
  pub vars : core.vars ≡ taken_by old.vars a written
  pub x_vars : x_core.vars ≡ taken_by x_old.vars a written

abbrev pub SameAfter : Option ℕ → Core → Core → After → After → Type 0
SameAfter a old x_old (Onward core) (Onward x_core) = Done a old x_old core x_core
SameAfter a old x_old (PutsByte byte core) (PutsByte x_byte x_core) = (x_byte ≡ byte) × Done a old x_old core x_core
SameAfter a old x_old (Told event core) (Told x_event x_core) = (x_event ≡ event) × Done a old x_old core x_core
SameAfter a old x_old (Over outcome core) (Over x_outcome x_core) = (x_outcome ≡ outcome) × (x_core.steps ≡ core.steps)
SameAfter a old x_old (Stuck reason) (Stuck x_reason) = x_reason ≡ reason
SameAfter a old x_old after x_after = ⊥

module _ (core x_core : Core) (beside : Beside core x_core) where
  abbrev Same : Option ℕ → After → After → Type 0
  Same a after x_after = SameAfter a core x_core after x_after

  choice : (a : Option ℕ) (b : Bool) (x y x' y' : After) → Same a x x' → Same a y y' → Same a (cond b x y) (cond b x' y')
  choice a true x y x' y' h k = h
  choice a false x y x' y' h k = k

  with_option : {X : Type 0} (a : Option ℕ) (go x_go : X → After) → ((x : X) → Same a (go x) (x_go x)) → (o : Option X) → Same a (st.on go o) (st.on x_go o)
  with_option a go x_go h None = refl
  with_option a go x_go h (Some x) = h x

  assigned_same : (a : ℕ) (w : Value) → Same (Some a) (st.assigned core a w) (st.assigned x_core a w)
  assigned_same a w =
      record { graph = refl; beside = record { function = beside.function; blocks = beside.blocks; statics = beside.statics; steps = beside.steps }; kind = refl; value = refl; written = w; vars = refl; x_vars = refl }

  set_same : (a : ℕ) (w : Value) → Same (Some a) (st.set core a w) (st.set x_core a w)
  set_same a w = choice (Some a) (is_unset w) (Stuck IsUnset) (st.assigned core a w) (Stuck IsUnset) (st.assigned x_core a w) refl (assigned_same a w)

  answered_same : (a : ℕ) (answer : Answer) → Same (Some a) (st.answered core a answer) (st.answered x_core a answer)
  answered_same a (Ok w) = assigned_same a w
  answered_same a (Err reason) = refl

  -- ---- blocks

  block_same : (w : Value) → block_at x_core w ≡ block_at core w
  block_same (Ptr n) = ap (λ bs. slice_index_or bs n None) beside.blocks
  block_same (Static g) = ap (λ s. slice_get s g) beside.statics
  block_same other = refl

  pub reached_same : (shapes : List Shape) (n : ℕ) (w : Value) → reached x_core shapes n w ≡ reached core shapes n w
  reached_same shapes n w = ap (λ o. cond (is_unset w) (Err IsUnset) (as_struct shapes n o)) (block_same w)

  found_same : (a : Option ℕ) (go x_go : Block → After) → ((block : Block) → Same a (go block) (x_go block)) → (r : Result Block StuckReason) → Same a (on_block go r) (on_block x_go r)
  found_same a go x_go h (Ok block) = h block
  found_same a go x_go h (Err reason) = refl

  on_same : (a : Option ℕ) (go x_go : Block → After) → ((block : Block) → Same a (go block) (x_go block)) → (shapes : List Shape) (n : ℕ) (w : Value) → Same a (on_block go (reached core shapes n w)) (on_block x_go (reached x_core shapes n w))
  on_same a go x_go h shapes n w = subst (λ r. Same a (on_block go (reached core shapes n w)) (on_block x_go r)) (sym (reached_same shapes n w)) (found_same a go x_go h (reached core shapes n w))

  stored_same : (w : Value) (block : Block) → Same None (st.stored core w block) (st.stored x_core w block)
  stored_same (Ptr n) block = record {
    graph = refl;
    beside = record { function = beside.function; blocks = ap (λ bs. slice_set bs n (Some block)) beside.blocks; statics = beside.statics; steps = beside.steps };
    kind = refl;
    value = refl;
    written = Unset;
    vars = refl;
    x_vars = refl;
  }
  stored_same (Static g) block = record {
    graph = refl;
    beside = record { function = beside.function; blocks = beside.blocks; statics = ap (λ s. slice_set s g block) beside.statics; steps = beside.steps };
    kind = refl;
    value = refl;
    written = Unset;
    vars = refl;
    x_vars = refl;
  }
  stored_same other block = refl

  item_same : (a : ℕ) (items : List Value) (i : ℤ) → Same (Some a) (st.item core a items i) (st.item x_core a items i)
  item_same a items (pos i) = choice (Some a) (nat_lt i (length items)) (st.set core a (read items i)) (Stuck Outside) (st.set x_core a (read items i)) (Stuck Outside) (set_same a (read items i)) refl
  item_same a items (negsuc i) = refl

  put_item_same : (w : Value) (block : Block) (i : ℤ) (x : Value) → Same None (st.put_item core w block i x) (st.put_item x_core w block i x)
  put_item_same w block (pos i) x =
      choice None (nat_lt i (length block.items)) (st.stored core w (record block { items = slice_set block.items i x })) (Stuck Outside) (st.stored x_core w (record block { items = slice_set block.items i x })) (Stuck Outside)
      (stored_same w (record block { items = slice_set block.items i x })) refl
  put_item_same w block (negsuc i) x = refl

  get_field_same : (shapes : List Shape) (a n : ℕ) (w : Value) (k : ℕ) → Same (Some a) (st.get_field core shapes a n w k) (st.get_field x_core shapes a n w k)
  get_field_same shapes a n w k =
      on_same (Some a) (λ block. st.set core a (read block.fields (place (shape_at shapes n) k))) (λ block. st.set x_core a (read block.fields (place (shape_at shapes n) k))) (λ block. set_same a (read block.fields (place (shape_at shapes n) k))) shapes n w

  set_field_same : (shapes : List Shape) (n : ℕ) (w : Value) (k : ℕ) (x : Value) → Same None (st.set_field core shapes n w k x) (st.set_field x_core shapes n w k x)
  set_field_same shapes n w k x =
      choice None (is_unset x) (Stuck IsUnset) _ (Stuck IsUnset) _ refl
      (on_same None (λ block. st.stored core w (record block { fields = slice_set block.fields (place (shape_at shapes n) k) x })) (λ block. st.stored x_core w (record block { fields = slice_set block.fields (place (shape_at shapes n) k) x }))
      (λ block. stored_same w (record block { fields = slice_set block.fields (place (shape_at shapes n) k) x })) shapes n w)

  get_item_same : (shapes : List Shape) (a n : ℕ) (w i : Value) → Same (Some a) (st.get_item core shapes a n w i) (st.get_item x_core shapes a n w i)
  get_item_same shapes a n w i =
      with_option (Some a) (λ i. on_block (λ block. st.item core a block.items i) (reached core shapes n w)) (λ i. on_block (λ block. st.item x_core a block.items i) (reached x_core shapes n w))
      (λ i. on_same (Some a) (λ block. st.item core a block.items i) (λ block. st.item x_core a block.items i) (λ block. item_same a block.items i) shapes n w) (word_of i)

  set_item_same : (shapes : List Shape) (n : ℕ) (w i x : Value) → Same None (st.set_item core shapes n w i x) (st.set_item x_core shapes n w i x)
  set_item_same shapes n w i x =
      choice None (is_unset x) (Stuck IsUnset) _ (Stuck IsUnset) _ refl
      (with_option None (λ i. on_block (λ block. st.put_item core w block i x) (reached core shapes n w)) (λ i. on_block (λ block. st.put_item x_core w block i x) (reached x_core shapes n w))
      (λ i. on_same None (λ block. st.put_item core w block i x) (λ block. st.put_item x_core w block i x) (λ block. put_item_same w block i x) shapes n w) (word_of i))

  new_same : (shapes : List Shape) (a n items : ℕ) → Same (Some a) (st.new_block core shapes a n items) (st.new_block x_core shapes a n items)
  new_same shapes a n items = (
    ap (λ bs. Made (length bs) n ((shape_at shapes n).size + items)) beside.blocks,
    record {
      graph = refl;
      beside = record {
        function = beside.function;
        blocks = ap (λ bs. bs ++ Some (record { kind = n; fields = replicate (shape_at shapes n).size Unset; items = replicate items Unset }) ∷ []) beside.blocks;
        statics = beside.statics;
        steps = beside.steps;
      };
      kind = refl;
      value = refl;
      written = Ptr (length core.blocks);
      vars = refl;
      x_vars = ap (λ bs. slice_set x_core.vars a (Ptr (length bs))) beside.blocks;
    },
  )

  new_items_same : (shapes : List Shape) (a n : ℕ) (i : ℤ) → Same (Some a) (st.new_items core shapes a n i) (st.new_items x_core shapes a n i)
  new_items_same shapes a n (pos items) = new_same shapes a n items
  new_items_same shapes a n (negsuc items) = refl

  -- ---- steps and the outside

  paid_same : (cost : ℕ) (steps : ℕ) → steps ≡ core.steps
      → Same None (st.pay_steps core (pos cost)) (cond (nat_le cost steps) (Onward (record x_core { at = x_core.at + 1; steps = steps - cost })) (Over Running x_core))
  paid_same cost steps e = subst (λ n. Same None (st.pay_steps core (pos cost)) (cond (nat_le cost n) (Onward (record x_core { at = x_core.at + 1; steps = n - cost })) (Over Running x_core))) (sym e)
      (choice None (nat_le cost core.steps) (Onward (record core { at = core.at + 1; steps = core.steps - cost })) (Over Running core) (Onward (record x_core { at = x_core.at + 1; steps = core.steps - cost })) (Over Running x_core)
      (record { graph = refl; beside = record { function = beside.function; blocks = beside.blocks; statics = beside.statics; steps = refl }; kind = refl; value = refl; written = Unset; vars = refl; x_vars = refl }) (refl, beside.steps))

  pay_same : (i : ℤ) → Same None (st.pay_steps core i) (st.pay_steps x_core i)
  pay_same (pos cost) = paid_same cost x_core.steps beside.steps
  pay_same (negsuc cost) = refl

  in_range_same : (a : ℕ) (o : Option ℕ) → Same (Some a) (st.in_range core a o) (st.in_range x_core a o)
  in_range_same a None = refl
  in_range_same a (Some n) = assigned_same a _

  put_same : (i : ℤ) → Same None (st.put_word core i) (st.put_word x_core i)
  put_same (pos byte) =
      choice None (nat_lt byte 256) (PutsByte byte (record core { at = core.at + 1 })) _ (PutsByte byte (record x_core { at = x_core.at + 1 })) _
      (refl, record { graph = refl; beside = record { function = beside.function; blocks = beside.blocks; statics = beside.statics; steps = beside.steps }; kind = refl; value = refl; written = Unset; vars = refl; x_vars = refl }) refl
  put_same (negsuc n) = refl

  -- ---- operations

  module _ (p : LlProgram) (args : List (List ℕ)) where
    abbrev DoesSame : LlOp → Type 0
    DoesSame o = Same (set_by o) (does p args core o) (does p args x_core o)

    one : (x : COperand) → SameOn (variables_of x) core.vars x_core.vars → operand x_core.vars x ≡ operand core.vars x
    one x h = operand_same core.vars x_core.vars x h

    first : (x : COperand) (vs : List ℕ) → SameOn (variables_of x ++ vs) core.vars x_core.vars → operand x_core.vars x ≡ operand core.vars x
    first x vs h = one x (λ v e. h v (among_left v (variables_of x) vs e))

    second : (vs : List ℕ) (x : COperand) → SameOn (vs ++ variables_of x) core.vars x_core.vars → operand x_core.vars x ≡ operand core.vars x
    second vs x h = one x (λ v e. h v (among_right v vs (variables_of x) e))

    head : (b : ℕ) (vs : List ℕ) → SameOn (b ∷ vs) core.vars x_core.vars → read x_core.vars b ≡ read core.vars b
    head b vs h = h b (or_first (b == b) _ (equals b b refl))

    tail : (b : ℕ) (vs : List ℕ) → SameOn (b ∷ vs) core.vars x_core.vars → SameOn vs core.vars x_core.vars
    tail b vs h v e = h v (or_second (b == v) _ e)

    pub does_same : (o : LlOp) → stays o ≡ true → uses_slots o ≡ false → SameOn (reads o) core.vars x_core.vars → DoesSame o
    does_same (op.Set a x) s u h = subst (λ w. Same (Some a) (st.set core a (operand core.vars x)) (st.set x_core a w)) (sym (one x h)) (set_same a (operand core.vars x))
    does_same (op.Unary a o x) s u h = subst (λ w. Same (Some a) (st.unary core a o (operand core.vars x)) (st.unary x_core a o w)) (sym (one x h)) (answered_same a (unary_of o (operand core.vars x)))
    does_same (op.Binary a o x y) s u h =
        subst (λ w. Same (Some a) (st.binary core a o (operand core.vars x) (operand core.vars y)) (st.binary x_core a o w (operand x_core.vars y))) (sym (first x (variables_of y) h))
        (subst (λ w. Same (Some a) (st.binary core a o (operand core.vars x) (operand core.vars y)) (st.binary x_core a o (operand core.vars x) w)) (sym (second (variables_of x) y h)) (answered_same a (binary_of o (operand core.vars x) (operand core.vars y))))
    does_same (op.GetField a n b k) s u h =
        subst (λ w. Same (Some a) (st.get_field core (shapes_of p.structs) a n (read core.vars b) k) (st.get_field x_core (shapes_of p.structs) a n w k)) (sym (head b [] h)) (get_field_same (shapes_of p.structs) a n (read core.vars b) k)
    does_same (op.SetField n b k x) s u h =
        subst (λ w. Same None (st.set_field core (shapes_of p.structs) n (read core.vars b) k (operand core.vars x)) (st.set_field x_core (shapes_of p.structs) n w k (operand x_core.vars x))) (sym (head b (variables_of x) h))
        (subst (λ w. Same None (st.set_field core (shapes_of p.structs) n (read core.vars b) k (operand core.vars x)) (st.set_field x_core (shapes_of p.structs) n (read core.vars b) k w)) (sym (one x (tail b (variables_of x) h)))
        (set_field_same (shapes_of p.structs) n (read core.vars b) k (operand core.vars x)))
    does_same (op.GetItem a n b i) s u h =
        subst (λ w. Same (Some a) (st.get_item core (shapes_of p.structs) a n (read core.vars b) (operand core.vars i)) (st.get_item x_core (shapes_of p.structs) a n w (operand x_core.vars i))) (sym (head b (variables_of i) h))
        (subst (λ w. Same (Some a) (st.get_item core (shapes_of p.structs) a n (read core.vars b) (operand core.vars i)) (st.get_item x_core (shapes_of p.structs) a n (read core.vars b) w)) (sym (one i (tail b (variables_of i) h)))
        (get_item_same (shapes_of p.structs) a n (read core.vars b) (operand core.vars i)))
    does_same (op.SetItem n b i x) s u h =
        subst (λ w. Same None (st.set_item core (shapes_of p.structs) n (read core.vars b) (operand core.vars i) (operand core.vars x)) (st.set_item x_core (shapes_of p.structs) n w (operand x_core.vars i) (operand x_core.vars x)))
        (sym (head b (variables_of i ++ variables_of x) h))
        (subst (λ w. Same None (st.set_item core (shapes_of p.structs) n (read core.vars b) (operand core.vars i) (operand core.vars x)) (st.set_item x_core (shapes_of p.structs) n (read core.vars b) w (operand x_core.vars x)))
        (sym (first i (variables_of x) (tail b (variables_of i ++ variables_of x) h)))
        (subst (λ w. Same None (st.set_item core (shapes_of p.structs) n (read core.vars b) (operand core.vars i) (operand core.vars x)) (st.set_item x_core (shapes_of p.structs) n (read core.vars b) (operand core.vars i) w))
        (sym (second (variables_of i) x (tail b (variables_of i ++ variables_of x) h)))
        (set_item_same (shapes_of p.structs) n (read core.vars b) (operand core.vars i) (operand core.vars x))))
    does_same (op.New a m n) s u h = new_same (shapes_of p.structs) a n 0
    does_same (op.NewArray a m n x) s u h =
        subst (λ w. Same (Some a) (st.new_array core (shapes_of p.structs) a n (operand core.vars x)) (st.new_array x_core (shapes_of p.structs) a n w)) (sym (one x h))
        (with_option (Some a) (st.new_items core (shapes_of p.structs) a n) (st.new_items x_core (shapes_of p.structs) a n) (new_items_same (shapes_of p.structs) a n) (word_of (operand core.vars x)))
    does_same (op.Step x) s u h =
        subst (λ w. Same None (st.pay core (operand core.vars x)) (st.pay x_core w)) (sym (one x h)) (with_option None (st.pay_steps core) (st.pay_steps x_core) pay_same (word_of (operand core.vars x)))
    does_same (op.Argc a) s u h = assigned_same a _
    does_same (op.ArgLen a x) s u h =
        subst (λ w. Same (Some a) (st.arg_len core args a (operand core.vars x)) (st.arg_len x_core args a w)) (sym (one x h)) (with_option (Some a) _ _ (λ i. in_range_same a _) (word_of (operand core.vars x)))
    does_same (op.Arg a x y) s u h =
        subst (λ w. Same (Some a) (st.arg core args a (operand core.vars x) (operand core.vars y)) (st.arg x_core args a w (operand x_core.vars y))) (sym (first x (variables_of y) h))
        (subst (λ w. Same (Some a) (st.arg core args a (operand core.vars x) (operand core.vars y)) (st.arg x_core args a (operand core.vars x) w)) (sym (second (variables_of x) y h))
        (with_option (Some a) _ _ (λ i. with_option (Some a) _ _ (λ j. in_range_same a _) (word_of (operand core.vars y))) (word_of (operand core.vars x))))
    does_same (op.Put x) s u h =
        subst (λ w. Same None (st.put_byte core (operand core.vars x)) (st.put_byte x_core w)) (sym (one x h)) (with_option None (st.put_word core) (st.put_word x_core) put_same (word_of (operand core.vars x)))
    does_same (op.Call into f xs) s u h = absurd (cc)
    does_same (op.CallFn into result params b xs) s u h = absurd (cc)
    does_same (op.Raise a) s u h = absurd (cc)
    does_same (op.Free a) s u h = absurd (cc)
    does_same (op.ExcType a n) s u h = absurd (cc)
    does_same (op.ExcValue a n) s u h = absurd (cc)
    does_same (op.ExcSet a b) s u h = absurd (cc)
    does_same op.ExcClear s u h = absurd (cc)
