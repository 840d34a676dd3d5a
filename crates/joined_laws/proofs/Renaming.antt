-- An operation under other names does the same.
use Rattle.std.proofs.Common.{◌≡◌, ℕ, ◌+◌, ◌-◌, Bool, true, false, ◌||◌, ◌==◌, List, [], ◌∷◌, ◌++◌, length, replicate, Option, Some, None, Result, Ok, Err, refl, sym, ap, ◌∙◌, subst, ℤ, pos, negsuc}
use Rattle.std.specs.Prelude.{slice_get, slice_set, slice_index_or, cond, nat_lt, nat_le, option_map}
use Rattle.rpy_base.specs.declared.outcome.Outcome.TheVariants.{Running}
use Rattle.csub_tree.specs.State.{Value, Unset, Null, Ptr, Static, Block, Core, Made, After, Onward, Puts, Over, Stuck}
use Rattle.csub_tree.specs.Layout.{Shape, shape_at, place}
use Rattle.csub_tree.specs.Operation.{Answer, is_unset, word_of, unary_of, binary_of}
use Rattle.csub_tree.specs.Statement as st
use Rattle.csub_tree.specs.Statement.{read, operand, block_at, as_struct, reached, on_block, taken_by, argument, byte_in}
use Rattle.csub_tree.specs.declared.stuck.StuckReason.{StuckReason}
use Rattle.csub_tree.specs.declared.stuck.StuckReason.TheVariants.{Unset as IsUnset, Outside}
use Rattle.csub_tree.specs.declared.tree.COperand.{COperand}
use Rattle.csub_tree.specs.declared.tree.COperand.TheVariants.{Var, Const}
use Rattle.ll_code.specs.Machine.{does, shapes_of}
use Rattle.ll_code.specs.declared.program.LlOp.{LlOp}
use Rattle.ll_code.specs.declared.program.LlOp.TheVariants as op
use Rattle.ll_code.specs.declared.program.LlGraph.{LlGraph}
use Rattle.ll_code.specs.declared.program.LlProgram.{LlProgram}
use Rattle.ll_live.specs.Live.{among, variables_of, set_by}
use Rattle.ll_joined.specs.Named.{Naming, name_of, value_of, operand_by, named}
use Rattle.joined_laws.specs.Renamed.{Alike, Wrote, SameAfter, Finds, RenamedDoTheSame}
use Rattle.joined_laws.proofs.Moving.{or_second, among_left, among_right, among_first}

module _ (core other : Core) (alike : Alike core other) where
  abbrev Same : Option ℕ → Option ℕ → After → After → Type 0
  Same a b after after2 = SameAfter a b core other after after2

  choice : (a b : Option ℕ) (t : Bool) (x y x2 y2 : After) → Same a b x x2 → Same a b y y2 → Same a b (cond t x y) (cond t x2 y2)
  choice a b true x y x2 y2 h k = h
  choice a b false x y x2 y2 h k = k

  with_option : {X : Type 0} (a b : Option ℕ) (go go2 : X → After) → ((x : X) → Same a b (go x) (go2 x)) → (o : Option X) → Same a b (st.on go o) (st.on go2 o)
  with_option a b go go2 h None = refl
  with_option a b go go2 h (Some x) = h x

  -- nothing is written, and the memory is the same
  still : Wrote None None core other (record core { at = core.at + 1 }) (record other { at = other.at + 1 })
  still = record { alike = record { function = alike.function; blocks = alike.blocks; statics = alike.statics; exc_type = alike.exc_type; exc_value = alike.exc_value; steps = alike.steps }; graph = refl; written = Unset; vars = refl; other_vars = refl }

  -- ---- blocks

  block_same : (w : Value) → block_at other w ≡ block_at core w
  block_same (Ptr n) = ap (λ bs. slice_index_or bs n None) alike.blocks
  block_same (Static g) = ap (λ s. slice_get s g) alike.statics
  block_same w = refl

  reached_same : (shapes : List Shape) (n : ℕ) (w : Value) → reached other shapes n w ≡ reached core shapes n w
  reached_same shapes n w = ap (λ o. cond (is_unset w) (Err IsUnset) (as_struct shapes n o)) (block_same w)

  found_same : (a b : Option ℕ) (go go2 : Block → After) → ((block : Block) → Same a b (go block) (go2 block)) → (r : Result Block StuckReason) → Same a b (on_block go r) (on_block go2 r)
  found_same a b go go2 h (Ok block) = h block
  found_same a b go go2 h (Err reason) = refl

  on_same : (a b : Option ℕ) (go go2 : Block → After) → ((block : Block) → Same a b (go block) (go2 block)) → (shapes : List Shape) (n : ℕ) (w : Value) → Same a b (on_block go (reached core shapes n w)) (on_block go2 (reached other shapes n w))
  on_same a b go go2 h shapes n w = subst (λ r. Same a b (on_block go (reached core shapes n w)) (on_block go2 r)) (sym (reached_same shapes n w)) (found_same a b go go2 h (reached core shapes n w))

  stored_same : (w : Value) (block : Block) → Same None None (st.stored core w block) (st.stored other w block)
  stored_same (Ptr n) block = record {
    alike = record { function = alike.function; blocks = ap (λ bs. slice_set bs n (Some block)) alike.blocks; statics = alike.statics; exc_type = alike.exc_type; exc_value = alike.exc_value; steps = alike.steps };
    graph = refl;
    written = Unset;
    vars = refl;
    other_vars = refl;
  }
  stored_same (Static g) block = record {
    alike = record { function = alike.function; blocks = alike.blocks; statics = ap (λ s. slice_set s g block) alike.statics; exc_type = alike.exc_type; exc_value = alike.exc_value; steps = alike.steps };
    graph = refl;
    written = Unset;
    vars = refl;
    other_vars = refl;
  }
  stored_same w block = refl

  set_field_same : (shapes : List Shape) (n : ℕ) (w : Value) (k : ℕ) (x : Value) → Same None None (st.set_field core shapes n w k x) (st.set_field other shapes n w k x)
  set_field_same shapes n w k x =
      choice None None (is_unset x) (Stuck IsUnset) _ (Stuck IsUnset) _ refl
      (on_same None None (λ block. st.stored core w (record block { fields = slice_set block.fields (place (shape_at shapes n) k) x })) (λ block. st.stored other w (record block { fields = slice_set block.fields (place (shape_at shapes n) k) x }))
      (λ block. stored_same w (record block { fields = slice_set block.fields (place (shape_at shapes n) k) x })) shapes n w)

  put_item_same : (w : Value) (block : Block) (i : ℤ) (x : Value) → Same None None (st.put_item core w block i x) (st.put_item other w block i x)
  put_item_same w block (pos i) x =
      choice None None (nat_lt i (length block.items)) (st.stored core w (record block { items = slice_set block.items i x })) (Stuck Outside) (st.stored other w (record block { items = slice_set block.items i x })) (Stuck Outside)
      (stored_same w (record block { items = slice_set block.items i x })) refl
  put_item_same w block (negsuc i) x = refl

  set_item_same : (shapes : List Shape) (n : ℕ) (w i x : Value) → Same None None (st.set_item core shapes n w i x) (st.set_item other shapes n w i x)
  set_item_same shapes n w i x =
      choice None None (is_unset x) (Stuck IsUnset) _ (Stuck IsUnset) _ refl
      (with_option None None (λ i. on_block (λ block. st.put_item core w block i x) (reached core shapes n w)) (λ i. on_block (λ block. st.put_item other w block i x) (reached other shapes n w))
      (λ i. on_same None None (λ block. st.put_item core w block i x) (λ block. st.put_item other w block i x) (λ block. put_item_same w block i x) shapes n w) (word_of i))

  freed_same : (n : ℕ) (o : Option Block) → Same None None (st.free_block core n o) (st.free_block other n o)
  freed_same n None = refl
  freed_same n (Some block) = (
    refl,
    record {
      alike = record { function = alike.function; blocks = ap (λ bs. slice_set bs n None) alike.blocks; statics = alike.statics; exc_type = alike.exc_type; exc_value = alike.exc_value; steps = alike.steps };
      graph = refl;
      written = Unset;
      vars = refl;
      other_vars = refl;
    },
  )

  free_same : (w : Value) → Same None None (st.free core w) (st.free other w)
  free_same (Ptr n) = subst (λ o. Same None None (st.free_block core n (slice_index_or core.blocks n None)) (st.free_block other n o)) (sym (ap (λ bs. slice_index_or bs n None) alike.blocks)) (freed_same n (slice_index_or core.blocks n None))
  free_same w = refl

  -- ---- steps, slots and the outside

  paid_same : (cost steps : ℕ) → steps ≡ core.steps → Same None None (st.pay_steps core (pos cost)) (cond (nat_le cost steps) (Onward (record other { at = other.at + 1; steps = steps - cost })) (Over Running other))
  paid_same cost steps e = subst (λ n. Same None None (st.pay_steps core (pos cost)) (cond (nat_le cost n) (Onward (record other { at = other.at + 1; steps = n - cost })) (Over Running other))) (sym e)
      (choice None None (nat_le cost core.steps) (Onward (record core { at = core.at + 1; steps = core.steps - cost })) (Over Running core) (Onward (record other { at = other.at + 1; steps = core.steps - cost })) (Over Running other)
      (record { alike = record { function = alike.function; blocks = alike.blocks; statics = alike.statics; exc_type = alike.exc_type; exc_value = alike.exc_value; steps = refl }; graph = refl; written = Unset; vars = refl; other_vars = refl }) (refl, alike.steps))

  pay_same : (i : ℤ) → Same None None (st.pay_steps core i) (st.pay_steps other i)
  pay_same (pos cost) = paid_same cost other.steps alike.steps
  pay_same (negsuc cost) = refl

  slots_same : (x y : Value) → Wrote None None core other (record core { at = core.at + 1; exc_type = x; exc_value = y }) (record other { at = other.at + 1; exc_type = x; exc_value = y })
  slots_same x y = record { alike = record { function = alike.function; blocks = alike.blocks; statics = alike.statics; exc_type = refl; exc_value = refl; steps = alike.steps }; graph = refl; written = Unset; vars = refl; other_vars = refl }

  exc_set_same : (x y : Value) → Same None None (st.exc_set core x y) (st.exc_set other x y)
  exc_set_same x y = choice None None (is_unset x || is_unset y) (Stuck IsUnset) _ (Stuck IsUnset) _ refl (slots_same x y)

  put_same : (i : ℤ) → Same None None (st.put_word core i) (st.put_word other i)
  put_same (pos byte) = choice None None (nat_lt byte 256) (Puts byte (record core { at = core.at + 1 })) _ (Puts byte (record other { at = other.at + 1 })) _ (refl, still) refl
  put_same (negsuc n) = refl

  -- ---- a variable is set

  module _ (a b : ℕ) where
    assigned_same : (w : Value) → Same (Some a) (Some b) (st.assigned core a w) (st.assigned other b w)
    assigned_same w = record {
      alike = record { function = alike.function; blocks = alike.blocks; statics = alike.statics; exc_type = alike.exc_type; exc_value = alike.exc_value; steps = alike.steps };
      graph = refl;
      written = w;
      vars = refl;
      other_vars = refl;
    }

    set_same : (w : Value) → Same (Some a) (Some b) (st.set core a w) (st.set other b w)
    set_same w = choice (Some a) (Some b) (is_unset w) (Stuck IsUnset) (st.assigned core a w) (Stuck IsUnset) (st.assigned other b w) refl (assigned_same w)

    answered_same : (answer : Answer) → Same (Some a) (Some b) (st.answered core a answer) (st.answered other b answer)
    answered_same (Ok w) = assigned_same w
    answered_same (Err reason) = refl

    get_field_same : (shapes : List Shape) (n : ℕ) (w : Value) (k : ℕ) → Same (Some a) (Some b) (st.get_field core shapes a n w k) (st.get_field other shapes b n w k)
    get_field_same shapes n w k =
        on_same (Some a) (Some b) (λ block. st.set core a (read block.fields (place (shape_at shapes n) k))) (λ block. st.set other b (read block.fields (place (shape_at shapes n) k))) (λ block. set_same (read block.fields (place (shape_at shapes n) k))) shapes n w

    item_same : (items : List Value) (i : ℤ) → Same (Some a) (Some b) (st.item core a items i) (st.item other b items i)
    item_same items (pos i) = choice (Some a) (Some b) (nat_lt i (length items)) (st.set core a (read items i)) (Stuck Outside) (st.set other b (read items i)) (Stuck Outside) (set_same (read items i)) refl
    item_same items (negsuc i) = refl

    get_item_same : (shapes : List Shape) (n : ℕ) (w i : Value) → Same (Some a) (Some b) (st.get_item core shapes a n w i) (st.get_item other shapes b n w i)
    get_item_same shapes n w i =
        with_option (Some a) (Some b) (λ i. on_block (λ block. st.item core a block.items i) (reached core shapes n w)) (λ i. on_block (λ block. st.item other b block.items i) (reached other shapes n w))
        (λ i. on_same (Some a) (Some b) (λ block. st.item core a block.items i) (λ block. st.item other b block.items i) (λ block. item_same block.items i) shapes n w) (word_of i)

    new_same : (shapes : List Shape) (n items : ℕ) → Same (Some a) (Some b) (st.new_block core shapes a n items) (st.new_block other shapes b n items)
    new_same shapes n items = (
      ap (λ bs. Made (length bs) n ((shape_at shapes n).size + items)) alike.blocks,
      record {
        alike = record {
          function = alike.function;
          blocks = ap (λ bs. bs ++ Some (record { kind = n; fields = replicate (shape_at shapes n).size Unset; items = replicate items Unset }) ∷ []) alike.blocks;
          statics = alike.statics;
          exc_type = alike.exc_type;
          exc_value = alike.exc_value;
          steps = alike.steps;
        };
        graph = refl;
        written = Ptr (length core.blocks);
        vars = refl;
        other_vars = ap (λ bs. slice_set other.vars b (Ptr (length bs))) alike.blocks;
      },
    )

    new_items_same : (shapes : List Shape) (n : ℕ) (i : ℤ) → Same (Some a) (Some b) (st.new_items core shapes a n i) (st.new_items other shapes b n i)
    new_items_same shapes n (pos items) = new_same shapes n items
    new_items_same shapes n (negsuc items) = refl

    in_range_same : (o : Option ℕ) → Same (Some a) (Some b) (st.in_range core a o) (st.in_range other b o)
    in_range_same None = refl
    in_range_same (Some n) = assigned_same _

  -- ---- operations

  module _ (p : LlProgram) (graphs : List LlGraph) (args : List (List ℕ)) (names : Naming) where
    abbrev q : LlProgram
    q = record p { graphs = graphs }

    abbrev shapes : List Shape
    shapes = shapes_of p.structs

    abbrev DoesSame : LlOp → Type 0
    DoesSame o = Same (set_by o) (option_map (name_of names) (set_by o)) (does p args core o) (does q args other (named names o))

    abbrev Value_same : List ℕ → Type 0
    Value_same vs = (v : ℕ) → among v vs ≡ true → operand other.vars (value_of names v) ≡ read core.vars v

    one : (x : COperand) → Value_same (variables_of x) → operand core.vars x ≡ operand other.vars (operand_by names x)
    one (Var v) h = sym (h v (among_first v []))
    one (Const c) h = refl

    first : (x : COperand) (vs : List ℕ) → Value_same (variables_of x ++ vs) → operand core.vars x ≡ operand other.vars (operand_by names x)
    first x vs h = one x (λ v e. h v (among_left v (variables_of x) vs e))

    second : (vs : List ℕ) (x : COperand) → Value_same (vs ++ variables_of x) → operand core.vars x ≡ operand other.vars (operand_by names x)
    second vs x h = one x (λ v e. h v (among_right v vs (variables_of x) e))

    tail : (b : ℕ) (vs : List ℕ) → Value_same (b ∷ vs) → Value_same vs
    tail b vs h v e = h v (or_second (b == v) _ e)

    head : (b : ℕ) (vs : List ℕ) → Value_same (b ∷ vs) → value_of names b ≡ Var (name_of names b) → read core.vars b ≡ read other.vars (name_of names b)
    head b vs h e = sym (h b (among_first b vs)) ∙ ap (operand other.vars) e

    does_same : (o : LlOp) → Finds names o core.vars other.vars → DoesSame o
    does_same (op.Set a x) h = subst (λ w. Same (Some a) (Some (name_of names a)) (st.set core a (operand core.vars x)) (st.set other (name_of names a) w)) (one x h.values) (set_same a (name_of names a) (operand core.vars x))
    does_same (op.Unary a o x) h = subst (λ w. Same (Some a) (Some (name_of names a)) (st.unary core a o (operand core.vars x)) (st.unary other (name_of names a) o w)) (one x h.values) (answered_same a (name_of names a) (unary_of o (operand core.vars x)))
    does_same (op.Binary a o x y) h =
        subst (λ w. Same (Some a) (Some (name_of names a)) (st.binary core a o (operand core.vars x) (operand core.vars y)) (st.binary other (name_of names a) o w (operand other.vars (operand_by names y)))) (first x (variables_of y) h.values)
        (subst (λ w. Same (Some a) (Some (name_of names a)) (st.binary core a o (operand core.vars x) (operand core.vars y)) (st.binary other (name_of names a) o (operand core.vars x) w)) (second (variables_of x) y h.values)
        (answered_same a (name_of names a) (binary_of o (operand core.vars x) (operand core.vars y))))
    does_same (op.GetField a n b k) h =
        subst (λ w. Same (Some a) (Some (name_of names a)) (st.get_field core shapes a n (read core.vars b) k) (st.get_field other shapes (name_of names a) n w k)) (head b [] h.values (h.variables b (among_first b [])))
        (get_field_same a (name_of names a) shapes n (read core.vars b) k)
    does_same (op.SetField n b k x) h =
        subst (λ w. Same None None (st.set_field core shapes n (read core.vars b) k (operand core.vars x)) (st.set_field other shapes n w k (operand other.vars (operand_by names x)))) (head b (variables_of x) h.values (h.variables b (among_first b [])))
        (subst (λ w. Same None None (st.set_field core shapes n (read core.vars b) k (operand core.vars x)) (st.set_field other shapes n (read core.vars b) k w)) (one x (tail b (variables_of x) h.values))
        (set_field_same shapes n (read core.vars b) k (operand core.vars x)))
    does_same (op.GetItem a n b i) h =
        subst (λ w. Same (Some a) (Some (name_of names a)) (st.get_item core shapes a n (read core.vars b) (operand core.vars i)) (st.get_item other shapes (name_of names a) n w (operand other.vars (operand_by names i)))) (head b (variables_of i) h.values (h.variables b (among_first b [])))
        (subst (λ w. Same (Some a) (Some (name_of names a)) (st.get_item core shapes a n (read core.vars b) (operand core.vars i)) (st.get_item other shapes (name_of names a) n (read core.vars b) w)) (one i (tail b (variables_of i) h.values))
        (get_item_same a (name_of names a) shapes n (read core.vars b) (operand core.vars i)))
    does_same (op.SetItem n b i x) h =
        let t = tail b (variables_of i ++ variables_of x) h.values in
        subst (λ w. Same None None (st.set_item core shapes n (read core.vars b) (operand core.vars i) (operand core.vars x)) (st.set_item other shapes n w (operand other.vars (operand_by names i)) (operand other.vars (operand_by names x))))
        (head b (variables_of i ++ variables_of x) h.values (h.variables b (among_first b [])))
        (subst (λ w. Same None None (st.set_item core shapes n (read core.vars b) (operand core.vars i) (operand core.vars x)) (st.set_item other shapes n (read core.vars b) w (operand other.vars (operand_by names x)))) (first i (variables_of x) t)
        (subst (λ w. Same None None (st.set_item core shapes n (read core.vars b) (operand core.vars i) (operand core.vars x)) (st.set_item other shapes n (read core.vars b) (operand core.vars i) w)) (second (variables_of i) x t)
        (set_item_same shapes n (read core.vars b) (operand core.vars i) (operand core.vars x))))
    does_same (op.New a m n) h = new_same a (name_of names a) shapes n 0
    does_same (op.NewArray a m n x) h =
        subst (λ w. Same (Some a) (Some (name_of names a)) (st.new_array core shapes a n (operand core.vars x)) (st.new_array other shapes (name_of names a) n w)) (one x h.values)
        (with_option (Some a) (Some (name_of names a)) (st.new_items core shapes a n) (st.new_items other shapes (name_of names a) n) (new_items_same a (name_of names a) shapes n) (word_of (operand core.vars x)))
    does_same (op.Free a) h = subst (λ w. Same None None (st.free core (read core.vars a)) (st.free other w)) (head a [] h.values (h.variables a (among_first a []))) (free_same (read core.vars a))
    does_same (op.Step x) h =
        subst (λ w. Same None None (st.pay core (operand core.vars x)) (st.pay other w)) (one x h.values) (with_option None None (st.pay_steps core) (st.pay_steps other) pay_same (word_of (operand core.vars x)))
    does_same (op.ExcType a n) h = subst (λ w. Same (Some a) (Some (name_of names a)) (st.assigned core a core.exc_type) (st.assigned other (name_of names a) w)) (sym alike.exc_type) (assigned_same a (name_of names a) core.exc_type)
    does_same (op.ExcValue a n) h = subst (λ w. Same (Some a) (Some (name_of names a)) (st.assigned core a core.exc_value) (st.assigned other (name_of names a) w)) (sym alike.exc_value) (assigned_same a (name_of names a) core.exc_value)
    does_same (op.ExcSet a b) h =
        subst (λ w. Same None None (st.exc_set core (read core.vars a) (read core.vars b)) (st.exc_set other w (read other.vars (name_of names b)))) (head a (b ∷ []) h.values (h.variables a (among_first a (b ∷ []))))
        (subst (λ w. Same None None (st.exc_set core (read core.vars a) (read core.vars b)) (st.exc_set other (read core.vars a) w)) (head b [] (tail a (b ∷ []) h.values) (h.variables b (or_second (a == b) _ (among_first b []))))
        (exc_set_same (read core.vars a) (read core.vars b)))
    does_same op.ExcClear h = slots_same Null Null
    does_same (op.Argc a) h = assigned_same a (name_of names a) _
    does_same (op.ArgLen a x) h =
        subst (λ w. Same (Some a) (Some (name_of names a)) (st.arg_len core args a (operand core.vars x)) (st.arg_len other args (name_of names a) w)) (one x h.values) (with_option (Some a) (Some (name_of names a)) _ _ (λ i. in_range_same a (name_of names a) _) (word_of (operand core.vars x)))
    does_same (op.Arg a x y) h =
        subst (λ w. Same (Some a) (Some (name_of names a)) (st.arg core args a (operand core.vars x) (operand core.vars y)) (st.arg other args (name_of names a) w (operand other.vars (operand_by names y)))) (first x (variables_of y) h.values)
        (subst (λ w. Same (Some a) (Some (name_of names a)) (st.arg core args a (operand core.vars x) (operand core.vars y)) (st.arg other args (name_of names a) (operand core.vars x) w)) (second (variables_of x) y h.values)
        (with_option (Some a) (Some (name_of names a)) _ _ (λ i. with_option (Some a) (Some (name_of names a)) _ _ (λ j. in_range_same a (name_of names a) _) (word_of (operand core.vars y))) (word_of (operand core.vars x))))
    does_same (op.Put x) h = subst (λ w. Same None None (st.put_byte core (operand core.vars x)) (st.put_byte other w)) (one x h.values) (with_option None None (st.put_word core) (st.put_word other) put_same (word_of (operand core.vars x)))
    does_same (op.Call into f xs) h = refl
    does_same (op.CallFn into result params b xs) h = refl
    does_same (op.Raise a) h = refl

pub renamed_do_the_same : RenamedDoTheSame
renamed_do_the_same p graphs args names o core other alike h = does_same core other alike p graphs args names o h
