-- An operation does the same where the variables that nothing names are left out.
use Rattle.std.proofs.Common.{◌≡◌, ◌<◌, ◌≤◌, ◌^◌, ℕ, ◌+◌, ◌||◌, ◌==◌, Bool, true, false, List, [], ◌∷◌, ◌++◌, length, map, Option, Some, None, Result, Ok, Err, refl, ap, ◌∙◌, arith, ℤ, pos, negsuc}
use Rattle.std.specs.Prelude.{slice_set, slice_index_or, cond, nat_lt, nat_le, option_map}
use Rattle.csub_tree.specs.State.{Value, Unset, Word, Byte, Flag, Fun, Null, Ptr, Static, Block, Core, After, Onward, Puts, Told, Over, Stuck}
use Rattle.csub_tree.specs.Layout.{Shape, shape_at, place as cell}
use Rattle.csub_tree.specs.Operation.{Answer, is_unset, word_of, unary_of, binary_of}
use Rattle.csub_tree.specs.Statement as st
use Rattle.csub_tree.specs.Statement.{operand, operands, read, reached, argument, byte_in}
use Rattle.csub_tree.specs.declared.tree.COperand.{COperand}
use Rattle.csub_tree.specs.declared.tree.COperand.TheVariants.{Var, Const}
use Rattle.csub_tree.specs.declared.stuck.StuckReason.{StuckReason}
use Rattle.csub_tree.specs.declared.stuck.StuckReason.TheVariants.{Unset as IsUnset, Outside}
use Rattle.ll_code.specs.Machine.{does, shapes_of}
use Rattle.ll_code.specs.declared.program.LlOp.{LlOp}
use Rattle.ll_code.specs.declared.program.LlOp.TheVariants as op
use Rattle.ll_code.specs.declared.program.LlProgram.{LlProgram}
use Rattle.ll_live.specs.Live.{among, variables_of, variables_in, reads, set_by}
use Rattle.ll_joined.specs.Named.{Naming, ByPlaces, operand_by, named}
use Rattle.ll_joined.specs.Joined.{places_of}
use Rattle.joined_laws.specs.Fewer.{fewer}
use Rattle.joined_laws.proofs.Kept.{keep, place, index_kept, set_kept}
use Rattle.joined_laws.proofs.Counting.{Kept}

-- ---- lists of variables

pub or_first : (a b : Bool) → a ≡ true → (a || b) ≡ true
or_first true b e = refl
or_first false b e = absurd (cc)

pub or_second : (a b : Bool) → b ≡ true → (a || b) ≡ true
or_second true b e = refl
or_second false b e = e

same_number : (n : ℕ) → (n == n) ≡ true
same_number n = grind arith

pub among_left : (v : ℕ) (xs ys : List ℕ) → among v xs ≡ true → among v (xs ++ ys) ≡ true
among_left v [] ys h = absurd (cc)
among_left v (x ∷ xs) ys h = one (among_left v xs ys) (x == v) h
  where
    one : (among v xs ≡ true → among v (xs ++ ys) ≡ true) → (b : Bool) → (b || among v xs) ≡ true → (b || among v (xs ++ ys)) ≡ true
    one go true h = refl
    one go false h = go h

pub among_right : (v : ℕ) (xs ys : List ℕ) → among v ys ≡ true → among v (xs ++ ys) ≡ true
among_right v [] ys h = h
among_right v (x ∷ xs) ys h = or_second (x == v) (among v (xs ++ ys)) (among_right v xs ys h)

pub among_first : (v : ℕ) (vs : List ℕ) → among v (v ∷ vs) ≡ true
among_first v vs = or_first (v == v) (among v vs) (same_number v)

-- ---- names

abbrev pub AllKept : List ℕ → List ℕ → Type 0
AllKept ns vs = (v : ℕ) → among v vs ≡ true → Kept ns v

abbrev pub names_in : List ℕ → Naming
names_in ns = ByPlaces (places_of ns)

module _ (ns : List ℕ) (few : length ns < 2 ^ 64) where
  pub left : (xs ys : List ℕ) → AllKept ns (xs ++ ys) → AllKept ns xs
  left xs ys h v e = h v (among_left v xs ys e)

  pub right : (xs ys : List ℕ) → AllKept ns (xs ++ ys) → AllKept ns ys
  right xs ys h v e = h v (among_right v xs ys e)

  pub first : (v : ℕ) (vs : List ℕ) → AllKept ns (v ∷ vs) → Kept ns v
  first v vs h = h v (among_first v vs)

  pub rest : (v : ℕ) (vs : List ℕ) → AllKept ns (v ∷ vs) → AllKept ns vs
  rest v vs h w e = h w (or_second (v == w) (among w vs) e)

  pub read_moved : (vars : List Value) (v : ℕ) → length vars ≤ length ns → Kept ns v → read (keep ns vars) (place ns v) ≡ read vars v
  read_moved vars v size h = index_kept ns few vars Unset v size h

  pub operand_moved : (vars : List Value) (x : COperand) → length vars ≤ length ns → AllKept ns (variables_of x) → operand (keep ns vars) (operand_by (names_in ns) x) ≡ operand vars x
  operand_moved vars (Var v) size h = read_moved vars v size (first v [] h)
  operand_moved vars (Const c) size h = refl

  pub operands_moved : (vars : List Value) (xs : List COperand) → length vars ≤ length ns → AllKept ns (variables_in xs) → operands (keep ns vars) (map (operand_by (names_in ns)) xs) ≡ operands vars xs
  operands_moved vars [] size h = refl
  operands_moved vars (x ∷ xs) size h =
      ap (λ w. w ∷ operands (keep ns vars) (map (operand_by (names_in ns)) xs)) (operand_moved vars x size (left (variables_of x) (variables_in xs) h))
      ∙ ap (λ l. operand vars x ∷ l) (operands_moved vars xs size (right (variables_of x) (variables_in xs) h))

  -- ---- what is done

  abbrev pub lift : Core → Core
  lift core = record core { vars = keep ns core.vars }

  abbrev pub moved : After → After
  moved (Onward core) = Onward (lift core)
  moved (Puts byte core) = Puts byte (lift core)
  moved (Told event core) = Told event (lift core)
  moved (Over outcome core) = Over outcome (lift core)
  moved (Stuck reason) = Stuck reason

  module _ (core : Core) (size : length core.vars ≤ length ns) where
    abbrev there : Core
    there = lift core

    either : (b : Bool) (x y x2 y2 : After) → x2 ≡ moved x → y2 ≡ moved y → cond b x2 y2 ≡ moved (cond b x y)
    either true x y x2 y2 h k = h
    either false x y x2 y2 h k = k

    on_moved : {X : Type 0} (go go2 : X → After) → ((x : X) → go2 x ≡ moved (go x)) → (o : Option X) → st.on go2 o ≡ moved (st.on go o)
    on_moved go go2 h None = refl
    on_moved go go2 h (Some x) = h x

    on_block_moved : (go go2 : Block → After) → ((b : Block) → go2 b ≡ moved (go b)) → (r : Result Block StuckReason) → st.on_block go2 r ≡ moved (st.on_block go r)
    on_block_moved go go2 h (Ok b) = h b
    on_block_moved go go2 h (Err reason) = refl

    pub reached_moved : (shapes : List Shape) (n : ℕ) (x : Value) → reached there shapes n x ≡ reached core shapes n x
    reached_moved shapes n (Ptr k) = refl
    reached_moved shapes n (Static g) = refl
    reached_moved shapes n Unset = refl
    reached_moved shapes n (Word z) = refl
    reached_moved shapes n (Byte b) = refl
    reached_moved shapes n (Flag b) = refl
    reached_moved shapes n (Fun f) = refl
    reached_moved shapes n Null = refl

    stored_moved : (x : Value) (b : Block) → st.stored there x b ≡ moved (st.stored core x b)
    stored_moved (Ptr k) b = refl
    stored_moved (Static g) b = refl
    stored_moved Unset b = refl
    stored_moved (Word z) b = refl
    stored_moved (Byte c) b = refl
    stored_moved (Flag c) b = refl
    stored_moved (Fun f) b = refl
    stored_moved Null b = refl

    set_field_moved : (shapes : List Shape) (n : ℕ) (x : Value) (k : ℕ) (y : Value) → st.set_field there shapes n x k y ≡ moved (st.set_field core shapes n x k y)
    set_field_moved shapes n x k y = either (is_unset y) (Stuck IsUnset) _ (Stuck IsUnset) _ refl
        (ap (st.on_block (λ b. st.stored there x (record b { fields = slice_set b.fields (cell (shape_at shapes n) k) y }))) (reached_moved shapes n x)
        ∙ on_block_moved (λ b. st.stored core x (record b { fields = slice_set b.fields (cell (shape_at shapes n) k) y })) _ (λ b. stored_moved x (record b { fields = slice_set b.fields (cell (shape_at shapes n) k) y })) (reached core shapes n x))

    put_item_moved : (x : Value) (b : Block) (i : ℤ) (y : Value) → st.put_item there x b i y ≡ moved (st.put_item core x b i y)
    put_item_moved x b (pos i) y = either (nat_lt i (length b.items)) _ (Stuck Outside) _ (Stuck Outside) (stored_moved x (record b { items = slice_set b.items i y })) refl
    put_item_moved x b (negsuc i) y = refl

    set_item_moved : (shapes : List Shape) (n : ℕ) (x i y : Value) → st.set_item there shapes n x i y ≡ moved (st.set_item core shapes n x i y)
    set_item_moved shapes n x i y = either (is_unset y) (Stuck IsUnset) _ (Stuck IsUnset) _ refl
        (on_moved (λ i. st.on_block (λ b. st.put_item core x b i y) (reached core shapes n x)) (λ i. st.on_block (λ b. st.put_item there x b i y) (reached there shapes n x))
        (λ i. ap (st.on_block (λ b. st.put_item there x b i y)) (reached_moved shapes n x) ∙ on_block_moved (λ b. st.put_item core x b i y) (λ b. st.put_item there x b i y) (λ b. put_item_moved x b i y) (reached core shapes n x)) (word_of i))

    free_block_moved : (n : ℕ) (o : Option Block) → st.free_block there n o ≡ moved (st.free_block core n o)
    free_block_moved n None = refl
    free_block_moved n (Some b) = refl

    free_moved : (x : Value) → st.free there x ≡ moved (st.free core x)
    free_moved (Ptr n) = free_block_moved n (slice_index_or core.blocks n None)
    free_moved (Static g) = refl
    free_moved Unset = refl
    free_moved (Word z) = refl
    free_moved (Byte c) = refl
    free_moved (Flag c) = refl
    free_moved (Fun f) = refl
    free_moved Null = refl

    pay_steps_moved : (i : ℤ) → st.pay_steps there i ≡ moved (st.pay_steps core i)
    pay_steps_moved (pos n) = either (nat_le n core.steps) _ _ _ _ refl refl
    pay_steps_moved (negsuc n) = refl

    put_word_moved : (i : ℤ) → st.put_word there i ≡ moved (st.put_word core i)
    put_word_moved (pos n) = either (nat_lt n 256) _ _ _ _ refl refl
    put_word_moved (negsuc n) = refl

    -- a variable is set
    module _ (a : ℕ) (is_kept : Kept ns a) where
      abbrev a2 : ℕ
      a2 = place ns a

      assigned_moved : (x : Value) → st.assigned there a2 x ≡ moved (st.assigned core a x)
      assigned_moved x = ap (λ vs. Onward (record core { at = core.at + 1; vars = vs })) (set_kept ns few core.vars a x size is_kept)

      set_moved : (x : Value) → st.set there a2 x ≡ moved (st.set core a x)
      set_moved x = either (is_unset x) (Stuck IsUnset) (st.assigned core a x) (Stuck IsUnset) (st.assigned there a2 x) refl (assigned_moved x)

      answered_moved : (answer : Answer) → st.answered there a2 answer ≡ moved (st.answered core a answer)
      answered_moved (Ok x) = assigned_moved x
      answered_moved (Err reason) = refl

      get_field_moved : (shapes : List Shape) (n : ℕ) (x : Value) (k : ℕ) → st.get_field there shapes a2 n x k ≡ moved (st.get_field core shapes a n x k)
      get_field_moved shapes n x k =
          ap (st.on_block (λ b. st.set there a2 (read b.fields (cell (shape_at shapes n) k)))) (reached_moved shapes n x)
          ∙ on_block_moved (λ b. st.set core a (read b.fields (cell (shape_at shapes n) k))) (λ b. st.set there a2 (read b.fields (cell (shape_at shapes n) k))) (λ b. set_moved (read b.fields (cell (shape_at shapes n) k))) (reached core shapes n x)

      item_moved : (items : List Value) (i : ℤ) → st.item there a2 items i ≡ moved (st.item core a items i)
      item_moved items (pos i) = either (nat_lt i (length items)) (st.set core a (read items i)) (Stuck Outside) (st.set there a2 (read items i)) (Stuck Outside) (set_moved (read items i)) refl
      item_moved items (negsuc i) = refl

      get_item_moved : (shapes : List Shape) (n : ℕ) (x i : Value) → st.get_item there shapes a2 n x i ≡ moved (st.get_item core shapes a n x i)
      get_item_moved shapes n x i = on_moved (λ i. st.on_block (λ b. st.item core a b.items i) (reached core shapes n x)) (λ i. st.on_block (λ b. st.item there a2 b.items i) (reached there shapes n x))
          (λ i. ap (st.on_block (λ b. st.item there a2 b.items i)) (reached_moved shapes n x) ∙ on_block_moved (λ b. st.item core a b.items i) (λ b. st.item there a2 b.items i) (λ b. item_moved b.items i) (reached core shapes n x)) (word_of i)

      new_moved : (shapes : List Shape) (n items : ℕ) → st.new_block there shapes a2 n items ≡ moved (st.new_block core shapes a n items)
      new_moved shapes n items = ap (replaced (st.new_block core shapes a n items)) (set_kept ns few core.vars a (Ptr (length core.blocks)) size is_kept)
        where
          replaced : After → List Value → After
          replaced (Told event c) vs = Told event (record c { vars = vs })
          replaced other vs = other

      new_items_moved : (shapes : List Shape) (n : ℕ) (i : ℤ) → st.new_items there shapes a2 n i ≡ moved (st.new_items core shapes a n i)
      new_items_moved shapes n (pos i) = new_moved shapes n i
      new_items_moved shapes n (negsuc i) = refl

      in_range_moved : (o : Option ℕ) → st.in_range there a2 o ≡ moved (st.in_range core a o)
      in_range_moved None = refl
      in_range_moved (Some n) = assigned_moved (Word (pos n))

    -- ---- operations

    module _ (p : LlProgram) (args : List (List ℕ)) where
      abbrev DoesSame : LlOp → Type 0
      DoesSame o = AllKept ns (reads o) → ((a : ℕ) → set_by o ≡ Some a → Kept ns a) → does (fewer p) args there (named (names_in ns) o) ≡ moved (does p args core o)

      one : (x : COperand) → AllKept ns (variables_of x) → operand there.vars (operand_by (names_in ns) x) ≡ operand core.vars x
      one x h = operand_moved core.vars x size h

      two_left : (x y : COperand) → AllKept ns (variables_of x ++ variables_of y) → operand there.vars (operand_by (names_in ns) x) ≡ operand core.vars x
      two_left x y h = one x (left (variables_of x) (variables_of y) h)

      two_right : (x y : COperand) → AllKept ns (variables_of x ++ variables_of y) → operand there.vars (operand_by (names_in ns) y) ≡ operand core.vars y
      two_right x y h = one y (right (variables_of x) (variables_of y) h)

      head : (b : ℕ) (vs : List ℕ) → AllKept ns (b ∷ vs) → read there.vars (place ns b) ≡ read core.vars b
      head b vs h = read_moved core.vars b size (first b vs h)

      abbrev shapes : List Shape
      shapes = shapes_of p.structs

      pub does_moved : (o : LlOp) → DoesSame o
      does_moved (op.Set a x) h k = ap (st.set there (place ns a)) (one x h) ∙ set_moved a (k a refl) (operand core.vars x)
      does_moved (op.Unary a o x) h k = ap (st.unary there (place ns a) o) (one x h) ∙ answered_moved a (k a refl) (unary_of o (operand core.vars x))
      does_moved (op.Binary a o x y) h k =
          ap (λ w. st.binary there (place ns a) o w (operand there.vars (operand_by (names_in ns) y))) (two_left x y h) ∙ ap (st.binary there (place ns a) o (operand core.vars x)) (two_right x y h)
          ∙ answered_moved a (k a refl) (binary_of o (operand core.vars x) (operand core.vars y))
      does_moved (op.GetField a n b f) h k = ap (λ w. st.get_field there shapes (place ns a) n w f) (head b [] h) ∙ get_field_moved a (k a refl) shapes n (read core.vars b) f
      does_moved (op.SetField n b f x) h k =
          ap (λ w. st.set_field there shapes n w f (operand there.vars (operand_by (names_in ns) x))) (head b (variables_of x) h) ∙ ap (st.set_field there shapes n (read core.vars b) f) (one x (rest b (variables_of x) h))
          ∙ set_field_moved shapes n (read core.vars b) f (operand core.vars x)
      does_moved (op.GetItem a n b i) h k =
          ap (λ w. st.get_item there shapes (place ns a) n w (operand there.vars (operand_by (names_in ns) i))) (head b (variables_of i) h) ∙ ap (st.get_item there shapes (place ns a) n (read core.vars b)) (one i (rest b (variables_of i) h))
          ∙ get_item_moved a (k a refl) shapes n (read core.vars b) (operand core.vars i)
      does_moved (op.SetItem n b i x) h k =
          let t = rest b (variables_of i ++ variables_of x) h in
          ap (λ w. st.set_item there shapes n w (operand there.vars (operand_by (names_in ns) i)) (operand there.vars (operand_by (names_in ns) x))) (head b (variables_of i ++ variables_of x) h)
          ∙ ap (λ w. st.set_item there shapes n (read core.vars b) w (operand there.vars (operand_by (names_in ns) x))) (two_left i x t)
          ∙ ap (st.set_item there shapes n (read core.vars b) (operand core.vars i)) (two_right i x t)
          ∙ set_item_moved shapes n (read core.vars b) (operand core.vars i) (operand core.vars x)
      does_moved (op.New a m n) h k = new_moved a (k a refl) shapes n 0
      does_moved (op.NewArray a m n x) h k =
          ap (st.new_array there shapes (place ns a) n) (one x h) ∙ on_moved (st.new_items core shapes a n) (st.new_items there shapes (place ns a) n) (new_items_moved a (k a refl) shapes n) (word_of (operand core.vars x))
      does_moved (op.Free a) h k = ap (st.free there) (head a [] h) ∙ free_moved (read core.vars a)
      does_moved (op.Step x) h k = ap (st.pay there) (one x h) ∙ on_moved (st.pay_steps core) (st.pay_steps there) pay_steps_moved (word_of (operand core.vars x))
      does_moved (op.ExcType a n) h k = assigned_moved a (k a refl) core.exc_type
      does_moved (op.ExcValue a n) h k = assigned_moved a (k a refl) core.exc_value
      does_moved (op.ExcSet a b) h k =
          ap (λ w. st.exc_set there w (read there.vars (place ns b))) (head a (b ∷ []) h) ∙ ap (st.exc_set there (read core.vars a)) (head b [] (rest a (b ∷ []) h))
          ∙ either (is_unset (read core.vars a) || is_unset (read core.vars b)) _ _ _ _ refl refl
      does_moved op.ExcClear h k = refl
      does_moved (op.Argc a) h k = assigned_moved a (k a refl) (Word (pos (length args)))
      does_moved (op.ArgLen a x) h k = ap (st.arg_len there args (place ns a)) (one x h) ∙ on_moved _ _ (λ i. in_range_moved a (k a refl) (option_map length (argument args i))) (word_of (operand core.vars x))
      does_moved (op.Arg a x y) h k =
          ap (λ w. st.arg there args (place ns a) w (operand there.vars (operand_by (names_in ns) y))) (two_left x y h) ∙ ap (st.arg there args (place ns a) (operand core.vars x)) (two_right x y h)
          ∙ on_moved _ _ (λ i. on_moved _ _ (λ j. in_range_moved a (k a refl) (byte_in (argument args i) j)) (word_of (operand core.vars y))) (word_of (operand core.vars x))
      does_moved (op.Put x) h k = ap (st.put_byte there) (one x h) ∙ on_moved (st.put_word core) (st.put_word there) put_word_moved (word_of (operand core.vars x))
      does_moved (op.Call into f xs) h k = refl
      does_moved (op.CallFn into result params b xs) h k = refl
      does_moved (op.Raise a) h k = refl
