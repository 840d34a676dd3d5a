-- Operations on the same values and blocks.
use Rattle.std.proofs.Common.{◌≡◌, ◌<◌, ℕ, zero, suc, ◌+◌, ◌-◌, Bool, true, false, ◌||◌, List, [], ◌∷◌, ◌++◌, length, map, replicate, Option, Some, None, Result, Ok, Err, refl, sym, ap, ◌∙◌, subst, arith, ℤ, pos, negsuc, ◌⊎◌, inl, inr}
use Rattle.std.proofs.lemmas.List.{map-append}
use Rattle.std.specs.Prelude.{slice_get, slice_set, slice_index_or, nat_lt, nat_le, cond, option_map}
use Rattle.rpy_base.specs.declared.outcome.Outcome.TheVariants.{Running}
use Rattle.csub_tree.specs.State.{Value, Unset, Word, Ptr, Static, Block, Core, Made, After, Puts, Over, Stuck}
use Rattle.csub_tree.specs.Layout.{Shape, shape_at, begins_with, place}
use Rattle.csub_tree.specs.Operation.{Answer, is_unset, word_of}
use Rattle.csub_tree.specs.Statement.{read, on, set, assigned, answered, block_at, as_struct, reached, on_block, get_field, stored, set_field, item, get_item, put_item, set_item, new_block, new_items, new_array, free_block, free, pay_steps, pay, exc_set, argument, byte_in, in_range, arg_len, arg, put_word, put_byte, raised_as, raised, bytes_of}
use Rattle.csub_tree.specs.declared.stuck.StuckReason.{StuckReason}
use Rattle.csub_tree.specs.declared.stuck.StuckReason.TheVariants.{Kind, Outside, Unset as IsUnset, BadFree, Word as BadWord}
use Rattle.csub_tree.specs.declared.tree.CType.{CType}
use Rattle.csub_tree.specs.declared.tree.CType.TheVariants as c
use Rattle.genc_lower.specs.declared.order.Order.{Order}
use Rattle.genc_laws.specs.Same.{renamed, answer_renamed, block_renamed, found_renamed, SameVars, SameMemory, Done, SameAfter}
use Rattle.genc_laws.proofs.Values.{length_map, index_map, get_map, set_map, unset_same, word_same, bytes_same, filled_same}

-- ---- places of variables

-- a place holds what was set, or what it held
pub set_here : {A : Type 0} (xs : List A) (a b : ℕ) (x d : A) → a ≡ b → a < length xs → slice_index_or (slice_set xs a x) b d ≡ x
set_here [] a b x d e lt = absurd (omega (arith, lt))
set_here (y ∷ xs) zero zero x d e lt = refl
set_here (y ∷ xs) zero (suc b) x d e lt = absurd (omega (arith, e))
set_here (y ∷ xs) (suc a) zero x d e lt = absurd (omega (arith, e))
set_here (y ∷ xs) (suc a) (suc b) x d e lt = set_here xs a b x d (omega (arith, e)) (omega (arith, lt))

pub set_elsewhere : {A : Type 0} (xs : List A) (a b : ℕ) (x d : A) → (a ≡ b → ⊥) → slice_index_or (slice_set xs a x) b d ≡ slice_index_or xs b d
set_elsewhere [] a b x d ne = refl
set_elsewhere (y ∷ xs) zero zero x d ne = absurd (ne refl)
set_elsewhere (y ∷ xs) zero (suc b) x d ne = refl
set_elsewhere (y ∷ xs) (suc a) zero x d ne = refl
set_elsewhere (y ∷ xs) (suc a) (suc b) x d ne = set_elsewhere xs a b x d (λ e. ne (ap suc e))

pub length_set : {A : Type 0} (xs : List A) (a : ℕ) (x : A) → length (slice_set xs a x) ≡ length xs
length_set [] a x = refl
length_set (y ∷ xs) zero x = refl
length_set (y ∷ xs) (suc a) x = ap suc (length_set xs a x)

pub apart : (a b : ℕ) → (a ≡ b) ⊎ ((a ≡ b) → ⊥)
apart a b = grind arith

module _ (order : Order) (own all : ℕ) where
  -- a variable of the graph is set on both sides
  pub vars_set : (vars c_vars : List Value) (a : ℕ) (x y : Value) → SameVars order own all vars c_vars → a < own → y ≡ renamed order x → SameVars order own all (slice_set vars a x) (slice_set c_vars a y)
  vars_set vars c_vars a x y s lt e = record {
    size = length_set vars a x ∙ s.size;
    c_size = length_set c_vars a y ∙ s.c_size;
    room = s.room;
    at = λ b le. at b le (apart a b);
  }
    where
      at : (b : ℕ) → b < own → ((a ≡ b) ⊎ ((a ≡ b) → ⊥)) → read (slice_set c_vars a y) b ≡ renamed order (read (slice_set vars a x) b)
      at b le (inl same) =
          let i : a < length vars = omega (arith, lt, s.size) in
          let j : a < length c_vars = omega (arith, lt, s.c_size, s.room) in
          set_here c_vars a b y Unset same j ∙ e ∙ ap (renamed order) (sym (set_here vars a b x Unset same i))
      at b le (inr other) = set_elsewhere c_vars a b y Unset other ∙ s.at b le ∙ ap (renamed order) (sym (set_elsewhere vars a b x Unset other))

module _ (order : Order) (own all : ℕ) (core c_core : Core) (vars : SameVars order own all core.vars c_core.vars) (memory : SameMemory order core c_core) where
  abbrev pub Same : After → After → Type 0
  Same = SameAfter order own all core c_core

  -- ---- how what follows is put together

  pub choice_same : (b c_b : Bool) (x y c_x c_y : After) → c_b ≡ b → Same x c_x → Same y c_y → Same (cond b x y) (cond c_b c_x c_y)
  choice_same true true x y c_x c_y e h k = h
  choice_same false false x y c_x c_y e h k = k
  choice_same true false x y c_x c_y e h k = absurd (cc)
  choice_same false true x y c_x c_y e h k = absurd (cc)

  pub on_same : {X : Type 0} (go c_go : X → After) (o c_o : Option X) → c_o ≡ o → ((x : X) → Same (go x) (c_go x)) → Same (on go o) (on c_go c_o)
  on_same go c_go None None e h = refl
  on_same go c_go (Some x) (Some y) e h = let f : x ≡ y = cc in subst (λ z. Same (go x) (c_go z)) f (h x)
  on_same go c_go None (Some y) e h = absurd (cc)
  on_same go c_go (Some x) None e h = absurd (cc)

  pub assigned_same : (a : ℕ) (x y : Value) → a < own → y ≡ renamed order x → Same (assigned core a x) (assigned c_core a y)
  assigned_same a x y lt e = record {
    graph = refl;
    function = refl;
    block = refl;
    at = refl;
    callers = refl;
    vars = vars_set order own all core.vars c_core.vars a x y vars lt e;
    memory = record { blocks = memory.blocks; statics = memory.statics; exc_type = memory.exc_type; exc_value = memory.exc_value; steps = memory.steps };
  }

  pub set_same : (a : ℕ) (x y : Value) → a < own → y ≡ renamed order x → Same (set core a x) (set c_core a y)
  set_same a x y lt e =
      choice_same (is_unset x) (is_unset y) (Stuck IsUnset) (assigned core a x) (Stuck IsUnset) (assigned c_core a y) (ap is_unset e ∙ unset_same order x) refl (assigned_same a x y lt e)

  pub answered_same : (a : ℕ) (x y : Answer) → a < own → y ≡ answer_renamed order x → Same (answered core a x) (answered c_core a y)
  answered_same a (Ok x) (Ok y) lt e = let f : y ≡ renamed order x = cc in assigned_same a x y lt f
  answered_same a (Err r) (Err s) lt e = cc
  answered_same a (Ok x) (Err s) lt e = absurd (cc)
  answered_same a (Err r) (Ok y) lt e = absurd (cc)

  -- nothing changes but the place
  pub moved_on : (steps c_steps : ℕ) → c_steps ≡ steps → Done order own all core c_core (record core { at = core.at + 1; steps = steps }) (record c_core { at = c_core.at + 1; steps = c_steps })
  moved_on steps c_steps e = record {
    graph = refl;
    function = refl;
    block = refl;
    at = refl;
    callers = refl;
    vars = vars;
    memory = record { blocks = memory.blocks; statics = memory.statics; exc_type = memory.exc_type; exc_value = memory.exc_value; steps = e };
  }

  -- ---- blocks

  found_at : (o : Option Block) (c_o : Option Block) → c_o ≡ option_map (block_renamed order) o → (shapes : List Shape) (n : ℕ) → as_struct shapes n c_o ≡ found_renamed order (as_struct shapes n o)
  found_at None c_o e shapes n = ap (as_struct shapes n) e
  found_at (Some block) c_o e shapes n = ap (as_struct shapes n) e ∙ choice (begins_with shapes block.kind n)
    where
      choice : (b : Bool) → cond b (Ok (block_renamed order block)) (Err Kind) ≡ found_renamed order (cond b (Ok block) (Err Kind))
      choice true = refl
      choice false = refl

  numbered : (number : ℕ) → slice_index_or c_core.blocks number None ≡ option_map (block_renamed order) (slice_index_or core.blocks number None)
  numbered number = ap (λ l. slice_index_or l number None) memory.blocks ∙ index_map (option_map (block_renamed order)) core.blocks number None

  named : (x : Value) → block_at c_core (renamed order x) ≡ option_map (block_renamed order) (block_at core x)
  named (Ptr number) = numbered number
  named (Static g) = ap (λ l. slice_get l g) memory.statics ∙ get_map (block_renamed order) core.statics g
  named other = refl

  reached_same : (shapes : List Shape) (n : ℕ) (x y : Value) → y ≡ renamed order x → reached c_core shapes n y ≡ found_renamed order (reached core shapes n x)
  reached_same shapes n x y e = ap (reached c_core shapes n) e ∙ ap (λ b. cond b (Err IsUnset) (as_struct shapes n (block_at c_core (renamed order x)))) (unset_same order x) ∙ choice (is_unset x)
    where
      choice : (b : Bool) → cond b (Err IsUnset) (as_struct shapes n (block_at c_core (renamed order x))) ≡ found_renamed order (cond b (Err IsUnset) (as_struct shapes n (block_at core x)))
      choice true = refl
      choice false = found_at (block_at core x) (block_at c_core (renamed order x)) (named x) shapes n

  pub block_same : (go c_go : Block → After) (o c_o : Result Block StuckReason) → c_o ≡ found_renamed order o → ((block : Block) → Same (go block) (c_go (block_renamed order block))) → Same (on_block go o) (on_block c_go c_o)
  block_same go c_go (Ok block) c_o e h = subst (λ o. Same (go block) (on_block c_go o)) (sym e) (h block)
  block_same go c_go (Err reason) c_o e h = subst (λ o. Same (Stuck reason) (on_block c_go o)) (sym e) refl

  pub get_field_same : (shapes : List Shape) (a n : ℕ) (x y : Value) (k : ℕ) → a < own → y ≡ renamed order x → Same (get_field core shapes a n x k) (get_field c_core shapes a n y k)
  get_field_same shapes a n x y k lt e =
      block_same (λ block. set core a (read block.fields (place (shape_at shapes n) k))) (λ block. set c_core a (read block.fields (place (shape_at shapes n) k))) (reached core shapes n x) (reached c_core shapes n y)
      (reached_same shapes n x y e)
      (λ block. set_same a (read block.fields (place (shape_at shapes n) k)) (read (map (renamed order) block.fields) (place (shape_at shapes n) k)) lt (index_map (renamed order) block.fields (place (shape_at shapes n) k) Unset))

  -- the block in the place of the one that the pointer names
  stored_same : (x : Value) (block : Block) → Same (stored core x block) (stored c_core (renamed order x) (block_renamed order block))
  stored_same (Ptr number) block = record {
    graph = refl;
    function = refl;
    block = refl;
    at = refl;
    callers = refl;
    vars = vars;
    memory = record {
      blocks = ap (λ l. slice_set l number (Some (block_renamed order block))) memory.blocks ∙ set_map (option_map (block_renamed order)) core.blocks number (Some block);
      statics = memory.statics;
      exc_type = memory.exc_type;
      exc_value = memory.exc_value;
      steps = memory.steps;
    };
  }
  stored_same (Static g) block = record {
    graph = refl;
    function = refl;
    block = refl;
    at = refl;
    callers = refl;
    vars = vars;
    memory = record {
      blocks = memory.blocks;
      statics = ap (λ l. slice_set l g (block_renamed order block)) memory.statics ∙ set_map (block_renamed order) core.statics g block;
      exc_type = memory.exc_type;
      exc_value = memory.exc_value;
      steps = memory.steps;
    };
  }
  stored_same other block = refl

  pub stored_is : (x y : Value) (block c_block : Block) → y ≡ renamed order x → c_block ≡ block_renamed order block → Same (stored core x block) (stored c_core y c_block)
  stored_is x y block c_block e f = subst (λ z. Same (stored core x block) (stored c_core z c_block)) (sym e) (subst (λ b. Same (stored core x block) (stored c_core (renamed order x) b)) (sym f) (stored_same x block))

  with_field : (block : Block) (k : ℕ) (x y : Value) → y ≡ renamed order x
      → record { kind = block.kind; fields = slice_set (map (renamed order) block.fields) k y; items = map (renamed order) block.items } ≡ block_renamed order (record block { fields = slice_set block.fields k x })
  with_field block k x y e = ap (λ l. record { kind = block.kind; fields = l; items = map (renamed order) block.items }) (ap (slice_set (map (renamed order) block.fields) k) e ∙ set_map (renamed order) block.fields k x)

  with_item : (block : Block) (k : ℕ) (x y : Value) → y ≡ renamed order x
      → record { kind = block.kind; fields = map (renamed order) block.fields; items = slice_set (map (renamed order) block.items) k y } ≡ block_renamed order (record block { items = slice_set block.items k x })
  with_item block k x y e = ap (λ l. record { kind = block.kind; fields = map (renamed order) block.fields; items = l }) (ap (slice_set (map (renamed order) block.items) k) e ∙ set_map (renamed order) block.items k x)

  pub set_field_same : (shapes : List Shape) (n : ℕ) (x y : Value) (k : ℕ) (v w : Value) → y ≡ renamed order x → w ≡ renamed order v → Same (set_field core shapes n x k v) (set_field c_core shapes n y k w)
  set_field_same shapes n x y k v w e f = choice_same (is_unset v) (is_unset w) (Stuck IsUnset) _ (Stuck IsUnset) _ (ap is_unset f ∙ unset_same order v) refl
      (block_same (λ block. stored core x (record block { fields = slice_set block.fields (place (shape_at shapes n) k) v })) (λ block. stored c_core y (record block { fields = slice_set block.fields (place (shape_at shapes n) k) w }))
      (reached core shapes n x) (reached c_core shapes n y) (reached_same shapes n x y e)
      (λ block. stored_is x y (record block { fields = slice_set block.fields (place (shape_at shapes n) k) v })
      (record { kind = block.kind; fields = slice_set (map (renamed order) block.fields) (place (shape_at shapes n) k) w; items = map (renamed order) block.items }) e (with_field block (place (shape_at shapes n) k) v w f)))

  within_same : (xs : List Value) (i : ℕ) → nat_lt i (length (map (renamed order) xs)) ≡ nat_lt i (length xs)
  within_same xs i = ap (nat_lt i) (length_map (renamed order) xs)

  item_same : (a : ℕ) (xs : List Value) (z : ℤ) → a < own → Same (item core a xs z) (item c_core a (map (renamed order) xs) z)
  item_same a xs (pos i) lt = choice_same (nat_lt i (length xs)) (nat_lt i (length (map (renamed order) xs))) (set core a (read xs i)) (Stuck Outside) (set c_core a (read (map (renamed order) xs) i)) (Stuck Outside)
      (within_same xs i) (set_same a (read xs i) (read (map (renamed order) xs) i) lt (index_map (renamed order) xs i Unset)) refl
  item_same a xs (negsuc i) lt = refl

  pub get_item_same : (shapes : List Shape) (a n : ℕ) (x y v w : Value) → a < own → y ≡ renamed order x → w ≡ renamed order v → Same (get_item core shapes a n x v) (get_item c_core shapes a n y w)
  get_item_same shapes a n x y v w lt e f = on_same _ _ (word_of v) (word_of w) (ap word_of f ∙ word_same order v)
      (λ i. block_same (λ block. item core a block.items i) (λ block. item c_core a block.items i) (reached core shapes n x) (reached c_core shapes n y) (reached_same shapes n x y e) (λ block. item_same a block.items i lt))

  put_item_same : (x y : Value) (block : Block) (z : ℤ) (v w : Value) → y ≡ renamed order x → w ≡ renamed order v → Same (put_item core x block z v) (put_item c_core y (block_renamed order block) z w)
  put_item_same x y block (pos i) v w e f = choice_same (nat_lt i (length block.items)) (nat_lt i (length (map (renamed order) block.items))) _ (Stuck Outside) _ (Stuck Outside) (within_same block.items i)
      (stored_is x y (record block { items = slice_set block.items i v }) (record { kind = block.kind; fields = map (renamed order) block.fields; items = slice_set (map (renamed order) block.items) i w }) e (with_item block i v w f)) refl
  put_item_same x y block (negsuc i) v w e f = refl

  pub set_item_same : (shapes : List Shape) (n : ℕ) (x y i j v w : Value) → y ≡ renamed order x → j ≡ renamed order i → w ≡ renamed order v → Same (set_item core shapes n x i v) (set_item c_core shapes n y j w)
  set_item_same shapes n x y i j v w e f g = choice_same (is_unset v) (is_unset w) (Stuck IsUnset) _ (Stuck IsUnset) _ (ap is_unset g ∙ unset_same order v) refl
      (on_same _ _ (word_of i) (word_of j) (ap word_of f ∙ word_same order i)
      (λ z. block_same (λ block. put_item core x block z v) (λ block. put_item c_core y block z w) (reached core shapes n x) (reached c_core shapes n y) (reached_same shapes n x y e) (λ block. put_item_same x y block z v w e g)))

  -- ---- blocks made and freed

  as_many : length c_core.blocks ≡ length core.blocks
  as_many = ap length memory.blocks ∙ length_map (option_map (block_renamed order)) core.blocks

  made_same : (n size items : ℕ) → c_core.blocks ++ Some (record { kind = n; fields = replicate size Unset; items = replicate items Unset }) ∷ []
      ≡ map (option_map (block_renamed order)) (core.blocks ++ Some (record { kind = n; fields = replicate size Unset; items = replicate items Unset }) ∷ [])
  made_same n size items =
      ap (λ l. l ++ Some (record { kind = n; fields = replicate size Unset; items = replicate items Unset }) ∷ []) memory.blocks
      ∙ ap (λ fs. map (option_map (block_renamed order)) core.blocks ++ Some (record { kind = n; fields = fs; items = replicate items Unset }) ∷ []) (sym (filled_same order size))
      ∙ ap (λ is. map (option_map (block_renamed order)) core.blocks ++ Some (record { kind = n; fields = map (renamed order) (replicate size Unset); items = is }) ∷ []) (sym (filled_same order items))
      ∙ sym (map-append (option_map (block_renamed order)) core.blocks (Some (record { kind = n; fields = replicate size Unset; items = replicate items Unset }) ∷ []))

  pub new_block_same : (shapes : List Shape) (a n items : ℕ) → a < own → Same (new_block core shapes a n items) (new_block c_core shapes a n items)
  new_block_same shapes a n items lt = (
    ap (λ number. Made number n ((shape_at shapes n).size + items)) as_many,
    record {
      graph = refl;
      function = refl;
      block = refl;
      at = refl;
      callers = refl;
      vars = vars_set order own all core.vars c_core.vars a (Ptr (length core.blocks)) (Ptr (length c_core.blocks)) vars lt (ap Ptr as_many);
      memory = record { blocks = made_same n (shape_at shapes n).size items; statics = memory.statics; exc_type = memory.exc_type; exc_value = memory.exc_value; steps = memory.steps };
    },
  )

  new_items_same : (shapes : List Shape) (a n : ℕ) (z : ℤ) → a < own → Same (new_items core shapes a n z) (new_items c_core shapes a n z)
  new_items_same shapes a n (pos items) lt = new_block_same shapes a n items lt
  new_items_same shapes a n (negsuc items) lt = refl

  pub new_array_same : (shapes : List Shape) (a n : ℕ) (x y : Value) → a < own → y ≡ renamed order x → Same (new_array core shapes a n x) (new_array c_core shapes a n y)
  new_array_same shapes a n x y lt e = on_same (new_items core shapes a n) (new_items c_core shapes a n) (word_of x) (word_of y) (ap word_of e ∙ word_same order x) (λ z. new_items_same shapes a n z lt)

  free_block_same : (number : ℕ) (o c_o : Option Block) → c_o ≡ option_map (block_renamed order) o → Same (free_block core number o) (free_block c_core number c_o)
  free_block_same number None c_o e = subst (λ o. Same (Stuck BadFree) (free_block c_core number o)) (sym e) refl
  free_block_same number (Some block) c_o e = subst (λ o. Same (free_block core number (Some block)) (free_block c_core number o)) (sym e) (
    refl,
    record {
      graph = refl;
      function = refl;
      block = refl;
      at = refl;
      callers = refl;
      vars = vars;
      memory = record {
        blocks = ap (λ l. slice_set l number None) memory.blocks ∙ set_map (option_map (block_renamed order)) core.blocks number None;
        statics = memory.statics;
        exc_type = memory.exc_type;
        exc_value = memory.exc_value;
        steps = memory.steps;
      };
    },
  )

  free_at : (x : Value) → Same (free core x) (free c_core (renamed order x))
  free_at Unset = refl
  free_at (Ptr number) = free_block_same number (slice_index_or core.blocks number None) (slice_index_or c_core.blocks number None) (numbered number)
  free_at other = refl

  pub free_same : (x y : Value) → y ≡ renamed order x → Same (free core x) (free c_core y)
  free_same x y e = subst (λ z. Same (free core x) (free c_core z)) (sym e) (free_at x)

  -- ---- steps, exception slots and the outside

  pay_steps_same : (z : ℤ) → Same (pay_steps core z) (pay_steps c_core z)
  pay_steps_same (pos n) = choice_same (nat_le n core.steps) (nat_le n c_core.steps) _ (Over Running core) _ (Over Running c_core) (ap (nat_le n) memory.steps)
      (moved_on (core.steps - n) (c_core.steps - n) (ap (λ s. s - n) memory.steps)) (refl, memory.steps)
  pay_steps_same (negsuc n) = refl

  pub pay_same : (x y : Value) → y ≡ renamed order x → Same (pay core x) (pay c_core y)
  pay_same x y e = on_same (pay_steps core) (pay_steps c_core) (word_of x) (word_of y) (ap word_of e ∙ word_same order x) pay_steps_same

  pub slots_same : (x y v w : Value) → y ≡ renamed order x → w ≡ renamed order v
      → Done order own all core c_core (record core { at = core.at + 1; exc_type = x; exc_value = v }) (record c_core { at = c_core.at + 1; exc_type = y; exc_value = w })
  slots_same x y v w e f = record {
    graph = refl;
    function = refl;
    block = refl;
    at = refl;
    callers = refl;
    vars = vars;
    memory = record { blocks = memory.blocks; statics = memory.statics; exc_type = e; exc_value = f; steps = memory.steps };
  }

  pub exc_set_same : (x y v w : Value) → y ≡ renamed order x → w ≡ renamed order v → Same (exc_set core x v) (exc_set c_core y w)
  exc_set_same x y v w e f = choice_same (is_unset x || is_unset v) (is_unset y || is_unset w) (Stuck IsUnset) _ (Stuck IsUnset) _
      (ap (λ b. b || is_unset w) (ap is_unset e ∙ unset_same order x) ∙ ap (λ b. is_unset x || b) (ap is_unset f ∙ unset_same order v)) refl (slots_same x y v w e f)

  in_range_same : (a : ℕ) (o : Option ℕ) → a < own → Same (in_range core a o) (in_range c_core a o)
  in_range_same a None lt = refl
  in_range_same a (Some n) lt = assigned_same a (Word (pos n)) (Word (pos n)) lt refl

  pub arg_len_same : (args : List (List ℕ)) (a : ℕ) (x y : Value) → a < own → y ≡ renamed order x → Same (arg_len core args a x) (arg_len c_core args a y)
  arg_len_same args a x y lt e = on_same _ _ (word_of x) (word_of y) (ap word_of e ∙ word_same order x) (λ i. in_range_same a (option_map length (argument args i)) lt)

  pub arg_same : (args : List (List ℕ)) (a : ℕ) (x y v w : Value) → a < own → y ≡ renamed order x → w ≡ renamed order v → Same (arg core args a x v) (arg c_core args a y w)
  arg_same args a x y v w lt e f = on_same _ _ (word_of x) (word_of y) (ap word_of e ∙ word_same order x)
      (λ i. on_same (λ j. in_range core a (byte_in (argument args i) j)) (λ j. in_range c_core a (byte_in (argument args i) j)) (word_of v) (word_of w) (ap word_of f ∙ word_same order v)
      (λ j. in_range_same a (byte_in (argument args i) j) lt))

  put_word_same : (z : ℤ) → Same (put_word core z) (put_word c_core z)
  put_word_same (pos n) = choice_same (nat_lt n 256) (nat_lt n 256) (Puts n (record core { at = core.at + 1 })) (Stuck BadWord) (Puts n (record c_core { at = c_core.at + 1 })) (Stuck BadWord) refl (refl, moved_on core.steps c_core.steps memory.steps) refl
  put_word_same (negsuc n) = refl

  pub put_byte_same : (x y : Value) → y ≡ renamed order x → Same (put_byte core x) (put_byte c_core y)
  put_byte_same x y e = on_same (put_word core) (put_word c_core) (word_of x) (word_of y) (ap word_of e ∙ word_same order x) put_word_same

  -- ---- the run ends as raised

  raised_as_same : (o c_o : Option (List ℕ)) → c_o ≡ o → Same (raised_as core o) (raised_as c_core c_o)
  raised_as_same None c_o e = subst (λ o. Same (Stuck IsUnset) (raised_as c_core o)) (sym e) refl
  raised_as_same (Some name) c_o e = subst (λ o. Same (raised_as core (Some name)) (raised_as c_core o)) (sym e) (refl, memory.steps)

  pub raised_same : (shapes : List Shape) (t : Option CType) (x y : Value) → y ≡ renamed order x → Same (raised core shapes t x) (raised c_core shapes t y)
  raised_same shapes (Some (c.Ptr n)) x y e = block_same (λ block. raised_as core (bytes_of block.items)) (λ block. raised_as c_core (bytes_of block.items)) (reached core shapes n x) (reached c_core shapes n y) (reached_same shapes n x y e)
      (λ block. raised_as_same (bytes_of block.items) (bytes_of (map (renamed order) block.items)) (bytes_same order block.items))
  raised_same shapes other x y e = refl
